use Rattle.std.proofs.Common.{rules, ◌≡◌, ◌∙◌, map, ap, sym, subst}
use Rattle.type_terms.specs.Promised.Handles.{arg_trees, ArgsHeld}
use Rattle.term_folds.specs.Arguments.{arg_sort}
use Rattle.type_terms.specs.Kept.{args-held-later}
use Rattle.declarations.specs.Applied.{TraitRefsHeld, AreApplied, references_in}
use Rattle.declarations.specs.Promised.Elaboration.{elaborate}
use Rattle.declarations.specs.Items.{reference_in, written}
use Rattle.candidate_assembly.specs.Fitting.{solving_of}
use Rattle.text_lowering.specs.Promised.SeenWorlds.{unbound_reference}
use Rattle.text_lowering.specs.Plain.{unbound_references}
use Rattle.sessions.specs.Goals.{goal_of}
use Rattle.sessions.proofs.Alone.{held-there, reference-is}
use Rattle.sessions.proofs.Posing.{over-ok, args-later, answer-is, same-asked}
use Rattle.sessions.proofs.VariableKinds.{kinds-are}
use Rattle.candidate_assembly.specs.SolverMeaning.{solver_by_view}
use Rattle.solver_graph.proofs.Askings.{asked-none}
use Rattle.sessions.proofs.FramesStarted.{settles-same}
use Rattle.solver_graph.proofs.Growing.{limits-further}
use Rattle.sessions.proofs.ShortCalls.{handed-by-terms}
use Rattle.sessions.proofs.proving.prove_lowered.Goals as goal

pub elaborate_in-requires-clause-ready : goal.elaborate_in-requires-clause-ready
elaborate_in-requires-clause-ready c = c.requires.rest.ready

pub elaborate_in-requires-clause-held : goal.elaborate_in-requires-clause-held
elaborate_in-requires-clause-held c =
    let us : c.deref.result.now ≡ c.args.lowered.now.clauses.items = search rules in
    subst (TraitRefsHeld c.args.search.now.cx.interner.entries) (sym us) c.requires.lowered.1.clauses_held

pub elaborate_in-requires-clause-applied : goal.elaborate_in-requires-clause-applied
elaborate_in-requires-clause-applied c =
    let us : c.deref.result.now ≡ c.args.lowered.now.clauses.items = search rules in
    subst (AreApplied c.args.search.now.cx.interner.entries c.args.search.now.cx.handler.declarations) (sym us) c.requires.applied

pub returns-in_err-clauses-clause-rest : goal.returns-in_err-clauses-clause-rest
returns-in_err-clauses-clause-rest c = c.rest_laws.ensures.rest c.args.search.now.graph.root_depth c.args.search.now.cx c.elaborate_in.new.cx c.args.search.now.graph c.args.search.now.cache c.requires.rest c.elaborate_in.ensures.advances

pub returns-in_err-clauses-clause-solving : goal.returns-in_err-clauses-clause-solving
returns-in_err-clauses-clause-solving c = c.rest_laws.ensures.meaning c.args.search.now.cx c.elaborate_in.new.cx c.requires.rest.ready c.elaborate_in.ensures.advances

pub returns-in_err-clauses-clause-keeps : goal.returns-in_err-clauses-clause-keeps
returns-in_err-clauses-clause-keeps c = c.elaborate_in.ensures.advances.entries

pub prove_under-requires-clause-rest : goal.prove_under-requires-clause-rest
prove_under-requires-clause-rest c = c.rest_laws.ensures.rest c.args.search.now.graph.root_depth c.args.search.now.cx c.elaborate_in.new.cx c.args.search.now.graph c.args.search.now.cache c.requires.rest c.elaborate_in.ensures.advances

pub prove_under-requires-clause-clauses : goal.prove_under-requires-clause-clauses
prove_under-requires-clause-clauses c =
    let cs : c.deref-2.result.now ≡ c.in_ok-clauses.clauses.items = search rules in
    subst (TraitRefsHeld c.elaborate_in.new.cx.interner.entries) (sym cs) c.in_ok-clauses.ensures.held

pub prove_under-requires-clause-asked : goal.prove_under-requires-clause-asked
prove_under-requires-clause-asked c =
    held-there c.requires.lowered.0 c.args.search.now.cx.interner.entries c.elaborate_in.new.cx.interner.entries c.requires.rest.ready.lawful c.elaborate_in.ensures.advances.entries c.args.lowered.now c.requires.lowered.1

pub prove_under-requires-clause-unknowns : goal.prove_under-requires-clause-unknowns
prove_under-requires-clause-unknowns c =
    let vs : c.deref-3.result.now ≡ c.args.lowered.now.unknowns.items = search rules in
    subst (ArgsHeld c.elaborate_in.new.cx.interner.entries) (sym vs)
    (args-held-later c.args.search.now.cx.interner.entries c.elaborate_in.new.cx.interner.entries c.elaborate_in.ensures.advances.entries c.args.lowered.now.unknowns.items c.requires.lowered.1.unknowns_held)

pub returns-clause-rest : goal.returns-clause-rest
returns-clause-rest c = c.prove_under.ensures.rest

pub returns-clause-solving : goal.returns-clause-solving
returns-clause-solving c = c.prove_under.ensures.solving ∙ c.rest_laws.ensures.meaning c.args.search.now.cx c.elaborate_in.new.cx c.requires.rest.ready c.elaborate_in.ensures.advances

pub returns-clause-keeps : goal.returns-clause-keeps
returns-clause-keeps c = λ i e h. c.prove_under.ensures.keeps i e (c.elaborate_in.ensures.advances.entries i e h)

pub returns-clause-held : goal.returns-clause-held
returns-clause-held c = c.prove_under.ensures.held

pub returns-clause-answer : goal.returns-clause-answer
returns-clause-answer c =
    let old = c.args.search.now.cx.interner.entries in
    let new = c.elaborate_in.new.cx.interner.entries in
    let k = c.elaborate_in.ensures.advances.entries in
    let l = c.args.lowered.now in
    let us = l.unknowns.items in
    let V = written old c.args.search.now.cx.handler.declarations in
    let given : c.deref.result.now ≡ l.clauses.items = search rules in
    let cs : c.deref-2.result.now ≡ c.in_ok-clauses.clauses.items = search rules in
    let vs : c.deref-3.result.now ≡ us = search rules in
    over-ok c.prove_under.result
    (λ a h q low.
    answer-is (solving_of new c.elaborate_in.new.cx.handler.declarations) (solving_of old c.args.search.now.cx.handler.declarations) c.args.search.now.graph.root_depth q (map arg_sort c.deref-3.result.now)
    (goal_of (references_in new c.deref-2.result.now) (reference_in new l.asked)) (map (arg_trees new) c.deref-3.result.now) c.prove_under.new.search.cx.interner.entries a
    (c.rest_laws.ensures.meaning c.args.search.now.cx c.elaborate_in.new.cx c.requires.rest.ready c.elaborate_in.ensures.advances)
    (ap (map arg_sort) vs ∙ kinds-are old c.requires.rest.ready.lawful us q.variables 0 0 low.unknowns_held low.unknowns)
    (same-asked (references_in new c.deref-2.result.now) (elaborate V (unbound_references q.clauses)) (reference_in new l.asked) (unbound_reference q.asked)
    (ap (references_in new) cs ∙ c.in_ok-clauses.ensures.are ∙ ap (λ (rs : _). elaborate V (references_in old rs)) given ∙ ap (elaborate V) low.clauses) (reference-is q old new c.requires.rest.ready.lawful k l low))
    (ap (map (arg_trees new)) vs ∙ args-later old new k us low.unknowns_held ∙ low.unknowns)
    h)
    c.prove_under.ensures.answer

pub returns-in_err-clauses-clause-frames : goal.returns-in_err-clauses-clause-frames
returns-in_err-clauses-clause-frames c = λ q low. asked-none solver_by_view _ _ _ _ _ _ _

pub returns-clause-frames : goal.returns-clause-frames
returns-clause-frames c = λ q low.
    let old = c.args.search.now.cx.interner.entries in
    let new = c.elaborate_in.new.cx.interner.entries in
    let k = c.elaborate_in.ensures.advances.entries in
    let l = c.args.lowered.now in
    let us = l.unknowns.items in
    let V = written old c.args.search.now.cx.handler.declarations in
    let given : c.deref.result.now ≡ l.clauses.items = search rules in
    let cs : c.deref-2.result.now ≡ c.in_ok-clauses.clauses.items = search rules in
    let vs : c.deref-3.result.now ≡ us = search rules in
    settles-same solver_by_view _ _ _ _ _ _ _ c.args.search.now.graph c.prove_under.new.search.graph
    (c.rest_laws.ensures.meaning c.args.search.now.cx c.elaborate_in.new.cx c.requires.rest.ready c.elaborate_in.ensures.advances)
    (ap (map arg_sort) vs ∙ kinds-are old c.requires.rest.ready.lawful us q.variables 0 0 low.unknowns_held low.unknowns)
    (same-asked (references_in new c.deref-2.result.now) (elaborate V (unbound_references q.clauses)) (reference_in new l.asked) (unbound_reference q.asked)
    (ap (references_in new) cs ∙ c.in_ok-clauses.ensures.are ∙ ap (λ (rs : _). elaborate V (references_in old rs)) given ∙ ap (elaborate V) low.clauses) (reference-is q old new c.requires.rest.ready.lawful k l low))
    c.prove_under.ensures.frames

pub returns-in_err-clauses-clause-limits : goal.returns-in_err-clauses-clause-limits
returns-in_err-clauses-clause-limits c = c.elaborate_in.ensures.advances.limits

pub returns-clause-limits : goal.returns-clause-limits
returns-clause-limits c = limits-further c.args.search.now.cx c.elaborate_in.new.cx c.prove_under.new.search.cx c.elaborate_in.ensures.advances.limits c.prove_under.ensures.limits

pub returns-in_err-clauses-clause-full : goal.returns-in_err-clauses-clause-full
returns-in_err-clauses-clause-full c = handed-by-terms c.elaborate_in.new.cx c.from_residual.result c.from_residual.ensures.1 c.in_err-clauses.ensures.full
