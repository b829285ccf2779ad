use Rattle.std.proofs.Common.{rules, ◌≡◌, ◌∙◌, ◌∷◌, map, ap, sym, subst}
use Rattle.type_terms.specs.Kept.{args-held-later}
use Rattle.type_terms.specs.Promised.Handles.{ArgsHeld, arg_trees}
use Rattle.term_folds.specs.Arguments.{arg_sort}
use Rattle.declarations.specs.Applied.{AreApplied, TraitRefsHeld, references_in}
use Rattle.declarations.specs.Items.{written}
use Rattle.declarations.specs.Promised.Elaboration.{elaborate}
use Rattle.declarations.proofs.Bounded.{all-same}
use Rattle.declarations.proofs.Growth.{references-kept}
use Rattle.candidate_assembly.specs.Fitting.{solving_of}
use Rattle.text_language.specs.Names.{own_unknowns}
use Rattle.text_lowering.specs.Plain.{unbound_references}
use Rattle.text_lowering.specs.Promised.Questions.{variable_kinds}
use Rattle.solver_graph.proofs.Growing.{limits-further}
use Rattle.sessions.specs.Goals.{goal_of}
use Rattle.sessions.specs.ProvingTogether.{asked_references, goals_asking}
use Rattle.sessions.proofs.AnsweredTogether.{answered-same}
use Rattle.sessions.proofs.Posing.{args-later, over-ok}
use Rattle.sessions.proofs.SeveralAsked.{all-are, all-held}
use Rattle.sessions.proofs.ShortCalls.{handed-by-terms}
use Rattle.sessions.proofs.VariableKinds.{kinds-are}
use Rattle.sessions.proofs.together.prove_all_lowered.Goals as goal

pub elaborate_in-requires-clause-ready : goal.elaborate_in-requires-clause-ready
elaborate_in-requires-clause-ready c = c.requires.rest.ready

pub elaborate_in-requires-clause-held : goal.elaborate_in-requires-clause-held
elaborate_in-requires-clause-held c =
    let us : c.deref.result.now ≡ c.args.lowered.now.clauses.items = search rules in
    subst (TraitRefsHeld c.args.search.now.cx.interner.entries) (sym us) c.requires.lowered.1.clauses_held

pub elaborate_in-requires-clause-applied : goal.elaborate_in-requires-clause-applied
elaborate_in-requires-clause-applied c =
    let us : c.deref.result.now ≡ c.args.lowered.now.clauses.items = search rules in
    subst (AreApplied c.args.search.now.cx.interner.entries c.args.search.now.cx.handler.declarations) (sym us) c.requires.applied

pub returns-in_err-clauses-clause-rest : goal.returns-in_err-clauses-clause-rest
returns-in_err-clauses-clause-rest c = c.rest_laws.ensures.rest c.args.search.now.graph.root_depth c.args.search.now.cx c.elaborate_in.new.cx c.args.search.now.graph c.args.search.now.cache c.requires.rest c.elaborate_in.ensures.advances

pub returns-in_err-clauses-clause-solving : goal.returns-in_err-clauses-clause-solving
returns-in_err-clauses-clause-solving c = c.rest_laws.ensures.meaning c.args.search.now.cx c.elaborate_in.new.cx c.requires.rest.ready c.elaborate_in.ensures.advances

pub returns-in_err-clauses-clause-keeps : goal.returns-in_err-clauses-clause-keeps
returns-in_err-clauses-clause-keeps c = c.elaborate_in.ensures.advances.entries

pub returns-in_err-clauses-clause-limits : goal.returns-in_err-clauses-clause-limits
returns-in_err-clauses-clause-limits c = c.elaborate_in.ensures.advances.limits

pub returns-in_err-clauses-clause-full : goal.returns-in_err-clauses-clause-full
returns-in_err-clauses-clause-full c = handed-by-terms c.elaborate_in.new.cx c.from_residual.result c.from_residual.ensures.1 c.in_err-clauses.ensures.full

pub returns-in_err-references-clause-rest : goal.returns-in_err-references-clause-rest
returns-in_err-references-clause-rest c = c.rest_laws.ensures.rest c.args.search.now.graph.root_depth c.args.search.now.cx c.elaborate_in.new.cx c.args.search.now.graph c.args.search.now.cache c.requires.rest c.elaborate_in.ensures.advances

pub returns-in_err-references-clause-solving : goal.returns-in_err-references-clause-solving
returns-in_err-references-clause-solving c = c.rest_laws.ensures.meaning c.args.search.now.cx c.elaborate_in.new.cx c.requires.rest.ready c.elaborate_in.ensures.advances

pub returns-in_err-references-clause-keeps : goal.returns-in_err-references-clause-keeps
returns-in_err-references-clause-keeps c = c.elaborate_in.ensures.advances.entries

pub returns-in_err-references-clause-limits : goal.returns-in_err-references-clause-limits
returns-in_err-references-clause-limits c = c.elaborate_in.ensures.advances.limits

pub prove_all_under-requires-clause-rest : goal.prove_all_under-requires-clause-rest
prove_all_under-requires-clause-rest c = c.rest_laws.ensures.rest c.args.search.now.graph.root_depth c.args.search.now.cx c.elaborate_in.new.cx c.args.search.now.graph c.args.search.now.cache c.requires.rest c.elaborate_in.ensures.advances

pub prove_all_under-requires-clause-clauses : goal.prove_all_under-requires-clause-clauses
prove_all_under-requires-clause-clauses c =
    let cs : c.deref-2.result.now ≡ c.in_ok-clauses.clauses.items = search rules in
    subst (TraitRefsHeld c.elaborate_in.new.cx.interner.entries) (sym cs) c.in_ok-clauses.ensures.held

pub prove_all_under-requires-clause-references : goal.prove_all_under-requires-clause-references
prove_all_under-requires-clause-references c =
    let old = c.args.search.now.cx.interner.entries in
    let new = c.elaborate_in.new.cx.interner.entries in
    let rs : c.deref-3.result.now ≡ c.in_ok-references.references.items = search rules in
    let l = c.args.lowered.now in
    subst (TraitRefsHeld new) (sym (rs ∙ c.in_ok-references.ensures))
    (references-kept old new c.elaborate_in.ensures.advances.entries (l.asked ∷ l.further.items) (all-held old c.requires.lowered.0 l c.requires.lowered.1))

pub prove_all_under-requires-clause-unknowns : goal.prove_all_under-requires-clause-unknowns
prove_all_under-requires-clause-unknowns c =
    let vs : c.deref-4.result.now ≡ c.args.lowered.now.unknowns.items = search rules in
    subst (ArgsHeld c.elaborate_in.new.cx.interner.entries) (sym vs)
    (args-held-later c.args.search.now.cx.interner.entries c.elaborate_in.new.cx.interner.entries c.elaborate_in.ensures.advances.entries c.args.lowered.now.unknowns.items c.requires.lowered.1.unknowns_held)

pub returns-clause-rest : goal.returns-clause-rest
returns-clause-rest c = c.prove_all_under.ensures.rest

pub returns-clause-solving : goal.returns-clause-solving
returns-clause-solving c = c.prove_all_under.ensures.solving ∙ c.rest_laws.ensures.meaning c.args.search.now.cx c.elaborate_in.new.cx c.requires.rest.ready c.elaborate_in.ensures.advances

pub returns-clause-keeps : goal.returns-clause-keeps
returns-clause-keeps c = λ i e h. c.prove_all_under.ensures.keeps i e (c.elaborate_in.ensures.advances.entries i e h)

pub returns-clause-limits : goal.returns-clause-limits
returns-clause-limits c = limits-further c.args.search.now.cx c.elaborate_in.new.cx c.prove_all_under.new.search.cx c.elaborate_in.ensures.advances.limits c.prove_all_under.ensures.limits

pub returns-clause-held : goal.returns-clause-held
returns-clause-held c = c.prove_all_under.ensures.held

pub returns-clause-answer : goal.returns-clause-answer
returns-clause-answer c =
    let old = c.args.search.now.cx.interner.entries in
    let new = c.elaborate_in.new.cx.interner.entries in
    let k = c.elaborate_in.ensures.advances.entries in
    let l = c.args.lowered.now in
    let us = l.unknowns.items in
    let V = written old c.args.search.now.cx.handler.declarations in
    let given : c.deref.result.now ≡ l.clauses.items = search rules in
    let cs : c.deref-2.result.now ≡ c.in_ok-clauses.clauses.items = search rules in
    let rs : c.deref-3.result.now ≡ c.in_ok-references.references.items = search rules in
    let vs : c.deref-4.result.now ≡ us = search rules in
    over-ok c.prove_all_under.result
    (λ a h q low.
    let clauses_are : references_in new c.deref-2.result.now ≡ elaborate V (unbound_references q.clauses) =
    ap (references_in new) cs ∙ c.in_ok-clauses.ensures.are ∙ ap (λ (xs : _). elaborate V (references_in old xs)) given ∙ ap (elaborate V) low.clauses in
    let references_are : references_in new c.deref-3.result.now ≡ asked_references q =
    ap (references_in new) (rs ∙ c.in_ok-references.ensures) ∙ all-same old new k (l.asked ∷ l.further.items) (all-held old q l low) ∙ all-are old q l low in
    answered-same (solving_of new c.elaborate_in.new.cx.handler.declarations) (solving_of old c.args.search.now.cx.handler.declarations) c.args.search.now.graph.root_depth
    (map arg_sort c.deref-4.result.now) (variable_kinds q) (map (goal_of (references_in new c.deref-2.result.now)) (references_in new c.deref-3.result.now)) (goals_asking V q)
    (map (arg_trees new) c.deref-4.result.now) (own_unknowns q) c.prove_all_under.new.search.cx.interner.entries a
    (c.rest_laws.ensures.meaning c.args.search.now.cx c.elaborate_in.new.cx c.requires.rest.ready c.elaborate_in.ensures.advances)
    (ap (map arg_sort) vs ∙ kinds-are old c.requires.rest.ready.lawful us q.variables 0 0 low.unknowns_held low.unknowns)
    (ap (λ E. map (goal_of E) (references_in new c.deref-3.result.now)) clauses_are ∙ ap (map (goal_of (elaborate V (unbound_references q.clauses)))) references_are)
    (ap (map (arg_trees new)) vs ∙ args-later old new k us low.unknowns_held ∙ low.unknowns)
    h)
    c.prove_all_under.ensures.answer
