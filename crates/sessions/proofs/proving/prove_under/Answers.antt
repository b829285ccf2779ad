use Rattle.std.proofs.Common.{◌∙◌, map, refl, sym, subst}
use Rattle.type_terms.specs.Kept.{args-held-later, has-later}
use Rattle.type_terms.specs.Promised.Handles.{arg_trees}
use Rattle.type_terms.specs.Promised.Handles.{Has}
use Rattle.type_terms.specs.Terms.{args_lists}
use Rattle.term_folds.specs.Arguments.{arg_sort}
use Rattle.term_folds.specs.declared.predicate.TraitRef.{TraitRef}
use Rattle.declarations.specs.Applied.{references_in}
use Rattle.declarations.specs.Items.{reference_in}
use Rattle.declarations.proofs.Bounded.{all-same}
use Rattle.declarations.proofs.Growth.{reference-same, references-kept}
use Rattle.infer_table.specs.Goals.{goal_trees}
use Rattle.candidate_assembly.specs.Fitting.{solving_of}
use Rattle.sessions.specs.Goals.{goal_of}
use Rattle.sessions.proofs.Posing.{over-ok, args-later, goal-answered, goal-held, same-asked}
use Rattle.candidate_assembly.specs.SolverMeaning.{solver_by_view}
use Rattle.solver_graph.proofs.Askings.{asked-none}
use Rattle.sessions.proofs.FramesStarted.{settles-same}
use Rattle.solver_graph.proofs.Growing.{limits-further}
use Rattle.sessions.proofs.ShortCalls.{handed-by-terms}
use Rattle.sessions.proofs.proving.prove_under.Goals as goal

pub question_table_in-requires : goal.question_table_in-requires
question_table_in-requires c = c.requires.rest.ready

pub returns-in_err-table-clause-rest : goal.returns-in_err-table-clause-rest
returns-in_err-table-clause-rest c =
    c.rest_laws.ensures.rest c.args.search.now.graph.root_depth c.args.search.now.cx c.question_table_in.new.cx c.args.search.now.graph c.args.search.now.cache c.requires.rest c.question_table_in.ensures.advances

pub returns-in_err-table-clause-solving : goal.returns-in_err-table-clause-solving
returns-in_err-table-clause-solving c = c.rest_laws.ensures.meaning c.args.search.now.cx c.question_table_in.new.cx c.requires.rest.ready c.question_table_in.ensures.advances

pub returns-in_err-table-clause-keeps : goal.returns-in_err-table-clause-keeps
returns-in_err-table-clause-keeps c = c.question_table_in.ensures.advances.entries

pub ask_for-requires-clause-rest : goal.ask_for-requires-clause-rest
ask_for-requires-clause-rest c =
    c.rest_laws.ensures.rest c.args.search.now.graph.root_depth c.args.search.now.cx c.question_table_in.new.cx c.args.search.now.graph c.args.search.now.cache c.requires.rest c.question_table_in.ensures.advances

pub ask_for-requires-clause-ready : goal.ask_for-requires-clause-ready
ask_for-requires-clause-ready c = c.in_ok-table.ensures.ready

pub ask_for-requires-clause-table : goal.ask_for-requires-clause-table
ask_for-requires-clause-table c = c.in_ok-table.ensures.is

pub ask_for-requires-clause-goal : goal.ask_for-requires-clause-goal
ask_for-requires-clause-goal c =
    let old = c.args.search.now.cx.interner.entries in
    let new = c.question_table_in.new.cx.interner.entries in
    let k = c.question_table_in.ensures.advances.entries in
    goal-held new c.in_ok-goal.goal c.args.clauses.now (references-kept old new k c.args.clauses.now c.requires.clauses) c.in_ok-goal.ensures.clauses
    (subst (λ (r : TraitRef). Has new args_lists r.args.0) (sym c.in_ok-goal.ensures.asked) (has-later old new k args_lists c.args.asked.args.0 c.requires.asked))

pub ask_for-requires-clause-unknowns : goal.ask_for-requires-clause-unknowns
ask_for-requires-clause-unknowns c =
    args-held-later c.args.search.now.cx.interner.entries c.question_table_in.new.cx.interner.entries c.question_table_in.ensures.advances.entries c.args.unknowns.now c.requires.unknowns

pub returns-clause-rest : goal.returns-clause-rest
returns-clause-rest c = c.ask_for.ensures.rest

pub returns-clause-solving : goal.returns-clause-solving
returns-clause-solving c = c.ask_for.ensures.meaning ∙ c.rest_laws.ensures.meaning c.args.search.now.cx c.question_table_in.new.cx c.requires.rest.ready c.question_table_in.ensures.advances

pub returns-clause-keeps : goal.returns-clause-keeps
returns-clause-keeps c = λ i e h. c.ask_for.ensures.keeps i e (c.question_table_in.ensures.advances.entries i e h)

pub returns-clause-held : goal.returns-clause-held
returns-clause-held c = c.ask_for.ensures.held

pub returns-clause-answer : goal.returns-clause-answer
returns-clause-answer c =
    let old = c.args.search.now.cx.interner.entries in
    let new = c.question_table_in.new.cx.interner.entries in
    let k = c.question_table_in.ensures.advances.entries in
    let rs = c.args.clauses.now in
    let r = c.args.asked in
    let us = c.args.unknowns.now in
    over-ok c.ask_for.result
    (λ a h.
    goal-answered (solving_of new c.question_table_in.new.cx.handler.declarations) (solving_of old c.args.search.now.cx.handler.declarations) c.args.search.now.graph.root_depth (map arg_sort us) (goal_trees new c.in_ok-goal.goal)
    (goal_of (references_in old rs) (reference_in old r)) (map (arg_trees new) us) (map (arg_trees old) us) c.ask_for.new.search.cx.interner.entries a
    (c.rest_laws.ensures.meaning c.args.search.now.cx c.question_table_in.new.cx c.requires.rest.ready c.question_table_in.ensures.advances)
    (c.references_are_goals.ensures new c.in_ok-goal.goal rs r c.in_ok-goal.ensures.clauses c.in_ok-goal.ensures.asked
    ∙ same-asked (references_in new rs) (references_in old rs) (reference_in new r) (reference_in old r) (all-same old new k rs c.requires.clauses) (reference-same old new k r c.requires.asked))
    (args-later old new k us c.requires.unknowns) h)
    c.ask_for.ensures.answer

pub returns-in_err-goal-clause-frames : goal.returns-in_err-goal-clause-frames
returns-in_err-goal-clause-frames c = asked-none solver_by_view _ _ _ _ _ _ _

pub returns-in_err-table-clause-frames : goal.returns-in_err-table-clause-frames
returns-in_err-table-clause-frames c = asked-none solver_by_view _ _ _ _ _ _ _

pub returns-clause-frames : goal.returns-clause-frames
returns-clause-frames c =
    let old = c.args.search.now.cx.interner.entries in
    let new = c.question_table_in.new.cx.interner.entries in
    let k = c.question_table_in.ensures.advances.entries in
    let rs = c.args.clauses.now in
    let r = c.args.asked in
    let us = c.args.unknowns.now in
    settles-same solver_by_view (solving_of new c.question_table_in.new.cx.handler.declarations) (solving_of old c.args.search.now.cx.handler.declarations) c.args.search.now.graph.root_depth (map arg_sort us) (map arg_sort us) (goal_trees new c.in_ok-goal.goal)
    (goal_of (references_in old rs) (reference_in old r)) c.args.search.now.graph c.ask_for.new.search.graph
    (c.rest_laws.ensures.meaning c.args.search.now.cx c.question_table_in.new.cx c.requires.rest.ready c.question_table_in.ensures.advances)
    refl
    (c.references_are_goals.ensures new c.in_ok-goal.goal rs r c.in_ok-goal.ensures.clauses c.in_ok-goal.ensures.asked
    ∙ same-asked (references_in new rs) (references_in old rs) (reference_in new r) (reference_in old r) (all-same old new k rs c.requires.clauses) (reference-same old new k r c.requires.asked))
    c.ask_for.ensures.frames

pub returns-in_err-table-clause-limits : goal.returns-in_err-table-clause-limits
returns-in_err-table-clause-limits c = c.question_table_in.ensures.advances.limits

pub returns-clause-limits : goal.returns-clause-limits
returns-clause-limits c = limits-further c.args.search.now.cx c.question_table_in.new.cx c.ask_for.new.search.cx c.question_table_in.ensures.advances.limits c.ask_for.ensures.limits

pub returns-in_err-table-clause-full : goal.returns-in_err-table-clause-full
returns-in_err-table-clause-full c = handed-by-terms c.question_table_in.new.cx c.from_residual-in_err-table.result c.from_residual-in_err-table.ensures.1 c.in_err-table.ensures.full
