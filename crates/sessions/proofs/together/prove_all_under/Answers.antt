use Rattle.std.proofs.Common.{◌∙◌, map, refl, ap}
use Rattle.type_terms.specs.Kept.{args-held-later}
use Rattle.type_terms.specs.Promised.Handles.{arg_trees}
use Rattle.term_folds.specs.Arguments.{arg_sort}
use Rattle.declarations.specs.Applied.{references_in}
use Rattle.declarations.proofs.Bounded.{all-same}
use Rattle.declarations.proofs.Growth.{references-kept}
use Rattle.candidate_assembly.specs.Fitting.{solving_of}
use Rattle.solver_graph.proofs.Growing.{limits-further}
use Rattle.sessions.specs.Goals.{goal_of}
use Rattle.sessions.proofs.AnsweredTogether.{answered-same}
use Rattle.sessions.proofs.Posing.{args-later, over-ok}
use Rattle.sessions.proofs.ShortCalls.{handed-by-terms}
use Rattle.sessions.proofs.together.prove_all_under.Goals as goal

pub question_table_in-requires : goal.question_table_in-requires
question_table_in-requires c = c.requires.rest.ready

pub returns-in_err-table-clause-rest : goal.returns-in_err-table-clause-rest
returns-in_err-table-clause-rest c =
    c.rest_laws.ensures.rest c.args.search.now.graph.root_depth c.args.search.now.cx c.question_table_in.new.cx c.args.search.now.graph c.args.search.now.cache c.requires.rest c.question_table_in.ensures.advances

pub returns-in_err-table-clause-solving : goal.returns-in_err-table-clause-solving
returns-in_err-table-clause-solving c = c.rest_laws.ensures.meaning c.args.search.now.cx c.question_table_in.new.cx c.requires.rest.ready c.question_table_in.ensures.advances

pub returns-in_err-table-clause-keeps : goal.returns-in_err-table-clause-keeps
returns-in_err-table-clause-keeps c = c.question_table_in.ensures.advances.entries

pub returns-in_err-table-clause-limits : goal.returns-in_err-table-clause-limits
returns-in_err-table-clause-limits c = c.question_table_in.ensures.advances.limits

pub returns-in_err-table-clause-full : goal.returns-in_err-table-clause-full
returns-in_err-table-clause-full c = handed-by-terms c.question_table_in.new.cx c.from_residual.result c.from_residual.ensures.1 c.in_err-table.ensures.full

pub ask_for_all-requires-clause-rest : goal.ask_for_all-requires-clause-rest
ask_for_all-requires-clause-rest c =
    c.rest_laws.ensures.rest c.args.search.now.graph.root_depth c.args.search.now.cx c.question_table_in.new.cx c.args.search.now.graph c.args.search.now.cache c.requires.rest c.question_table_in.ensures.advances

pub ask_for_all-requires-clause-ready : goal.ask_for_all-requires-clause-ready
ask_for_all-requires-clause-ready c = c.in_ok-table.ensures.ready

pub ask_for_all-requires-clause-table : goal.ask_for_all-requires-clause-table
ask_for_all-requires-clause-table c = c.in_ok-table.ensures.is

pub ask_for_all-requires-clause-clauses : goal.ask_for_all-requires-clause-clauses
ask_for_all-requires-clause-clauses c =
    references-kept c.args.search.now.cx.interner.entries c.question_table_in.new.cx.interner.entries c.question_table_in.ensures.advances.entries c.args.clauses.now c.requires.clauses

pub ask_for_all-requires-clause-references : goal.ask_for_all-requires-clause-references
ask_for_all-requires-clause-references c =
    references-kept c.args.search.now.cx.interner.entries c.question_table_in.new.cx.interner.entries c.question_table_in.ensures.advances.entries c.args.references.now c.requires.references

pub ask_for_all-requires-clause-unknowns : goal.ask_for_all-requires-clause-unknowns
ask_for_all-requires-clause-unknowns c =
    args-held-later c.args.search.now.cx.interner.entries c.question_table_in.new.cx.interner.entries c.question_table_in.ensures.advances.entries c.args.unknowns.now c.requires.unknowns

pub returns-clause-rest : goal.returns-clause-rest
returns-clause-rest c = c.ask_for_all.ensures.rest

pub returns-clause-solving : goal.returns-clause-solving
returns-clause-solving c = c.ask_for_all.ensures.meaning ∙ c.rest_laws.ensures.meaning c.args.search.now.cx c.question_table_in.new.cx c.requires.rest.ready c.question_table_in.ensures.advances

pub returns-clause-keeps : goal.returns-clause-keeps
returns-clause-keeps c = λ i e h. c.ask_for_all.ensures.keeps i e (c.question_table_in.ensures.advances.entries i e h)

pub returns-clause-limits : goal.returns-clause-limits
returns-clause-limits c = limits-further c.args.search.now.cx c.question_table_in.new.cx c.ask_for_all.new.search.cx c.question_table_in.ensures.advances.limits c.ask_for_all.ensures.limits

pub returns-clause-held : goal.returns-clause-held
returns-clause-held c = c.ask_for_all.ensures.held

pub returns-clause-answer : goal.returns-clause-answer
returns-clause-answer c =
    let old = c.args.search.now.cx.interner.entries in
    let new = c.question_table_in.new.cx.interner.entries in
    let k = c.question_table_in.ensures.advances.entries in
    let cs = c.args.clauses.now in
    let rs = c.args.references.now in
    let us = c.args.unknowns.now in
    over-ok c.ask_for_all.result
    (λ a h.
    answered-same (solving_of new c.question_table_in.new.cx.handler.declarations) (solving_of old c.args.search.now.cx.handler.declarations) c.args.search.now.graph.root_depth
    (map arg_sort us) (map arg_sort us) (map (goal_of (references_in new cs)) (references_in new rs)) (map (goal_of (references_in old cs)) (references_in old rs)) (map (arg_trees new) us) (map (arg_trees old) us)
    c.ask_for_all.new.search.cx.interner.entries a
    (c.rest_laws.ensures.meaning c.args.search.now.cx c.question_table_in.new.cx c.requires.rest.ready c.question_table_in.ensures.advances)
    refl
    (ap (λ E. map (goal_of E) (references_in new rs)) (all-same old new k cs c.requires.clauses) ∙ ap (map (goal_of (references_in old cs))) (all-same old new k rs c.requires.references))
    (args-later old new k us c.requires.unknowns) h)
    c.ask_for_all.ensures.answer
