use Rattle.std.proofs.Common.{sym, subst}
use Rattle.sessions.specs.TypeTerms.Kept.{has-later}
use Rattle.sessions.specs.TypeTerms.Promised.Handles.{Has}
use Rattle.sessions.specs.TypeTerms.Terms.{args_lists}
use Rattle.sessions.specs.TermFolds.declared.predicate.TraitRef.{TraitRef}
use Rattle.sessions.proofs.Posing.{goal-held}
use Rattle.sessions.proofs.Declarations.Growth.{references-kept}
use Rattle.explain_sessions.proofs.Rests.{rests-advanced, rests-further, rests-none}
use Rattle.explain_sessions.proofs.supertraits.walk_under.Goals as goal

pub returns-in_err-table-clause-rests : goal.returns-in_err-table-clause-rests
returns-in_err-table-clause-rests c = rests-advanced c.args.search.now.graph.root_depth c.args.search.now.cx c.question_table_in.new.cx c.args.search.now.graph c.args.search.now.cache c.requires.rest c.question_table_in.ensures.advances

pub walk_alone-requires-clause-rest : goal.walk_alone-requires-clause-rest
walk_alone-requires-clause-rest c = (rests-advanced c.args.search.now.graph.root_depth c.args.search.now.cx c.question_table_in.new.cx c.args.search.now.graph c.args.search.now.cache c.requires.rest c.question_table_in.ensures.advances).rest

pub walk_alone-requires-clause-goal : goal.walk_alone-requires-clause-goal
walk_alone-requires-clause-goal c =
    let old = c.args.search.now.cx.interner.entries in
    let new = c.question_table_in.new.cx.interner.entries in
    let k = c.question_table_in.ensures.advances.entries in
    goal-held new c.in_ok-goal.goal c.args.clauses.now (references-kept old new k c.args.clauses.now c.requires.clauses) c.in_ok-goal.ensures.clauses
    (subst (λ (r : TraitRef). Has new args_lists r.args.0) (sym c.in_ok-goal.ensures.asked) (has-later old new k args_lists c.args.asked.args.0 c.requires.asked))

pub returns-clause-rests : goal.returns-clause-rests
returns-clause-rests c = rests-further c.args.search.now.graph.root_depth c.args.search.now.cx c.question_table_in.new.cx c.walk_alone.new.search.cx c.args.search.now.graph c.walk_alone.new.search.graph c.args.search.now.cache c.walk_alone.new.search.cache (rests-advanced c.args.search.now.graph.root_depth c.args.search.now.cx c.question_table_in.new.cx c.args.search.now.graph c.args.search.now.cache c.requires.rest c.question_table_in.ensures.advances) (c.walk_alone.ensures.rests)

pub returns-in_err-goal-clause-rests : goal.returns-in_err-goal-clause-rests
returns-in_err-goal-clause-rests c = rests-none c.args.search.now.graph.root_depth c.args.search.now.cx c.args.search.now.graph c.args.search.now.cache c.requires.rest

pub question_table_in-requires : goal.question_table_in-requires
question_table_in-requires c = c.requires.rest.ready

pub walk_alone-requires-clause-table : goal.walk_alone-requires-clause-table
walk_alone-requires-clause-table c = c.in_ok-table.ensures.ready

pub returns-clause-held : goal.returns-clause-held
returns-clause-held c = c.walk_alone.ensures.held
