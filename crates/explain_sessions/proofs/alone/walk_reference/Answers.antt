use Rattle.std.proofs.Common.{[], sym, subst}
use Rattle.sessions.specs.TypeTerms.Kept.{has-later}
use Rattle.sessions.specs.TypeTerms.Promised.Handles.{Has}
use Rattle.sessions.specs.TypeTerms.Terms.{args_lists}
use Rattle.sessions.specs.TermFolds.declared.predicate.TraitRef.{TraitRef}
use Rattle.sessions.proofs.Declarations.Growth.{reference-kept}
use Rattle.sessions.proofs.Posing.{goal-held}
use Rattle.explain_sessions.proofs.Rests.{rests-advanced, rests-further, rests-here}
use Rattle.explain_sessions.proofs.alone.walk_reference.Goals as goal

pub goal_table_in-requires : goal.goal_table_in-requires
goal_table_in-requires c = c.requires.rest.ready

pub returns-in_err-table-clause-rests : goal.returns-in_err-table-clause-rests
returns-in_err-table-clause-rests c = rests-advanced c.args.search.now.graph.root_depth c.args.search.now.cx c.goal_table_in.new.cx c.args.search.now.graph c.args.search.now.cache c.requires.rest c.goal_table_in.ensures.advances

pub is_of_table-requires : goal.is_of_table-requires
is_of_table-requires c = reference-kept c.args.search.now.cx.interner.entries c.goal_table_in.new.cx.interner.entries c.goal_table_in.ensures.advances.entries c.args.reference c.requires.held

pub returns-then-not-is_of_table-clause-rests : goal.returns-then-not-is_of_table-clause-rests
returns-then-not-is_of_table-clause-rests c = rests-advanced c.args.search.now.graph.root_depth c.args.search.now.cx c.goal_table_in.new.cx c.args.search.now.graph c.args.search.now.cache c.requires.rest c.goal_table_in.ensures.advances

pub walk_alone-requires-clause-rest : goal.walk_alone-requires-clause-rest
walk_alone-requires-clause-rest c = (rests-advanced c.args.search.now.graph.root_depth c.args.search.now.cx c.goal_table_in.new.cx c.args.search.now.graph c.args.search.now.cache c.requires.rest c.goal_table_in.ensures.advances).rest

pub walk_alone-requires-clause-table : goal.walk_alone-requires-clause-table
walk_alone-requires-clause-table c = c.in_ok-table.ensures.ready

pub walk_alone-requires-clause-goal : goal.walk_alone-requires-clause-goal
walk_alone-requires-clause-goal c =
    let old = c.args.search.now.cx.interner.entries in
    let new = c.goal_table_in.new.cx.interner.entries in
    goal-held new c.bare_goal-goal.result [] tt c.bare_goal-goal.ensures.clauses
    (subst (λ (r : TraitRef). Has new args_lists r.args.0) (sym c.bare_goal-goal.ensures.asked) (has-later old new c.goal_table_in.ensures.advances.entries args_lists c.args.reference.args.0 c.requires.held))

pub returns-in_err-walk-clause-rests : goal.returns-in_err-walk-clause-rests
returns-in_err-walk-clause-rests c = rests-further c.args.search.now.graph.root_depth c.args.search.now.cx c.goal_table_in.new.cx c.walk_alone.new.search.cx c.args.search.now.graph c.walk_alone.new.search.graph c.args.search.now.cache c.walk_alone.new.search.cache (rests-advanced c.args.search.now.graph.root_depth c.args.search.now.cx c.goal_table_in.new.cx c.args.search.now.graph c.args.search.now.cache c.requires.rest c.goal_table_in.ensures.advances) c.walk_alone.ensures.rests

pub with_steps-requires-clause-ready : goal.with_steps-requires-clause-ready
with_steps-requires-clause-ready c = c.walk_alone.ensures.rests.rest.ready

pub with_steps-requires-clause-table : goal.with_steps-requires-clause-table
with_steps-requires-clause-table c = c.walk_alone.ensures.table

pub with_steps-requires-clause-clauses : goal.with_steps-requires-clause-clauses
with_steps-requires-clause-clauses c = tt

pub with_steps-requires-clause-walked : goal.with_steps-requires-clause-walked
with_steps-requires-clause-walked c = c.in_ok-walk.ensures.held

pub returns-in_err-proof-clause-rests : goal.returns-in_err-proof-clause-rests
returns-in_err-proof-clause-rests c =
    let mid = rests-further c.args.search.now.graph.root_depth c.args.search.now.cx c.goal_table_in.new.cx c.walk_alone.new.search.cx c.args.search.now.graph c.walk_alone.new.search.graph c.args.search.now.cache c.walk_alone.new.search.cache (rests-advanced c.args.search.now.graph.root_depth c.args.search.now.cx c.goal_table_in.new.cx c.args.search.now.graph c.args.search.now.cache c.requires.rest c.goal_table_in.ensures.advances) c.walk_alone.ensures.rests in
    rests-further c.args.search.now.graph.root_depth c.args.search.now.cx c.walk_alone.new.search.cx c.with_steps.new.cx c.walk_alone.new.search.graph c.walk_alone.new.search.graph c.walk_alone.new.search.cache c.walk_alone.new.search.cache mid (rests-advanced c.walk_alone.new.search.graph.root_depth c.walk_alone.new.search.cx c.with_steps.new.cx c.walk_alone.new.search.graph c.walk_alone.new.search.cache (rests-here c.args.search.now.graph.root_depth c.walk_alone.new.search.cx c.walk_alone.new.search.graph c.walk_alone.new.search.cache mid.rest) c.with_steps.ensures.advances)

pub returns-clause-rests : goal.returns-clause-rests
returns-clause-rests c =
    let mid = rests-further c.args.search.now.graph.root_depth c.args.search.now.cx c.goal_table_in.new.cx c.walk_alone.new.search.cx c.args.search.now.graph c.walk_alone.new.search.graph c.args.search.now.cache c.walk_alone.new.search.cache (rests-advanced c.args.search.now.graph.root_depth c.args.search.now.cx c.goal_table_in.new.cx c.args.search.now.graph c.args.search.now.cache c.requires.rest c.goal_table_in.ensures.advances) c.walk_alone.ensures.rests in
    rests-further c.args.search.now.graph.root_depth c.args.search.now.cx c.walk_alone.new.search.cx c.with_steps.new.cx c.walk_alone.new.search.graph c.walk_alone.new.search.graph c.walk_alone.new.search.cache c.walk_alone.new.search.cache mid (rests-advanced c.walk_alone.new.search.graph.root_depth c.walk_alone.new.search.cx c.with_steps.new.cx c.walk_alone.new.search.graph c.walk_alone.new.search.cache (rests-here c.args.search.now.graph.root_depth c.walk_alone.new.search.cx c.walk_alone.new.search.graph c.walk_alone.new.search.cache mid.rest) c.with_steps.ensures.advances)

pub returns-clause-held : goal.returns-clause-held
returns-clause-held c = c.in_ok-proof.ensures.held
