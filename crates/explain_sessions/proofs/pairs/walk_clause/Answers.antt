use Rattle.sessions.specs.TermFolds.declared.predicate.TraitRef.{TraitRef}
use Rattle.sessions.specs.TypeTerms.Promised.Handles.{Has}
use Rattle.sessions.specs.TypeTerms.Terms.{args_lists}
use Rattle.std.proofs.Common.{[], sym, subst}
use Rattle.sessions.proofs.Posing.{goal-held}
use Rattle.explain_sessions.proofs.Rests.{rests-asked, askable-at-rest, rests-none}
use Rattle.explain_sessions.proofs.pairs.walk_clause.Goals as goal

pub returns-clause-rests : goal.returns-clause-rests
returns-clause-rests c = rests-asked c.args.search.now.graph.root_depth c.args.search.now.cx c.walk_goal.new.search.cx c.args.search.now.graph c.walk_goal.new.search.graph c.args.search.now.cache c.walk_goal.new.search.cache c.requires.rest c.walk_goal.ensures.again.askable c.walk_goal.ensures.walked.asked

pub returns-in_err-goal-clause-rests : goal.returns-in_err-goal-clause-rests
returns-in_err-goal-clause-rests c = rests-none c.args.search.now.graph.root_depth c.args.search.now.cx c.args.search.now.graph c.args.search.now.cache c.requires.rest

pub returns-in_err-goal-clause-table : goal.returns-in_err-goal-clause-table
returns-in_err-goal-clause-table c = c.requires.table

pub returns-in_err-goal-clause-walked : goal.returns-in_err-goal-clause-walked
returns-in_err-goal-clause-walked c = c.requires.walked

pub walk_goal-requires-clause-walkable : goal.walk_goal-requires-clause-walkable
walk_goal-requires-clause-walkable c = record { askable = askable-at-rest c.args.search.now.graph.root_depth c.args.search.now.cx c.args.search.now.graph c.args.search.now.cache c.requires.rest; table = c.requires.table; references = c.requires.walked }

pub returns-clause-table : goal.returns-clause-table
returns-clause-table c = c.walk_goal.ensures.again.table

pub returns-clause-walked : goal.returns-clause-walked
returns-clause-walked c = c.walk_goal.ensures.again.references

pub walk_goal-requires-clause-goal : goal.walk_goal-requires-clause-goal
walk_goal-requires-clause-goal c = goal-held c.args.search.now.cx.interner.entries c.in_ok-goal.goal [] tt c.in_ok-goal.ensures.clauses (subst (λ (r : TraitRef). Has c.args.search.now.cx.interner.entries args_lists r.args.0) (sym c.in_ok-goal.ensures.asked) c.requires.clause)
