use Rattle.std.proofs.Common.{sym, subst, map}
use Rattle.infer_table.specs.Content.{Ready}
use Rattle.infer_table.specs.Unification.{table_trees}
use Rattle.goal_evaluator.specs.Replays.{run}
use Rattle.goal_evaluator.specs.Rounds.{rounds}
use Rattle.goal_evaluator.specs.declared.TheConstants.{FIXPOINT_STEP_LIMIT}
use Rattle.goal_evaluator.specs.Context.{Context, IsReadyContext, NestedHeld, nested_goal}
use Rattle.goal_evaluator.specs.Evaluating.{evaluation, goals_trees, replies_trees}
use Rattle.goal_evaluator.specs.Steps.{RoundsEnd}
use Rattle.goal_evaluator.proofs.Contexts.{ready-with-table}
use Rattle.goal_evaluator.proofs.Undone.{clone-same, clones-same}
use Rattle.goal_evaluator.proofs.context.EvalCtxt.run_rounds.Goals as goal

pub rounds-requires-clause-ready : goal.rounds-requires-clause-ready
rounds-requires-clause-ready c = subst (λ (x : Context). Ready c.args.cx.now.entries x.table) (sym c.self.view_is) c.requires.ready.table

pub rounds-requires-clause-goals : goal.rounds-requires-clause-goals
rounds-requires-clause-goals c =
    let cloned = clones-same _ (λ n m r. clone-same n m r.0 r.1.0 r.1.1) c.self.inside.nested_goals.items c.in_ok-goals.goals.items c.in_ok-goals.ensures.cases.0 in
    subst (NestedHeld c.args.cx.now.entries) (sym cloned) (subst (λ (x : Context). NestedHeld c.args.cx.now.entries x.nested) (sym c.self.view_is) c.requires.ready.nested)

pub returns-clause-ready : goal.returns-clause-ready
returns-clause-ready c =
    ready-with-table c.args.cx.now.entries c.rounds.new.cx.entries _ c.rounds.new.table c.rounds.ensures.terms.grew.keeps
    (subst (λ (x : Context). IsReadyContext c.args.cx.now.entries x) (sym c.self.view_is) c.requires.ready)
    c.rounds.ensures.ready

pub returns-clause-runs : goal.returns-clause-runs
returns-clause-runs c =
    let es = c.args.cx.now.entries in
    let cloned = clones-same _ (λ n m r. clone-same n m r.0 r.1.0 r.1.1) c.self.inside.nested_goals.items c.in_ok-goals.goals.items c.in_ok-goals.ensures.cases.0 in
    subst
    (λ (x : Context). RoundsEnd x.mode c.rounds.new.cx.entries c.rounds.new.table (run (rounds (evaluation x.mode) FIXPOINT_STEP_LIMIT (goals_trees es x.nested) (table_trees es x.table)) (replies_trees es x.replies)) c.rounds.result) c.self.view_is
    (subst
    (λ ns. RoundsEnd c.self.inside.mode c.rounds.new.cx.entries c.rounds.new.table (run (rounds (evaluation c.self.inside.mode) FIXPOINT_STEP_LIMIT (goals_trees es ns) (table_trees es c.self.inside.table)) (replies_trees es c.self.inside.replies.items)) c.rounds.result) cloned
    (subst
    (λ rs. RoundsEnd c.self.inside.mode c.rounds.new.cx.entries c.rounds.new.table (run (rounds (evaluation c.self.inside.mode) FIXPOINT_STEP_LIMIT (goals_trees es (map nested_goal c.in_ok-goals.goals.items)) (table_trees es c.self.inside.table)) (replies_trees es rs)) c.rounds.result) c.deref.ensures.value
    c.rounds.ensures.runs))
