use Rattle.std.proofs.Common.{◌≡◌, ◌∙◌, ap, sym, inl, length}
use Rattle.goal_frames.specs.Stores.{StandsForInput}
use Rattle.solver_graph.specs.declared.context.SolverCx.{SolverCx}
use Rattle.solver_graph.specs.Contexts.{asked_of, goal_of, IsInput, IsReady}
use Rattle.solver_graph.proofs.Growing.{goal-kept}
use Rattle.solver_graph.proofs.Shortages.{at-error}
use Rattle.solver_graph.proofs.Silences.{one-ok}
use Rattle.solver_graph.proofs.context.SolverCx.keep_goal.Goals as goal

pub returns-clause-is : goal.returns-clause-is
returns-clause-is g c =
    let cx = c.args.self.now in
    let es = cx.interner.entries in
    let ready = g.H.GoalHandler.meaning.IsReady in
    let new : SolverCx g.row.H.Denot = record cx { store = c.keep_input.new.self } in
    let now : IsReady ready new = record { handler = c.requires.ready.handler; store = c.keep_input.ensures.held es c.requires.held c.requires.ready.store; lawful = c.requires.ready.lawful } in
    one-ok (λ id. StandsForInput c.keep_input.new.self id c.args.goal) (λ id. IsInput ready new id × (goal_of new id ≡ asked_of es c.args.goal)) c.keep_input.result
    (λ id x. goal-kept ready new id c.args.goal now x) c.keep_input.ensures.is

pub returns-clause-full : goal.returns-clause-full
returns-clause-full g c = λ q. inl (ap length (at-error c.keep_input.result q c.keep_input.ensures.refused) ∙ c.keep_input.ensures.full q ∙ sym c.keep_input.ensures.limit)
