use Rattle.std.proofs.Common.{◌∙◌, ap, sym, subst, inr, length, Err}
use Rattle.goal_evaluator.specs.Readings.{ResultHeld}
use Rattle.goal_frames.specs.Fitting.{ResultFits}
use Rattle.goal_evaluator.specs.StepReadings.{result_read}
use Rattle.solver_graph.specs.declared.context.SolverCx.{SolverCx}
use Rattle.solver_graph.specs.Contexts.{IsReady}
use Rattle.solver_graph.proofs.Growing.{answer-kept}
use Rattle.solver_graph.proofs.context.SolverCx.keep_answer.Goals as goal
use Rattle.type_terms.proofs.TypeBasics.{handed-on}

pub returns-in_ok-id-in-Some-clause-is : goal.returns-in_ok-id-in-Some-clause-is
returns-in_ok-id-in-Some-clause-is g c =
    let cx = c.args.self.now in
    let es = cx.interner.entries in
    let ready = g.H.GoalHandler.meaning.IsReady in
    let new : SolverCx g.row.H.Denot = record cx { store = c.keep_response.new.self } in
    let held = subst (ResultHeld es) c.in-Some.is c.requires.held in
    let now : IsReady ready new = record { handler = c.requires.ready.handler; store = c.keep_response.ensures.held es held c.requires.ready.store; lawful = c.requires.ready.lawful } in
    let kept = answer-kept ready new c.in_ok-id-in-Some.id c.in-Some.response now c.in_ok-id-in-Some.ensures.is (subst (ResultFits es) c.in-Some.is c.requires.fits) in
    (kept.0, kept.1 ∙ sym (ap (result_read es) c.in-Some.is))

pub returns-in_err-id-in-Some-clause-full : goal.returns-in_err-id-in-Some-clause-full
returns-in_err-id-in-Some-clause-full g c = λ q.
    let refused = c.in_err-id-in-Some.ensures in
    inr (handed-on c.from_residual.result c.from_residual.ensures.1 (λ p. ap length refused.refused ∙ refused.full (ap Err p) ∙ sym refused.limit) q)
