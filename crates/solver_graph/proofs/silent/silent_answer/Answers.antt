use Rattle.std.proofs.Common.{◌≡◌, ◌∙◌, Some, Err, refl, sym, ap, subst}
use Rattle.goal_evaluator.proofs.Shortages.{some-kind}
use Rattle.goal_evaluator.specs.TableAnswers.{IsWellFormed}
use Rattle.goal_frames.specs.HandlerPrograms.{silent}
use Rattle.goal_evaluator.specs.StepReadings.{result_read}
use Rattle.goal_evaluator.specs.TableAnswers.{without_values}
use Rattle.solver_graph.specs.Contexts.{goal_of, answer_of, ResponseIsMade}
use Rattle.solver_graph.specs.declared.context.SolverCx.{SolverCx}
use Rattle.solver_graph.proofs.Checks.{raw-is}
use Rattle.solver_graph.proofs.Growing.{later}
use Rattle.solver_graph.specs.Shortages.{interner}
use Rattle.solver_graph.proofs.Silences.{one-ok, silent-to, silent-fits}
use Rattle.solver_graph.proofs.silent.silent_answer.Goals as goal
use Rattle.type_terms.proofs.TypeBasics.{handed-on}

pub returns-in_err-response-clause-advances : goal.returns-in_err-response-clause-advances
returns-in_err-response-clause-advances g c =
    let cx = c.args.cx.now in
    let mid : SolverCx g.row.H.Denot = record cx { interner = c.response_no_constraints_raw-made.new.cx } in
    later g.H.GoalHandler.meaning.IsReady g.met.H.GoalHandler.lawful.ready_kept cx mid c.requires.0 refl refl c.response_no_constraints_raw-made.ensures.grew.keeps c.lawful.ensures c.response_no_constraints_raw-made.ensures.grew.limit

pub keep_answer-requires-clause-ready : goal.keep_answer-requires-clause-ready
keep_answer-requires-clause-ready g c =
    let cx = c.args.cx.now in
    let mid : SolverCx g.row.H.Denot = record cx { interner = c.response_no_constraints_raw-made.new.cx } in
    (later g.H.GoalHandler.meaning.IsReady g.met.H.GoalHandler.lawful.ready_kept cx mid c.requires.0 refl refl c.response_no_constraints_raw-made.ensures.grew.keeps c.lawful.ensures c.response_no_constraints_raw-made.ensures.grew.limit).ready

pub keep_answer-requires-clause-fits : goal.keep_answer-requires-clause-fits
keep_answer-requires-clause-fits g c =
    let es = c.response_no_constraints_raw-made.new.cx.entries in
    let x = c.in_ok-response.ensures in
    let ks = c.in_ok-variables.variables.items in
    subst IsWellFormed (sym (raw-is es c.in_ok-response.response ks c.args.certainty (ap (λ v. v.items) x.variables) x.certainty x.values x.constraints)) (silent-fits ks c.args.certainty)

pub returns-clause-is : goal.returns-clause-is
returns-clause-is g c =
    let cx = c.args.cx.now in
    let es = c.response_no_constraints_raw-made.new.cx.entries in
    let x = c.in_ok-response.ensures in
    let k = c.args.certainty in
    let new = c.keep_answer.new.self in
    let ready = g.H.GoalHandler.meaning.IsReady in
    let raw = raw-is es c.in_ok-response.response c.in_ok-variables.variables.items k (ap (λ v. v.items) x.variables) x.certainty x.values x.constraints in
    let kinds = c.in_ok-variables.ensures.items ∙ c.deref.ensures.value in
    one-ok (λ r. ResponseIsMade ready new r × (answer_of new r ≡ result_read es (Some c.in_ok-response.response))) (λ r. ResponseIsMade ready new r × (answer_of new r ≡ silent (goal_of cx c.args.input).1 k)) c.keep_answer.result
    (λ r y. (y.0, y.1 ∙ ap Some (raw ∙ ap (λ ks. without_values ks k) kinds) ∙ sym (silent-to cx c.args.input c.input.result.now c.input.ensures.is k)))
    c.keep_answer.ensures.is

pub returns-in_err-response-clause-full : goal.returns-in_err-response-clause-full
returns-in_err-response-clause-full g c = λ q.
    let again = c.from_residual-in_err-response in
    interner (some-kind (handed-on again.result again.ensures.1 (λ p. c.in_err-response.ensures.full (ap Err p)) q))
