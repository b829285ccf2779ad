use Rattle.std.proofs.Common.{ap, sym, subst, ◌≡◌, ◌∙◌, true, rules, Some}
use Rattle.type_terms.specs.Promised.Handles.{ArgsHeld}
use Rattle.infer_table.specs.Content.{Ready}
use Rattle.goal_evaluator.specs.Context.{Context}
use Rattle.goal_evaluator.proofs.TrialContexts.{ready-begun}
use Rattle.goal_evaluator.proofs.Shortages.{eval-at-limit}
use Rattle.infer_table.specs.Certainties.{joined}
use Rattle.infer_table.specs.Constraints.{constraints_trees}
use Rattle.infer_table.specs.Unification.{table_trees}
use Rattle.infer_table.specs.Values.{values_of}
use Rattle.goal_evaluator.specs.Script.{done}
use Rattle.goal_evaluator.proofs.BareAnswers.{bare-held, closed-answer, is-bare}
use Rattle.goal_evaluator.proofs.resuming.Evaluation.answer.Goals as goal

pub answer-requires : goal.answer-requires
answer-requires c =
    let es = c.args.cx.now.entries in
    let made = c.new-context.ensures in
    record {
      ready = ready-begun es c.new-context.result (ap (λ (z : Context). z.nested) made) (ap (λ (z : Context). z.replies) made)
          (subst (Ready es) (sym (ap (λ (z : Context). z.table) made)) c.requires.evaluation.table)
          (subst (ArgsHeld es) (sym (ap (λ (z : Context). z.values) made)) c.requires.evaluation.own);
    }

pub returns-in_err-answer-clause-terms : goal.returns-in_err-answer-clause-terms
returns-in_err-answer-clause-terms c = record {
  grew = c.answer.ensures.terms.grew;
  full = eval-at-limit c.from_residual.result c.from_residual.ensures.1 c.in_err-answer.ensures.terms.full;
}

-- ---- a goal without variables
pub returns-then-is_closed-clause-held : goal.returns-then-is_closed-clause-held
returns-then-is_closed-clause-held c =
    let e = c.bare_response.ensures in
    bare-held c.args.cx.now.entries c.bare_response.result e.values e.constraints

pub returns-then-is_closed-clause-stands : goal.returns-then-is_closed-clause-stands
returns-then-is_closed-clause-stands c =
    let es = c.args.cx.now.entries in
    let e = c.args.self in
    let closed : c.is_closed.result ≡ true = search rules in
    let call = c.bare_response in
    ap (λ a. done (Some a))
    (closed-answer e.variables.items (values_of es e.own.items) (table_trees es e.table) (joined e.certainty c.args.of_goals)
    (c.is_closed.ensures.variables closed) (ap (values_of es) (c.is_closed.ensures.own closed)) (ap (constraints_trees es) (c.is_closed.ensures.constraints closed))
    ∙ sym (is-bare es call.result _ call.ensures.variables (call.ensures.certainty ∙ c.and-certainty.ensures) call.ensures.values call.ensures.constraints))
