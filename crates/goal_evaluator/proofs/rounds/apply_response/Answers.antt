use Rattle.std.proofs.Common.{rules, ◌≡◌, true, false, Result, Err, refl, sym, ap, ◌∙◌}
use Rattle.infer_table.specs.Unification.{table_trees}
use Rattle.infer_table.specs.declared.certainty.EqError.{EqError}
use Rattle.infer_table.specs.declared.certainty.EqError.TheVariants as Refusal
use Rattle.infer_table.specs.Values.{values_of}
use Rattle.infer_table.specs.Responses.{answer_trees}
use Rattle.goal_evaluator.specs.Errors.{eval_error}
use Rattle.goal_evaluator.specs.declared.error.EvalError.{EvalError}
use Rattle.goal_evaluator.specs.declared.error.EvalError.TheVariants.{NoSolution}
use Rattle.goal_evaluator.proofs.BareAnswers.{put-bare}
use Rattle.goal_evaluator.proofs.Putting.{put-applied, put-nothing}
use Rattle.goal_evaluator.proofs.Shortages.{given-up}
use Rattle.goal_evaluator.proofs.rounds.apply_response.Goals as goal

pub returns-then-is_bare-clause-applied : goal.returns-then-is_bare-clause-applied
returns-then-is_bare-clause-applied c =
    let bare : c.is_bare.result ≡ true = search rules in
    let e = c.is_bare.ensures in
    put-bare c.args.cx.now.entries c.args.table.now c.args.values.now c.args.response.now (e.own bare) (e.variables bare) (e.values bare) (e.constraints bare)

pub returns-then-not-is_answer_to-clause-applied : goal.returns-then-not-is_answer_to-clause-applied
returns-then-not-is_answer_to-clause-applied c =
    let es = c.args.cx.now.entries in
    let no : c.is_answer_to.result ≡ false = search rules in
    put-nothing (table_trees es c.args.table.now) (values_of es c.args.values.now) (answer_trees es c.args.response.now) (sym (c.is_answer_to.ensures es) ∙ no)

pub returns-in-Ok-clause-applied : goal.returns-in-Ok-clause-applied
returns-in-Ok-clause-applied c =
    let es = c.args.cx.now.entries in
    let yes : c.is_answer_to.result ≡ true = search rules in
    put-applied (table_trees es c.args.table.now) (values_of es c.args.values.now) (answer_trees es c.args.response.now) (sym (c.is_answer_to.ensures es) ∙ yes)
    ∙ c.in-Ok.ensures.exact

-- the error says no solution only where the answer was refused
refused : (error : EqError) → eval_error error ≡ NoSolution → error ≡ Refusal.NoSolution
refused Refusal.NoSolution e = refl
refused (Refusal.Fault fault) e = absurd (cc)

err-is : (x y : EvalError) → ◌≡◌ {A = Result (Unit {0}) EvalError} (Err x) (Err y) → x ≡ y
err-is x y e = cc

pub returns-in-Err-clause-refused : goal.returns-in-Err-clause-refused
returns-in-Err-clause-refused c = λ e.
    let es = c.args.cx.now.entries in
    let yes : c.is_answer_to.result ≡ true = search rules in
    put-applied (table_trees es c.args.table.now) (values_of es c.args.values.now) (answer_trees es c.args.response.now) (sym (c.is_answer_to.ensures es) ∙ yes)
    ∙ c.in-Err.ensures.refusal (ap Err (refused c.in-Err.error (sym c.from.ensures ∙ err-is _ _ e)))

pub returns-in-Err-clause-terms : goal.returns-in-Err-clause-terms
returns-in-Err-clause-terms c = record {
  grew = c.instantiate_and_apply_query_response.ensures.terms.grew;
  full = λ q. c.in-Err.ensures.terms.full (given-up c.in-Err.error _ c.from.ensures q);
}
