-- Results that are returned unchanged, and contexts with additions.
use Rattle.std.proofs.Common.{◌≡◌, List, refl, ap, sym, ◌∙◌, Option, Result, Ok, Err}
use Rattle.std.specs.Prelude.{IsErrAnd, OnOk}
use Rattle.type_terms.specs.declared.Fault.{Fault}
use Rattle.infer_table.specs.declared.certainty.EqError.{EqError}
use Rattle.infer_table.specs.declared.certainty.EqError.TheVariants as Eq
use Rattle.infer_table.specs.declared.response.CanonicalResponse.{CanonicalResponse}
use Rattle.goal_evaluator.specs.Context.{Context, NestedGoal}
use Rattle.goal_evaluator.specs.Errors.{eval_error}
use Rattle.goal_evaluator.specs.declared.error.EvalError.{EvalError}
use Rattle.goal_evaluator.specs.declared.error.EvalError.TheVariants as Eval

-- a fault is no refusal
pub no-refusal : {T A : Type 0} (r : Result T EvalError) (x : Fault) → IsErrAnd r (λ y. y ≡ Eval.Fault x) → r ≡ Err Eval.NoSolution → A
no-refusal (Ok y) x h q = absurd h
no-refusal (Err y) x h q = cc

-- an error that is handed on
pub same-error : {T U : Type 0} (s : Result T EvalError) (r : Result U EvalError) (x y : EvalError) → s ≡ Err x → IsErrAnd r (λ z. z ≡ x) → r ≡ Err y → s ≡ Err y
same-error s (Ok z) x y e h q = absurd h
same-error s (Err z) x y e h q = cc

-- the error that an equation was refused with
pub refused-by : {T : Type 0} (error : EqError) (e : EvalError) → e ≡ eval_error error → ◌≡◌ {A = Result T EvalError} (Err e) (Err Eval.NoSolution) → error ≡ Eq.NoSolution
refused-by Eq.NoSolution e h q = refl
refused-by (Eq.Fault fault) e h q = cc

pub on-ok : {T E : Type 0} (P Q : Type 0) (r : Result T E) → (P → Q) → OnOk r P → OnOk r Q
on-ok P Q (Ok x) f h = f h
on-ok P Q (Err e) f h = tt

-- ---- contexts with other goals, or other replies
pub rest-nested : (a b d : Context) (ns : List NestedGoal) → b ≡ record a { nested = b.nested } → d ≡ record b { nested = ns } → d ≡ record a { nested = d.nested }
rest-nested a b d ns e f =
    f ∙ ap (λ (c : Context). record c { nested = ns }) e ∙ ap (λ (z : List NestedGoal). record a { nested = z }) (sym (ap (λ (c : Context). c.nested) f))

pub rest-replies : (a b c d : Context) (rs : List (Option CanonicalResponse)) → b ≡ record a { replies = b.replies; capacity = b.capacity } → c ≡ record b { capacity = c.capacity }
    → d ≡ record c { replies = rs } → d ≡ record a { replies = d.replies; capacity = d.capacity }
rest-replies a b c d rs e f g =
    g ∙ ap (λ (x : Context). record x { replies = rs }) f ∙ ap (λ (x : Context). record x { replies = rs; capacity = c.capacity }) e
    ∙ ap (λ (x : Context). record a { replies = x.replies; capacity = x.capacity }) (sym g)
