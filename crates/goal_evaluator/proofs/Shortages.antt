-- Evaluations that end because the interner is full.
use Rattle.std.proofs.Common.{◌≡◌, ℕ, arith, List, ap, sym, ◌∙◌, inl, inr, Result, Ok, Err}
use Rattle.std.specs.Prelude.{IsErrAnd, IfErr}
use Rattle.type_terms.specs.Promised.Handles.{Entry, types, consts}
use Rattle.type_terms.specs.declared.Fault.{Fault}
use Rattle.type_terms.specs.declared.Fault.TheVariants.{Full, Memory}
use Rattle.type_terms.specs.Promised.Handles.{SomeKindIsFull, full}
use Rattle.infer_table.specs.Raw.{IsFull}
use Rattle.infer_table.specs.declared.certainty.EqError.{EqError}
use Rattle.infer_table.specs.declared.certainty.EqError.TheVariants as Eq
use Rattle.goal_evaluator.specs.Errors.{eval_error}
use Rattle.goal_evaluator.specs.declared.error.EvalError.{EvalError}
use Rattle.goal_evaluator.specs.declared.error.EvalError.TheVariants as Eval

-- ---- errors behind a `?`
-- a fault that is handed on as an evaluation's
pub eval-at-limit : {T A : Type 0} (r : Result T EvalError) {x : Fault} → IsErrAnd r (λ y. y ≡ Eval.Fault x) → (x ≡ Full → A) → IfErr r (λ e. e ≡ Eval.Fault Full → A)
eval-at-limit (Ok y) h f = tt
eval-at-limit (Err y) h f = λ q. f cc

-- an error of an evaluation that is handed on
pub again-at-limit : {T A : Type 0} (r : Result T EvalError) {x : EvalError} → IsErrAnd r (λ y. y ≡ x) → (x ≡ Eval.Fault Full → A) → IfErr r (λ e. e ≡ Eval.Fault Full → A)
again-at-limit (Ok y) h f = tt
again-at-limit (Err y) h f = λ q. f (sym h ∙ q)

-- what fails for want of memory alone
pub never-full : {A : Type 0} {x : Fault} → x ≡ Memory → x ≡ Full → A
never-full m q = cc

-- an error that is handed on
pub handed-as : {T A : Type 0} (r : Result T EvalError) {e x : EvalError} → IsErrAnd r (λ y. y ≡ e) → (e ≡ x → A) → r ≡ Err x → A
handed-as (Ok y) h f q = absurd h
handed-as (Err y) h f q = f cc

pub same-fault : (x : Fault) → Eval.Fault x ≡ Eval.Fault Full → x ≡ Full
same-fault x q = cc

-- the error that an equation was given up with
pub given-up : (error : EqError) (e : EvalError) → e ≡ eval_error error → e ≡ Eval.Fault Full → error ≡ Eq.Fault Full
given-up Eq.NoSolution e h q = cc
given-up (Eq.Fault fault) e h q = cc

-- the interner's table of types or that of constants
pub some-kind : {es : List Entry} {limit : ℕ} → IsFull es limit → SomeKindIsFull es limit
some-kind (inl h) = full types (omega arith) h
some-kind (inr h) = full consts (omega arith) h

pub kind-at-limit : {T : Type 0} (es : List Entry) (limit : ℕ) (r : Result T Fault) → (r ≡ Err Full → IsFull es limit) → IfErr r (λ e. e ≡ Full → SomeKindIsFull es limit)
kind-at-limit es limit (Ok x) h = tt
kind-at-limit es limit (Err e) h = λ q. some-kind (h (ap Err q))
