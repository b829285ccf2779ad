-- If a call failed, a claim about its result says nothing.
use Rattle.std.proofs.Common.{◌≡◌, Result, Ok, Err, ◌⊎◌, inr}
use Rattle.std.specs.Result.{IfOk, OnOk}
use Rattle.search_graph.proofs.Errors.{ok_not_err}

pub IfOk-err : {T E : Type 0} (P : T → Type 0) (r : Result T E) (y : E) → r ≡ Err y → IfOk r P
IfOk-err P (Ok x) y h = absurd (ok_not_err x y h)
IfOk-err P (Err e) y h = tt

pub OnOk-err : {T E : Type 0} (P : Type 0) (r : Result T E) (y : E) → r ≡ Err y → OnOk r P
OnOk-err P (Ok x) y h = absurd (ok_not_err x y h)
OnOk-err P (Err e) y h = tt

-- what holds of any answer
pub IfOk-or : {T E : Type 0} (Q : T → Type 0) (P : Type 0) (r : Result T E) → OnOk r P → IfOk r (λ x. Q x ⊎ P)
IfOk-or Q P (Ok x) h = inr h
IfOk-or Q P (Err e) h = tt
