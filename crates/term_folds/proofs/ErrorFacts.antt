-- Results that are errors.
use Rattle.std.proofs.Common.{◌≡◌, sym, subst, Result, Ok, Err}
use Rattle.std.specs.Prelude.{IsErrAnd, IfOk, IfErr}

-- an error is not a value
pub no-value : {T E : Type 0} (P : T → Type 0) (made : E → Type 0) (r : Result T E) → IsErrAnd r made → IfOk r P
no-value P made (Ok y) h = absurd h
no-value P made (Err y) h = tt

-- what holds of an error holds of the error that `?` returns
pub same-error : {T E : Type 0} (P : E → Type 0) (x : E) (r : Result T E) → IsErrAnd r (λ y. y ≡ x) → P x → IfErr r P
same-error P x (Ok y) h p = absurd h
same-error P x (Err y) h p = subst P (sym h) p
