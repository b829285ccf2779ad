-- Equations that end with a fault.
use Rattle.std.specs.Prelude.{◌≡◌, Result, Ok, Err, IsErrAnd, OnOk}
use Rattle.type_terms.specs.declared.Fault.{Fault}
use Rattle.infer_table.specs.declared.certainty.EqError.{EqError}
use Rattle.infer_table.specs.declared.certainty.EqError.TheVariants as error

-- a fault that is handed on gives nothing
pub not-ok : {T : Type 0} (A : Type 0) (r : Result T EqError) (x : Fault) → IsErrAnd r (λ y. y ≡ error.Fault x) → OnOk r A
not-ok A (Ok y) x h = absurd h
not-ok A (Err y) x h = tt

-- a fault that is handed on is no refusal
pub no-refusal : {T A : Type 0} (r : Result T EqError) (x : Fault) → IsErrAnd r (λ y. y ≡ error.Fault x) → r ≡ Err error.NoSolution → A
no-refusal (Ok y) x h q = absurd h
no-refusal (Err y) x h q = cc
