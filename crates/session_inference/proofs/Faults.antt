-- Errors that `?` hands on.
use Rattle.std.specs.Prelude.{IsErrAnd, OnErr}
use Rattle.std.proofs.Common.{◌≡◌, ◌∙◌, sym, Result, Ok, Err}
use Rattle.session_inference.specs.declared.error.InferenceError.{InferenceError}

pub handed-error : {B : Type 0} (r : Result B InferenceError) (x e : InferenceError) → IsErrAnd r (λ y. y ≡ x) → r ≡ Err e → x ≡ e
handed-error (Ok y) x e h q = absurd h
handed-error (Err y) x e h q = sym h ∙ cc

-- what holds whatever the result is
pub refused-so : {A E : Type 0} (r : Result A E) (P : Type 0) → P → OnErr r P
refused-so (Ok x) P p = tt
refused-so (Err e) P p = p
