-- The kind of a variable of a canonical form.
use Rattle.std.proofs.Common.{◌≡◌, ℕ, zero, suc, List, [], ◌∷◌, refl}
use Rattle.std.specs.List.{slice_get}
use Rattle.infer_table.specs.declared.canonical.CanonicalVarKind.{CanonicalVarKind}
use Rattle.goal_evaluator.specs.FrameTables.{kind_at}

pub kind-found : (ks : List CanonicalVarKind) (i : ℕ) → slice_get ks i ≡ kind_at ks i
kind-found [] zero = refl
kind-found [] (suc i) = refl
kind-found (k ∷ ks) zero = refl
kind-found (k ∷ ks) (suc i) = kind-found ks i
