-- Small facts that the proofs of several files cite.
use Rattle.std.proofs.Common.{ℕ, Bool, ◌≡◌, true, refl, false}
use Rattle.std.specs.Prelude.{if◌then◌else◌}
use Rattle.type_terms.specs.Promised.Label.{Label, param, of_lifetime, static, bound, fn_ptr, principal}
use Rattle.type_terms.specs.Promised.Trees.{erase_label}
use Rattle.text_lowering.specs.Promised.SeenWorlds.{plain_label}

pub label-erased : (k : ℕ → Bool) (l : Label) → erase_label (plain_label k l) ≡ erase_label l
label-erased k (param of_lifetime i) = by (k i)
  where
    by : (b : Bool) → erase_label (if b then param of_lifetime i else static) ≡ static
    by true = refl
    by false = refl
label-erased k (bound of_lifetime _ _) = refl
label-erased k (fn_ptr _) = refl
label-erased k (principal _ i) = refl
label-erased k l = refl
