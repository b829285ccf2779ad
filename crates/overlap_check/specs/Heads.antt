-- Headers that never become equal.
use Rattle.std.specs.Prelude.{◌≡◌, zero}
use Rattle.type_terms.specs.Promised.Trees.{Trees, erase, instantiate, Fits}

-- No arguments for the parameters make the two terms equal, compared without lifetimes: `V<T>` and `&T`, or `u8` and `bool`.
abbrev pub NeverMeet : Trees → Trees → Type 0
NeverMeet x y = (A B : Trees) → Fits A (erase x) → Fits B (erase y) → instantiate zero A (erase x) ≡ instantiate zero B (erase y) → ⊥
