-- An impl belongs to a crate that is there, in a section or not.
use Rattle.std.proofs.Common.{◌≡◌, ℕ, zero, suc, ◌-◌, ◌<◌, Bool, true, false, if◌then◌else◌, List, [], ◌∷◌, length, refl, arith}
use Rattle.std.specs.Prelude.{slice_get, unwrap_or}
use Rattle.type_terms.specs.Promised.Worlds.{core}
use Rattle.text_language.specs.Promised.Declarations.{Declarations, last_crate, last_changed, impl_owner}
use Rattle.text_tables.specs.Numbered.{EachNumbered, IsNumbered}

small-there : (cs : List ℕ) (n k : ℕ) → EachNumbered (λ i c. c < n) cs → k < length cs → unwrap_or (slice_get cs k) core < n
small-there [] n k h l = absurd (omega (arith, l))
small-there (c ∷ cs) n zero h l = h zero c refl
small-there (c ∷ cs) n (suc k) h l = small-there cs n k (λ i x e. h (suc i) x e) (omega (arith, l))

pub owner-there : (d : Declarations) → IsNumbered d → impl_owner d < length d.crates
owner-there d i = by d.in_section refl
  where
    by : (b : Bool) → d.in_section ≡ b → (if b then last_changed d else last_crate d) < length d.crates
    by true e = let h = i.has_section e in small-there d.sections (length d.crates) (length d.sections - 1) i.sections (omega (arith, h))
    by false e = omega (arith, i.has_core)
