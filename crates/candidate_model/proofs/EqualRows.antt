-- What the rules of object bounds and upcasts go over, whether one rule stands for all the references that are what is asked or one
-- for each.
use Rattle.std.proofs.Common.{◌≡◌, ℕ, suc, Bool, true, false, ◌&&◌, ◌==◌, if◌then◌else◌, List, [], ◌∷◌, ◌⊎◌, inl, inr, refl, sym, ap}
use Rattle.std.specs.List.{list_any}
use Rattle.type_terms.specs.Promised.Worlds.{World, Reference}
use Rattle.type_terms.specs.Promised.Rules.{BuiltIn, built_in, unsize_dyn, unsize_upcast, Rule, row, equal_rows, same_reference, strict_supertraits, upcasts_principal}
use Rattle.type_terms.specs.Promised.Proofs.{In}
use Rattle.type_terms.proofs.Members.{here, there, in-nothing, in-cases, in-append, some-member}
use Rattle.type_terms.proofs.OpenWorld.{was-true}
use Rattle.type_terms.proofs.Walking.{left, right}

-- one of the references is r
abbrev pub IsOneOf : Reference → List Reference → Type 0
IsOneOf r ss = (s : Reference) × In s ss × (same_reference r s ≡ true)

-- ---- one rule for all
pub one-row : (r : Reference) (ss : List Reference) (b : Bool) (us : List Rule) (u : Rule) → In u (if b && list_any (same_reference r) ss then us else []) → (b ≡ true) × IsOneOf r ss
one-row r ss b us u i =
    let w = was-true (b && list_any (same_reference r) ss) us u i in (left b (list_any (same_reference r) ss) w.0, some-member (same_reference r) ss (right b (list_any (same_reference r) ss) w.0))

-- ---- one rule for each, with its place
pub equal-row : (b : ℕ → BuiltIn) (ps : List Reference) (r : Reference) (k : ℕ) (ss : List Reference) (u : Rule) → In u (equal_rows b ps r k ss) → IsOneOf r ss
equal-row b ps r k [] u i = absurd (in-nothing u i)
equal-row b ps r k (s ∷ ss) u i =
    by (in-append u (if same_reference r s then row (b k) ps else []) (equal_rows b ps r (suc k) ss) i) (λ j. equal-row b ps r (suc k) ss u j)
  where
    by : In u (if same_reference r s then row (b k) ps else []) ⊎ In u (equal_rows b ps r (suc k) ss) → (In u (equal_rows b ps r (suc k) ss) → IsOneOf r ss) → IsOneOf r (s ∷ ss)
    by (inl j) go = (s, here s ss, (was-true (same_reference r s) (row (b k) ps) u j).0)
    by (inr j) go = let m = go j in (m.0, there m.0 s ss m.1, m.2)

-- all rows of a list have one list of premises
pub row-premises : (b : BuiltIn) (ps : List Reference) (u : Rule) → In u (row b ps) → u.premises ≡ ps
row-premises b ps u i = elim (in-cases u (record { way = built_in b; premises = ps }) [] i) [ inl q ↦ sym (ap (λ (x : Rule). x.premises) q) | inr j ↦ absurd (in-nothing u j) ]

pub equal-premises : (b : ℕ → BuiltIn) (ps : List Reference) (r : Reference) (k : ℕ) (ss : List Reference) (u : Rule) → In u (equal_rows b ps r k ss) → u.premises ≡ ps
equal-premises b ps r k [] u i = absurd (in-nothing u i)
equal-premises b ps r k (s ∷ ss) u i =
    elim (in-append u (if same_reference r s then row (b k) ps else []) (equal_rows b ps r (suc k) ss) i) [
      | inl j ↦ row-premises (b k) ps u (was-true (same_reference r s) (row (b k) ps) u j).1
      | inr j ↦ equal-premises b ps r (suc k) ss u j
    ]

pub each-row : (b : ℕ → BuiltIn) (ps : List Reference) (r : Reference) (k : ℕ) (ss : List Reference) (t : Bool) (u : Rule) → In u (if t then equal_rows b ps r k ss else []) → (t ≡ true) × IsOneOf r ss
each-row b ps r k ss t u i = let w = was-true t (equal_rows b ps r k ss) u i in (w.0, equal-row b ps r k ss u w.1)

-- ---- upcasts of principals
-- the target has none, or both are one, or the target's is a supertrait
abbrev pub IsUpcast : World → List Reference → List Reference → Type 0
IsUpcast V ps [] = Unit {0}
IsUpcast V [] (q ∷ qs) = ⊥
IsUpcast V (p ∷ ps) (q ∷ qs) = (((p.trait == q.trait) ≡ true) × (same_reference p q ≡ true)) ⊎ (((p.trait == q.trait) ≡ false) × IsOneOf q (strict_supertraits V p))

-- the rules of an upcast, one for each path to the supertrait
pub upcast-by-rows : (V : World) (ps qs : List Reference) (u : Rule) → In u (upcasts_principal V ps qs) → IsUpcast V ps qs
upcast-by-rows V ps [] u i = tt
upcast-by-rows V [] (q ∷ qs) u i = in-nothing u i
upcast-by-rows V (p ∷ ps) (q ∷ qs) u i = by (p.trait == q.trait) refl i
  where
    by : (b : Bool) → (p.trait == q.trait) ≡ b → In u (if b then (if same_reference p q then row unsize_dyn [] else []) else equal_rows unsize_upcast [] q 1 (strict_supertraits V p)) → IsUpcast V (p ∷ ps) (q ∷ qs)
    by true f j = inl (f, (was-true (same_reference p q) (row unsize_dyn []) u j).0)
    by false f j = inr (f, equal-row unsize_upcast [] q 1 (strict_supertraits V p) u j)
