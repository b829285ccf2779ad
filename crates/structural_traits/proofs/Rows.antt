-- What rules ask of types that hold one type, with and without lifetimes.
use Rattle.std.proofs.Common.{◌≡◌, ℕ, Bool, [], ◌∷◌, refl, sym, subst}
use Rattle.type_terms.specs.Promised.Label.{Label, of_type, array, slice, ref, raw_pointer}
use Rattle.type_terms.specs.Promised.Trees.{Trees, none, tree, leaf, ◌+++◌, IsA, erase}
use Rattle.type_terms.specs.Promised.Worlds.{World}
use Rattle.type_terms.specs.Promised.Rules.{asked, auto_rules_plain}
use Rattle.structural_traits.specs.Constituents.{premises_of, IsOneRow}

-- the rule with and without lifetimes, of one type
module _ (V W : World) (t : ℕ) where
  -- the rule of s asks x, and without lifetimes it does as well
  pub record Asks (s x : Trees) : Type 0 where
    pub are : premises_of (auto_rules_plain V t s) ≡ (asked t x ∷ []) ∷ []
    pub erased : IsOneRow (auto_rules_plain W t (erase s)) (asked t (erase x) ∷ [])

  pointee : (b : Bool) (x : Trees) → IsA of_type x → Asks (tree (raw_pointer b) x none) x
  pointee b none h = absurd h
  pointee b (tree l c o) h = subst (λ z. Asks (tree (raw_pointer b) (tree l c z) none) (tree l c z)) (sym h.1) (record { are = refl; erased = (tt, refl) })

  referent : (b : Bool) (r : Label) (x : Trees) → IsA of_type x → Asks (tree (ref b) (leaf r +++ x) none) x
  referent b r none h = absurd h
  referent b r (tree l c o) h = subst (λ z. Asks (tree (ref b) (leaf r +++ tree l c z) none) (tree l c z)) (sym h.1) (record { are = refl; erased = (tt, refl) })

  item : (x n : Trees) → IsA of_type x → Asks (tree array (x +++ n) none) x
  item none n h = absurd h
  item (tree l c o) n h = subst (λ z. Asks (tree array (tree l c z +++ n) none) (tree l c z)) (sym h.1) (record { are = refl; erased = (tt, refl) })

  element : (x : Trees) → IsA of_type x → Asks (tree slice x none) x
  element none h = absurd h
  element (tree l c o) h = subst (λ z. Asks (tree slice (tree l c z) none) (tree l c z)) (sym h.1) (record { are = refl; erased = (tt, refl) })

  pub pointee-row : {b : Bool} (s x : Trees) → s ≡ tree (raw_pointer b) x none → IsA of_type x → Asks s x
  pointee-row {b = b} s x e h = subst (λ z. Asks z x) (sym e) (pointee b x h)

  pub referent-row : {b : Bool} {r : Label} (s x : Trees) → s ≡ tree (ref b) (leaf r +++ x) none → IsA of_type x → Asks s x
  referent-row {b = b} {r = r} s x e h = subst (λ z. Asks z x) (sym e) (referent b r x h)

  pub item-row : (s x n : Trees) → s ≡ tree array (x +++ n) none → IsA of_type x → Asks s x
  item-row s x n e h = subst (λ z. Asks z x) (sym e) (item x n h)

  pub element-row : (s x : Trees) → s ≡ tree slice x none → IsA of_type x → Asks s x
  element-row s x e h = subst (λ z. Asks z x) (sym e) (element x h)
