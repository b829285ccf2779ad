-- Indices in lists without duplicates.
use Rattle.std.proofs.Common.{◌≡◌, ℕ, zero, suc, Bool, true, false, List, [], ◌∷◌, ◌++◌, ◌||◌, refl, ap, sym, ◌∙◌, Some, subst, inl, inr, ◌⊎◌, if◌then◌else◌}
use Rattle.std.specs.Bool.{Decides}
use Rattle.std.specs.List.{slice_get, list_any, IsDistinct}
use Rattle.std.proofs.lemmas.Map.Keys.{IsDistinct-head, IsDistinct-tail}
use Rattle.std.proofs.lemmas.Option.{same_Some}
use Rattle.indexmap.specs.IndexSet.{insert_key}
use Rattle.type_terms.proofs.Lists.{all-at}

or-false : (a b : Bool) → (a || b) ≡ false → (a ≡ false) × (b ≡ false)
or-false false b h = (refl, h)
or-false true b h = cc

module _ {X : Type 0} where
  pub kept-at : (xs ys : List X) (i : ℕ) (x : X) → slice_get xs i ≡ Some x → slice_get (xs ++ ys) i ≡ Some x
  kept-at [] ys i x h = cc
  kept-at (y ∷ xs) ys zero x h = h
  kept-at (y ∷ xs) ys (suc i) x h = kept-at xs ys i x h

  old-or-last : (xs : List X) (y : X) (i : ℕ) (x : X) → slice_get (xs ++ y ∷ []) i ≡ Some x → (slice_get xs i ≡ Some x) ⊎ (y ≡ x)
  old-or-last [] y zero x h = inr (same_Some y x h)
  old-or-last [] y (suc i) x h = cc
  old-or-last (z ∷ xs) y zero x h = inl h
  old-or-last (z ∷ xs) y (suc i) x h = old-or-last xs y i x h

  pub none-passes : (p : X → Bool) (xs : List X) → list_any p xs ≡ false → (i : ℕ) (x : X) → slice_get xs i ≡ Some x → p x ≡ false
  none-passes p [] h i x g = cc
  none-passes p (y ∷ xs) h zero x g = subst (λ z. p z ≡ false) (same_Some y x g) (or-false (p y) (list_any p xs) h).0
  none-passes p (y ∷ xs) h (suc i) x g = none-passes p xs (or-false (p y) (list_any p xs) h).1 i x g

  abbrev Passes : (X → Bool) → List X → Type 0
  Passes p xs = (i : ℕ) × (x : X) × (slice_get xs i ≡ Some x) × (p x ≡ true)

  some-passes : (p : X → Bool) (xs : List X) → list_any p xs ≡ true → Passes p xs
  some-passes p [] h = cc
  some-passes p (y ∷ xs) h = by (p y) refl (some-passes p xs)
    where
      by : (b : Bool) → p y ≡ b → (list_any p xs ≡ true → Passes p xs) → Passes p (y ∷ xs)
      by true e rest = (zero, y, refl, e)
      by false e rest = let r = rest (sym (ap (λ c. c || list_any p xs) e) ∙ h) in (suc r.0, r.1, r.2, r.3)

  -- where no value passes, none is found
  pub none-found : (p : X → Bool) (xs : List X) → ((i : ℕ) (x : X) → slice_get xs i ≡ Some x → p x ≡ true → ⊥) → list_any p xs ≡ false
  none-found p xs none = by (list_any p xs) refl
    where
      by : (b : Bool) → list_any p xs ≡ b → b ≡ false
      by false e = refl
      by true e = let r = some-passes p xs e in absurd (none r.0 r.1 r.2 r.3)

module _ {X : Type 0} (eq : X → X → Bool) where
  -- an insertion keeps the places
  pub inserted-keeps : (xs : List X) (v : X) (i : ℕ) (x : X) → slice_get xs i ≡ Some x → slice_get (insert_key eq xs v) i ≡ Some x
  inserted-keeps xs v i x h = by (list_any (eq v) xs)
    where
      by : (b : Bool) → slice_get (if b then xs else xs ++ v ∷ []) i ≡ Some x
      by true = h
      by false = kept-at xs (v ∷ []) i x h

  -- what stands anywhere after it stood there before, or is what was inserted
  pub inserted-is : (xs : List X) (v : X) (i : ℕ) (x : X) → slice_get (insert_key eq xs v) i ≡ Some x → (slice_get xs i ≡ Some x) ⊎ (v ≡ x)
  inserted-is xs v i x h = by (list_any (eq v) xs) h
    where
      by : (b : Bool) → slice_get (if b then xs else xs ++ v ∷ []) i ≡ Some x → (slice_get xs i ≡ Some x) ⊎ (v ≡ x)
      by true g = inl g
      by false g = old-or-last xs v i x g

  pub inserted-adds : (xs : List X) (v : X) → (insert_key eq xs v ≡ xs) ⊎ ((list_any (eq v) xs ≡ false) × (insert_key eq xs v ≡ xs ++ v ∷ []))
  inserted-adds xs v = by (list_any (eq v) xs) refl
    where
      by : (b : Bool) → list_any (eq v) xs ≡ b → (insert_key eq xs v ≡ xs) ⊎ ((list_any (eq v) xs ≡ false) × (insert_key eq xs v ≡ xs ++ v ∷ []))
      by true e = inl (ap (λ c. if c then xs else xs ++ v ∷ []) e)
      by false e = inr (e, ap (λ c. if c then xs else xs ++ v ∷ []) e)

module _ {X : Type 0} (eq : X → X → Bool) (Same : X → X → Type 0) (decides : (x y : X) → Decides (eq x y) (Same x y)) (back : (x y : X) → Same x y → Same y x) where
  -- a value has one place
  pub one-place : (xs : List X) → IsDistinct eq xs → (i j : ℕ) (x y : X) → slice_get xs i ≡ Some x → slice_get xs j ≡ Some y → Same x y → i ≡ j
  one-place [] d i j x y hi hj s = cc
  one-place (z ∷ xs) d zero zero x y hi hj s = refl
  one-place (z ∷ xs) d zero (suc j) x y hi hj s =
      let no : eq z y ≡ false = all-at (λ w. eq z w ≡ false) xs j y (IsDistinct-head eq z xs d) hj in
      let yes : eq z y ≡ true = (decides z y).1 (subst (λ w. Same w y) (sym (same_Some z x hi)) s) in
      cc
  one-place (z ∷ xs) d (suc i) zero x y hi hj s =
      let no : eq z x ≡ false = all-at (λ w. eq z w ≡ false) xs i x (IsDistinct-head eq z xs d) hi in
      let yes : eq z x ≡ true = (decides z x).1 (subst (λ w. Same w x) (sym (same_Some z y hj)) (back x y s)) in
      cc
  one-place (z ∷ xs) d (suc i) (suc j) x y hi hj s = ap suc (one-place xs (IsDistinct-tail eq z xs d) i j x y hi hj s)

  -- a value stands there that is the same
  abbrev pub StandsAt : List X → ℕ → X → Type 0
  StandsAt ks i v = (k : X) × (slice_get ks i ≡ Some k) × Same v k

  pub stands : (ks : List X) (i : ℕ) (v : X) → (k : X) × (slice_get ks i ≡ Some k) × (eq v k ≡ true) → StandsAt ks i v
  stands ks i v p = (p.0, p.1, (decides v p.0).0 p.2)

  -- a value that is not found stands nowhere
  pub stands-nowhere : (ks : List X) (v : X) → list_any (eq v) ks ≡ false → (i : ℕ) → StandsAt ks i v → ⊥
  stands-nowhere ks v none i s =
      let no : eq v s.0 ≡ false = none-passes (eq v) ks none i s.0 s.1 in
      let yes : eq v s.0 ≡ true = (decides v s.0).1 s.2 in
      cc

  -- and one that stands nowhere is not found
  pub not-found : (ks : List X) (v : X) → ((i : ℕ) → StandsAt ks i v → ⊥) → list_any (eq v) ks ≡ false
  not-found ks v new = none-found (eq v) ks (λ i x at e. new i (x, at, (decides v x).0 e))

  module _ (chain : (x y z : X) → Same x y → Same y z → Same x z) where
    -- after an insertion, what was there already is found where it was
    pub found-again : (old new : List X) (v : X) (place : ℕ) → IsDistinct eq new → new ≡ insert_key eq old v → StandsAt new place v → (i : ℕ) → StandsAt old i v → place ≡ i
    found-again old new v place d e p i s =
        one-place new d place i p.0 s.0 p.1 (subst (λ xs. slice_get xs i ≡ Some s.0) (sym e) (inserted-keeps eq old v i s.0 s.1)) (chain p.0 v s.0 (back v p.0 p.2) s.2)
