-- The number of members of a list below a rank. It bounds the steps of a recursion in which each step has a smaller
-- rank.
use Rattle.std.proofs.Common.{◌≡◌, ℕ, suc, ◌<◌, ◌≤◌, Bool, true, false, List, [], ◌∷◌, refl, sym, cond, subst, ◌⊎◌, inl, inr, length, arith, ltb}
use Rattle.std.proofs.lemmas.Bool.Decides.{nat_tests}
use Rattle.type_terms.specs.Promised.Proofs.{In}
use Rattle.type_terms.proofs.Members.{in-cases, in-nothing}
use Rattle.type_terms.proofs.NumberBasics.{less-kept}

-- How many of a list stand below a rank
abbrev pub below : {A : Type 0} → (A → ℕ) → ℕ → List A → ℕ
below key r [] = 0
below key r (x ∷ xs) = cond (ltb (key x) r) (suc (below key r xs)) (below key r xs)

pub below-length : {A : Type 0} (key : A → ℕ) (r : ℕ) (xs : List A) → below key r xs ≤ length xs
below-length key r [] = omega arith
below-length key r (x ∷ xs) = by (ltb (key x) r) (below-length key r xs)
  where
    by : (b : Bool) → below key r xs ≤ length xs → cond b (suc (below key r xs)) (below key r xs) ≤ suc (length xs)
    by true h = omega arith
    by false h = omega arith

-- one more, or as many, at a greater rank
step-up : (p q : Bool) (m n : ℕ) → (p ≡ true → q ≡ true) → m ≤ n → cond p (suc m) m ≤ cond q (suc n) n
step-up true true m n f h = omega arith
step-up true false m n f h = let e = f refl in absurd (no e)
  where
    no : false ≡ true → ⊥
    no e = cc
step-up false true m n f h = omega arith
step-up false false m n f h = h

pub below-up : {A : Type 0} (key : A → ℕ) (a b : ℕ) (xs : List A) → a ≤ b → below key a xs ≤ below key b xs
below-up key a b [] h = omega arith
below-up key a b (x ∷ xs) h =
    step-up (ltb (key x) a) (ltb (key x) b) (below key a xs) (below key b xs) (less-kept (key x) a b h) (below-up key a b xs h)

step-strict : (p q : Bool) (m n : ℕ) → (p ≡ true → q ≡ true) → m < n → cond p (suc m) m < cond q (suc n) n
step-strict true true m n f h = omega arith
step-strict true false m n f h = absurd (no (f refl))
  where
    no : false ≡ true → ⊥
    no e = cc
step-strict false true m n f h = omega arith
step-strict false false m n f h = h

step-new : (p q : Bool) (m n : ℕ) → p ≡ false → q ≡ true → m ≤ n → cond p (suc m) m < cond q (suc n) n
step-new true q m n e f h = absurd (no e)
  where
    no : true ≡ false → ⊥
    no e = cc
step-new false true m n e f h = omega arith
step-new false false m n e f h = absurd (no f)
  where
    no : false ≡ true → ⊥
    no e = cc

not-less : (n : ℕ) → ltb n n ≡ false
not-less n = grind (arith, nat_tests)

is-less : (m n : ℕ) → m < n → ltb m n ≡ true
is-less m n h = grind (arith, nat_tests)

le-of-less : (m n : ℕ) → m < n → m ≤ n
le-of-less m n h = omega arith

-- a member of rank a makes the count at a smaller than at any greater b
pub below-strict : {A : Type 0} (key : A → ℕ) (b : ℕ) (xs : List A) (y : A) → In y xs → key y < b → below key (key y) xs < below key b xs
below-strict key b [] y g h = absurd (in-nothing y g)
below-strict {A = A} key b (x ∷ xs) y g h = by (in-cases y x xs g) (below-strict key b xs y)
  where
    a : ℕ
    a = key y

    by : (x ≡ y) ⊎ In y xs → (In y xs → key y < b → below key (key y) xs < below key b xs) → below key a (x ∷ xs) < below key b (x ∷ xs)
    by (inl e) f =
        step-new (ltb (key x) a) (ltb (key x) b) (below key a xs) (below key b xs)
        (subst (λ (z : A). ltb (key z) a ≡ false) (sym e) (not-less a)) (subst (λ (z : A). ltb (key z) b ≡ true) (sym e) (is-less a b h))
        (below-up key a b xs (le-of-less a b h))
    by (inr e) f =
        step-strict (ltb (key x) a) (ltb (key x) b) (below key a xs) (below key b xs)
        (less-kept (key x) a b (le-of-less a b h)) (f e h)
