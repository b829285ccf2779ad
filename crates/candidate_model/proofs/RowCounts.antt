-- The traits of `core` are apart, so that at most one of their built-in rules has candidates for a goal.
use Rattle.std.proofs.Common.{◌≡◌, ℕ, zero, ◌+◌, ◌≤◌, Bool, true, false, ◌||◌, ◌==◌, if◌then◌else◌, refl, sym, subst, arith}
use Rattle.type_terms.specs.Promised.Rules.{sized, clone, copy, fn_once, fn_mut, fn_shared, is_fn_trait, unsize}
use Rattle.type_terms.proofs.BooleanBasics.{true-false}
use Rattle.type_terms.proofs.Members.{same-number}

abbrev is_copied : ℕ → Bool
is_copied t = (t == copy) || (t == clone)

-- `Sized` is none of the others
sized-alone : (t : ℕ) → (t == sized) ≡ true → (is_copied t ≡ false) × (is_fn_trait t ≡ false) × ((t == unsize) ≡ false)
sized-alone t e = subst (λ z. (is_copied z ≡ false) × (is_fn_trait z ≡ false) × ((z == unsize) ≡ false)) (sym (same-number t sized e)) (refl, refl, refl)

-- nor are `Copy` and `Clone`
copied-alone : (t : ℕ) → is_copied t ≡ true → (is_fn_trait t ≡ false) × ((t == unsize) ≡ false)
copied-alone t e = by (t == copy) (t == clone) refl refl e
  where
    at : (n : ℕ) → (t == n) ≡ true → (is_fn_trait n ≡ false) × ((n == unsize) ≡ false) → (is_fn_trait t ≡ false) × ((t == unsize) ≡ false)
    at n f h = subst (λ z. (is_fn_trait z ≡ false) × ((z == unsize) ≡ false)) (sym (same-number t n f)) h

    by : (p q : Bool) → (t == copy) ≡ p → (t == clone) ≡ q → p || q ≡ true → (is_fn_trait t ≡ false) × ((t == unsize) ≡ false)
    by true q f g h = at copy f (refl, refl)
    by false true f g h = at clone g (refl, refl)
    by false false f g h = absurd (true-false (sym h))

-- nor are those of calls
called-alone : (t : ℕ) → is_fn_trait t ≡ true → (t == unsize) ≡ false
called-alone t e = by (t == fn_once) (t == fn_mut) (t == fn_shared) refl refl refl e
  where
    at : (n : ℕ) → (t == n) ≡ true → (n == unsize) ≡ false → (t == unsize) ≡ false
    at n f h = subst (λ z. (z == unsize) ≡ false) (sym (same-number t n f)) h

    by : (p q r : Bool) → (t == fn_once) ≡ p → (t == fn_mut) ≡ q → (t == fn_shared) ≡ r → p || (q || r) ≡ true → (t == unsize) ≡ false
    by true q r f g h i = at fn_once f refl
    by false true r f g h i = at fn_mut g refl
    by false false true f g h i = at fn_shared h refl
    by false false false f g h i = absurd (true-false (sym i))

-- so these numbers count once
pub one-of-core : (t w : ℕ)
    → (if t == sized then 1 else zero) + ((if (t == copy) || (t == clone) then w else zero) + ((if is_fn_trait t then 1 else zero) + (if t == unsize then w + 2 else zero))) ≤ w + 2
one-of-core t w = by (t == sized) (is_copied t) (is_fn_trait t) (t == unsize) (sized-alone t) (copied-alone t) (called-alone t)
  where
    by : (p q r s : Bool) → (p ≡ true → (q ≡ false) × (r ≡ false) × (s ≡ false)) → (q ≡ true → (r ≡ false) × (s ≡ false)) → (r ≡ true → s ≡ false)
        → (if p then 1 else zero) + ((if q then w else zero) + ((if r then 1 else zero) + (if s then w + 2 else zero))) ≤ w + 2
    by true true r s f g h = absurd (true-false (f refl).0)
    by true false true s f g h = absurd (true-false (f refl).1)
    by true false false true f g h = absurd (true-false (f refl).2)
    by true false false false f g h = omega arith
    by false true true s f g h = absurd (true-false (g refl).0)
    by false true false true f g h = absurd (true-false (g refl).1)
    by false true false false f g h = omega arith
    by false false true true f g h = absurd (true-false (h refl))
    by false false true false f g h = omega arith
    by false false false true f g h = omega arith
    by false false false false f g h = omega arith
