-- How the merge is found.
use Rattle.std.proofs.Common.{◌≡◌, ℕ, ◌<◌, ◌≤◌, Bool, true, false, nat_lt, cond, ◌-◌, take, drop, List, [], ◌∷◌, length, get_or, slice_get, Some, None, position, find, option_map, inl, inr, refl, sym, ◌∙◌, ap, arith}
use Rattle.std.specs.List.{position_or_len, list_all}
use Rattle.std.proofs.lemmas.Grind.{common_steps}
use Rattle.std.proofs.lemmas.Bool.Decides.{nat_tests}
use Rattle.std.proofs.lemmas.List.Folds.{find_at}
use Rattle.std.proofs.lemmas.Option.{slice_get-get_or, slice_get_cases}
use Rattle.goal_evaluator.specs.Merge.{merge_by}

module _ {X : Type 0} (p : X → Bool) where
  at-place : (xs : List X) (i : ℕ) → position p xs ≡ Some i → find p xs ≡ slice_get xs i
  at-place xs i e = by (nat_lt (position_or_len p xs) (length xs)) e
    where
      by : (b : Bool) → cond b (Some (position_or_len p xs)) None ≡ Some i → find p xs ≡ slice_get xs i
      by true f = let same : position_or_len p xs ≡ i = cc in find_at p xs ∙ ap (slice_get xs) same
      by false f = absurd (cc)

  past : (xs : List X) (n : ℕ) → nat_lt n (length xs) ≡ false → slice_get xs n ≡ None
  past xs n e = elim ((slice_get_cases xs n).1) [
    | inl a ↦ (let l = a.1 in absurd (not-below n (length xs) l e))
    | inr b ↦ b.1
  ]
    where
      not-below : (m n : ℕ) → m < n → nat_lt m n ≡ false → ⊥
      not-below m n l f = grind (arith, nat_tests)

  nowhere : (xs : List X) → position p xs ≡ None → find p xs ≡ None
  nowhere xs e = by (nat_lt (position_or_len p xs) (length xs)) refl e
    where
      by : (b : Bool) → nat_lt (position_or_len p xs) (length xs) ≡ b → cond b (Some (position_or_len p xs)) None ≡ None → find p xs ≡ None
      by true l f = absurd (cc)
      by false l f = find_at p xs ∙ past xs (position_or_len p xs) l

  module _ {C : Type 0} (content : X → C) (same : X → X → Bool) where
    inside : (xs : List X) (i : ℕ) → Some i ≡ position p xs → i < length xs
    inside xs i e = by (nat_lt (position_or_len p xs) (length xs)) refl e
      where
        below : (n : ℕ) → nat_lt n (length xs) ≡ true → n ≡ i → i < length xs
        below n l f = grind (arith, nat_tests)

        by : (b : Bool) → nat_lt (position_or_len p xs) (length xs) ≡ b → Some i ≡ cond b (Some (position_or_len p xs)) None → i < length xs
        by true l f = let same : position_or_len p xs ≡ i = cc in below (position_or_len p xs) l same
        by false l f = absurd (cc)

    -- the first that is always applicable
    pub takes-first : (xs : List X) (i : ℕ) (y z : X) → Some i ≡ position p xs → y ≡ get_or xs i y → content z ≡ content y → Some (content z) ≡ option_map content (merge_by p same xs)
    takes-first xs i y z e a f =
        let found : find p xs ≡ Some y = at-place xs i (sym e) ∙ slice_get-get_or xs i y (inside xs i e) ∙ ap Some (sym a) in
        rw (found, f) refl

    -- the rest of a list, as a slice pattern gives it
    after-first : (x : X) (xs : List X) → take (length (x ∷ xs) - 1) (drop 1 (x ∷ xs)) ≡ xs
    after-first x xs = grind (arith, common_steps)

    -- the one that all are
    pub takes-common : (xs : List X) (f y : X) → None ≡ position p xs → 1 ≤ length xs → f ≡ get_or xs 0 f → true ≡ list_all (same f) (take (length xs - 1) (drop 1 xs)) → content y ≡ content f
        → Some (content y) ≡ option_map content (merge_by p same xs)
    takes-common [] f y e l i a c = absurd (omega (arith, l))
    takes-common (x ∷ xs) f y e l i a c =
        let none = nowhere (x ∷ xs) (sym e) in
        let all : list_all (same x) xs ≡ true = sym (a ∙ ap (list_all (same f)) (after-first x xs) ∙ ap (λ z. list_all (same z) xs) i) in
        rw (none, all, c, i) refl

    pub takes-none : (xs : List X) (f : X) → None ≡ position p xs → 1 ≤ length xs → f ≡ get_or xs 0 f → false ≡ list_all (same f) (take (length xs - 1) (drop 1 xs))
        → None ≡ option_map content (merge_by p same xs)
    takes-none [] f e l i a = absurd (omega (arith, l))
    takes-none (x ∷ xs) f e l i a =
        let none = nowhere (x ∷ xs) (sym e) in
        let all : list_all (same x) xs ≡ false = sym (a ∙ ap (list_all (same f)) (after-first x xs) ∙ ap (λ z. list_all (same z) xs) i) in
        rw (none, all) refl
