-- The smallest number of a true test, found by trying each number in turn.
use Rattle.std.proofs.Common.{◌≡◌, ℕ, zero, suc, ◌+◌, ◌<◌, ◌≤◌, min, Bool, true, false, cond, List, [], ◌∷◌, map, filter, fold, Option, Some, None, refl, ap, subst, ◌∙◌, arith}
use Rattle.std.specs.Prelude.{◌||◌, ◌&&◌, ◌==◌, nat_le, nat_lt}
use Rattle.std.specs.List.{list_any, list_all, reduce}
use Rattle.std.proofs.lemmas.Bool.Decides.{nat_tests}
use Rattle.type_terms.proofs.BooleanBasics.{left-false, right-false}

-- ---- tests
pub or-true : (b : Bool) → b || true ≡ true
or-true true = refl
or-true false = refl

both-true : (a b : Bool) → a && b ≡ true → (a ≡ true) × (b ≡ true)
both-true true b e = (refl, e)
both-true false b e = absurd cc

-- ---- numbers of a list
abbrev Within : ℕ → ℕ → List ℕ → Type 0
Within a b [] = Unit {0}
Within a b (x ∷ xs) = (a ≤ x) × (x < b) × Within a b xs

abbrev pub has : ℕ → List ℕ → Bool
has n xs = list_any (λ x. x == n) xs

abbrev first_from : ℕ → ℕ → List ℕ → Option ℕ
first_from a zero xs = None
first_from a (suc k) xs = cond (has a xs) (Some a) (first_from (suc a) k xs)

fold-below : (m : ℕ) (xs : List ℕ) → fold min m xs ≤ m
fold-below m [] = omega arith
fold-below m (x ∷ xs) = let h : fold min (min m x) xs ≤ min m x = fold-below (min m x) xs in omega arith

fold-above : (a m b : ℕ) (xs : List ℕ) → a ≤ m → Within a b xs → a ≤ fold min m xs
fold-above a m b [] h w = h
fold-above a m b (x ∷ xs) h w = let k : a ≤ x = w.0 in fold-above a (min m x) b xs (omega arith) w.2

pub is-eq : (a x : ℕ) → (x == a) ≡ true → x ≡ a
is-eq a x e = grind (arith, nat_tests)

fold-hits : (a m : ℕ) (xs : List ℕ) → has a xs ≡ true → fold min m xs ≤ a
fold-hits a m [] e = absurd cc
fold-hits a m (x ∷ xs) e = by (x == a) refl e (fold-hits a (min m x) xs)
  where
    by : (b : Bool) → (x == a) ≡ b → b || has a xs ≡ true → (has a xs ≡ true → fold min (min m x) xs ≤ a) → fold min (min m x) xs ≤ a
    by true f g h = let k : fold min (min m x) xs ≤ min m x = fold-below (min m x) xs in let same : x ≡ a = is-eq a x f in omega arith
    by false f g h = h g

past : (a x : ℕ) → (x == a) ≡ false → a ≤ x → suc a ≤ x
past a x e h = grind (arith, nat_tests)

least-here : (a b : ℕ) (xs : List ℕ) → Within a b xs → has a xs ≡ true → reduce min xs ≡ Some a
least-here a b [] w e = absurd cc
least-here a b (x ∷ xs) w e =
    let low : a ≤ fold min x xs = fold-above a x b xs w.0 w.2 in
    let high : fold min x xs ≤ a = by (x == a) refl e in
    let same : fold min x xs ≡ a = omega arith in
    ap (λ n. Some n) same
  where
    by : (c : Bool) → (x == a) ≡ c → c || has a xs ≡ true → fold min x xs ≤ a
    by true f g = let k : fold min x xs ≤ x = fold-below x xs in let same : x ≡ a = is-eq a x f in omega arith
    by false f g = fold-hits a x xs g

later : (a b : ℕ) (xs : List ℕ) → Within a b xs → has a xs ≡ false → Within (suc a) b xs
later a b [] w e = tt
later a b (x ∷ xs) w e = (past a x (left-false (x == a) (has a xs) e) w.0, w.1, later a b xs w.2 (right-false (x == a) (has a xs) e))

pub least-is : (a k : ℕ) (xs : List ℕ) → Within a (a + k) xs → reduce min xs ≡ first_from a k xs
least-is a zero [] w = refl
least-is a zero (x ∷ xs) w = let h : a ≤ x = w.0 in let g : x < a + 0 = w.1 in absurd (omega arith)
least-is a (suc k) xs w = by (has a xs) refl (λ e. least-is (suc a) k xs (subst (λ b. Within (suc a) b xs) moved (later a (a + suc k) xs w e)))
  where
    moved : a + suc k ≡ suc a + k
    moved = omega arith

    by : (b : Bool) → has a xs ≡ b → (has a xs ≡ false → reduce min xs ≡ first_from (suc a) k xs) → reduce min xs ≡ cond b (Some a) (first_from (suc a) k xs)
    by true e h = least-here a (a + suc k) xs w e
    by false e h = h e

-- ---- numbers of tests
abbrev Tests : Type 0
Tests = List (ℕ × Bool)

abbrev pub holds : ℕ → Tests → Bool
holds n ts = list_any (λ t. (t.0 == n) && t.1) ts

abbrev pub numbers : Tests → List ℕ
numbers ts = map (λ t. t.0) (filter (λ t. t.1) ts)

-- the number is from 3 to 16
abbrev pub is_a_number : ℕ × Bool → Bool
is_a_number t = nat_le 3 t.0 && nat_lt t.0 17

has-holds : (n : ℕ) (ts : Tests) → has n (numbers ts) ≡ holds n ts
has-holds n [] = refl
has-holds n ((m, true) ∷ ts) = by (m == n) (has-holds n ts)
  where
    by : (b : Bool) → has n (numbers ts) ≡ holds n ts → b || has n (numbers ts) ≡ (b && true) || holds n ts
    by true e = refl
    by false e = e
has-holds n ((m, false) ∷ ts) = by (m == n) (has-holds n ts)
  where
    by : (b : Bool) → has n (numbers ts) ≡ holds n ts → has n (numbers ts) ≡ (b && false) || holds n ts
    by true e = e
    by false e = e

within : (ts : Tests) → list_all is_a_number ts ≡ true → Within 3 17 (numbers ts)
within [] e = tt
within ((m, true) ∷ ts) e =
    let p = both-true (is_a_number (m, true)) (list_all is_a_number ts) e in
    let q = both-true (nat_le 3 m) (nat_lt m 17) p.0 in
    (low m q.0, high m q.1, within ts p.1)
  where
    low : (m : ℕ) → nat_le 3 m ≡ true → 3 ≤ m
    low m h = grind (arith, nat_tests)

    high : (m : ℕ) → nat_lt m 17 ≡ true → m < 17
    high m h = grind (arith, nat_tests)
within ((m, false) ∷ ts) e = within ts (both-true (is_a_number (m, false)) (list_all is_a_number ts) e).1

-- the first number from 3 on that holds
abbrev pub first_number : (ℕ → Bool) → Option ℕ
first_number h =
    cond (h 3) (Some 3) (cond (h 4) (Some 4) (cond (h 5) (Some 5) (cond (h 6) (Some 6) (cond (h 7) (Some 7) (cond (h 8) (Some 8) (cond (h 9) (Some 9)
    (cond (h 10) (Some 10) (cond (h 11) (Some 11) (cond (h 12) (Some 12) (cond (h 13) (Some 13) (cond (h 14) (Some 14) (cond (h 15) (Some 15) (cond (h 16) (Some 16) None)))))))))))))

abbrev first_that : (ℕ → Bool) → ℕ → ℕ → Option ℕ
first_that h a zero = None
first_that h a (suc k) = cond (h a) (Some a) (first_that h (suc a) k)

first-same : (ts : Tests) (a k : ℕ) → first_from a k (numbers ts) ≡ first_that (λ n. holds n ts) a k
first-same ts a zero = refl
first-same ts a (suc k) =
    ap (λ b. cond b (Some a) (first_from (suc a) k (numbers ts))) (has-holds a ts) ∙ ap (λ x. cond (holds a ts) (Some a) x) (first-same ts (suc a) k)

pub smallest-is : (ts : Tests) → list_all is_a_number ts ≡ true → reduce min (numbers ts) ≡ first_number (λ n. holds n ts)
smallest-is ts e = least-is 3 14 (numbers ts) (within ts e) ∙ first-same ts 3 14
