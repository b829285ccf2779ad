-- Lists of lines, one for each topic.
use Rattle.std.proofs.Common.{◌≡◌, ℕ, zero, suc, ◌+◌, ◌<◌, List, [], ◌∷◌, ◌++◌, length, map, take, Some, ap, ◌∙◌, subst, arith}
use Rattle.std.specs.List.{slice_get, range_with_len, enumerate_from, AllZip}

-- ---- what stands where
pub take-more : {X : Type 0} (xs : List X) (n : ℕ) (x : X) → slice_get xs n ≡ Some x → take (suc n) xs ≡ take n xs ++ x ∷ []
take-more [] n x e = absurd cc
take-more (y ∷ ys) zero x e = ap (λ z. z ∷ []) (same y x e)
  where
    same : {X : Type 0} (a b : X) → Some a ≡ Some b → a ≡ b
    same a b h = cc
take-more (y ∷ ys) (suc n) x e = ap (λ zs. y ∷ zs) (take-more ys n x e)

pub get-range : {X : Type 0} (f : ℕ → X) (a n i : ℕ) → i < n → slice_get (map f (range_with_len a n)) i ≡ Some (f (a + i))
get-range f a zero i h = absurd (omega (arith, h))
get-range f a (suc n) zero h = ap (λ k. Some (f k)) (omega arith)
get-range f a (suc n) (suc i) h = get-range f (a + 1) n i (omega (arith, h)) ∙ ap (λ k. Some (f k)) (omega arith)

pub get-enumerated : {X Y : Type 0} (f : ℕ × Y → X) (a : ℕ) (ys : List Y) (i : ℕ) (y : Y) → slice_get ys i ≡ Some y → slice_get (map f (enumerate_from a ys)) i ≡ Some (f (a + i, y))
get-enumerated f a [] i y e = absurd cc
get-enumerated f a (z ∷ zs) zero y e = ap (λ k. Some (f (k, z))) (omega arith) ∙ ap (λ x. Some (f (a + 0, x))) (same z y e)
  where
    same : {X : Type 0} (b c : X) → Some b ≡ Some c → b ≡ c
    same b c h = cc
get-enumerated f a (z ∷ zs) (suc i) y e = get-enumerated f (a + 1) zs i y e ∙ ap (λ k. Some (f (k, y))) (omega arith)

pub get-behind : {X : Type 0} (xs ys : List X) (n : ℕ) → slice_get (xs ++ ys) (length xs + n) ≡ slice_get ys n
get-behind [] ys n = ap (λ k. slice_get ys k) (omega arith)
get-behind (x ∷ xs) ys n =
    let count : length (x ∷ xs) + n ≡ suc (length xs + n) = omega arith in
    ap (λ k. slice_get (x ∷ (xs ++ ys)) k) count ∙ get-behind xs ys n

-- ---- one for each
pub one-more : {X Y : Type 0} (R : X → Y → Type 0) (xs : List X) (ys : List Y) (x : X) (y : Y) → AllZip R xs ys → R x y → AllZip R (xs ++ x ∷ []) (ys ++ y ∷ [])
one-more R [] [] x y h r = (r, tt)
one-more R [] (z ∷ ys) x y h r = absurd h
one-more R (z ∷ xs) [] x y h r = absurd h
one-more R (z ∷ xs) (w ∷ ys) x y h r = (h.0, one-more R xs ys x y h.1 r)

-- what stands at one place of both is related
pub at-one-place : {X Y : Type 0} (R : X → Y → Type 0) (xs : List X) (ys : List Y) (n : ℕ) (x : X) (y : Y) → AllZip R xs ys → slice_get xs n ≡ Some x → slice_get ys n ≡ Some y → R x y
at-one-place R [] ys n x y h e f = absurd cc
at-one-place R (a ∷ xs) [] n x y h e f = absurd h
at-one-place R (a ∷ xs) (b ∷ ys) zero x y h e f = subst (λ z. R z y) (same a x e) (subst (λ z. R a z) (same b y f) h.0)
  where
    same : {X : Type 0} (c d : X) → Some c ≡ Some d → c ≡ d
    same c d g = cc
at-one-place R (a ∷ xs) (b ∷ ys) (suc n) x y h e f = at-one-place R xs ys n x y h.1 e f
