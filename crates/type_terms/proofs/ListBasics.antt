-- Small facts on lists.
use Rattle.std.proofs.Common.{List, ◌++◌, [], ◌≡◌, refl, ◌∷◌, ap, Bool, length, suc, arith, ℕ, take, drop, map, ◌+◌, ◌||◌, true, ◌<◌, get_or, zero, sym}
use Rattle.std.proofs.lemmas.Grind.{common_steps}
use Rattle.std.proofs.lemmas.List.{reverse-append}
use Rattle.std.proofs.lemmas.Slice.Eq.{bytes_eq-Decides}
use Rattle.std.specs.List.{list_any}
use Rattle.std.specs.Prelude.{reverse}
use Rattle.std.specs.Str.{bytes_eq}

pub append-empty : {A : Type 0} (xs : List A) → xs ++ [] ≡ xs
append-empty [] = refl
append-empty (x ∷ xs) = ap (λ z. x ∷ z) (append-empty xs)

pub append-none : {A : Type 0} (xs : List A) → xs ++ [] ≡ xs
append-none [] = refl
append-none (x ∷ xs) = ap (λ l. x ∷ l) (append-none xs)

pub next : {A : Type 0} (x y : A) (xs ys : List A) → x ≡ y → xs ≡ ys → x ∷ xs ≡ y ∷ ys
next x y xs ys p q = cc

pub pushed-length : (bs : List Bool) (b : Bool) → length (bs ++ b ∷ []) ≡ suc (length bs)
pushed-length [] b = refl
pushed-length (c ∷ bs) b = ap suc (pushed-length bs b)

-- ... where no value is left
pub empty : {A : Type 0} (xs : List A) → length xs ≡ 0 → xs ≡ []
empty [] e = refl
empty (x ∷ xs) e = absurd (omega (arith, e))

pub head : (i j : ℕ) → (j ∷ []) ≡ (i ∷ []) → j ≡ i
head i j e = cc

pub take-drop : {X : Type 0} (n : ℕ) (xs : List X) → take n xs ++ drop n xs ≡ xs
take-drop n xs = grind (arith, common_steps)

pub nothing : {A : Type 0} (xs : List A) → length xs ≡ 0 → xs ≡ []
nothing [] e = refl
nothing (x ∷ xs) e = absurd (omega arith)

pub cons : {A : Type 0} (x y : A) (xs ys : List A) → x ≡ y → xs ≡ ys → x ∷ xs ≡ y ∷ ys
cons x y xs ys e f = cc

pub map-append : {A B : Type 0} (f : A → B) (xs ys : List A) → map f (xs ++ ys) ≡ map f xs ++ map f ys
map-append f [] ys = refl
map-append f (x ∷ xs) ys = ap (λ zs. f x ∷ zs) (map-append f xs ys)

pub map-length : {A B : Type 0} (f : A → B) (xs : List A) → length (map f xs) ≡ length xs
map-length f [] = refl
map-length f (x ∷ xs) = ap suc (map-length f xs)

pub one-more : {A : Type 0} (x y : A) (xs ys : List A) → x ≡ y → xs ≡ ys → ◌≡◌ {A = List A} (x ∷ xs) (y ∷ ys)
one-more x y xs ys e f = cc

pub length-append : {A : Type 0} (xs ys : List A) → length (xs ++ ys) ≡ length xs + length ys
length-append [] ys = omega arith
length-append (x ∷ xs) ys = let e = length-append xs ys in omega (arith, e)

pub empty-is : {A : Type 0} (xs : List A) → length xs ≡ 0 → xs ≡ []
empty-is [] h = refl
empty-is (x ∷ xs) h = absurd (omega (arith, h))

pub append-assoc : {A : Type 0} (xs ys zs : List A) → (xs ++ ys) ++ zs ≡ xs ++ (ys ++ zs)
append-assoc [] ys zs = refl
append-assoc (x ∷ xs) ys zs = ap (λ z. x ∷ z) (append-assoc xs ys zs)

pub any-mapped : {A B : Type 0} (f : B → Bool) (g : A → B) (xs : List A) → list_any f (map g xs) ≡ list_any (λ x. f (g x)) xs
any-mapped f g [] = refl
any-mapped f g (x ∷ xs) = ap (λ b. f (g x) || b) (any-mapped f g xs)

pub same-name : (m n : List ℕ) → bytes_eq m n ≡ true → m ≡ n
same-name m n h = (bytes_eq-Decides m n).0 h

pub next-behind : {A : Type 0} (xs : List A) (i : ℕ) (x : A) → i < length xs → x ≡ get_or xs i x → drop i xs ≡ x ∷ drop (suc i) xs
next-behind [] i x h e = absurd (omega (arith, h))
next-behind (y ∷ xs) zero x h e = ap (λ z. z ∷ xs) (sym e)
next-behind (y ∷ xs) (suc i) x h e = next-behind xs i x (omega (arith, h)) e

pub rev-cons : {A : Type 0} (x : A) (ys : List A) → reverse (x ∷ ys) ≡ reverse ys ++ x ∷ []
rev-cons x ys = reverse-append (x ∷ []) ys

pub first-same : {A : Type 0} (x y : A) (xs ys : List A) → x ∷ xs ≡ y ∷ ys → x ≡ y
first-same x y xs ys e = cc

pub rest-same : {A : Type 0} (x y : A) (xs ys : List A) → x ∷ xs ≡ y ∷ ys → xs ≡ ys
rest-same x y xs ys e = cc

pub take-map : {A B : Type 0} (f : A → B) (n : ℕ) (xs : List A) → take n (map f xs) ≡ map f (take n xs)
take-map f zero xs = refl
take-map f (suc n) [] = refl
take-map f (suc n) (x ∷ xs) = ap (λ zs. f x ∷ zs) (take-map f n xs)

pub two : {A : Type 0} {x y : A} {xs ys : List A} → x ≡ y → xs ≡ ys → x ∷ xs ≡ y ∷ ys
two e f = cc
