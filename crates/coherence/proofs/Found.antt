-- What is found in a list by a test, and what stands at the place of its number.
use Rattle.std.proofs.Common.{◌≡◌, ℕ, zero, suc, ◌+◌, Bool, true, false, ◌&&◌, List, [], ◌∷◌, ◌++◌, length, Option, Some, None, sym, ap, ◌∙◌, refl, subst, arith, if◌then◌else◌}
use Rattle.std.proofs.lemmas.Bool.{eqb-true}
use Rattle.std.proofs.lemmas.List.Folds.{find-append}
use Rattle.std.proofs.lemmas.Option.{same_Some}
use Rattle.std.specs.Prelude.{slice_get, find, ◌==◌}
use Rattle.std.specs.Option.{option_or}
use Rattle.sessions.specs.TypeTerms.Promised.Proofs.{In}
use Rattle.sessions.proofs.TypeTerms.Members.{here, there}
use Rattle.sessions.proofs.TypeTerms.Walking.{left, right}

-- ---- what is found
pub found-more : {A : Type 0} (f : A → Bool) (xs ys : List A) (x : A) → find f xs ≡ Some x → find f (xs ++ ys) ≡ Some x
found-more f xs ys x h = find-append f xs ys ∙ ap (λ o. option_or o (find f ys)) h

-- one more behind those in which nothing is found
pub none-found : {A : Type 0} (f : A → Bool) (xs : List A) (y : A) (o : Option A) → find f xs ≡ None → find f (y ∷ []) ≡ o → find f (xs ++ y ∷ []) ≡ o
none-found f xs y o h e = find-append f xs (y ∷ []) ∙ ap (λ p. option_or p (find f (y ∷ []))) h ∙ e

pub found-in : {A : Type 0} (f : A → Bool) (xs : List A) (x : A) → find f xs ≡ Some x → In x xs × (f x ≡ true)
found-in f [] x h = absurd cc
found-in f (y ∷ xs) x h = by (f y) refl h (found-in f xs x)
  where
    by : (b : Bool) → f y ≡ b → (if b then Some y else find f xs) ≡ Some x → (find f xs ≡ Some x → In x xs × (f x ≡ true)) → In x (y ∷ xs) × (f x ≡ true)
    by true e q g = let s = same_Some y x q in (subst (λ z. In z (y ∷ xs)) s (here y xs), subst (λ z. f z ≡ true) s e)
    by false e q g = let r = g q in (there x y xs r.0, r.1)

pub found-one : {A : Type 0} (o : Option A) (x y : A) → o ≡ Some x → o ≡ Some y → x ≡ y
found-one o x y e f = same_Some x y (sym e ∙ f)

-- ---- places
-- Each stands at the place of its number.
abbrev pub ArePlaced : {A : Type 0} → (A → ℕ) → List A → Type 0
ArePlaced {A = A} number xs = (k : ℕ) (x : A) → slice_get xs k ≡ Some x → number x ≡ k

pub placed-in : {A : Type 0} (number : A → ℕ) (xs : List A) (x : A) → ArePlaced number xs → In x xs → slice_get xs (number x) ≡ Some x
placed-in number xs x p i = subst (λ k. slice_get xs k ≡ Some x) (sym (p i.0 x i.1)) i.1

-- the numbers rise one by one from n
abbrev pub rise_from : {A : Type 0} → (A → ℕ) → ℕ → List A → Bool
rise_from number n [] = true
rise_from number n (x ∷ xs) = (number x == n) && rise_from number (suc n) xs

one-more : (a b : ℕ) → suc a + b ≡ a + suc b
one-more a b = omega arith

risen : {A : Type 0} (number : A → ℕ) (n : ℕ) (xs : List A) → rise_from number n xs ≡ true → (k : ℕ) (x : A) → slice_get xs k ≡ Some x → number x ≡ n + k
risen number n [] h k x e = absurd cc
risen number n (y ∷ xs) h zero x e = ap number (sym (same_Some y x e)) ∙ eqb-true (number y) n (left (number y == n) _ h) ∙ plus-zero n
  where
    plus-zero : (m : ℕ) → m ≡ m + 0
    plus-zero m = omega arith
risen number n (y ∷ xs) h (suc k) x e = risen number (suc n) xs (right (number y == n) _ h) k x e ∙ one-more n k

pub placed-so : {A : Type 0} (number : A → ℕ) (xs : List A) → rise_from number 0 xs ≡ true → ArePlaced number xs
placed-so number xs h k x e = risen number 0 xs h k x e ∙ zero-more k
  where
    zero-more : (n : ℕ) → 0 + n ≡ n
    zero-more n = omega arith

-- the last one has the number of those before it
pushed-from : {A : Type 0} (number : A → ℕ) (n : ℕ) (xs : List A) (x : A) → ((k : ℕ) (y : A) → slice_get xs k ≡ Some y → number y ≡ n + k) → number x ≡ n + length xs
    → (k : ℕ) (y : A) → slice_get (xs ++ x ∷ []) k ≡ Some y → number y ≡ n + k
pushed-from number n [] x h p zero y e = ap number (sym (same_Some x y e)) ∙ p
pushed-from number n [] x h p (suc k) y e = absurd cc
pushed-from number n (z ∷ zs) x h p zero y e = h zero y e
pushed-from number n (z ∷ zs) x h p (suc k) y e =
    pushed-from number (suc n) zs x (λ j w q. h (suc j) w q ∙ sym (one-more n j)) (p ∙ sym (one-more n (length zs))) k y e ∙ one-more n k

pub placed-more : {A : Type 0} (number : A → ℕ) (xs : List A) (x : A) → ArePlaced number xs → number x ≡ length xs → ArePlaced number (xs ++ x ∷ [])
placed-more number xs x h p k y e = pushed-from number 0 xs x (λ j z q. h j z q ∙ zero-more j) (p ∙ zero-more (length xs)) k y e ∙ sym (zero-more k)
  where
    zero-more : (n : ℕ) → n ≡ 0 + n
    zero-more n = omega arith
