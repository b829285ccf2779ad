-- Facts of each element of a list with its place, where an element is put behind the others.
use Rattle.std.proofs.Common.{◌≡◌, ℕ, zero, suc, ◌+◌, ◌<◌, ◌≤◌, Bool, true, false, cond, ◌||◌, List, [], ◌∷◌, ◌++◌, length, take, get_or, Some, None, refl, sym, ap, ◌∙◌, subst, arith, ◌⊎◌, inl, inr}
use Rattle.std.proofs.lemmas.Option.{same_Some, slice_get-map}
use Rattle.std.proofs.lemmas.Bool.{cases_Bool}
use Rattle.std.proofs.lemmas.Bool.Decides.{nat_tests}
use Rattle.std.proofs.lemmas.List.Sums.{sum_by-append, sum_by-cons}
use Rattle.std.proofs.lemmas.List.Elements.{filter-append}
use Rattle.std.specs.Prelude.{◌==◌, slice_get, count_by, find, filter, map}
use Rattle.std.specs.Option.{option_map}
use Rattle.std.specs.List.{list_any}
use Rattle.text_tables.specs.Numbered.{EachNumbered}
use Rattle.type_terms.proofs.TypeBasics.{mapped-some as mapped_some}

pub Each-weaken : {A : Type 0} {P Q : ℕ → A → Type 0} (xs : List A) → ((k : ℕ) (x : A) → P k x → Q k x) → EachNumbered P xs → EachNumbered Q xs
Each-weaken xs f h = λ k x e. f k x (h k x e)

-- what stands in a list that has one more
abbrev pub Behind : {A : Type 0} → List A → A → ℕ → A → Type 0
Behind xs x k y = (slice_get xs k ≡ Some y) ⊎ ((k ≡ length xs) × (x ≡ y))

pub slice_get-push : {A : Type 0} (xs : List A) (x : A) (k : ℕ) (y : A) → slice_get (xs ++ x ∷ []) k ≡ Some y → Behind xs x k y
slice_get-push [] x zero y e = inr (refl, same_Some x y e)
slice_get-push [] x (suc k) y e = absurd cc
slice_get-push (z ∷ xs) x zero y e = inl e
slice_get-push (z ∷ xs) x (suc k) y e = elim (slice_get-push xs x k y e) [ inl h ↦ inl h | inr h ↦ inr (ap suc h.0, h.1) ]

pub Each-push : {A : Type 0} {P : ℕ → A → Type 0} (xs : List A) (x : A) → EachNumbered P xs → P (length xs) x → EachNumbered P (xs ++ x ∷ [])
Each-push {P = P} xs x h p = λ k y e. elim (slice_get-push xs x k y e) [ inl g ↦ h k y g | inr g ↦ rw (g.0, ← g.1) p ]

pub Each-of_map : {A B : Type 0} (P : ℕ → B → Type 0) (f : A → B) (xs : List A) → EachNumbered (λ k x. P k (f x)) xs → EachNumbered P (map f xs)
Each-of_map P f xs h = λ k y e. let m = mapped_some f (slice_get xs k) y (sym (slice_get-map f xs k) ∙ e) in rw (← m.2) (h k m.0 m.1)

pub Each-from_map : {A B : Type 0} (P : ℕ → B → Type 0) (f : A → B) (xs : List A) → EachNumbered P (map f xs) → EachNumbered (λ k x. P k (f x)) xs
Each-from_map P f xs h = λ k x e. h k (f x) (slice_get-map f xs k ∙ ap (option_map f) e)

pub below-at : {A : Type 0} (f : A → ℕ) (n : ℕ) (xs : List A) → EachNumbered (λ k x. f x < n) xs → (k : ℕ) (d : A) → k < length xs → f (get_or xs k d) < n
below-at f n [] h k d l = absurd (omega (arith, l))
below-at f n (x ∷ xs) h zero d l = h 0 x refl
below-at f n (x ∷ xs) h (suc k) d l = below-at f n xs (λ j y e. h (suc j) y e) k d (omega (arith, l))

-- what holds of each holds of those that are kept
pub Each-filter : {A : Type 0} (Q : A → Type 0) (p : A → Bool) (xs : List A) → EachNumbered (λ k. Q) xs → EachNumbered (λ k. Q) (filter p xs)
Each-filter Q p [] h = h
Each-filter {A = A} Q p (x ∷ xs) h = by (p x) (Each-filter Q p xs (λ k y e. h (suc k) y e))
  where
    by : (b : Bool) → EachNumbered (λ k. Q) (filter p xs) → EachNumbered (λ k. Q) (cond b (x ∷ filter p xs) (filter p xs))
    by true r zero y e = subst Q (same_Some x y e) (h 0 x refl)
    by true r (suc k) y e = r k y e
    by false r k y e = r k y e

-- Q holds of each, wherever it stands
abbrev pub Every : {A : Type 0} → (A → Type 0) → List A → Type 0
Every Q [] = Unit {0}
Every Q (x ∷ xs) = Q x × Every Q xs

pub Every-from_Each : {A : Type 0} {P : ℕ → A → Type 0} {Q : A → Type 0} (xs : List A) → ((k : ℕ) (x : A) → P k x → Q x) → EachNumbered P xs → Every Q xs
Every-from_Each [] f h = tt
Every-from_Each (x ∷ xs) f h = (f 0 x (h 0 x refl), Every-from_Each xs (λ k y. f (suc k) y) (λ k y e. h (suc k) y e))

pub take-push : {A : Type 0} (xs : List A) (x : A) (k : ℕ) → k ≤ length xs → take k (xs ++ x ∷ []) ≡ take k xs
take-push xs x zero h = refl
take-push [] x (suc k) h = absurd (omega (arith, h))
take-push (y ∷ xs) x (suc k) h = ap (λ r. y ∷ r) (take-push xs x k (omega (arith, h)))

pub take-pushed : {A : Type 0} (xs : List A) (x : A) → take (suc (length xs)) (xs ++ x ∷ []) ≡ xs ++ x ∷ []
take-pushed [] x = refl
take-pushed (y ∷ xs) x = ap (λ r. y ∷ r) (take-pushed xs x)

pub find-some : {A : Type 0} (p : A → Bool) (xs : List A) (x : A) → find p xs ≡ Some x → (k : ℕ) × (slice_get xs k ≡ Some x)
find-some p [] x e = absurd cc
find-some p (y ∷ xs) x e =
    elim (cases_Bool (p y)) [
      | inl h ↦ (0, sym (ap (λ t. cond t (Some y) (find p xs)) h) ∙ e)
      | inr h ↦ let m = find-some p xs x (sym (ap (λ t. cond t (Some y) (find p xs)) h) ∙ e) in (suc m.0, m.1)
    ]

pub count_by-push : {A : Type 0} (p : A → Bool) (xs : List A) (x : A) → count_by p (xs ++ x ∷ []) ≡ count_by p xs + cond (p x) 1 0
count_by-push p xs x = omega (arith, sum_by-append (λ y. cond (p y) 1 0) xs (x ∷ []))

pub count_by-none : {A : Type 0} (p : A → Bool) (xs : List A) → Every (λ x. p x ≡ false) xs → count_by p xs ≡ 0
count_by-none p [] h = refl
count_by-none p (x ∷ xs) h = sum_by-cons (λ y. cond (p y) 1 0) x xs ∙ ap (λ t. cond t 1 0 + count_by p xs) h.0 ∙ omega (arith, count_by-none p xs h.1)

pub count_by-map : {A B : Type 0} (p : B → Bool) (f : A → B) (xs : List A) → count_by p (map f xs) ≡ count_by (λ x. p (f x)) xs
count_by-map p f [] = refl
count_by-map p f (x ∷ xs) = sum_by-cons (λ y. cond (p y) 1 0) (f x) (map f xs) ∙ ap (λ n. cond (p (f x)) 1 0 + n) (count_by-map p f xs) ∙ sym (sum_by-cons (λ y. cond (p (f y)) 1 0) x xs)

pub filter-map : {A B : Type 0} (p : B → Bool) (f : A → B) (xs : List A) → filter p (map f xs) ≡ map f (filter (λ x. p (f x)) xs)
filter-map p f [] = refl
filter-map {A = A} {B = B} p f (x ∷ xs) =
    elim (cases_Bool (p (f x))) [
      | inl h ↦ ap (λ t. cond t (f x ∷ filter p (map f xs)) (filter p (map f xs))) h ∙ ap (λ r. f x ∷ r) (filter-map p f xs) ∙ ap (λ t. map f (cond t (x ∷ filter (λ y. p (f y)) xs) (filter (λ y. p (f y)) xs))) (sym h)
      | inr h ↦ ap (λ t. cond t (f x ∷ filter p (map f xs)) (filter p (map f xs))) h ∙ filter-map p f xs ∙ ap (λ t. map f (cond t (x ∷ filter (λ y. p (f y)) xs) (filter (λ y. p (f y)) xs))) (sym h)
    ]

pub filter-none : {A : Type 0} (p : A → Bool) (xs : List A) → Every (λ x. p x ≡ false) xs → filter p xs ≡ []
filter-none p [] h = refl
filter-none p (x ∷ xs) h = ap (λ t. cond t (x ∷ filter p xs) (filter p xs)) h.0 ∙ filter-none p xs h.1

pub filter-push : {A : Type 0} (p : A → Bool) (xs : List A) (x : A) → filter p (xs ++ x ∷ []) ≡ filter p xs ++ cond (p x) (x ∷ []) []
filter-push p xs x = filter-append p xs (x ∷ [])

pub self-number : (n : ℕ) → (n == n) ≡ true
self-number n = grind (arith, nat_tests)

pub list_any-map : {A B : Type 0} (p : B → Bool) (f : A → B) (xs : List A) → list_any p (map f xs) ≡ list_any (λ x. p (f x)) xs
list_any-map p f [] = refl
list_any-map p f (x ∷ xs) = ap (λ b. p (f x) || b) (list_any-map p f xs)

pub map-map : {A B C : Type 0} (f : B → C) (g : A → B) (xs : List A) → map f (map g xs) ≡ map (λ x. f (g x)) xs
map-map f g [] = refl
map-map f g (x ∷ xs) = ap (λ r. f (g x) ∷ r) (map-map f g xs)

pub take-map : {A B : Type 0} (f : A → B) (k : ℕ) (xs : List A) → take k (map f xs) ≡ map f (take k xs)
take-map f zero xs = refl
take-map f (suc k) [] = refl
take-map f (suc k) (x ∷ xs) = ap (λ r. f x ∷ r) (take-map f k xs)

pub slice_get-there : {A : Type 0} (xs : List A) (k : ℕ) → k < length xs → (x : A) × (slice_get xs k ≡ Some x)
slice_get-there [] k h = absurd (omega (arith, h))
slice_get-there (x ∷ xs) zero h = (x, refl)
slice_get-there (x ∷ xs) (suc k) h = slice_get-there xs k (omega (arith, h))

-- before, at and behind the last of a list
pub data Place {A : Type 0} (xs : List A) (x : A) (k : ℕ) : Type 0 where
  within_list : k < length xs → slice_get (xs ++ x ∷ []) k ≡ slice_get xs k → Place xs x k
  at_end : k ≡ length xs → slice_get (xs ++ x ∷ []) k ≡ Some x → Place xs x k
  past_end : length xs < k → slice_get (xs ++ x ∷ []) k ≡ None → Place xs x k

further : {A : Type 0} (y : A) (ys : List A) (x : A) (k : ℕ) → Place ys x k → Place (y ∷ ys) x (suc k)
further y ys x k (within_list h e) = within_list (omega (arith, h)) e
further y ys x k (at_end h e) = at_end (ap suc h) e
further y ys x k (past_end h e) = past_end (omega (arith, h)) e

pub place_of : {A : Type 0} (xs : List A) (x : A) (k : ℕ) → Place xs x k
place_of [] x zero = at_end refl refl
place_of [] x (suc k) = past_end (omega arith) refl
place_of (y ∷ ys) x zero = within_list (omega arith) refl
place_of (y ∷ ys) x (suc k) = further y ys x k (place_of ys x k)
