-- Members of lists, as the definitions name them.
use Rattle.std.proofs.Common.{◌≡◌, ℕ, zero, suc, Bool, true, false, List, [], ◌∷◌, ◌++◌, refl, ap, sym, ◌∙◌, ◌||◌, ◌==◌, cond, subst, ◌⊎◌, inl, inr, map, filter, arith}
use Rattle.std.proofs.lemmas.Bool.Decides.{nat_tests}
use Rattle.std.specs.List.{flat_map, list_any}
use Rattle.type_terms.specs.Promised.Proofs.{In}

pub here : {A : Type 0} (x : A) (xs : List A) → In x (x ∷ xs)
here x xs = (0, refl)

pub there : {A : Type 0} (x y : A) (xs : List A) → In x xs → In x (y ∷ xs)
there x y xs h = (suc h.0, h.1)

pub in-cases : {A : Type 0} (x y : A) (xs : List A) → In x (y ∷ xs) → (y ≡ x) ⊎ In x xs
in-cases x y xs (zero, e) = inl cc
in-cases x y xs (suc k, e) = inr (k, e)

pub in-nothing : {A : Type 0} (x : A) → In x [] → ⊥
in-nothing x h = cc (h.1)

pub same-number : (x y : ℕ) → (x == y) ≡ true → x ≡ y
same-number x y h = grind (arith, nat_tests)

pub self-number : (x : ℕ) → (x == x) ≡ true
self-number x = grind (arith, nat_tests)

pub true-or-false : (b : Bool) → (b ≡ true) ⊎ (b ≡ false)
true-or-false true = inl refl
true-or-false false = inr refl

pub not-both : (b : Bool) → b ≡ true → b ≡ false → ⊥
not-both b h g = cc

pub so-false : (b : Bool) → (b ≡ true → ⊥) → b ≡ false
so-false true h = absurd (h refl)
so-false false h = refl

pub some-member : {A : Type 0} (p : A → Bool) (xs : List A) → list_any p xs ≡ true → (x : A) × In x xs × (p x ≡ true)
some-member p [] h = cc
some-member {A = A} p (x ∷ xs) h = by (true-or-false (p x)) (some-member p xs)
  where
    rest : (b : Bool) → b || list_any p xs ≡ true → b ≡ false → list_any p xs ≡ true
    rest true h e = cc
    rest false h e = h

    by : (p x ≡ true) ⊎ (p x ≡ false) → (list_any p xs ≡ true → (y : A) × In y xs × (p y ≡ true)) → (y : A) × In y (x ∷ xs) × (p y ≡ true)
    by (inl e) f = (x, here x xs, e)
    by (inr e) f = let r = f (rest (p x) h e) in (r.0, there r.0 x xs r.1, r.2)

pub member-some : {A : Type 0} (p : A → Bool) (xs : List A) (x : A) → In x xs → p x ≡ true → list_any p xs ≡ true
member-some p [] x h e = absurd (in-nothing x h)
member-some p (y ∷ xs) x h e = by (in-cases x y xs h) (member-some p xs x)
  where
    orl : (a b : Bool) → a ≡ true → a || b ≡ true
    orl true b g = refl
    orl false b g = cc

    orr : (a b : Bool) → b ≡ true → a || b ≡ true
    orr true b g = refl
    orr false b g = g

    by : (y ≡ x) ⊎ In x xs → (In x xs → p x ≡ true → list_any p xs ≡ true) → p y || list_any p xs ≡ true
    by (inl q) f = orl (p y) _ (ap p q ∙ e)
    by (inr q) f = orr (p y) _ (f q e)

pub in-filter : {A : Type 0} (p : A → Bool) (xs : List A) (x : A) → In x (filter p xs) → In x xs × (p x ≡ true)
in-filter p [] x h = absurd (in-nothing x h)
in-filter p (y ∷ xs) x h = by (p y) refl h (in-filter p xs x)
  where
    by : (b : Bool) → p y ≡ b → In x (cond b (y ∷ filter p xs) (filter p xs)) → (In x (filter p xs) → In x xs × (p x ≡ true)) → In x (y ∷ xs) × (p x ≡ true)
    by true e g f = pick (in-cases x y (filter p xs) g)
      where
        pick : (y ≡ x) ⊎ In x (filter p xs) → In x (y ∷ xs) × (p x ≡ true)
        pick (inl q) = (subst (λ z. In z (y ∷ xs)) q (here y xs), ap p (sym q) ∙ e)
        pick (inr q) = let r = f q in (there x y xs r.0, r.1)
    by false e g f = let r = f g in (there x y xs r.0, r.1)

pub filter-in : {A : Type 0} (p : A → Bool) (xs : List A) (x : A) → In x xs → p x ≡ true → In x (filter p xs)
filter-in p [] x h e = absurd (in-nothing x h)
filter-in p (y ∷ xs) x h e = by (p y) refl (in-cases x y xs h) (filter-in p xs x)
  where
    by : (b : Bool) → p y ≡ b → (y ≡ x) ⊎ In x xs → (In x xs → p x ≡ true → In x (filter p xs)) → In x (cond b (y ∷ filter p xs) (filter p xs))
    by true q (inl g) f = subst (λ z. In z (y ∷ filter p xs)) g (here y (filter p xs))
    by true q (inr g) f = there x y (filter p xs) (f g e)
    by false q (inl g) f = absurd (not-both (p y) (ap p g ∙ e) q)
    by false q (inr g) f = f g e

pub in-append : {A : Type 0} (x : A) (xs ys : List A) → In x (xs ++ ys) → In x xs ⊎ In x ys
in-append x [] ys h = inr h
in-append x (y ∷ xs) ys h = by (in-cases x y (xs ++ ys) h) (in-append x xs ys)
  where
    by : (y ≡ x) ⊎ In x (xs ++ ys) → (In x (xs ++ ys) → In x xs ⊎ In x ys) → In x (y ∷ xs) ⊎ In x ys
    by (inl q) f = inl (subst (λ z. In z (y ∷ xs)) q (here y xs))
    by (inr q) f = pick (f q)
      where
        pick : In x xs ⊎ In x ys → In x (y ∷ xs) ⊎ In x ys
        pick (inl g) = inl (there x y xs g)
        pick (inr g) = inr g

pub in-left : {A : Type 0} (x : A) (xs ys : List A) → In x xs → In x (xs ++ ys)
in-left x [] ys h = absurd (in-nothing x h)
in-left x (y ∷ xs) ys h = by (in-cases x y xs h) (in-left x xs ys)
  where
    by : (y ≡ x) ⊎ In x xs → (In x xs → In x (xs ++ ys)) → In x (y ∷ (xs ++ ys))
    by (inl q) f = subst (λ z. In z (y ∷ (xs ++ ys))) q (here y (xs ++ ys))
    by (inr q) f = there x y (xs ++ ys) (f q)

pub in-right : {A : Type 0} (x : A) (xs ys : List A) → In x ys → In x (xs ++ ys)
in-right x [] ys h = h
in-right x (y ∷ xs) ys h = there x y (xs ++ ys) (in-right x xs ys h)

pub in-flat : {A B : Type 0} (f : A → List B) (xs : List A) (y : B) → In y (flat_map f xs) → (x : A) × In x xs × In y (f x)
in-flat f [] y h = absurd (in-nothing y h)
in-flat {A = A} f (x ∷ xs) y h = by (in-append y (f x) (flat_map f xs) h) (in-flat f xs y)
  where
    by : In y (f x) ⊎ In y (flat_map f xs) → (In y (flat_map f xs) → (z : A) × In z xs × In y (f z)) → (z : A) × In z (x ∷ xs) × In y (f z)
    by (inl q) g = (x, here x xs, q)
    by (inr q) g = let r = g q in (r.0, there r.0 x xs r.1, r.2)

pub flat-in : {A B : Type 0} (f : A → List B) (xs : List A) (x : A) (y : B) → In x xs → In y (f x) → In y (flat_map f xs)
flat-in f [] x y h g = absurd (in-nothing x h)
flat-in f (z ∷ xs) x y h g = by (in-cases x z xs h) (flat-in f xs x y)
  where
    by : (z ≡ x) ⊎ In x xs → (In x xs → In y (f x) → In y (flat_map f xs)) → In y (f z ++ flat_map f xs)
    by (inl q) k = in-left y (f z) (flat_map f xs) (subst (λ w. In y (f w)) (sym q) g)
    by (inr q) k = in-right y (f z) (flat_map f xs) (k q g)

pub in-map : {A B : Type 0} (f : A → B) (xs : List A) (x : A) → In x xs → In (f x) (map f xs)
in-map f [] x h = absurd (in-nothing x h)
in-map f (y ∷ xs) x h = by (in-cases x y xs h) (in-map f xs x)
  where
    by : (y ≡ x) ⊎ In x xs → (In x xs → In (f x) (map f xs)) → In (f x) (f y ∷ map f xs)
    by (inl q) k = subst (λ w. In (f w) (f y ∷ map f xs)) q (here (f y) (map f xs))
    by (inr q) k = there (f x) (f y) (map f xs) (k q)
