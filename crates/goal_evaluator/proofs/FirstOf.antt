-- Properties of the first element and the rest of a list, and of results that are returned unchanged.
use Rattle.std.proofs.Common.{◌≡◌, ◌-◌, ◌<◌, ◌≤◌, Bool, true, false, not, ◌&&◌, ◌⊎◌, ◌||◌, inl, inr, arith, List, [], ◌∷◌, length, get_or, take, drop, refl, sym, ◌∙◌, ap, subst, Result, Ok, Err}
use Rattle.std.specs.Prelude.{IsErrAnd}
use Rattle.std.proofs.lemmas.Grind.{common_steps}

take-whole : {A : Type 0} (x : A) (xs : List A) → take (length (x ∷ xs) - 1) (drop 1 (x ∷ xs)) ≡ xs
take-whole x xs = grind (arith, common_steps)

cut : {A : Type 0} (xs : List A) (d : A) → 1 ≤ length xs → xs ≡ get_or xs 0 d ∷ take (length xs - 1) (drop 1 xs)
cut [] d h = absurd (omega arith)
cut (x ∷ xs) d h = ap (λ z. x ∷ z) (sym (take-whole x xs))

pub first-rest : {A : Type 0} (xs : List A) (x : A) → 1 ≤ length xs → x ≡ get_or xs 0 x → xs ≡ x ∷ take (length xs - 1) (drop 1 xs)
first-rest xs x h e = cut xs x h ∙ ap (λ z. z ∷ take (length xs - 1) (drop 1 xs)) (sym e)

pub rest-shorter : {A : Type 0} (xs : List A) → 1 ≤ length xs → length (take (length xs - 1) (drop 1 xs)) < length xs
rest-shorter [] h = absurd (omega arith)
rest-shorter (x ∷ xs) h = let e = ap length (take-whole x xs) in omega (arith, e)

pub handed : {T E : Type 0} (P : Result T E → Type 0) (r : Result T E) (x : E) → IsErrAnd r (λ y. y ≡ x) → P (Err x) → P r
handed P (Ok y) x h p = absurd h
handed P (Err y) x h p = subst (λ e. P (Err e)) (sym h) p

pub both-yes : (a b c d : Bool) → a ≡ c → b ≡ d → a ≡ true → b ≡ false → (c && not d) ≡ true
both-yes a b true false e f g h = refl
both-yes a b true true e f g h = cc
both-yes a b false d e f g h = cc

pub not-both : (a b c d : Bool) → a ≡ c → b ≡ d → (a ≡ false) ⊎ (b ≡ true) → (c && not d) ≡ false
not-both a b false d e f g = refl
not-both a b true true e f g = refl
not-both a b true false e f (inl g) = cc
not-both a b true false e f (inr g) = cc

pub or-is : (b h k m : Bool) → h ≡ k → ((h ≡ true) × (b ≡ true)) ⊎ ((h ≡ false) × (b ≡ m)) → b ≡ (k || m)
or-is b h true m e (inl p) = p.1
or-is b h true m e (inr p) = let q : h ≡ false = p.0 in cc
or-is b h false m e (inl p) = let q : h ≡ true = p.0 in cc
or-is b h false m e (inr p) = p.1
