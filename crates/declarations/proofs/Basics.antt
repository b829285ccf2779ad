-- Small facts that the proofs of several files cite.
use Rattle.std.proofs.Common.{List, ◌++◌, [], ◌∷◌, length, ◌≡◌, ◌+◌, arith, ◌∙◌, refl, ap, ◌||◌, Bool, true, false}
use Rattle.declarations.specs.Promised.Elaboration.{pushed, is_put}
use Rattle.declarations.specs.Promised.Elaboration.{Each}
use Rattle.type_terms.specs.Promised.Rules.{same_reference}
use Rattle.type_terms.specs.Promised.Worlds.{Reference}

pub each-append : {A : Type 0} (P : A → Type 0) (xs ys : List A) → Each P xs → Each P ys → Each P (xs ++ ys)
each-append P [] ys h g = g
each-append P (x ∷ xs) ys h g = (h.0, each-append P xs ys h.1 g)

pub each-end : {A : Type 0} (P : A → Type 0) (xs : List A) (x : A) → Each P (xs ++ x ∷ []) → P x
each-end P [] x h = h.0
each-end P (y ∷ xs) x h = each-end P xs x h.1

pub each-front : {A : Type 0} (P : A → Type 0) (xs : List A) (x : A) → Each P (xs ++ x ∷ []) → Each P xs
each-front P [] x h = tt
each-front P (y ∷ xs) x h = (h.0, each-front P xs x h.1)

pub length-pushed : (rs stack : List Reference) → length (pushed rs stack) ≡ length rs + length stack
length-pushed [] stack = omega arith
length-pushed (r ∷ rs) stack = let h = length-pushed rs (r ∷ stack) in h ∙ omega arith

-- the order in which references were put does not matter
pub put-move : (x r : Reference) (ys b : List Reference) → is_put x (r ∷ (ys ++ b)) ≡ is_put x (ys ++ (r ∷ b))
put-move x r [] b = refl
put-move x r (y ∷ ys) b = swap (same_reference x r) (same_reference x y) (is_put x (ys ++ b)) ∙ ap (λ z. same_reference x y || z) (put-move x r ys b)
  where
    swap : (p q z : Bool) → p || (q || z) ≡ q || (p || z)
    swap true true z = refl
    swap true false z = refl
    swap false true z = refl
    swap false false z = refl

pub each-push : {A : Type 0} (P : A → Type 0) (xs : List A) (x : A) → Each P xs → P x → Each P (xs ++ x ∷ [])
each-push P [] x h p = (p, tt)
each-push P (y ∷ xs) x h p = (h.0, each-push P xs x h.1 p)

pub both : {A : Type 0} (P Q : A → Type 0) (xs : List A) → Each P xs → Each Q xs → Each (λ x. P x × Q x) xs
both P Q [] h g = tt
both P Q (x ∷ xs) h g = ((h.0, g.0), both P Q xs h.1 g.1)
