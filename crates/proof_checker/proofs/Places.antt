-- References at places.
use Rattle.std.proofs.Common.{◌≡◌, ◌==◌, ◌<◌, ℕ, zero, suc, true, List, [], ◌∷◌, ◌++◌, length, take, refl, ap, sym, ◌∙◌, subst, Some, arith, get_or}
use Rattle.std.proofs.lemmas.Bool.Decides.{nat_tests}
use Rattle.std.specs.Prelude.{IfSome}
use Rattle.std.specs.List.{slice_get}
use Rattle.type_terms.specs.Promised.Worlds.{Reference}
use Rattle.declarations.specs.Promised.Elaboration.{Each}
use Rattle.proof_checker.specs.Steps.{as_list, at_places}

pub empty-of : {A : Type 0} (xs : List A) → (length xs == 0) ≡ true → xs ≡ []
empty-of [] h = refl
empty-of (x ∷ xs) h = grind (arith, nat_tests)

pub each-at : {A : Type 0} (P : A → Type 0) (xs : List A) (k : ℕ) (x : A) → Each P xs → slice_get xs k ≡ Some x → P x
each-at P [] k x h e = absurd cc
each-at {A = A} P (y ∷ xs) zero x h e = let q : y ≡ x = cc in subst P q h.0
each-at P (y ∷ xs) (suc k) x h e = each-at P xs k x h.1 e

pub each-below : {A : Type 0} (P : A → Type 0) (xs : List A) (k : ℕ) (x : A) → Each P xs → k < length xs → x ≡ get_or xs k x → P x
each-below P [] k x h l e = absurd (omega (arith, l))
each-below P (y ∷ xs) zero x h l e = subst P (sym e) h.0
each-below P (y ∷ xs) (suc k) x h l e = each-below P xs k x h.1 (omega (arith, l)) e

-- what is said of the element at a place
pub said-at : {A : Type 0} (P : A → Type 0) (xs : List A) (k : ℕ) (x : A) → k < length xs → x ≡ get_or xs k x → P x → IfSome (slice_get xs k) P
said-at P [] k x l e h = tt
said-at P (y ∷ xs) zero x l e h = subst P e h
said-at P (y ∷ xs) (suc k) x l e h = said-at P xs k x (omega (arith, l)) e h

pub places-more : (rs : List Reference) (k : ℕ) (ks : List ℕ) (t u : Reference) (us : List Reference) → slice_get rs k ≡ Some t → t ≡ u → at_places rs ks ≡ us → at_places rs (k ∷ ks) ≡ u ∷ us
places-more rs k ks t u us e q p = ap (λ o. as_list o ++ at_places rs ks) e ∙ joined t u (at_places rs ks) us q p
  where
    joined : (t u : Reference) (ts us : List Reference) → t ≡ u → ts ≡ us → t ∷ ts ≡ u ∷ us
    joined t u ts us q p = cc

pub take-get : (n : ℕ) (rs : List Reference) (k : ℕ) (t : Reference) → slice_get rs k ≡ Some t → k < n → slice_get (take n rs) k ≡ Some t
take-get zero rs k t e h = absurd (omega (arith, h))
take-get (suc n) [] k t e h = cc
take-get (suc n) (r ∷ rs) zero t e h = e
take-get (suc n) (r ∷ rs) (suc k) t e h = take-get n rs k t e (omega (arith, h))

-- what is left behind the first is shorter
pub shorter : {A : Type 0} (x : A) (xs ys : List A) → xs ≡ x ∷ ys → length ys < length xs
shorter x xs ys e = subst (λ l. length ys < length l) (sym e) (next-above-it (length ys))
  where
    next-above-it : (n : ℕ) → n < suc n
    next-above-it n = omega arith
