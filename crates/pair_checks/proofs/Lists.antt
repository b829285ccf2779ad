-- Lists that a loop goes through.
use Rattle.std.proofs.Common.{◌≡◌, ◌<◌, ◌+◌, ℕ, zero, suc, arith, List, [], ◌∷◌, ◌++◌, length, take, get_or, Some, ◌⊎◌, inl, inr, ap, sym, ◌∙◌, subst}
use Rattle.std.proofs.lemmas.List.{take_more}
use Rattle.std.proofs.lemmas.Option.{slice_get-get_or}
use Rattle.type_terms.specs.Promised.Proofs.{In}
use Rattle.declarations.specs.Promised.Elaboration.{Each}

each-at : {A : Type 0} (P : A → Type 0) (xs : List A) (i : ℕ) (d : A) → Each P xs → i < length xs → P (get_or xs i d)
each-at P [] i d h l = absurd (omega arith)
each-at P (x ∷ xs) zero d h l = h.0
each-at P (x ∷ xs) (suc i) d h l = each-at P xs i d h.1 (omega arith)

each-last : {A : Type 0} (P : A → Type 0) (xs : List A) (x : A) → Each P xs → P x → Each P (xs ++ x ∷ [])
each-last P [] x h p = (p, tt)
each-last P (y ∷ ys) x h p = (h.0, each-last P ys x h.1 p)

pub each-then : {A : Type 0} (P Q R : A → Type 0) → ((x : A) → P x → Q x → R x) → (xs : List A) → Each P xs → Each Q xs → Each R xs
each-then P Q R f [] h g = tt
each-then P Q R f (x ∷ xs) h g = (f x h.0 g.0, each-then P Q R f xs h.1 g.1)

-- ---- the element at a place
module _ {A : Type 0} (xs : List A) (i : ℕ) (x : A) (is : x ≡ get_or xs i x) (l : i < length xs) where
  pub each-here : (P : A → Type 0) → Each P xs → P x
  each-here P h = subst P (sym is) (each-at P xs i x h l)

  pub in-here : In x xs
  in-here = (i, slice_get-get_or xs i x l ∙ ap Some (sym is))

  -- one more of them
  pub each-more : (P : A → Type 0) → Each P (take i xs) → P x → Each P (take (i + 1) xs)
  each-more P h p = subst (Each P) (sym (take_more xs i x l)) (subst (λ y. Each P (take i xs ++ y ∷ [])) is (each-last P (take i xs) x h p))

pub in-list : {A : Type 0} (P : A → Type 0) (xs : List A) (x : A) → Each P xs → In x xs → P x
in-list P [] x h m = absurd (cc)
in-list P (y ∷ ys) x h (zero, e) = let same : y ≡ x = cc in subst P same h.0
in-list P (y ∷ ys) x h (suc k, e) = in-list P ys x h.1 (k, e)

-- ---- one of two lists
pub of-first : {A : Type 0} (P : A → Type 0) (xs ys others : List A) → xs ≡ ys → ((x : A) × In x xs × P x) → (x : A) × (In x ys ⊎ In x others) × P x
of-first P xs ys others e h = (h.0, inl (subst (λ zs. In h.0 zs) e h.1), h.2)

pub of-second : {A : Type 0} (P Q : A → Type 0) (xs ys others : List A) → xs ≡ ys → ((x : A) → In x ys → P x → Q x) → ((x : A) × In x xs × P x) → (x : A) × (In x others ⊎ In x ys) × Q x
of-second P Q xs ys others e f h = let at = subst (λ zs. In h.0 zs) e h.1 in (h.0, inr at, f h.0 at h.2)
