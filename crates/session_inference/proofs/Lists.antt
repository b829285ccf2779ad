-- Lists of terms by their numbers.
use Rattle.std.proofs.Common.{◌≡◌, ◌∙◌, ◌+◌, ◌<◌, ◌≤◌, ℕ, zero, suc, arith, refl, sym, ap, List, [], ◌∷◌, ◌++◌, length, get_or, map, take, Option, Some, slice_get}
use Rattle.type_terms.proofs.Items.{take-push}
use Rattle.type_terms.specs.declared.kinds.GenericArgKind.{GenericArgKind}
use Rattle.session_inference.specs.declared.term_id.TermId.{TermId}

pub map-push : {A B : Type 0} (f : A → B) (xs : List A) (x : A) → map f (xs ++ x ∷ []) ≡ map f xs ++ f x ∷ []
map-push f [] x = refl
map-push f (y ∷ xs) x = ap (λ l. f y ∷ l) (map-push f xs x)

pub take-all : {A : Type 0} (k : ℕ) (xs : List A) → length xs ≤ k → take k xs ≡ xs
take-all zero [] h = refl
take-all (suc k) [] h = refl
take-all zero (x ∷ xs) h = absurd (omega (arith, h))
take-all (suc k) (x ∷ xs) h = ap (λ l. x ∷ l) (take-all k xs (omega (arith, h)))

module _ (ts : List GenericArgKind) (ids : List TermId) (xs : List GenericArgKind) (k : ℕ) where
  abbrev found : List TermId → List (Option GenericArgKind)
  found is = map (λ (id : TermId). slice_get ts id.index) is

  pub one-more : (d : TermId) (x : GenericArgKind) → k < length ids → found (take k ids) ≡ map Some xs → slice_get ts (get_or ids k d).index ≡ Some x → found (take (k + 1) ids) ≡ map Some (xs ++ x ∷ [])
  one-more d x lt inv at =
      ap found (take-push ids k d lt)
      ∙ map-push (λ (i : TermId). slice_get ts i.index) (take k ids) (get_or ids k d)
      ∙ both inv at
      ∙ sym (map-push Some xs x)
    where
      both : {ys zs : List (Option GenericArgKind)} {a b : Option GenericArgKind} → ys ≡ zs → a ≡ b → ys ++ a ∷ [] ≡ zs ++ b ∷ []
      both p q = cc

  pub all-found : length ids ≤ k → found (take k ids) ≡ map Some xs → found ids ≡ map Some xs
  all-found over inv = sym (ap found (take-all k ids over)) ∙ inv
