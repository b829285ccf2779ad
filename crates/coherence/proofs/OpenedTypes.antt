-- What the orphan rule looks at, with variables for parameters and as it stands.
use Rattle.std.proofs.Common.{◌≡◌, ℕ, refl, sym, ap, ◌∙◌, subst, Bool, true, false, not, ◌&&◌, ◌==◌, if◌then◌else◌, List, [], ◌∷◌, ◌++◌, map, Some}
use Rattle.std.specs.Prelude.{find, cond}
use Rattle.std.specs.Option.{option_map}
use Rattle.std.proofs.lemmas.List.{map-append}
use Rattle.std.proofs.lemmas.Option.{same_Some}
use Rattle.sessions.specs.TypeTerms.Promised.Label.{Sort, adt, ref, param}
use Rattle.sessions.specs.TypeTerms.Promised.Trees.{Trees, none, tree}
use Rattle.sessions.specs.TypeTerms.Promised.Proofs.{Every}
use Rattle.sessions.specs.TypeTerms.Promised.Worlds.{World}
use Rattle.sessions.specs.TypeTerms.Promised.Walks.{Met, struct_is, visited}
use Rattle.sessions.specs.TypeTerms.Promised.OpenedHeaders.{with_variables}
use Rattle.coherence.specs.Promised.CrateAnswers.{types_met}
use Rattle.sessions.proofs.OverlapCheck.Opened.{opened-visits}
use Rattle.coherence.proofs.HeaderNames.{KnowsParams, AllOk}

-- ---- what is found of a list
mapped-find : {A : Type 0} (p : A → Bool) (f : A → A) → ((x : A) → p (f x) ≡ p x) → (xs : List A) → find p (map f xs) ≡ option_map f (find p xs)
mapped-find p f h [] = refl
mapped-find p f h (x ∷ xs) = ap (λ b. cond b (Some (f x)) (find p (map f xs))) (h x) ∙ by (p x) (mapped-find p f h xs)
  where
    by : (b : Bool) → find p (map f xs) ≡ option_map f (find p xs) → cond b (Some (f x)) (find p (map f xs)) ≡ option_map f (cond b (Some x) (find p xs))
    by true e = refl
    by false e = e

two-mapped : {A : Type 0} (f : A → A) (xs ys us vs : List A) → us ≡ map f xs → vs ≡ map f ys → us ++ vs ≡ map f (xs ++ ys)
two-mapped f xs ys us vs p q = ap (λ z. z ++ vs) p ∙ ap (λ z. map f xs ++ z) q ∙ sym (map-append f xs ys)

-- P holds of what is found, where it holds of each
found-each : {A : Type 0} (P : A → Type 0) (p : A → Bool) (xs : List A) (x : A) → Every P xs → find p xs ≡ Some x → P x
found-each P p [] x h e = absurd cc
found-each P p (y ∷ ys) x h e = by (p y) e (found-each P p ys x h.1)
  where
    by : (b : Bool) → cond b (Some y) (find p ys) ≡ Some x → (find p ys ≡ Some x → P x) → P x
    by true g r = subst P (same_Some y x g) h.0
    by false g r = r g

every-append : {A : Type 0} (P : A → Type 0) (xs ys : List A) → Every P xs → Every P ys → Every P (xs ++ ys)
every-append P [] ys h g = g
every-append P (x ∷ xs) ys h g = (h.0, every-append P xs ys h.1 g)

module _ (V : World) (c : ℕ) (h : Trees) where
  abbrev w : Trees → Trees
  w t = with_variables h t

  looked-opened : (t : Trees) → types_met V c (w t) ≡ map w (types_met V c t)
  looked-opened none = refl
  looked-opened (tree (ref b) k o) = two-mapped w (types_met V c k) (types_met V c o) (types_met V c (w k)) (types_met V c (w o)) (looked-opened k) (looked-opened o)
  looked-opened (tree (adt s) k o) =
      two-mapped w (if through then types_met V c k else tree (adt s) k none ∷ []) (types_met V c o) (if through then types_met V c (w k) else tree (adt s) (w k) none ∷ []) (types_met V c (w o))
      (by through (looked-opened k)) (looked-opened o)
    where
      through : Bool
      through = not (struct_is (λ x. c == x.home) V s) && struct_is (λ x. x.is_fundamental) V s

      by : (b : Bool) → types_met V c (w k) ≡ map w (types_met V c k) → (if b then types_met V c (w k) else tree (adt s) (w k) none ∷ []) ≡ map w (if b then types_met V c k else tree (adt s) k none ∷ [])
      by true e = e
      by false e = refl
  looked-opened (tree (param s i) k o) = ap (λ z. w (tree (param s i) k none) ∷ z) (looked-opened o)
  looked-opened (tree l k o) = ap (λ z. w (tree l k none) ∷ z) (looked-opened o)

  -- what is met first there
  pub first-opened : (p : List Met → Bool) (t : Trees) → find (λ x. p (visited V (Some c) x)) (types_met V c (w t)) ≡ option_map w (find (λ x. p (visited V (Some c) x)) (types_met V c t))
  first-opened p t =
      ap (find (λ x. p (visited V (Some c) x))) (looked-opened t)
      ∙ mapped-find (λ x. p (visited V (Some c) x)) w (λ x. ap p (opened-visits V (Some c) h x)) (types_met V c t)

-- what is looked at stands in the header
module _ (V : World) (c : ℕ) (ps : List (List ℕ × Sort)) (h : Trees) (knows : KnowsParams ps h) where
  abbrev Ok : Trees → Type 0
  Ok t = AllOk ps h knows t

  looked-ok : (t : Trees) → Ok t → Every Ok (types_met V c t)
  looked-ok none a = tt
  looked-ok (tree (ref b) k o) a = every-append Ok (types_met V c k) (types_met V c o) (looked-ok k a.1) (looked-ok o a.2)
  looked-ok (tree (adt s) k o) a =
      every-append Ok (if through then types_met V c k else tree (adt s) k none ∷ []) (types_met V c o) (by through (looked-ok k a.1)) (looked-ok o a.2)
    where
      through : Bool
      through = not (struct_is (λ x. c == x.home) V s) && struct_is (λ x. x.is_fundamental) V s

      by : (b : Bool) → Every Ok (types_met V c k) → Every Ok (if b then types_met V c k else tree (adt s) k none ∷ [])
      by true e = e
      by false e = ((tt, a.1, tt), tt)
  looked-ok (tree l k o) a = ((a.0, a.1, tt), looked-ok o a.2)

  pub first-ok : (p : List Met → Bool) (t x : Trees) → Ok t → find (λ y. p (visited V (Some c) y)) (types_met V c t) ≡ Some x → Ok x
  first-ok p t x a e = found-each Ok (λ y. p (visited V (Some c) y)) (types_met V c t) x (looked-ok t a) e
