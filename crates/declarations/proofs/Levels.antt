-- The supertraits through all levels are closed: bounds lead to traits of lower rank, so that the number of traits is enough steps.
use Rattle.std.proofs.Common.{◌≡◌, ℕ, zero, suc, ◌<◌, ◌≤◌, Bool, true, false, ◌==◌, cond, List, [], ◌∷◌, length, ◌⊎◌, inl, inr, refl, sym, ap, subst, arith, ltb}
use Rattle.type_terms.specs.Promised.Worlds.{World, Reference, TraitDecl, traits_named, with_args, all_with_args}
use Rattle.type_terms.specs.Promised.Rules.{written_supertraits, strict_supertraits, strict_supertraits_within}
use Rattle.type_terms.specs.Promised.Proofs.{In}
use Rattle.type_terms.proofs.Members.{here, there, in-nothing, in-cases, in-filter, in-flat, flat-in, same-number}
use Rattle.type_terms.proofs.ProofEntries.{map-in}
use Rattle.type_terms.proofs.Below.{below, below-length, below-strict}
use Rattle.declarations.specs.Promised.Elaboration.{all_levels}
use Rattle.type_terms.proofs.NumberBasics.{less-kept}
use Rattle.type_terms.proofs.Supertraits.{flat-same}
use Rattle.std.specs.List.{flat_map}

-- bounds lead to traits of lower rank
abbrev pub LeadDown : World → (ℕ → ℕ) → Type 0
LeadDown V rank = (x : TraitDecl) (b : Reference) → In x V.traits → In b x.bounds → rank b.trait < rank x.name

-- a greater rank has no fewer below it
pub below-grows : {A : Type 0} (key : A → ℕ) (a b : ℕ) (xs : List A) → a ≤ b → below key a xs ≤ below key b xs
below-grows key a b [] h = omega arith
below-grows key a b (x ∷ xs) h = step (ltb (key x) a) (ltb (key x) b) (less-kept (key x) a b h) (below-grows key a b xs h)
  where
    step : (p q : Bool) → (p ≡ true → q ≡ true) → below key a xs ≤ below key b xs → cond p (suc (below key a xs)) (below key a xs) ≤ cond q (suc (below key b xs)) (below key b xs)
    step true true f g = omega arith
    step true false f g = absurd (no (f refl))
      where
        no : false ≡ true → ⊥
        no e = cc
    step false true f g = omega arith
    step false false f g = g

-- without members a list is flattened to nothing
none-flat : {A B : Type 0} (f : A → List B) (xs : List A) → ((x : A) → In x xs → ⊥) → flat_map f xs ≡ []
none-flat f [] h = refl
none-flat f (x ∷ xs) h = absurd (h x (here x xs))

module _ (V : World) (rank : ℕ → ℕ) (down : LeadDown V rank) where
  place : TraitDecl → ℕ
  place x = rank x.name

  -- how many traits have no greater rank
  up_to : ℕ → ℕ
  up_to t = below place (suc (rank t)) V.traits

  -- a written supertrait has fewer of them
  fewer : (r s : Reference) → In s (written_supertraits V r) → up_to s.trait < up_to r.trait
  unfolding place up_to
  fewer r s i =
      let m = in-flat (λ (t : TraitDecl). all_with_args r.args t.bounds) (traits_named V r.trait) s i in
      let named = in-filter (λ (y : TraitDecl). y.name == r.trait) V.traits m.0 m.1 in
      let b = map-in (with_args r.args) m.0.bounds s m.2 in
      let name_is : m.0.name ≡ r.trait = same-number m.0.name r.trait named.1 in
      let less : rank s.trait < rank r.trait
      = subst (λ t. rank s.trait < rank t) name_is (subst (λ t. rank t < rank m.0.name) (ap (λ (q : Reference). q.trait) b.2) (down m.0 b.0 named.0 b.1)) in
      let at : below place (rank r.trait) V.traits < below place (suc (rank r.trait)) V.traits
      = subst (λ t. below place (rank t) V.traits < below place (suc (rank t)) V.traits) name_is (below-strict place (suc (rank m.0.name)) V.traits m.0 named.0 (omega arith)) in
      let grows : below place (suc (rank s.trait)) V.traits ≤ below place (rank r.trait) V.traits
      = below-grows place (suc (rank s.trait)) (rank r.trait) V.traits (omega (arith, less)) in
      omega (arith, at, grows)

  -- one step more gives nothing new
  no-deeper : (n : ℕ) (r s : Reference) → up_to r.trait ≤ n → In s (strict_supertraits_within (suc n) V r) → In s (strict_supertraits_within n V r)
  no-deeper zero r s h i =
      let m = in-flat (λ x. x ∷ strict_supertraits_within zero V x) (written_supertraits V r) s i in
      absurd (omega (arith, h, fewer r m.0 m.1))
  no-deeper (suc n) r s h i =
      let m = in-flat (λ x. x ∷ strict_supertraits_within (suc n) V x) (written_supertraits V r) s i in
      flat-in (λ x. x ∷ strict_supertraits_within n V x) (written_supertraits V r) m.0 s m.1
      (at m.0 (in-cases s m.0 (strict_supertraits_within (suc n) V m.0) m.2) (λ j. no-deeper n m.0 s (omega (arith, h, fewer r m.0 m.1)) j))
    where
      at : (q : Reference) → (q ≡ s) ⊎ In s (strict_supertraits_within (suc n) V q) → (In s (strict_supertraits_within (suc n) V q) → In s (strict_supertraits_within n V q)) → In s (q ∷ strict_supertraits_within n V q)
      at q (inl e) go = subst (λ z. In z (q ∷ strict_supertraits_within n V q)) e (here q (strict_supertraits_within n V q))
      at q (inr j) go = there s q (strict_supertraits_within n V q) (go j)

  -- nor anything once more
  same-deeper : (n : ℕ) (r : Reference) → up_to r.trait ≤ n → strict_supertraits_within (suc n) V r ≡ strict_supertraits_within n V r
  same-deeper zero r h = none-flat (λ s. s ∷ strict_supertraits_within zero V s) (written_supertraits V r) (λ s i. absurd (omega (arith, h, fewer r s i)))
  same-deeper (suc n) r h =
      flat-same (λ s. s ∷ strict_supertraits_within (suc n) V s) (λ s. s ∷ strict_supertraits_within n V s) (written_supertraits V r)
      (λ s i. ap (λ z. s ∷ z) (same-deeper n s (omega (arith, h, fewer r s i))))

  -- so the supertraits of a reference are those that its trait lists, each with its own
  pub supers-by-bounds : (r : Reference) → strict_supertraits V r ≡ all_levels V (written_supertraits V r)
  unfolding place up_to
  supers-by-bounds r = sym (same-deeper (length V.traits) r (below-length place (suc (rank r.trait)) V.traits))

  -- what is written above what is there is there a step deeper
  above-own : (n : ℕ) (r s t : Reference) → r ≡ s → In t (written_supertraits V s) → In t (strict_supertraits_within (suc n) V r)
  above-own n r s t e j =
      flat-in (λ x. x ∷ strict_supertraits_within n V x) (written_supertraits V r) t t (subst (λ z. In t (written_supertraits V z)) (sym e) j) (here t (strict_supertraits_within n V t))

  one-deeper : (n : ℕ) (r s t : Reference) → In s (r ∷ strict_supertraits_within n V r) → In t (written_supertraits V s) → In t (strict_supertraits_within (suc n) V r)
  one-deeper zero r s t i j = elim (in-cases s r [] i) [ inl e ↦ above-own zero r s t e j | inr g ↦ absurd (in-nothing s g) ]
  one-deeper (suc n) r s t i j = by (in-cases s r (strict_supertraits_within (suc n) V r) i) (λ q g. one-deeper n q s t g j)
    where
      by : (r ≡ s) ⊎ In s (strict_supertraits_within (suc n) V r) → ((q : Reference) → In s (q ∷ strict_supertraits_within n V q) → In t (strict_supertraits_within (suc n) V q)) → In t (strict_supertraits_within (suc (suc n)) V r)
      by (inl e) go = above-own (suc n) r s t e j
      by (inr g) go =
          let m = in-flat (λ x. x ∷ strict_supertraits_within n V x) (written_supertraits V r) s g in
          flat-in (λ x. x ∷ strict_supertraits_within (suc n) V x) (written_supertraits V r) m.0 t m.1 (there t m.0 (strict_supertraits_within (suc n) V m.0) (go m.0 m.2))

  -- what is written above a reference or its supertraits is one of its supertraits
  pub strict-closed : (r s t : Reference) → In s (r ∷ strict_supertraits V r) → In t (written_supertraits V s) → In t (strict_supertraits V r)
  unfolding place up_to
  strict-closed r s t i j = no-deeper (length V.traits) r t (below-length place (suc (rank r.trait)) V.traits) (one-deeper (length V.traits) r s t i j)

  -- all levels are closed
  pub all-closed : (rs : List Reference) (s t : Reference) → In s (all_levels V rs) → In t (written_supertraits V s) → In t (all_levels V rs)
  all-closed rs s t i j =
      let m = in-flat (λ r. r ∷ strict_supertraits V r) rs s i in
      flat-in (λ r. r ∷ strict_supertraits V r) rs m.0 t m.1 (there t m.0 (strict_supertraits V m.0) (strict-closed m.0 s t m.2 j))
