-- The strict supertraits of a reference are those that `supertraits` lists, since no reference is its own supertrait.
use Rattle.std.proofs.Common.{◌≡◌, ◌<◌, ◌==◌, ℕ, zero, suc, [], ◌∷◌, length, ◌⊎◌, inl, inr, ap, subst, arith}
use Rattle.type_terms.specs.Promised.Worlds.{World, Reference, TraitDecl, traits_named, with_args, all_with_args}
use Rattle.type_terms.specs.Promised.Rules.{written_supertraits, strict_supertraits, strict_supertraits_within}
use Rattle.type_terms.specs.Promised.Proofs.{In}
use Rattle.type_terms.proofs.ProofEntries.{map-in}
use Rattle.type_terms.proofs.Members.{here, there, in-nothing, in-cases, in-filter, in-flat, flat-in, same-number}
use Rattle.declarations.specs.Promised.Elaboration.{supertraits}
use Rattle.candidate_model.specs.Declared.{LeadDown}
use Rattle.candidate_model.proofs.Stack.{elaborated-all}

module _ (V : World) (rank : ℕ → ℕ) (down : LeadDown V rank) where
  written-lower : (r s : Reference) → In s (written_supertraits V r) → rank s.trait < rank r.trait
  written-lower r s i =
      let m = in-flat (λ (t : TraitDecl). all_with_args r.args t.bounds) (traits_named V r.trait) s i in
      let named = in-filter (λ (y : TraitDecl). y.name == r.trait) V.traits m.0 m.1 in
      let b = map-in (with_args r.args) m.0.bounds s m.2 in
      subst (λ t. rank s.trait < rank t) (same-number m.0.name r.trait named.1) (subst (λ t. rank t < rank m.0.name) (ap (λ (q : Reference). q.trait) b.2) (down m.0 b.0 named.0 b.1))

  less-still : (a b c : ℕ) → a < b → b < c → a < c
  less-still a b c h g = omega (arith, h, g)

  within-lower : (n : ℕ) (r s : Reference) → In s (strict_supertraits_within n V r) → rank s.trait < rank r.trait
  within-lower zero r s i = absurd (in-nothing s i)
  within-lower (suc n) r s i =
      let m = in-flat (λ x. x ∷ strict_supertraits_within n V x) (written_supertraits V r) s i in
      by m.0 (written-lower r m.0 m.1) (in-cases s m.0 (strict_supertraits_within n V m.0) m.2) (within-lower n m.0 s)
    where
      by : (q : Reference) → rank q.trait < rank r.trait → (q ≡ s) ⊎ In s (strict_supertraits_within n V q) → (In s (strict_supertraits_within n V q) → rank s.trait < rank q.trait) → rank s.trait < rank r.trait
      by q h (inl e) go = subst (λ (z : Reference). rank z.trait < rank r.trait) e h
      by q h (inr j) go = less-still (rank s.trait) (rank q.trait) (rank r.trait) (go j) h

  never-itself : (r s : Reference) → In s (strict_supertraits V r) → r ≡ s → ⊥
  never-itself r s i e = no-less (rank s.trait) (subst (λ (z : Reference). rank s.trait < rank z.trait) e (within-lower (length V.traits) r s i))
    where
      no-less : (n : ℕ) → n < n → ⊥
      no-less n h = absurd (omega (arith, h))

  pub strict-among : (r s : Reference) → In s (strict_supertraits V r) → In s (supertraits V r)
  strict-among r s i =
      by
      (in-cases s r (supertraits V r)
      (elaborated-all V rank down (r ∷ []) s (flat-in (λ x. x ∷ strict_supertraits V x) (r ∷ []) r s (here r []) (there s r (strict_supertraits V r) i))))
    where
      by : (r ≡ s) ⊎ In s (supertraits V r) → In s (supertraits V r)
      by (inl e) = absurd (never-itself r s i e)
      by (inr j) = j
