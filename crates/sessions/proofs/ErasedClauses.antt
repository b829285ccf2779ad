-- Supertraits without lifetimes.
use Rattle.std.proofs.Common.{◌≡◌, ℕ, zero, suc, List, ◌∷◌, map, length, ◌⊎◌, inl, inr, sym, ap, subst, ◌==◌}
use Rattle.type_terms.specs.Promised.Erased.{erased_reference, erased_trait, erased_world}
use Rattle.type_terms.specs.Promised.Trees.{Trees, Fits, erase}
use Rattle.type_terms.specs.Promised.Worlds.{World, Reference, TraitDecl, traits_named, with_args, all_with_args}
use Rattle.type_terms.specs.Promised.Rules.{written_supertraits, strict_supertraits, strict_supertraits_within, elaborated}
use Rattle.type_terms.specs.Promised.Proofs.{In}
use Rattle.type_terms.proofs.ProofEntries.{map-in}
use Rattle.type_terms.proofs.Members.{here, there, in-cases, in-nothing, in-filter, filter-in, in-flat, flat-in, in-map}
use Rattle.type_terms.proofs.TreeLaws.{erase-instantiate}
use Rattle.declarations.proofs.Levels.{all-closed}
use Rattle.sessions.specs.Clauses.{BoundsLeadDown, BoundsFit, SupertraitsAreErased}
use Rattle.type_terms.proofs.ListBasics.{map-length as length-map}

pub erased-with : (A : Trees) (b : Reference) → Fits A b.args → with_args (erase A) (erased_reference b) ≡ erased_reference (with_args A b)
erased-with A b f = ap (λ a. (let x : Reference = record { trait = b.trait; args = a } in x)) (sym (erase-instantiate zero A b.args f))

module _ (W : World) (rank : ℕ → ℕ) (down : BoundsLeadDown W rank) (E : List Reference) (fit : BoundsFit W E) where
  erased-written : (r s : Reference) → In r (elaborated W E) → In s (written_supertraits W r) → In (erased_reference s) (written_supertraits (erased_world W) (erased_reference r))
  erased-written r s i j =
      let m = in-flat (λ (t : TraitDecl). all_with_args r.args t.bounds) (traits_named W r.trait) s j in
      let named = in-filter (λ (y : TraitDecl). y.name == r.trait) W.traits m.0 m.1 in
      let b = map-in (with_args r.args) m.0.bounds s m.2 in
      let there_is : In (erased_trait m.0) (traits_named (erased_world W) r.trait)
      = filter-in (λ (y : TraitDecl). y.name == r.trait) (map erased_trait W.traits) (erased_trait m.0) (in-map erased_trait W.traits m.0 named.0) named.1 in
      let bound : In (with_args (erase r.args) (erased_reference b.0)) (all_with_args (erase r.args) (map erased_reference m.0.bounds))
      = in-map (with_args (erase r.args)) (map erased_reference m.0.bounds) (erased_reference b.0) (in-map erased_reference m.0.bounds b.0 b.1) in
      flat-in (λ (t : TraitDecl). all_with_args (erase r.args) t.bounds) (traits_named (erased_world W) r.trait) (erased_trait m.0) (erased_reference s) there_is
      (subst (λ z. In z (all_with_args (erase r.args) (map erased_reference m.0.bounds))) (ap erased_reference b.2)
      (subst (λ z. In z (all_with_args (erase r.args) (map erased_reference m.0.bounds))) (erased-with r.args b.0 (fit r i m.0 m.1 b.0 b.1)) bound))

  erased-within : (n : ℕ) (s t : Reference) → In s (elaborated W E) → In t (strict_supertraits_within n W s) → In (erased_reference t) (strict_supertraits_within n (erased_world W) (erased_reference s))
  erased-within zero s t i j = absurd (in-nothing t j)
  erased-within (suc n) s t i j =
      let m = in-flat (λ x. x ∷ strict_supertraits_within n W x) (written_supertraits W s) t j in
      let k = all-closed W rank down E s m.0 i m.1 in
      flat-in (λ x. x ∷ strict_supertraits_within n (erased_world W) x) (written_supertraits (erased_world W) (erased_reference s)) (erased_reference m.0) (erased_reference t) (erased-written s m.0 i m.1)
      (by m.0 (in-cases t m.0 (strict_supertraits_within n W m.0) m.2) (λ g. erased-within n m.0 t k g))
    where
      by : (x : Reference) → (x ≡ t) ⊎ In t (strict_supertraits_within n W x) → (In t (strict_supertraits_within n W x) → In (erased_reference t) (strict_supertraits_within n (erased_world W) (erased_reference x)))
          → In (erased_reference t) (erased_reference x ∷ strict_supertraits_within n (erased_world W) (erased_reference x))
      by x (inl q) go = subst (λ z. In (erased_reference z) (erased_reference x ∷ strict_supertraits_within n (erased_world W) (erased_reference x))) q (here (erased_reference x) (strict_supertraits_within n (erased_world W) (erased_reference x)))
      by x (inr g) go = there (erased_reference t) (erased_reference x) (strict_supertraits_within n (erased_world W) (erased_reference x)) (go g)

  own-level : (x : Reference) → In x E → In x (elaborated W E)
  own-level x i = flat-in (λ r. r ∷ strict_supertraits W r) E x x i (here x (strict_supertraits W x))

  erased-strict : (s t : Reference) → In s (elaborated W E) → In t (strict_supertraits W s) → In (erased_reference t) (strict_supertraits (erased_world W) (erased_reference s))
  erased-strict s t i j =
      subst (λ n. In (erased_reference t) (strict_supertraits_within n (erased_world W) (erased_reference s))) (sym (length-map erased_trait W.traits)) (erased-within (length W.traits) s t i j)

  erased-level : (y : Reference) → In y (elaborated W E) → In (erased_reference y) (elaborated (erased_world W) (map erased_reference E))
  erased-level y i =
      let m = in-flat (λ r. r ∷ strict_supertraits W r) E y i in
      flat-in (λ r. r ∷ strict_supertraits (erased_world W) r) (map erased_reference E) (erased_reference m.0) (erased_reference y) (in-map erased_reference E m.0 m.1)
      (by m.0 (own-level m.0 m.1) (in-cases y m.0 (strict_supertraits W m.0) m.2))
    where
      by : (x : Reference) → In x (elaborated W E) → (x ≡ y) ⊎ In y (strict_supertraits W x) → In (erased_reference y) (erased_reference x ∷ strict_supertraits (erased_world W) (erased_reference x))
      by x k (inl q) = subst (λ z. In (erased_reference z) (erased_reference x ∷ strict_supertraits (erased_world W) (erased_reference x))) q (here (erased_reference x) (strict_supertraits (erased_world W) (erased_reference x)))
      by x k (inr g) = there (erased_reference y) (erased_reference x) (strict_supertraits (erased_world W) (erased_reference x)) (erased-strict x y k g)

pub supertraits-are-erased : SupertraitsAreErased
supertraits-are-erased W rank down E F fit adds x i =
    let m = map-in erased_reference F x i in
    subst (λ z. In z (elaborated (erased_world W) (map erased_reference E))) m.2 (erased-level W rank down E fit m.0 (adds m.0 m.1))
