-- If a crate sees a trait, its view has all of the trait's supertraits.
use Rattle.std.proofs.Common.{◌≡◌, ℕ, zero, suc, ◌<◌, ◌≤◌, Bool, true, false, List, [], ◌∷◌, ◌++◌, refl, ap, sym, ◌∙◌, ◌==◌, cond, subst, filter, length, arith}
use Rattle.std.specs.List.{flat_map, list_any}
use Rattle.type_terms.specs.Promised.Worlds.{World, Reference, TraitDecl, traits_named, sees, view_of, with_args, all_with_args}
use Rattle.type_terms.specs.Promised.Rules.{written_supertraits, strict_supertraits, strict_supertraits_within}
use Rattle.type_terms.specs.Promised.Proofs.{In}
use Rattle.type_terms.specs.Promised.Renumbering.{View}
use Rattle.type_terms.specs.Promised.LinkedSet.{JoinedSet}
use Rattle.type_terms.specs.Promised.Versions.{sees_trait}
use Rattle.type_terms.proofs.Members.{here, there, in-filter, filter-in, in-flat, some-member, member-some, not-both, same-number, self-number}
use Rattle.type_terms.proofs.Walking.{left}
use Rattle.type_terms.proofs.Unseen.{trait-there}
use Rattle.type_terms.proofs.ProofEntries.{map-in}
use Rattle.type_terms.proofs.Below.{below, below-length, below-strict}
use Rattle.type_terms.proofs.Sees.{sees-through}

-- two filters are one where the first passes all that the second does
pub filters : {A : Type 0} (p q : A → Bool) (xs : List A) → ((x : A) → In x xs → p x ≡ true → q x ≡ true) → filter p (filter q xs) ≡ filter p xs
filters p q [] h = refl
filters {A = A} p q (x ∷ xs) h = by (p x) (q x) refl refl (filters p q xs (λ y g. h y (there y x xs g)))
  where
    by : (a b : Bool) → p x ≡ a → q x ≡ b → filter p (filter q xs) ≡ filter p xs → filter p (cond b (x ∷ filter q xs) (filter q xs)) ≡ cond a (x ∷ filter p xs) (filter p xs)
    by true true e f g = kept (p x) e
      where
        kept : (v : Bool) → v ≡ true → cond v (x ∷ filter p (filter q xs)) (filter p (filter q xs)) ≡ x ∷ filter p xs
        kept true z = ap (λ zs. x ∷ zs) g
        kept false z = cc
    by true false e f g = absurd (not-both (q x) (h x (here x xs) e) f)
    by false true e f g = dropped (p x) e
      where
        dropped : (v : Bool) → v ≡ false → cond v (x ∷ filter p (filter q xs)) (filter p (filter q xs)) ≡ filter p xs
        dropped true z = cc
        dropped false z = g
    by false false e f g = g

-- two flattened lists are one where they are one at each member
pub flat-same : {A B : Type 0} (f g : A → List B) (xs : List A) → ((x : A) → In x xs → f x ≡ g x) → flat_map f xs ≡ flat_map g xs
flat-same f g [] h = refl
flat-same f g (x ∷ xs) h = join (f x) (g x) (flat_map f xs) (flat_map g xs) (h x (here x xs)) (flat-same f g xs (λ y k. h y (there y x xs k)))
  where
    join : {B : Type 0} (a b c d : List B) → a ≡ b → c ≡ d → a ++ c ≡ b ++ d
    join a b c d p q = cc

module _ (W : World) (vs : List View) (rank : ℕ → ℕ) (l : JoinedSet W vs rank) (c : ℕ) where
  -- the trait of a name that c sees is of c's view, whichever declaration it is
  seen-here : (t : ℕ) → sees_trait W c t ≡ true → (x : TraitDecl) → In x W.traits → (x.name == t) ≡ true → sees W c x.home ≡ true
  seen-here t h x g e =
      let y = trait-there (λ z. sees W c z.home) W t h in
      subst (λ (z : TraitDecl). sees W c z.home ≡ true) (l.fits.one_trait y.0 x y.1 g (y.2 ∙ sym (same-number x.name t e))) y.3

  pub same-named : (t : ℕ) → sees_trait W c t ≡ true → traits_named (view_of W c) t ≡ traits_named W t
  same-named t h = filters (λ (x : TraitDecl). x.name == t) (λ (x : TraitDecl). sees W c x.home) W.traits (λ x g e. seen-here t h x g e)

  same-written : (r : Reference) → sees_trait W c r.trait ≡ true → written_supertraits (view_of W c) r ≡ written_supertraits W r
  same-written r h = ap (flat_map (λ (t : TraitDecl). all_with_args r.args t.bounds)) (same-named r.trait h)

  -- a written supertrait comes from a bound
  record FromBound (r s : Reference) : Type 0 where
    decl : TraitDecl
    bound : Reference
    stands : In decl W.traits
    named : decl.name ≡ r.trait
    written : In bound decl.bounds
    put : with_args r.args bound ≡ s

  from-bound : (r s : Reference) → In s (written_supertraits W r) → FromBound r s
  from-bound r s h =
      let m = in-flat (λ (t : TraitDecl). all_with_args r.args t.bounds) (traits_named W r.trait) s h in
      let a = in-filter (λ (y : TraitDecl). y.name == r.trait) W.traits m.0 m.1 in
      let b = map-in (with_args r.args) m.0.bounds s m.2 in
      record { decl = m.0; bound = b.0; stands = a.0; named = same-number m.0.name r.trait a.1; written = b.1; put = b.2 }

  bound-trait : (r s : Reference) (f : FromBound r s) → f.bound.trait ≡ s.trait
  bound-trait r s f = ap (λ (q : Reference). q.trait) f.put

  -- c sees a bound's trait, and the trait is declared
  bound-seen : (r s : Reference) → sees_trait W c r.trait ≡ true → FromBound r s → sees_trait W c s.trait ≡ true
  bound-seen r s h f = subst (λ t. sees_trait W c t ≡ true) (bound-trait r s f) at
    where
      y : (y : TraitDecl) × In y W.traits × (y.name ≡ f.bound.trait) × (sees W f.decl.home y.home ≡ true)
      y = trait-there (λ z. sees W f.decl.home z.home) W f.bound.trait (left (sees_trait W f.decl.home f.bound.trait) _ (l.rules.bounds_in_scope f.decl f.bound f.stands f.written))

      home : sees W c f.decl.home ≡ true
      home = seen-here r.trait h f.decl f.stands (subst (λ t. (f.decl.name == t) ≡ true) f.named (self-number f.decl.name))

      at : sees_trait W c f.bound.trait ≡ true
      at = member-some (λ (z : TraitDecl). sees W c z.home) (traits_named W f.bound.trait) y.0
          (filter-in (λ (z : TraitDecl). z.name == f.bound.trait) W.traits y.0 y.1 (subst (λ t. (y.0.name == t) ≡ true) y.2 (self-number y.0.name)))
          (sees-through W vs rank l c f.decl.home y.0.home home y.3)

  bound-less : (r s : Reference) → FromBound r s → l.rules.trait_rank s.trait < l.rules.trait_rank r.trait
  bound-less r s f = subst (λ t. l.rules.trait_rank t < l.rules.trait_rank r.trait) (bound-trait r s f) (subst (λ t. l.rules.trait_rank f.bound.trait < l.rules.trait_rank t) f.named (l.rules.supers_before f.decl f.bound f.stands f.written))

  -- how many traits of the view, and of the set, stand before a trait
  place : TraitDecl → ℕ
  place x = l.rules.trait_rank x.name

  before-view : ℕ → ℕ
  before-view t = below place (l.rules.trait_rank t) (view_of W c).traits

  before-set : ℕ → ℕ
  before-set t = below place (l.rules.trait_rank t) W.traits

  fewer-in-view : (r s : Reference) → sees_trait W c s.trait ≡ true → l.rules.trait_rank s.trait < l.rules.trait_rank r.trait → before-view s.trait < before-view r.trait
  unfolding place before-view
  fewer-in-view r s h less =
      let y = trait-there (λ z. sees W c z.home) W s.trait h in
      subst (λ t. below place (l.rules.trait_rank t) (view_of W c).traits < below place (l.rules.trait_rank r.trait) (view_of W c).traits) y.2
      (below-strict place (l.rules.trait_rank r.trait) (view_of W c).traits y.0 (filter-in (λ (z : TraitDecl). sees W c z.home) W.traits y.0 y.1 y.3)
      (subst (λ t. l.rules.trait_rank t < l.rules.trait_rank r.trait) (sym y.2) less))

  fewer-in-set : (r s : Reference) → sees_trait W c s.trait ≡ true → l.rules.trait_rank s.trait < l.rules.trait_rank r.trait → before-set s.trait < before-set r.trait
  unfolding place before-set
  fewer-in-set r s h less =
      let y = trait-there (λ z. sees W c z.home) W s.trait h in
      subst (λ t. below place (l.rules.trait_rank t) W.traits < below place (l.rules.trait_rank r.trait) W.traits) y.2
      (below-strict place (l.rules.trait_rank r.trait) W.traits y.0 y.1 (subst (λ t. l.rules.trait_rank t < l.rules.trait_rank r.trait) (sym y.2) less))

  none-flat : {A B : Type 0} (f : A → List B) (xs : List A) → ((x : A) → In x xs → ⊥) → flat_map f xs ≡ []
  none-flat f [] h = refl
  none-flat f (x ∷ xs) h = absurd (h x (here x xs))

  -- enough fuel gives one list
  same-within : (n m : ℕ) (r : Reference) → sees_trait W c r.trait ≡ true → before-view r.trait ≤ n → before-set r.trait ≤ m
      → strict_supertraits_within n (view_of W c) r ≡ strict_supertraits_within m W r
  same-within zero zero r h a b = refl
  same-within zero (suc m) r h a b = sym (none-flat (λ s. s ∷ strict_supertraits_within m W s) (written_supertraits W r) (λ s g. no s (from-bound r s g)))
    where
      no : (s : Reference) → FromBound r s → ⊥
      no s f = absurd (omega (arith, a, fewer-in-view r s (bound-seen r s h f) (bound-less r s f)))
  same-within (suc n) zero r h a b =
      none-flat (λ s. s ∷ strict_supertraits_within n (view_of W c) s) (written_supertraits (view_of W c) r)
      (λ s g. no s (from-bound r s (subst (λ z. In s z) (same-written r h) g)))
    where
      no : (s : Reference) → FromBound r s → ⊥
      no s f = absurd (omega (arith, b, fewer-in-set r s (bound-seen r s h f) (bound-less r s f)))
  same-within (suc n) (suc m) r h a b =
      ap (flat_map (λ s. s ∷ strict_supertraits_within n (view_of W c) s)) (same-written r h)
      ∙ flat-same (λ s. s ∷ strict_supertraits_within n (view_of W c) s) (λ s. s ∷ strict_supertraits_within m W s) (written_supertraits W r) (λ s g. at s (from-bound r s g) (λ e p q. same-within n m s e p q))
    where
      at : (s : Reference) → FromBound r s → (sees_trait W c s.trait ≡ true → before-view s.trait ≤ n → before-set s.trait ≤ m → strict_supertraits_within n (view_of W c) s ≡ strict_supertraits_within m W s)
          → s ∷ strict_supertraits_within n (view_of W c) s ≡ s ∷ strict_supertraits_within m W s
      at s f again =
          let e = bound-seen r s h f in
          let d = bound-less r s f in
          ap (λ z. s ∷ z) (again e (omega (arith, a, fewer-in-view r s e d)) (omega (arith, b, fewer-in-set r s e d)))

  pub same-supers : (r : Reference) → sees_trait W c r.trait ≡ true → strict_supertraits (view_of W c) r ≡ strict_supertraits W r
  unfolding place before-view before-set
  same-supers r h =
      same-within (length (view_of W c).traits) (length W.traits) r h (below-length place (l.rules.trait_rank r.trait) (view_of W c).traits) (below-length place (l.rules.trait_rank r.trait) W.traits)

-- what the view declares, c sees
pub view-declares : (W : World) (c t : ℕ) → list_any (λ (x : TraitDecl). true) (traits_named (view_of W c) t) ≡ true → sees_trait W c t ≡ true
view-declares W c t h =
    let x = some-member (λ (y : TraitDecl). true) (traits_named (view_of W c) t) h in
    let a = in-filter (λ (y : TraitDecl). y.name == t) (view_of W c).traits x.0 x.1 in
    let b = in-filter (λ (y : TraitDecl). sees W c y.home) W.traits x.0 a.0 in
    member-some (λ (z : TraitDecl). sees W c z.home) (traits_named W t) x.0 (filter-in (λ (z : TraitDecl). z.name == t) W.traits x.0 b.0 a.1) b.1
