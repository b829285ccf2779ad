-- A linked set has `core`: it declares each trait of `core` as `core` does.
use Rattle.std.proofs.Common.{◌≡◌, ℕ, true, false, List, [], refl, ap, sym, ◌==◌, subst, inl, filter}
use Rattle.type_terms.specs.Promised.Worlds.{World, TraitDecl, core, sees, view_of}
use Rattle.type_terms.specs.Promised.Rules.{sized, unsize}
use Rattle.type_terms.specs.Promised.Proofs.{In}
use Rattle.type_terms.specs.Promised.Core.{core_world, core_trait}
use Rattle.type_terms.specs.Promised.Renumbering.{View}
use Rattle.type_terms.specs.Promised.Versions.{with_impls, HasLaterImpls}
use Rattle.type_terms.specs.Promised.LinkedSet.{JoinedSet}
use Rattle.type_terms.specs.Promised.Versions.{sees_trait}
use Rattle.type_terms.proofs.Members.{in-filter, filter-in, member-some, self-number}

-- where core sees just core, it stands there and has its impls
pub whole-there : (W : World) → view_of W core ≡ core_world → with_impls (view_of W core) core_world.impls ≡ core_world
whole-there W e = ap (λ V. with_impls V core_world.impls) e

pub whole-later : (W : World) → view_of W core ≡ core_world → HasLaterImpls W core core_world.impls
whole-later W e = record { stand = λ i h. subst (λ (V : World). In i V.impls) (sym e) h; added = λ i h. inl (subst (λ (V : World). In i V.impls) e h) }

module _ (W : World) (vs : List View) (rank : ℕ → ℕ) (l : JoinedSet W vs rank) where
  -- a trait of core stands in W
  pub core-stands : (x : TraitDecl) → In x core_world.traits → In x W.traits × (sees W core x.home ≡ true)
  core-stands x h = in-filter (λ (y : TraitDecl). sees W core y.home) W.traits x (subst (λ (V : World). In x V.traits) (sym l.fits.core_there) h)

  pub core-seen : (x : TraitDecl) → In x core_world.traits → sees_trait W core x.name ≡ true
  core-seen x h =
      let m = core-stands x h in
      member-some (λ (y : TraitDecl). sees W core y.home) (filter (λ (y : TraitDecl). y.name == x.name) W.traits) x (filter-in (λ (y : TraitDecl). y.name == x.name) W.traits x m.0 (self-number x.name)) m.1

  -- and is what its name stands for
  pub core-is : (x y : TraitDecl) → In x core_world.traits → In y W.traits → y.name ≡ x.name → y ≡ x
  core-is x y h g e = l.fits.one_trait y x g (core-stands x h).0 e

  pub sized-bare : (y : TraitDecl) → In y W.traits → y.name ≡ sized → y.bounds ≡ []
  sized-bare y g e = ap (λ (z : TraitDecl). z.bounds) (core-is (core_trait true sized []) y (0, refl) g e)

  pub unsize-bare : (y : TraitDecl) → In y W.traits → y.name ≡ unsize → y.bounds ≡ []
  unsize-bare y g e = ap (λ (z : TraitDecl). z.bounds) (core-is (core_trait false unsize []) y (8, refl) g e)
