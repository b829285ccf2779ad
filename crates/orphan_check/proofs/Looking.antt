-- The bounds of a `dyn` without a principal are no local type.
use Rattle.std.proofs.Common.{◌≡◌, ℕ, refl, ap, ◌∙◌, List, [], ◌∷◌, Option, None}
use Rattle.type_terms.specs.Promised.Trees.{◌+++◌, leaf}
use Rattle.type_terms.specs.Promised.Worlds.{World}
use Rattle.type_terms.specs.Promised.Handles.{Entry}
use Rattle.type_terms.specs.Promised.Handles.{region_label, region_trees}
use Rattle.type_terms.specs.Kinds.{autos_trees, bounds_trees, principal_trees}
use Rattle.type_terms.specs.declared.TraitId.{TraitId}
use Rattle.type_terms.specs.declared.kinds.BoundsData.{BoundsData}
use Rattle.type_terms.specs.declared.region.Region.{Region}
use Rattle.type_terms.specs.declared.region.RegionKind.{RegionKind}
use Rattle.type_terms.specs.declared.region.RegionKind.TheVariants.{ReStatic, ReEarlyParam, RePlaceholder, ReBound, ReVar}
use Rattle.type_terms.specs.declared.number.BoundVarIndexKind.TheVariants.{Bound as KBinder, Canonical as KCanonical}
use Rattle.type_terms.specs.Promised.OrphanErrors.{leaf_type, dyn_look}

region-leaf : (V : World) (d : Option ℕ) (k : RegionKind) → dyn_look V d (leaf (region_label k)) ≡ leaf_type
region-leaf V d ReStatic = refl
region-leaf V d (ReEarlyParam i) = refl
region-leaf V d (RePlaceholder i) = refl
region-leaf V d (ReBound (KBinder b) v) = refl
region-leaf V d (ReBound KCanonical v) = refl
region-leaf V d (ReVar v) = refl

autos-leaf : (V : World) (d : Option ℕ) (autos : List TraitId) (r : Region) → dyn_look V d (autos_trees autos +++ region_trees r) ≡ leaf_type
autos-leaf V d [] r = region-leaf V d r.kind
autos-leaf V d (a ∷ rest) r = refl

pub no-principal : (es : List Entry) (V : World) (d : Option ℕ) (b : BoundsData) (r : Region) → b.principal ≡ None → dyn_look V d (bounds_trees es b +++ region_trees r) ≡ leaf_type
no-principal es V d b r h = ap (λ p. dyn_look V d ((principal_trees es p +++ autos_trees b.autos.items) +++ region_trees r)) h ∙ autos-leaf V d b.autos.items r
