-- Trait references that have an argument for each parameter, and traits whose supertraits can be read off them.
use Rattle.std.specs.Prelude.{◌≡◌, ℕ, ◌<◌, List, [], ◌∷◌, map, IfSome, None}
use Rattle.type_terms.specs.Promised.Label.{Sort, of_type, of_const, of_lifetime}
use Rattle.type_terms.specs.Promised.Trees.{Trees, none, tree, sort_of}
use Rattle.type_terms.specs.Trees.{outer_binder}
use Rattle.type_terms.specs.Promised.Worlds.{Reference}
use Rattle.type_terms.specs.Promised.Handles.{Entry, trees_at}
use Rattle.type_terms.specs.declared.TraitId.{TraitId}
use Rattle.term_folds.specs.Arguments.{first_misfit}
use Rattle.term_folds.specs.declared.predicate.TraitRef.{TraitRef}
use Rattle.declarations.specs.declared.items.GenericParamKind.{GenericParamKind}
use Rattle.declarations.specs.declared.items.GenericParamKind.TheVariants.{Lifetime, «Type» as TypeParam, Const}
use Rattle.declarations.specs.declared.items.TraitDef.{TraitDef}
use Rattle.declarations.specs.Held.{ReferenceHeld}
use Rattle.declarations.specs.Items.{Items, reference_in, trait_at}
use Rattle.declarations.specs.Promised.Elaboration.{Each}

-- The trait references, over the terms of an interner.
abbrev pub references_in : List Entry → List TraitRef → List Reference
references_in es rs = map (reference_in es) rs

-- The arguments of the trait references are of this interner.
abbrev pub TraitRefsHeld : List Entry → List TraitRef → Type 0
TraitRefsHeld es rs = Each (ReferenceHeld es) rs

-- The kind of a parameter.
abbrev pub sort_of_param : GenericParamKind → Sort
sort_of_param Lifetime = of_lifetime
sort_of_param TypeParam = of_type
sort_of_param Const = of_const

-- The kinds of a trait's parameters, `Self` first.
abbrev pub sorts_of_params : TraitDef → List Sort
sorts_of_params def = map sort_of_param def.params.items

-- The kinds of the terms, in their order.
abbrev pub sorts_of : Trees → List Sort
sorts_of none = []
sorts_of (tree l c o) = sort_of l ∷ sorts_of o

-- The trait reference has an argument of its kind for each parameter of its trait, if that is declared. No binder index leads out of it.
pub record IsApplied (es : List Entry) (d : Items) (r : TraitRef) : Type 0 where
  pub sorts : IfSome (trait_at r.def_id.index d.traits) (λ def. sorts_of (trees_at es r.args.0) ≡ sorts_of_params def)
  pub closed : outer_binder (trees_at es r.args.0) ≡ 0

-- All of them do.
abbrev pub AreApplied : List Entry → Items → List TraitRef → Type 0
AreApplied es d rs = Each (IsApplied es d) rs

-- Whatever arguments of these kinds are given, each parameter that occurs in the terms has its argument.
abbrev pub SpeaksOf : List Sort → Trees → Type 0
SpeaksOf sorts t = (A : Trees) → sorts_of A ≡ sorts → first_misfit A t ≡ None

-- A supertrait as declared: it mentions only the trait's parameters, and its own trait is of lower rank.
pub record IsBoundOf (es : List Entry) (d : Items) (rank : ℕ → ℕ) (t : ℕ) (def : TraitDef) (b : TraitRef) : Type 0 where
  pub applied : IsApplied es d b
  pub speaks : SpeaksOf (sorts_of_params def) (trees_at es b.args.0)
  pub lower : rank b.def_id.index < rank t

-- Each trait has such supertraits. `trait A: B` and `trait B: A` together are refused.
pub record HaveBounds (es : List Entry) (d : Items) : Type 0 where
  pub rank : ℕ → ℕ
  pub each : Each (λ (x : TraitId × TraitDef). Each (IsBoundOf es d rank x.0.index x.1) x.1.bounds.items) d.traits
