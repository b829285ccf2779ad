-- `dyn` types: their bounds with a self type, and those among them that can be a goal.
use Rattle.std.specs.Prelude.{◌≡◌, ℕ, suc, Bool, ◌==◌, ◌&&◌, not, if◌then◌else◌, List, [], ◌∷◌, ◌++◌, Option, Some, None, IfSome, option_map}
use Rattle.std.specs.List.{slice_get}
use Rattle.type_terms.specs.Promised.Label.{Label, of_lifetime, dynamic}
use Rattle.type_terms.specs.Promised.Trees.{Trees, none, tree, leaf, ◌+++◌, sort_of}
use Rattle.type_terms.specs.Trees.{outer_binder}
use Rattle.type_terms.specs.Promised.Worlds.{World, Reference}
use Rattle.type_terms.specs.Promised.Rules.{sized, principal_with, autos_with, are_declared, are_dyn_compatible, upcasts_autos}
use Rattle.type_terms.specs.Promised.Handles.{Entry, Has, bounds_lists, trees_at}
use Rattle.type_terms.specs.declared.kinds.Bounds.{Bounds}
use Rattle.term_folds.specs.declared.predicate.TraitRef.{TraitRef}
use Rattle.goal_evaluator.specs.declared.candidate.CandidateSource.TheVariants.{BuiltinImpl}
use Rattle.goal_evaluator.specs.declared.candidate.BuiltinImplSource.{BuiltinImplSource}
use Rattle.goal_evaluator.specs.declared.candidate.BuiltinImplSource.TheVariants.{Misc, Object, TraitUpcasting}
use Rattle.declarations.specs.Items.{Items, reference_in, trait_at}
use Rattle.declarations.specs.Promised.Elaboration.{Each}
use Rattle.declarations.specs.Applied.{sorts_of, sorts_of_params}
use Rattle.declarations.specs.Promised.Elaboration.{elaborate, supertraits}
use Rattle.candidate_model.specs.Asking.{GoalOverKinds}
use Rattle.candidate_model.specs.Candidates.{Candidate, if_so, can_be, upcasts_to, by_objects}

-- ---- parts of a type
-- The bounds of a `dyn`, followed by its lifetime, if the first type is one.
abbrev pub bounds_of : Trees → Option Trees
bounds_of (tree dynamic b o) = Some b
bounds_of t = None

-- The type is a `dyn` with these bounds, which are followed by a lifetime. `None` says that it is no `dyn`.
abbrev pub AreBoundsOf : List Entry → Trees → Option Bounds → Type 0
AreBoundsOf es t None = bounds_of t ≡ None
AreBoundsOf es t (Some b) = Has es bounds_lists b.0 × (l : Label) × (sort_of l ≡ of_lifetime) × (t ≡ tree dynamic (trees_at es b.0 +++ leaf l) none)

-- P holds of the bounds followed by any lifetime.
abbrev pub WithLifetime : List Entry → Bounds → (Trees → Type 0) → Type 0
WithLifetime es b P = (l : Label) → sort_of l ≡ of_lifetime → P (trees_at es b.0 +++ leaf l)

-- ---- principals that can be elaborated
-- If the trait is declared, the arguments have the kinds of its parameters, Self first. No bound variable in them refers to a binder outside.
pub record AreArgumentsOf (d : Items) (r : Reference) : Type 0 where
  pub sorts : IfSome (trait_at r.trait d.traits) (λ def. sorts_of r.args ≡ sorts_of_params def)
  pub closed : outer_binder r.args ≡ 0

-- If the first type is a `dyn`, its principal has an argument for each parameter of its trait. Self is the `dyn`.
abbrev pub ObjectIsApplied : Items → Trees → Type 0
ObjectIsApplied d (tree dynamic b o) = Each (AreArgumentsOf d) (principal_with (tree dynamic b none) b)
ObjectIsApplied d t = Unit {0}

-- ---- bounds of a kind
-- The trait references of the list that have the property p, each with its index. The first index is i.
abbrev pub numbered_to : (TraitRef → Bool) → ℕ → List TraitRef → List (ℕ × TraitRef)
numbered_to p i [] = []
numbered_to p i (r ∷ rs) = if p r then (i, r) ∷ numbered_to p (suc i) rs else numbered_to p (suc i) rs

-- The trait reference can be q.
abbrev pub can_be_in : List Entry → Reference → TraitRef → Bool
can_be_in es q r = can_be q (reference_in es r)

-- A bound, and the source of the candidate by it.
pub record BoundRule : Type 0 where
  pub source : BuiltinImplSource
  pub reference : Reference

abbrev pub bound_in : List Entry → BuiltinImplSource × TraitRef → BoundRule
bound_in es x = record { source = x.0; reference = reference_in es x.1 }

-- The bounds of the list that have the property p. The first index is i, and a bound's source depends on its index.
abbrev pub bounds_to : (Reference → Bool) → (ℕ → BuiltinImplSource) → ℕ → List Reference → List BoundRule
bounds_to p source i [] = []
bounds_to p source i (r ∷ rs) = if p r then record { source = source i; reference = r } ∷ bounds_to p source (suc i) rs else bounds_to p source (suc i) rs

-- The bounds that can be q among the auto traits of a `dyn`, followed by those among its principal and the supertraits. There are none of
-- `Sized`.
abbrev pub written_and_elaborated : Reference → Trees → Trees → List Reference → List BoundRule
written_and_elaborated q self b rs = if_so (not (q.trait == sized)) (bounds_to (can_be q) (λ i. Misc) 0 (autos_with self b) ++ bounds_to (can_be q) Object 0 rs)

-- The bounds of a `dyn` that can be q, if its principal is dyn compatible. `dyn Sub + Send` has bounds of `Send`, of `Sub`, and of the
-- supertraits of `Sub`.
abbrev pub object_bounds : World → Reference → Trees → Trees → List BoundRule
object_bounds V q self b = if_so (are_dyn_compatible V (principal_with self b)) (written_and_elaborated q self b (elaborate V (principal_with self b)))

-- The rule with this index is of the bound with this number among the principal and its supertraits.
abbrev pub IsOfBound : List BoundRule → ℕ → ℕ → Type 0
IsOfBound rules number place = option_map (λ (x : BoundRule). x.source) (slice_get rules place) ≡ Some (Object number)

-- So is the candidate with this index.
abbrev pub IsByBound : World → GoalOverKinds → ℕ → ℕ → Type 0
IsByBound V a number place = option_map (λ (c : Candidate). c.source) (slice_get (by_objects V a) place) ≡ Some (BuiltinImpl (Object number))

-- The bounds of the trait t to which a `dyn` with this principal is upcast: the principal if it is of that trait, and else its supertraits.
abbrev pub upcast_bounds : World → ℕ → List Reference → List BoundRule
upcast_bounds V t [] = []
upcast_bounds V t (p ∷ ps) = if p.trait == t then record { source = Misc; reference = p } ∷ [] else bounds_to (λ r. r.trait == t) TraitUpcasting 1 (supertraits V p)

-- The candidates by which a `dyn` with the bounds b unsizes to one with the bounds d. Self is the same type in both.
abbrev pub upcasts_between : World → GoalOverKinds → Trees → Trees → Trees → List Candidate
upcasts_between V a self b d =
    let ps = principal_with self b in
    if_so (are_declared V ps && upcasts_autos V ps (autos_with self b) (autos_with self d)) (upcasts_to V a ps (principal_with self d))
