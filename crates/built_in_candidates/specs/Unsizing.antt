-- `Unsize`: the parts of the self type and of the target, and the goals whose candidates can be computed.
use Rattle.std.specs.Prelude.{◌≡◌, Bool, true, false, if◌then◌else◌, List, [], ◌∷◌, ◌++◌, map, Option, Some, None}
use Rattle.type_terms.specs.Promised.Label.{array, slice, adt, dynamic}
use Rattle.type_terms.specs.Promised.Trees.{Trees, none, tree, ◌+++◌, instantiate}
use Rattle.type_terms.specs.Trees.{outer_binder}
use Rattle.type_terms.specs.Promised.Worlds.{World, Reference}
use Rattle.type_terms.specs.Promised.Rules.{asked, sized, unsize, are_dyn_compatible, principal_with, autos_with}
use Rattle.type_terms.specs.Promised.Handles.{Entry, Has, trees_at}
use Rattle.type_terms.specs.Terms.{args_lists}
use Rattle.type_terms.specs.declared.AdtId.{AdtId}
use Rattle.type_terms.specs.declared.TraitId.{TraitId}
use Rattle.type_terms.specs.declared.kinds.GenericArgKind.{GenericArgKind}
use Rattle.type_terms.specs.declared.kinds.GenericArgs.{GenericArgs}
use Rattle.term_folds.specs.Signatures.{StartsWithType}
use Rattle.declarations.specs.declared.items.AdtDef.{AdtDef}
use Rattle.declarations.specs.Applied.{sort_of_param, sorts_of}
use Rattle.declarations.specs.Items.{Items}
use Rattle.declarations.specs.Promised.Elaboration.{Each}
use Rattle.candidate_model.specs.Asking.{GoalOverKinds, next_of}
use Rattle.candidate_model.specs.Candidates.{Candidate, by_rule, misc, if_so}
use Rattle.structural_traits.specs.Constituents.{AreArguments}
use Rattle.built_in_candidates.specs.Objects.{AreArgumentsOf}

-- The element type of an array, if the first type is one.
abbrev pub array_element_of : Trees → Option Trees
array_element_of (tree array (tree l c n) o) = Some (tree l c none)
array_element_of t = None

-- The element type of a slice, if the first type is one.
abbrev pub slice_element_of : Trees → Option Trees
slice_element_of (tree slice (tree l c n) o) = Some (tree l c none)
slice_element_of t = None

-- The terms t begin with the terms x.
abbrev pub BeginsWith : Trees → Trees → Type 0
BeginsWith t x = (rest : Trees) × (t ≡ x +++ rest)

-- ---- structs
abbrev pub begins_struct : Trees → Bool
begins_struct (tree (adt s) c o) = true
begins_struct t = false

-- The struct and its arguments, if the type is one.
abbrev pub IsStructType : List Entry → Trees → Option (AdtId × GenericArgs) → Type 0
IsStructType es t None = begins_struct t ≡ false
IsStructType es t (Some r) = Has es args_lists r.1.0 × (t ≡ tree (adt r.0.index) (trees_at es r.1.0) none)

-- The first list, with the arguments of the second list at the indices that are flagged.
abbrev pub replaced : List Bool → List GenericArgKind → List GenericArgKind → List GenericArgKind
replaced (b ∷ bs) (x ∷ xs) (y ∷ ys) = (if b then y else x) ∷ replaced bs xs ys
replaced bs xs ys = []

-- The arguments have the kinds of the struct's parameters. No bound variable in them refers to a binder outside.
pub record FitsStruct (def : AdtDef) (args : Trees) : Type 0 where
  pub sorts : sorts_of args ≡ map sort_of_param def.params.items
  pub closed : outer_binder args ≡ 0

-- A field f with the arguments b unsizes to f with the arguments d, as a trait reference.
abbrev pub tail_asked : Trees → Trees → Trees → Reference
tail_asked b d f = record { trait = unsize; args = instantiate 0 b f +++ instantiate 0 d f }

-- ---- `dyn`
-- The trait reference `self: Trait` for each of the traits.
abbrev pub traits_asked : List TraitId → Trees → List Reference
traits_asked ts self = map (λ (t : TraitId). asked t.index self) ts

-- The candidate by which a type unsizes to a `dyn` with these bounds and a lifetime. There is none if the principal is not dyn compatible.
abbrev pub to_dyn : World → GoalOverKinds → Trees → Trees → List Candidate
to_dyn V a self b =
    if_so (are_dyn_compatible V (principal_with self b)) (by_rule V a misc [] (principal_with self b ++ (autos_with self b ++ asked sized self ∷ [])) ∷ [])

-- The target is the type after the self type. If it is a `dyn`, its principal has an argument for each parameter, with the self type for
-- Self. If it is a struct, it has an argument for each parameter.
abbrev pub TargetIsApplied : Items → Trees → Type 0
TargetIsApplied d (tree l c (tree dynamic bounds o)) = Each (AreArgumentsOf d) (principal_with (tree l c none) bounds)
TargetIsApplied d (tree l c (tree (adt s) args o)) = AreArguments d s args
TargetIsApplied d t = Unit {0}

-- The self type and the target, in this order, are those of a goal of `Unsize` whose candidates can be computed.
pub record CanUnsize (d : Items) (args : Trees) : Type 0 where
  pub target : StartsWithType (next_of args)
  pub applied : TargetIsApplied d args
