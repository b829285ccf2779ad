-- Which goals fit declarations. The arguments of the goal's trait, and of the outermost structs and `dyn` types, are as many as declared,
-- and of the declared kinds.
use Rattle.std.specs.Prelude.{◌≡◌, ℕ, Bool, true, false, ◌&&◌, ◌||◌, ◌==◌, not, List, [], ◌∷◌, map}
use Rattle.std.specs.Option.{option_map_or}
use Rattle.std.specs.List.{list_any}
use Rattle.type_terms.specs.Promised.Label.{Sort, of_type, of_trait, predicate, dynamic, principal, adt}
use Rattle.type_terms.specs.Promised.Trees.{Trees, none, tree, is_sort}
use Rattle.type_terms.specs.Trees.{outer_binder}
use Rattle.type_terms.specs.Promised.Worlds.{Reference}
use Rattle.type_terms.specs.Promised.Rules.{unsize, autos_with}
use Rattle.type_terms.specs.Promised.Answers.{written_in}
use Rattle.type_terms.specs.Promised.Handles.{Entry, trees_at}
use Rattle.term_folds.specs.Signatures.{StartsWithType}
use Rattle.infer_table.specs.Canonical.{CanonicalForm}
use Rattle.infer_table.specs.declared.input.CanonicalInput.{CanonicalInput}
use Rattle.declarations.specs.Items.{Items, reference_in, struct_at, trait_at, written}
use Rattle.declarations.specs.Applied.{sort_of_param, sorts_of, sorts_of_params, IsApplied}
use Rattle.candidate_model.specs.Asking.{self_of, next_of}
use Rattle.built_in_candidates.specs.Goals.{asked_of}
use Rattle.structural_traits.specs.Constituents.{StructIsApplied}
use Rattle.built_in_candidates.specs.Objects.{ObjectIsApplied}
use Rattle.built_in_candidates.specs.Unsizing.{CanUnsize}
use Rattle.candidate_assembly.specs.Sections.{sources_tell}
use Rattle.candidate_assembly.specs.Solving.{Solving, DeclaredSorts}

-- Two lists of kinds are equal.
abbrev pub same_sorts : List Sort → List Sort → Bool
same_sorts [] [] = true
same_sorts (s ∷ ss) (t ∷ ts) = is_sort s t && same_sorts ss ts
same_sorts _ _ = false

-- The kinds are those of the trait's parameters, Self first, if it is declared.
abbrev pub are_of_trait : Items → ℕ → List Sort → Bool
are_of_trait d t sorts = option_map_or (λ def. same_sorts sorts (sorts_of_params def)) (trait_at t d.traits) true

-- The kinds are those of the struct's parameters, if it is declared.
abbrev pub are_of_struct : Items → ℕ → List Sort → Bool
are_of_struct d s sorts = option_map_or (λ def. same_sorts sorts (map sort_of_param def.params.items)) (struct_at s d.structs) true

-- No binder number leads out of the term.
abbrev pub is_shut : Trees → Bool
is_shut t = outer_binder t == 0

-- `Unsize` is among the auto traits of these bounds.
abbrev pub names_unsize : Trees → Bool
names_unsize bounds = list_any (λ (r : Reference). r.trait == unsize) (autos_with none bounds)

-- The principal trait among the bounds of a `dyn`, if there is one, has an argument for each parameter but Self, and does not use the
-- lifetimes that it binds, as that of `dyn for<'a> Conv<&'a u8>` does.
abbrev pub principal_fits : Items → Trees → Bool
principal_fits d (tree (principal n t) args others) = are_of_trait d t (of_type ∷ sorts_of args) && is_shut args
principal_fits d bounds = true

-- If the first type is a struct, it has an argument for each parameter. If it is a `dyn`, its principal trait fits, and `Unsize` is none of
-- its auto traits.
abbrev pub type_fits : Items → Trees → Bool
type_fits d (tree (adt s) args others) = are_of_struct d s (sorts_of args)
type_fits d (tree dynamic bounds others) = principal_fits d bounds && not (names_unsize bounds)
type_fits d t = true

-- The trait reference has an argument for each parameter of its trait, no binder number leads out of it, and its self type fits. For
-- `Unsize` the target fits too.
abbrev pub reference_fits : Items → Reference → Bool
reference_fits d r = are_of_trait d r.trait (sorts_of r.args) && (is_shut r.args && (type_fits d r.args && (not (r.trait == unsize) || type_fits d (next_of r.args))))

abbrev pub predicate_fits : Items → Trees → Bool
predicate_fits d (tree (predicate (of_trait t)) args others) = reference_fits d (record { trait = t; args = args })
predicate_fits d t = false

-- The goal fits the declarations.
abbrev pub fits_declared : Items → CanonicalForm → Bool
fits_declared d f = predicate_fits d f.goal.predicate

-- The kinds of the parameters of each declared item.
abbrev pub sorts_declared : Items → DeclaredSorts
sorts_declared d = record {
  structs = map (λ x. map sort_of_param x.1.params.items) d.structs;
  traits = map (λ x. map sort_of_param x.1.params.items) d.traits;
  impls = map (λ i. map sort_of_param i.def.params.items) d.impls;
}

-- What declarations mean for the solver.
abbrev pub solving_of : List Entry → Items → Solving
solving_of es d = record { view = written es d; crate = d.local; fits = fits_declared d; sorts = sorts_declared d }

-- ---- what is known of a goal that fits
-- All that the candidates require of a goal. Its names are declared, it has its trait's arguments, its first argument is a type, and the
-- outermost type there has its arguments. For `Unsize` the target has them too. Sources tell the sections of its candidates apart.
pub record GoalFits (es : List Entry) (d : Items) (g : CanonicalInput) : Type 0 where
  pub written : written_in (written es d) (reference_in es g.goal.predicate.trait_ref) ≡ true
  pub applied : IsApplied es d g.goal.predicate.trait_ref
  pub first : StartsWithType (trees_at es g.goal.predicate.trait_ref.args.0)
  pub struct : StructIsApplied d (trees_at es g.goal.predicate.trait_ref.args.0)
  pub object : ObjectIsApplied d (trees_at es g.goal.predicate.trait_ref.args.0)
  pub unsizing : (g.goal.predicate.trait_ref.def_id.index == unsize) ≡ true → CanUnsize d (self_of (asked_of es g))
  pub tells : sources_tell (asked_of es g) ≡ true
