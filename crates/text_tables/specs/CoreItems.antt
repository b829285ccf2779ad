-- The items of `core` one after the other, as they are added.
use Rattle.std.specs.Prelude.{◌≡◌, ℕ, ◌<◌, Bool, false, List, [], ◌∷◌, ◌++◌, length, map, take, Option, Some, None, if◌then◌else◌}
use Rattle.type_terms.specs.Promised.Label.{Sort, of_type, of_const, of_lifetime, array, adt, ref, raw_pointer, param}
use Rattle.type_terms.specs.Promised.Trees.{Trees, none, tree, leaf}
use Rattle.type_terms.specs.Promised.Worlds.{Reference, core}
use Rattle.type_terms.specs.Promised.Core.{type_param, box, box_impl, impls_for, scalars}
use Rattle.type_terms.specs.Promised.Rules.{asked, clone}
use Rattle.text_language.specs.Promised.Declarations.{Declarations, NamedImpl, last_crate}
use Rattle.text_language.specs.Declarations.{bare_impl, nothing_declared, copied, lifetime_a, type_T, const_N}
use Rattle.type_terms.specs.Kinds.{is_mut}
use Rattle.type_terms.specs.declared.TraitId.{TraitId}
use Rattle.type_terms.specs.declared.kinds.Mutability.{Mutability}
use Rattle.text_tables.specs.declared.cell.TermCell.{TermCell}
use Rattle.text_tables.specs.TermCells.{trees_of, joined}
use Rattle.text_tables.specs.Tables.{core_alone, with_trait}
use Rattle.text_tables.specs.Parts.{new_trait, new_impl}
use Rattle.text_tables.specs.Views.{cell_of}

-- There are few enough of each that all of `core` has room.
pub record HasRoom (d : Declarations) : Type 0 where
  pub few_crates : length d.crates < 1000
  pub few_structs : length d.structs < 1000
  pub few_traits : length d.traits < 1000
  pub few_impls : length d.impls < 1000
  pub few_questions : length d.questions < 1000
  pub few_sections : length d.sections < 1000
  pub few_later : length d.later_impls < 1000

-- The last crate is `core`, and there is room for one half of its impls.
pub record IsInCore (d : Declarations) : Type 0 where
  pub home : last_crate d ≡ core
  pub few_crates : length d.crates < 500
  pub few_structs : length d.structs < 500
  pub few_traits : length d.traits < 500
  pub few_impls : length d.impls < 500
  pub few_questions : length d.questions < 500
  pub few_sections : length d.sections < 500
  pub few_later : length d.later_impls < 500

abbrev pub core_kinds : Bool → List Sort
core_kinds takes_type = if takes_type then of_type ∷ [] else []

-- A bound of Self and the parameter, if there is one.
abbrev pub core_args : Bool → Trees
core_args takes_type = if takes_type then tree (param of_type 0) none (type_param 1) else type_param 0

abbrev pub core_bounds : Bool → Option TraitId → List Reference
core_bounds takes_type None = []
core_bounds takes_type (Some t) = record { trait = t.index; args = core_args takes_type } ∷ []

-- with a further trait of `core`
abbrev pub with_core_trait : Declarations → List ℕ → Bool → Bool → Option TraitId → Declarations
with_core_trait d n is_fundamental takes_type bound = with_trait d (new_trait d n is_fundamental false (core_kinds takes_type) (core_bounds takes_type bound))

-- more impls after the others
abbrev pub with_core_impls : Declarations → List NamedImpl → Declarations
with_core_impls d is = record d { impls = d.impls ++ is }

-- with the impls of a trait for scalars
abbrev pub with_scalar_impls : Declarations → ℕ → Declarations
with_scalar_impls d t = with_core_impls d (map bare_impl (impls_for (length d.impls) t scalars))

-- `core` with its first struct.
abbrev pub core_box : Declarations
core_box = record core_alone { structs = take 1 nothing_declared.structs }

-- `core` with its structs.
abbrev pub core_structs : Declarations
core_structs = record core_alone { structs = nothing_declared.structs }

-- `core` with its structs and its first traits.
abbrev pub core_traits_to : ℕ → Declarations
core_traits_to n = record core_structs { traits = take n nothing_declared.traits }

-- The same with its impls of `Clone`, without that for `Box`.
abbrev pub core_cloned : Declarations
core_cloned = record (core_traits_to 9) { impls = copied 0 clone }

-- The same with that for `Box`.
abbrev pub core_boxed : Declarations
core_boxed = record core_cloned { impls = copied 0 clone ++ record { params = type_T ∷ []; item = box_impl } ∷ [] }

-- `impl Tr for T` at a type of one cell
abbrev pub impl_for : Declarations → ℕ → TermCell → NamedImpl
impl_for d t c = new_impl d [] (asked t (joined (trees_of (cell_of c ∷ [])))) []

abbrev pub ref_impl : Declarations → ℕ → NamedImpl
ref_impl d t = new_impl d (lifetime_a ∷ type_T ∷ []) (asked t (tree (ref false) (tree (param of_lifetime 0) none (type_param 1)) none)) []

abbrev pub pointer_impl : Declarations → ℕ → Mutability → NamedImpl
pointer_impl d t m = new_impl d (type_T ∷ []) (asked t (tree (raw_pointer (is_mut m)) (type_param 0) none)) []

abbrev pub array_impl : Declarations → ℕ → NamedImpl
array_impl d t = new_impl d (type_T ∷ const_N ∷ []) (asked t (tree array (tree (param of_type 0) none (leaf (param of_const 1))) none)) (asked t (type_param 0) ∷ [])

abbrev pub boxed_impl : Declarations → NamedImpl
boxed_impl d = new_impl d (type_T ∷ []) (asked clone (tree (adt box) (type_param 0) none)) (asked clone (type_param 0) ∷ [])
