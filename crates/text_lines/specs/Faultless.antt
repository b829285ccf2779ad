-- What is true of a line without a fault, after the declarations of the lines that precede it.
use Rattle.std.specs.Prelude.{◌≡◌, ℕ, ◌<◌, ◌≤◌, ◌^◌, Bool, true, false, ◌||◌, List, [], ◌∷◌, length, Some, None, count_by, if◌then◌else◌}
use Rattle.std.specs.List.{list_all}
use Rattle.std.specs.Option.{option_map_or}
use Rattle.std.specs.Str.{bytes_eq}
use Rattle.text_language.specs.Promised.Syntax.{Line, crate_line, prove_line, refute_line, later_line, supers_line}
use Rattle.text_language.specs.Promised.Declarations.{Declarations, known, kinds_of}
use Rattle.text_language.specs.Uses.{Use, crate_use, name_use, trait_use, lifetime_use, binder_use, variable_use, misfit_use, dyn_use, items_use, number_use, uses, asked_uses, params_of, declared_name, line_depth}
use Rattle.text_language.specs.Faults.{fault_of, is_misplaced, takes_names, uses_unknown, uses_hidden, uses_other_sort, has_free_param, bounds_use_own, is_loaded_auto, is_foreign_auto, implements_built_in, has_stray_variable, refutes_params, has_bad_dyn, passes_limit, belongs_to_crate, is_impl, is_crate}
use Rattle.text_language.specs.Promised.Faults.{with_own}
use Rattle.text_language.specs.Faults.{is_line_param, is_param_of, is_type_of, is_trait_of, static_name, is_in_scope, is_bad_dyn, is_bound, parts, once, variables_in, param_limit, part_limit, list_limit, variable_limit, depth_limit}

-- each test for a fault fails
pub record PassesTests (d : Declarations) (l : Line) : Type 0 where
  pub is_placed : is_misplaced d l ≡ false
  pub has_free_names : takes_names d l ≡ false
  pub has_known_names : uses_unknown d l ≡ false
  pub has_seen_names : uses_hidden d l ≡ false
  pub has_fitting_sorts : uses_other_sort d l ≡ false
  pub has_bound_params : has_free_param d l ≡ false
  pub has_other_bounds : bounds_use_own d l ≡ false
  pub is_bare_auto : is_loaded_auto l ≡ false
  pub is_local_auto : is_foreign_auto d l ≡ false
  pub implements_open : implements_built_in d l ≡ false
  pub has_asked_variables : has_stray_variable d l ≡ false
  pub refutes_bare : refutes_params l ≡ false
  pub has_good_dyn : has_bad_dyn d l ≡ false
  pub keeps_limits : passes_limit d l ≡ false

abbrev pub FaultlessPasses : Type 0
FaultlessPasses = (d : Declarations) (l : Line) → fault_of d l ≡ None → PassesTests d l

-- The name that it declares is new.
abbrev pub DeclaresNew : Type 0
DeclaresNew = (d : Declarations) (l : Line) (n : List ℕ) → fault_of d l ≡ None → declared_name l ≡ Some n → known d n ≡ None

abbrev pub names_crate : Declarations → List ℕ → Bool
names_crate d n = option_map_or is_crate (known d n) false

-- each name of a crate is that of a declared crate
abbrev pub NamesCrates : Declarations → Line → Type 0
NamesCrates d (crate_line n us) = list_all (names_crate d) us ≡ true
NamesCrates d (prove_line c ps a bs ks) = names_crate d c ≡ true
NamesCrates d (refute_line c ps a bs) = names_crate d c ≡ true
NamesCrates d (later_line n) = names_crate d n ≡ true
NamesCrates d (supers_line n) = names_crate d n ≡ true
NamesCrates d _ = Unit {0}

abbrev pub UsesCrates : Type 0
UsesCrates = (d : Declarations) (l : Line) → fault_of d l ≡ None → NamesCrates d l

-- A struct, trait or impl belongs to a crate other than `core`. In a section of a later version it is an impl.
abbrev pub BelongsToCrate : Type 0
BelongsToCrate =
    (d : Declarations) (l : Line) → fault_of d l ≡ None → belongs_to_crate l ≡ true
    → (d.in_section ≡ false → 1 < length d.crates) × (d.in_section ≡ true → is_impl l ≡ true)

-- ---- the uses of such a line
-- A name is a parameter of the kind of its position, or a struct with as many arguments as it takes. A trait has as many arguments as
-- it takes. A lifetime is in scope. Each count is within its limit.
abbrev pub UseFits : Declarations → Line → Use → Type 0
UseFits d l (crate_use n) = names_crate d n ≡ true
UseFits d l (name_use p n k) = (if is_line_param l n then is_param_of l p n k else option_map_or (is_type_of p k) (known (with_own d l) n) false) ≡ true
UseFits d l (trait_use n k) = (is_line_param l n ≡ false) × (option_map_or (is_trait_of k) (known (with_own d l) n) false ≡ true)
UseFits d l (lifetime_use s n) = bytes_eq n static_name || is_in_scope l s n ≡ true
UseFits d l (binder_use s ns) = Unit {0}
UseFits d l (variable_use p n) = Unit {0}
UseFits d l misfit_use = ⊥
UseFits d l (dyn_use is) = (is_bad_dyn (with_own d l) (dyn_use is) ≡ false) × (count_by is_bound is ≤ part_limit)
UseFits d l (items_use k) = k ≤ list_limit
UseFits d l (number_use n) = n < 2 ^ 64

abbrev pub UsesFit : Declarations → Line → List Use → Type 0
UsesFit d l [] = Unit {0}
UsesFit d l (u ∷ us) = UseFits d l u × UsesFit d l us

abbrev pub FaultlessUses : Type 0
FaultlessUses = (d : Declarations) (l : Line) → fault_of d l ≡ None → UsesFit d l (uses (with_own d l) l)

-- ---- the size of such a line
pub record KeepsLimits (d : Declarations) (l : Line) : Type 0 where
  pub params : length (kinds_of (params_of l)) ≤ param_limit
  pub lists : parts l ≤ part_limit
  pub depth : line_depth (with_own d l) l ≤ depth_limit
  pub variables : length (once (variables_in (asked_uses d l))) ≤ variable_limit

abbrev pub FaultlessLimits : Type 0
FaultlessLimits = (d : Declarations) (l : Line) → fault_of d l ≡ None → KeepsLimits d l
