-- The tests for faults, by number. They read a line that follows the grammar, and the declarations of the lines before
-- it.
use Rattle.std.specs.Prelude.{ℕ, ◌^◌, max, Bool, true, false, ◌||◌, ◌&&◌, not, List, [], ◌∷◌, ◌++◌, length, Option, Some, None, is_some, count_by, filter, nat_le, nat_lt, ◌==◌, if◌then◌else◌, codes}
use Rattle.std.specs.List.{list_any, flat_map}
use Rattle.std.specs.Option.{option_map_or, option_and_then}
use Rattle.std.specs.Str.{bytes_eq}
use Rattle.type_terms.specs.Promised.Label.{Sort, of_type, of_const, of_lifetime}
use Rattle.type_terms.specs.Promised.Trees.{is_sort}
use Rattle.type_terms.specs.Promised.Worlds.{sees}
use Rattle.text_language.specs.Promised.Syntax.{TypeTree, named, Line, crate_line, struct_line, trait_line, impl_line, prove_line, refute_line, later_line, supers_line}
use Rattle.text_language.specs.Promised.Declarations.{Declarations, world_of, Known, a_crate, a_struct, a_trait, known, kinds_of, names_of, last_later, impl_owner}
use Rattle.text_language.specs.Uses.{ItemShape, bound_shape, lifetime_shape, Use, crate_use, name_use, trait_use, lifetime_use, binder_use, variable_use, misfit_use, dyn_use, items_use, number_use, uses, asked_uses, other_uses, header_uses, bound_uses, params_of, declared_name, types_count, line_depth}
use Rattle.text_language.specs.Promised.Faults.{is_among, repeats, with_own, is_auto_name, built_in_traits, last_items}

-- ---- fault 3: a struct, trait or impl before any crate, or a struct or trait in a section of a later version
-- A section may precede all crates. For example, `later core` followed by `impl Clone for str`.
abbrev pub belongs_to_crate : Line → Bool
belongs_to_crate (struct_line f n ps fs) = true
belongs_to_crate (trait_line f a n ps bs) = true
belongs_to_crate (impl_line ps h ks) = true
belongs_to_crate _ = false

abbrev pub is_impl : Line → Bool
is_impl (impl_line ps h ks) = true
is_impl _ = false

abbrev pub is_misplaced : Declarations → Line → Bool
is_misplaced d l = belongs_to_crate l && (if d.in_section then not (is_impl l) else nat_le (length d.crates) 1)

-- ---- fault 4: a declared name that is declared already, or a name of a parameter or of a binder that is in scope
-- already, is `'static`, or is declared. Lifetimes have names of their own.
abbrev pub declares_taken : Declarations → Line → Bool
declares_taken d l = option_map_or (λ n. is_some (known d n)) (declared_name l) false

abbrev pub static_name : List ℕ
static_name = codes "static"

abbrev pub is_taken_param : Declarations → Line → Bool
is_taken_param d l =
    repeats (params_of l).lifetimes || (is_among static_name (params_of l).lifetimes
    || (repeats ((params_of l).types ++ (params_of l).consts)
    || list_any (λ n. is_some (known (with_own d l) n)) ((params_of l).types ++ (params_of l).consts)))

-- The lifetime is in scope: it is of the line's parameters, or of the binders around.
abbrev pub is_in_scope : Line → List (List (List ℕ)) → List ℕ → Bool
is_in_scope l s n = is_among n (params_of l).lifetimes || list_any (is_among n) s

abbrev pub is_taken_binder : Line → Use → Bool
is_taken_binder l (binder_use s ns) = repeats ns || (is_among static_name ns || list_any (is_in_scope l s) ns)
is_taken_binder l _ = false

abbrev pub takes_names : Declarations → Line → Bool
takes_names d l = declares_taken d l || (is_taken_param d l || list_any (is_taken_binder l) (uses (with_own d l) l))

-- ---- fault 5: a name or a lifetime that is not declared
abbrev pub is_line_param : Line → List ℕ → Bool
is_line_param l n = is_among n ((params_of l).types ++ (params_of l).consts)

abbrev pub is_known_name : Declarations → Line → List ℕ → Bool
is_known_name d l n = is_line_param l n || is_some (known (with_own d l) n)

abbrev pub is_unknown_use : Declarations → Line → Use → Bool
is_unknown_use d l (crate_use n) = not (is_known_name d l n)
is_unknown_use d l (name_use p n k) = not (is_known_name d l n)
is_unknown_use d l (trait_use n k) = not (is_known_name d l n)
is_unknown_use d l (lifetime_use s n) = not (bytes_eq n static_name || is_in_scope l s n)
is_unknown_use d l _ = false

abbrev pub uses_unknown : Declarations → Line → Bool
uses_unknown d l = list_any (is_unknown_use d l) (uses (with_own d l) l)

-- ---- fault 6: a declared struct or trait that the crate does not see
-- For example, `crate a; trait Show; crate b; impl Show for u8`, where b does not use a.
abbrev pub number_of_crate : Known → Option ℕ
number_of_crate (a_crate k) = Some k
number_of_crate _ = None

-- The crate that must see what the line mentions:
-- - of a query: the crate in which it is asked
-- - of an impl in a section: the crate of the section
-- - of another item: its own crate
abbrev pub looking_crate : Declarations → Line → Option ℕ
looking_crate d (prove_line c ps a bs ks) = option_and_then number_of_crate (known d c)
looking_crate d (refute_line c ps a bs) = option_and_then number_of_crate (known d c)
looking_crate d (crate_line n us) = None
looking_crate d (later_line n) = None
looking_crate d (supers_line n) = None
looking_crate d _ = Some (impl_owner d)

abbrev pub home_of : Known → Option ℕ
home_of (a_crate k) = None
home_of (a_struct k h kinds) = Some h
home_of (a_trait k h a kinds) = Some h

abbrev pub is_hidden_name : Declarations → Line → ℕ → List ℕ → Bool
is_hidden_name d l c n = not (is_line_param l n) && option_map_or (λ h. not (sees (world_of d) c h)) (option_and_then home_of (known (with_own d l) n)) false

abbrev pub is_hidden_use : Declarations → Line → ℕ → Use → Bool
is_hidden_use d l c (name_use p n k) = is_hidden_name d l c n
is_hidden_use d l c (trait_use n k) = is_hidden_name d l c n
is_hidden_use d l c _ = false

abbrev pub uses_hidden : Declarations → Line → Bool
uses_hidden d l = option_map_or (λ c. list_any (is_hidden_use d l c) (uses (with_own d l) l)) (looking_crate d l) false

-- ---- fault 7: a declared name of another kind than is needed, or arguments of the wrong number or kind
abbrev pub is_crate : Known → Bool
is_crate (a_crate k) = true
is_crate _ = false

-- The item is a struct with this number of arguments, at the position of a type.
abbrev pub is_type_of : Sort → ℕ → Known → Bool
is_type_of of_type k (a_struct i h kinds) = length kinds == k
is_type_of _ _ _ = false

abbrev pub is_trait_of : ℕ → Known → Bool
is_trait_of k (a_trait i h a kinds) = length kinds == k
is_trait_of k _ = false

-- The name is a parameter of this kind. A parameter has no arguments.
abbrev pub is_param_of : Line → Sort → List ℕ → ℕ → Bool
is_param_of l of_type n k = is_among n (params_of l).types && (k == 0)
is_param_of l of_const n k = is_among n (params_of l).consts && (k == 0)
is_param_of l of_lifetime n k = false

abbrev pub is_other_sort : Declarations → Line → Use → Bool
is_other_sort d l (crate_use n) = not (option_map_or is_crate (known d n) false)
is_other_sort d l (name_use p n k) = not (if is_line_param l n then is_param_of l p n k else option_map_or (is_type_of p k) (known (with_own d l) n) false)
is_other_sort d l (trait_use n k) = is_line_param l n || not (option_map_or (is_trait_of k) (known (with_own d l) n) false)
is_other_sort d l misfit_use = true
is_other_sort d l _ = false

abbrev pub uses_other_sort : Declarations → Line → Bool
uses_other_sort d l = list_any (is_other_sort d l) (uses (with_own d l) l)

-- ---- fault 8: a type or const parameter of an impl that is not in its header
abbrev pub is_name_use : List ℕ → Use → Bool
is_name_use n (name_use p m k) = bytes_eq m n
is_name_use n _ = false

abbrev pub has_free_param : Declarations → Line → Bool
has_free_param d (impl_line ps h ks) = list_any (λ n. not (list_any (is_name_use n) (header_uses d h))) (ps.types ++ ps.consts)
has_free_param d _ = false

-- ---- fault 9: a trait whose bounds use the trait's own name
abbrev pub is_use_of : List ℕ → Use → Bool
is_use_of n (name_use p m k) = bytes_eq m n
is_use_of n (trait_use m k) = bytes_eq m n
is_use_of n _ = false

abbrev pub bounds_use_own : Declarations → Line → Bool
bounds_use_own d (trait_line f a n ps bs) = list_any (is_use_of n) (flat_map (bound_uses d) bs)
bounds_use_own d _ = false

-- ---- fault 10: an auto trait with parameters or bounds
abbrev pub is_loaded_auto : Line → Bool
is_loaded_auto (trait_line f a n ps bs) = a && not ((length (kinds_of ps) == 0) && (length bs == 0))
is_loaded_auto _ = false

abbrev pub is_struct_in : ℕ → Known → Bool
is_struct_in c (a_struct i h kinds) = h == c
is_struct_in c _ = false

abbrev pub is_own_struct : Declarations → Line → TypeTree → Bool
is_own_struct d l (named n args) = not (is_line_param l n) && option_map_or (is_struct_in (impl_owner d)) (known d n) false
is_own_struct d l _ = false

abbrev pub is_foreign_auto : Declarations → Line → Bool
is_foreign_auto d (impl_line ps h ks) = is_auto_name d h.bound.trait && not (is_own_struct d (impl_line ps h ks) h.subject)
is_foreign_auto d _ = false

abbrev pub is_built_in : Known → Bool
is_built_in (a_trait i h a kinds) = list_any (λ t. t == i) built_in_traits
is_built_in _ = false

abbrev pub implements_built_in : Declarations → Line → Bool
implements_built_in d (impl_line ps h ks) = option_map_or is_built_in (known d h.bound.trait) false
implements_built_in d _ = false

-- ---- fault 13: a variable that is not in the bounds of a query, or that is of two kinds
abbrev pub variables_in : List Use → List (List ℕ × Sort)
variables_in [] = []
variables_in (variable_use p n ∷ us) = (n, p) ∷ variables_in us
variables_in (_ ∷ us) = variables_in us

abbrev pub is_of_other_kind : List ℕ × Sort → List ℕ × Sort → Bool
is_of_other_kind (n, p) (m, q) = bytes_eq n m && not (is_sort p q)

abbrev pub is_any : List (List ℕ × Sort) → Bool
is_any [] = false
is_any (v ∷ vs) = true

abbrev pub has_stray_variable : Declarations → Line → Bool
has_stray_variable d l =
    is_any (variables_in (other_uses (with_own d l) l))
    || list_any (λ v. list_any (is_of_other_kind v) (variables_in (asked_uses d l))) (variables_in (asked_uses d l))

-- ---- fault 14: parameters in `refute`
abbrev pub refutes_params : Line → Bool
refutes_params (refute_line c ps a bs) = not (length (kinds_of ps) == 0)
refutes_params _ = false

-- ---- fault 15: a `dyn` without a bound, with two bounds that are not auto traits, with one that is not first, with a
-- binder before an auto trait, or with a lifetime that is not last
abbrev pub is_bound : ItemShape → Bool
is_bound (bound_shape b n) = true
is_bound lifetime_shape = false

-- The bound may not follow another one.
abbrev pub is_late : Declarations → ItemShape → Bool
is_late d (bound_shape b n) = not (is_auto_name d n)
is_late d lifetime_shape = false

abbrev pub binds_auto : Declarations → ItemShape → Bool
binds_auto d (bound_shape b n) = b && is_auto_name d n
binds_auto d lifetime_shape = false

abbrev pub others : List ItemShape → List ItemShape
others [] = []
others (i ∷ is) = is

-- A lifetime is followed by something.
abbrev pub has_early_lifetime : List ItemShape → Bool
has_early_lifetime [] = false
has_early_lifetime (i ∷ []) = false
has_early_lifetime (lifetime_shape ∷ j ∷ is) = true
has_early_lifetime (bound_shape b n ∷ j ∷ is) = has_early_lifetime (j ∷ is)

abbrev pub is_bad_dyn : Declarations → Use → Bool
is_bad_dyn d (dyn_use is) = not (list_any is_bound is) || (list_any (is_late d) (others is) || (list_any (binds_auto d) is || has_early_lifetime is))
is_bad_dyn d _ = false

abbrev pub has_bad_dyn : Declarations → Line → Bool
has_bad_dyn d l = list_any (is_bad_dyn (with_own d l)) (uses (with_own d l) l)

-- ---- fault 16: a limit is exceeded
abbrev pub name_limit : ℕ
name_limit = 64

abbrev pub crate_limit : ℕ
crate_limit = 4095

abbrev pub item_limit : ℕ
item_limit = 65535

abbrev pub question_limit : ℕ
question_limit = 65536

abbrev pub param_limit : ℕ
param_limit = 64

abbrev pub variable_limit : ℕ
variable_limit = 16

-- The limit of the items of a tuple, and of the inputs of a fn.
abbrev pub list_limit : ℕ
list_limit = 12

-- The limit of fields, where-clauses, and bounds of a trait, a `dyn` or a query.
abbrev pub part_limit : ℕ
part_limit = 64

abbrev pub depth_limit : ℕ
depth_limit = 64

abbrev pub is_long : List ℕ → Bool
is_long n = nat_lt name_limit (length n)

-- The line declares a name that is too long. A mentioned name that is too long is not declared, which is fault 5.
abbrev pub has_long_name : Line → Bool
has_long_name l = option_map_or is_long (declared_name l) false || list_any is_long (names_of (params_of l))

abbrev pub passes_in : Use → Bool
passes_in (binder_use s ns) = list_any is_long ns
passes_in (variable_use p n) = is_long n
passes_in (dyn_use is) = nat_lt part_limit (count_by is_bound is)
passes_in (items_use k) = nat_lt list_limit k
passes_in (number_use n) = nat_le (2 ^ 64) n
passes_in _ = false

-- Each variable once, at its first position.
abbrev pub once : List (List ℕ × Sort) → List (List ℕ × Sort)
once [] = []
once (v ∷ vs) = v ∷ filter (λ w. not (bytes_eq w.0 v.0)) (once vs)

-- There are as many items or queries as the limit allows. `core` is not counted. A text may have any number of sections
-- and of `supers` lines.
abbrev pub is_full : Declarations → Line → Bool
is_full d (crate_line n us) = nat_lt crate_limit (length d.crates)
is_full d (prove_line c ps a bs ks) = nat_le question_limit (length d.questions)
is_full d (refute_line c ps a bs) = nat_le question_limit (length d.questions)
is_full d (later_line n) = false
is_full d (supers_line n) = false
is_full d (impl_line ps h ks) = nat_le item_limit (if d.in_section then last_later d else last_items d)
is_full d _ = nat_le item_limit (last_items d)

-- The number of fields, bounds or where-clauses of the line. Of a query with both it is the greater one.
abbrev pub parts : Line → ℕ
parts (crate_line n us) = 0
parts (struct_line f n ps fs) = types_count fs
parts (trait_line f a n ps bs) = length bs
parts (impl_line ps h ks) = length ks
parts (prove_line c ps a bs ks) = max (length (a ∷ bs)) (length ks)
parts (refute_line c ps a bs) = length (a ∷ bs)
parts (later_line n) = 0
parts (supers_line n) = 0

abbrev pub passes_limit : Declarations → Line → Bool
passes_limit d l =
    is_full d l || (has_long_name l || (nat_lt param_limit (length (kinds_of (params_of l))) || (nat_lt part_limit (parts l)
    || (nat_lt depth_limit (line_depth (with_own d l) l) || (nat_lt variable_limit (length (once (variables_in (asked_uses d l))))
    || list_any passes_in (uses (with_own d l) l))))))

-- ---- the number of the fault: faults 1 and 2 are found before there is a line
abbrev pub tests : Declarations → Line → List (ℕ × Bool)
tests d l =
    (3, is_misplaced d l) ∷ (4, takes_names d l) ∷ (5, uses_unknown d l) ∷ (6, uses_hidden d l) ∷ (7, uses_other_sort d l) ∷ (8, has_free_param d l)
    ∷ (9, bounds_use_own d l) ∷ (10, is_loaded_auto l) ∷ (11, is_foreign_auto d l) ∷ (12, implements_built_in d l) ∷ (13, has_stray_variable d l)
    ∷ (14, refutes_params l) ∷ (15, has_bad_dyn d l) ∷ (16, passes_limit d l) ∷ []

-- The number of the first test that is true.
abbrev pub first_of : List (ℕ × Bool) → Option ℕ
first_of [] = None
first_of ((n, b) ∷ ts) = if b then Some n else first_of ts

-- The smallest number of a test that is true.
abbrev pub fault_of : Declarations → Line → Option ℕ
fault_of d l = first_of (tests d l)
