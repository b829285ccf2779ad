-- The line of a statement with all that names stand for, and without its types. What a name stands for depends on nothing else.
use Rattle.std.specs.Prelude.{ℕ, List, [], ◌∷◌}
use Rattle.std.specs.List.{flat_map}
use Rattle.type_terms.specs.Promised.Label.{Sort, of_type, of_const, of_lifetime}
use Rattle.text_language.specs.Promised.Syntax.{never_type, no_types, no_args, Params, Clause, Line, crate_line, struct_line, trait_line, impl_line, prove_line, refute_line, later_line, supers_line}
use Rattle.text_lines.specs.Statement.{Param, lifetime_param, type_param, const_param, param_name, Statement, crate_statement, struct_statement, trait_statement, impl_statement, prove_statement, refute_statement, later_statement, supers_statement}

-- ---- parameters
abbrev pub sort_of_param : Param → Sort
sort_of_param (lifetime_param n) = of_lifetime
sort_of_param (type_param n) = of_type
sort_of_param (const_param n) = of_const

-- A parameter's name and its kind.
abbrev pub sorted_param : Param → List ℕ × Sort
sorted_param p = (param_name p, sort_of_param p)

abbrev pub name_of_sort : Sort → Param → List (List ℕ)
name_of_sort of_lifetime (lifetime_param n) = n ∷ []
name_of_sort of_type (type_param n) = n ∷ []
name_of_sort of_const (const_param n) = n ∷ []
name_of_sort _ _ = []

-- The names of the parameters of this kind.
abbrev pub names_of_sort : Sort → List Param → List (List ℕ)
names_of_sort p ps = flat_map (name_of_sort p) ps

abbrev pub params_from : List Param → Params
params_from ps = record { lifetimes = names_of_sort of_lifetime ps; types = names_of_sort of_type ps; consts = names_of_sort of_const ps }

-- ---- lines
abbrev pub no_clause : Clause
no_clause = record { subject = never_type; bound = record { trait = []; args = no_args } }

abbrev pub bare_line : Statement → Line
bare_line (crate_statement n us) = crate_line n us
bare_line (struct_statement f n ps ss) = struct_line f n (params_from ps) no_types
bare_line (trait_statement f a n ps ss) = trait_line f a n (params_from ps) []
bare_line (impl_statement ps h ks) = impl_line (params_from ps) no_clause []
bare_line (prove_statement c ps k js ks) = prove_line c (params_from ps) no_clause [] []
bare_line (refute_statement c ps k js) = refute_line c (params_from ps) no_clause []
bare_line (later_statement n) = later_line n
bare_line (supers_statement n) = supers_line n
