-- Fresh inference variables for the parameters of impls.
use Rattle.std.specs.Prelude.{◌≡◌, ◌+◌, false, List, [], ◌∷◌, Some}
use Rattle.type_terms.specs.Promised.Label.{Sort, of_type, of_const, of_lifetime, infer, param}
use Rattle.type_terms.specs.Promised.Trees.{Trees, none, tree, erase_label}
use Rattle.type_terms.specs.Promised.LinkedSet.{is_stray}
use Rattle.term_folds.specs.Arguments.{sort_at}
use Rattle.infer_table.specs.Content.{Table, variables_of}

-- The table with one more variable of this kind.
abbrev pub with_unknown : Table → Sort → Table
with_unknown t of_type = record t { ty_vars = t.ty_vars + 1 }
with_unknown t of_const = record t { const_vars = t.const_vars + 1 }
with_unknown t of_lifetime = record t { region_vars = t.region_vars + 1 }

-- The table with one more variable for each of these kinds.
abbrev pub with_unknowns : Table → List Sort → Table
with_unknowns t [] = t
with_unknowns t (k ∷ ks) = with_unknowns (with_unknown t k) ks

-- These variables, in order. Each kind has its own indices: `?0, ?0, ?1` for `impl<T, const N, U>` and the empty table.
abbrev pub fresh_unknowns : Table → List Sort → Trees
fresh_unknowns t [] = none
fresh_unknowns t (k ∷ ks) = tree (infer k (variables_of t k)) none (fresh_unknowns (with_unknown t k) ks)

-- For each parameter that occurs in the terms, the list I has an argument of its kind. No variables, placeholders or bound terms occur,
-- except lifetimes.
abbrev pub HasArguments : Trees → Trees → Type 0
HasArguments I none = Unit {0}
HasArguments I (tree (param s i) c o) = (sort_at I i ≡ Some s) × (c ≡ none) × HasArguments I o
HasArguments I (tree (infer s i) c o) = (s ≡ of_lifetime) × (c ≡ none) × HasArguments I o
HasArguments I (tree l c o) = (is_stray (erase_label l) ≡ false) × HasArguments I c × HasArguments I o
