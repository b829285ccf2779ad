-- The table of a query.
use Rattle.std.specs.Prelude.{ℕ, zero, suc, if◌then◌else◌, List, [], ◌∷◌}
use Rattle.type_terms.specs.Promised.Label.{Sort, of_type, of_const, of_lifetime}
use Rattle.type_terms.specs.Promised.Trees.{is_sort}
use Rattle.infer_table.specs.Content.{Table}

-- How many of the kinds are this one.
abbrev pub count_of : Sort → List Sort → ℕ
count_of s [] = zero
count_of s (k ∷ ks) = if is_sort k s then suc (count_of s ks) else count_of s ks

-- As many variables of each kind, none with a value.
abbrev pub table_of : List Sort → Table
table_of ks = record { ty_vars = count_of of_type ks; const_vars = count_of of_const ks; region_vars = count_of of_lifetime ks; values = []; constraints = [] }
