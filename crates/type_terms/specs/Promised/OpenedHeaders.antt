-- Opened headers: the header of an impl with a variable for each of its parameters, as the orphan check evaluates it.
use Rattle.std.specs.Prelude.{ℕ, zero, suc, Bool, false, ◌&&◌, ◌==◌, if◌then◌else◌}
use Rattle.type_terms.specs.Promised.Label.{Label, Sort, param, infer}
use Rattle.type_terms.specs.Promised.Trees.{Trees, none, tree, is_sort, some_node}
use Rattle.type_terms.specs.Promised.Worlds.{Reference}

-- The label is that of parameter i, of this kind.
abbrev pub is_param : Sort → ℕ → Label → Bool
is_param s i (param t j) = is_sort s t && (i == j)
is_param s i _ = false

-- How many parameters with a number below n are of this kind. A parameter is counted if the header mentions it, as each
-- type and const parameter of an impl must be.
abbrev pub params_below : Trees → Sort → ℕ → ℕ
params_below h s zero = zero
params_below h s (suc n) = if some_node (is_param s n) h then suc (params_below h s n) else params_below h s n

-- The terms with a variable for each parameter. The variables of each kind are numbered from 0. For example,
-- `Box<T>, [T; N]` becomes `Box<?0>, [?0; ?0]`, where the two kinds count separately.
abbrev pub with_variables : Trees → Trees → Trees
with_variables h none = none
with_variables h (tree (param s i) c o) = tree (infer s (params_below h s i)) none (with_variables h o)
with_variables h (tree l c o) = tree l (with_variables h c) (with_variables h o)

-- The trait reference with a variable for each of its parameters.
abbrev pub opened : Reference → Reference
opened r = record { trait = r.trait; args = with_variables r.args r.args }
