-- The values of a response's variables, over trees.
use Rattle.std.specs.Prelude.{ℕ, ◌+◌, Bool, false, List, [], ◌∷◌, map, ◌==◌, Option, Some, None, unwrap_or, if◌then◌else◌}
use Rattle.type_terms.specs.Promised.Label.{Label, Sort, of_type, of_const, of_lifetime, infer, canonical}
use Rattle.type_terms.specs.Promised.Trees.{leaf}
use Rattle.infer_table.specs.Unification.{TableTrees}
use Rattle.infer_table.specs.declared.canonical.CanonicalVarKind.{CanonicalVarKind}
use Rattle.infer_table.specs.declared.canonical.CanonicalVarKind.TheVariants.{Ty, PlaceholderTy, Const, PlaceholderConst, Region}
use Rattle.infer_table.specs.Leaves.{root_label}
use Rattle.infer_table.specs.Values.{Value}
use Rattle.infer_table.specs.Responses.{AnswerTrees}

-- the label is canonical variable i
abbrev pub is_numbered : ℕ → Label → Bool
is_numbered i (canonical s j) = j == i
is_numbered i l = false

-- the number of a canonical variable
abbrev pub canonical_number : Label → Option ℕ
canonical_number (canonical s i) = Some i
canonical_number l = None

abbrev pub root_labels : List Value → List Label
root_labels vs = map (λ (v : Value). root_label v.trees) vs

-- the item at the first index whose label is variable i
abbrev pub original_of : {A : Type 0} → ℕ → List Label → List A → Option A
original_of i (l ∷ ls) (o ∷ os) = if is_numbered i l then Some o else original_of i ls os
original_of i ls os = None

-- the next new variable of a kind
abbrev pub next_unknown : TableTrees → CanonicalVarKind → Value
next_unknown t Ty = record { sort = of_type; trees = leaf (infer of_type t.ty_vars) }
next_unknown t PlaceholderTy = record { sort = of_type; trees = leaf (infer of_type t.ty_vars) }
next_unknown t Const = record { sort = of_const; trees = leaf (infer of_const t.const_vars) }
next_unknown t PlaceholderConst = record { sort = of_const; trees = leaf (infer of_const t.const_vars) }
next_unknown t Region = record { sort = of_lifetime; trees = leaf (infer of_lifetime t.region_vars) }

abbrev pub with_unknown : TableTrees → CanonicalVarKind → TableTrees
with_unknown t Ty = record t { ty_vars = t.ty_vars + 1 }
with_unknown t PlaceholderTy = record t { ty_vars = t.ty_vars + 1 }
with_unknown t Const = record t { const_vars = t.const_vars + 1 }
with_unknown t PlaceholderConst = record t { const_vars = t.const_vars + 1 }
with_unknown t Region = record t { region_vars = t.region_vars + 1 }

-- the number of variables of this kind
abbrev pub unknowns_of : TableTrees → Sort → ℕ
unknowns_of t of_type = t.ty_vars
unknowns_of t of_const = t.const_vars
unknowns_of t of_lifetime = t.region_vars

-- the table with one more variable of this kind, if there is no value
abbrev pub table_after : Option Value → TableTrees → CanonicalVarKind → TableTrees
table_after None t k = with_unknown t k
table_after (Some v) t k = t

-- for each canonical variable from i on its value, if there is one, and otherwise a new variable of its kind
abbrev pub values_for : (ℕ → Option Value) → TableTrees → ℕ → List CanonicalVarKind → List Value
values_for known t i [] = []
values_for known t i (k ∷ ks) = unwrap_or (known i) (next_unknown t k) ∷ values_for known (table_after (known i) t k) (i + 1) ks

-- the table with a new variable for each canonical variable from i on that has no value
abbrev pub table_for : (ℕ → Option Value) → TableTrees → ℕ → List CanonicalVarKind → TableTrees
table_for known t i [] = t
table_for known t i (k ∷ ks) = table_for known (table_after (known i) t k) (i + 1) ks

-- the goal's value at the first index where the response's value is variable i
abbrev pub known_value : AnswerTrees → List Value → ℕ → Option Value
known_value a originals i = original_of i (root_labels a.values) originals

-- the values of the variables of a response to a goal with these values
abbrev pub applied_values : TableTrees → List Value → AnswerTrees → List Value
applied_values t originals a = values_for (known_value a originals) t 0 a.kinds

-- the table with the new variables for a response to a goal with these values
abbrev pub applied_table : TableTrees → List Value → AnswerTrees → TableTrees
applied_table t originals a = table_for (known_value a originals) t 0 a.kinds
