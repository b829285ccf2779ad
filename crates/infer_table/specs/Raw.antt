-- Canonical variables as their own values.
use Rattle.std.specs.Prelude.{◌≡◌, ℕ, ◌+◌, List, [], ◌∷◌, ◌⊎◌}
use Rattle.type_terms.specs.Promised.Label.{Sort, of_type, of_const, of_lifetime, canonical}
use Rattle.type_terms.specs.Promised.Trees.{leaf}
use Rattle.type_terms.specs.Promised.Handles.{Entry, types, consts, held}
use Rattle.infer_table.specs.declared.canonical.CanonicalVarKind.{CanonicalVarKind}
use Rattle.infer_table.specs.declared.canonical.CanonicalVarKind.TheVariants.{Ty, PlaceholderTy, Const, PlaceholderConst, Region}
use Rattle.infer_table.specs.Values.{Value}

abbrev pub sort_of_kind : CanonicalVarKind → Sort
sort_of_kind Ty = of_type
sort_of_kind PlaceholderTy = of_type
sort_of_kind Const = of_const
sort_of_kind PlaceholderConst = of_const
sort_of_kind Region = of_lifetime

-- canonical variable i as a value
abbrev pub variable_value : CanonicalVarKind → ℕ → Value
variable_value k i = record { sort = sort_of_kind k; trees = leaf (canonical (sort_of_kind k) i) }

-- the variables of these kinds, numbered from i
abbrev pub variables_from : ℕ → List CanonicalVarKind → List Value
variables_from i [] = []
variables_from i (k ∷ ks) = variable_value k i ∷ variables_from (i + 1) ks

-- the interner's table of types or that of constants is full
abbrev pub IsFull : List Entry → ℕ → Type 0
IsFull es limit = (held types es ≡ limit) ⊎ (held consts es ≡ limit)
