-- The statements of responses.
use Rattle.std.specs.Prelude.{ℕ, Bool, true, false, ◌==◌, ◌&&◌, ◌+◌, if◌then◌else◌, length, List, [], ◌∷◌}
use Rattle.type_terms.specs.Promised.Label.{Label, canonical, of_lifetime}
use Rattle.type_terms.specs.Promised.Trees.{is_sort}
use Rattle.type_terms.specs.Promised.Handles.{Entry, ArgsHeld}
use Rattle.type_terms.specs.declared.kinds.GenericArgKind.{GenericArgKind}
use Rattle.infer_table.specs.declared.canonical.CanonicalVarKind.{CanonicalVarKind}
use Rattle.infer_table.specs.declared.certainty.Certainty.{Certainty}
use Rattle.infer_table.specs.declared.terms.RegionConstraint.{RegionConstraint}
use Rattle.infer_table.specs.Certainties.{is_certain}
use Rattle.infer_table.specs.declared.response.CanonicalResponse.{CanonicalResponse}
use Rattle.infer_table.specs.Leaves.{leaf_label, root_label}
use Rattle.infer_table.specs.Values.{Value}

-- the canonical variable with this number
abbrev pub is_this_variable : ℕ → Label → Bool
is_this_variable i (canonical s j) = i == j
is_this_variable i l = false

-- each value is the canonical variable with its index, counted from this number
abbrev pub are_variables : List Entry → ℕ → List GenericArgKind → Bool
are_variables es i [] = true
are_variables es i (value ∷ values) = is_this_variable i (leaf_label es value) && are_variables es (i + 1) values

-- Each value of a type or constant is the next canonical variable, starting with this number. A lifetime may have any value.
abbrev pub is_identity_modulo_regions : ℕ → List Value → Bool
is_identity_modulo_regions i [] = true
is_identity_modulo_regions i (v ∷ vs) =
    if is_this_variable i (root_label v.trees) then is_identity_modulo_regions (i + 1) vs
    else (is_sort v.sort of_lifetime && is_identity_modulo_regions i vs)

-- without values and constraints
abbrev pub says_nothing : List Entry → CanonicalResponse → Bool
says_nothing es r = are_variables es 0 r.var_values.items && (length r.region_constraints.items == 0)

-- a yes without values and constraints
abbrev pub is_always_applicable : List Entry → CanonicalResponse → Bool
is_always_applicable es r = is_certain r.certainty && says_nothing es r

-- the values are of this interner
abbrev pub ValuesHeld : List Entry → CanonicalResponse → Type 0
ValuesHeld es r = ArgsHeld es r.var_values.items

-- all that a response states
pub record Content : Type 0 where
  pub variables : List CanonicalVarKind
  pub certainty : Certainty
  pub values : List GenericArgKind
  pub constraints : List RegionConstraint

abbrev pub content : CanonicalResponse → Content
content r = record { variables = r.variables.items; certainty = r.certainty; values = r.var_values.items; constraints = r.region_constraints.items }
