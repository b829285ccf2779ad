-- The variables of a goal's terms.
use Rattle.std.specs.Prelude.{◌≡◌, Bool, true, false, List, ◌⊎◌}
use Rattle.type_terms.specs.Promised.Label.{Label, infer, param, placeholder, canonical}
use Rattle.type_terms.specs.Promised.Trees.{Trees, none, tree}
use Rattle.infer_table.specs.declared.canonical.CanonicalVarKind.{CanonicalVarKind}
use Rattle.goal_evaluator.specs.FrameTables.{kind_at}
use Rattle.goal_evaluator.specs.TableAnswers.{is_kind_of}

-- a variable of these kinds, or a label that is not open
abbrev pub is_variable_over : List CanonicalVarKind → Label → Bool
is_variable_over kinds (canonical s i) = is_kind_of s (kind_at kinds i)
is_variable_over kinds (infer k v) = false
is_variable_over kinds (param k v) = false
is_variable_over kinds (placeholder k v) = false
is_variable_over kinds l = true

-- the label occurs in the terms
abbrev pub LabelStandsIn : Label → Trees → Type 0
LabelStandsIn l none = ⊥
LabelStandsIn l (tree m c o) = (m ≡ l) ⊎ LabelStandsIn l c ⊎ LabelStandsIn l o
