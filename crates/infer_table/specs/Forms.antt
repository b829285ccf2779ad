-- When goals have the same canonical form.
use Rattle.std.specs.Prelude.{◌≡◌, ◌↔◌}
use Rattle.infer_table.specs.Canonical.{GoalTrees, canonical_form, AreRenamings}
use Rattle.infer_table.specs.Inputs.{IsWithoutCanonical}

-- Goals without canonical variables have the same form exactly if a renaming maps one to the other. Goals with canonical
-- variables do not satisfy this: `(?3, ^0): Show` has the form of `(?3, ?3): Show`, and no renaming maps one to the other
abbrev pub FormsTellRenamings : Type 0
FormsTellRenamings = (g h : GoalTrees) → IsWithoutCanonical g → IsWithoutCanonical h → (canonical_form g ≡ canonical_form h) ↔ AreRenamings g h
