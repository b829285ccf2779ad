use Rattle.std.proofs.Common.{ℕ, List, take}
use Rattle.text_lines.specs.TypeViews.{cells_in}
use Rattle.text_names.specs.UsedNames.{Holds, names_with}
use Rattle.text_names.proofs.name_set.NameSet.add_used.Given as goal

abbrev pub invariant-loop-cell : goal.invariant-loop-cell
invariant-loop-cell l = (ns : List (List ℕ)) → Holds l.fn.self ns → Holds l.self (names_with (take l.cell-index (cells_in l.cells)) ns)
