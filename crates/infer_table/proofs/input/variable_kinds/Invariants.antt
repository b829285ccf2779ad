use Rattle.std.proofs.Common.{◌≡◌, map, Some, take}
use Rattle.infer_table.specs.Canonical.{kind_of_leaf}
use Rattle.infer_table.specs.Leaves.{labels}
use Rattle.infer_table.proofs.input.variable_kinds.Given as goal

abbrev pub invariant-leaves : goal.invariant-leaves
invariant-leaves l = map Some l.kinds.items ≡ map kind_of_leaf (labels l.cx.entries (take l.leaf-index l.leaves))
