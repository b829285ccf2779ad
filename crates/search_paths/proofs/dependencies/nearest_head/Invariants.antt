use Rattle.std.proofs.Common.{◌+◌, take}
use Rattle.search_paths.specs.Heads.{RestsOn}
use Rattle.search_paths.specs.KeptPaths.{AreBelow, indices}
use Rattle.search_paths.proofs.dependencies.nearest_head.Given as goal

abbrev pub invariant-loop-head : goal.invariant-loop-head
invariant-loop-head l = record {
  among : RestsOn l.heads l.nearest;
  below : AreBelow (l.nearest + 1) (indices (take l.head-index l.heads));
}
