use Rattle.std.proofs.Common.{◌≡◌, take}
use Rattle.search_paths.specs.KeptPaths.{indices}
use Rattle.search_paths.proofs.dependencies.places_of.Given as goal

abbrev pub invariant-loop-head : goal.invariant-loop-head
invariant-loop-head l = l.places.items ≡ indices (take l.head-index l.heads)
