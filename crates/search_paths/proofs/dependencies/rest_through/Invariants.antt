use Rattle.std.proofs.Common.{take}
use Rattle.search_paths.specs.Heads.{AreHeadsOfBoth, AreReadThrough}
use Rattle.search_paths.proofs.dependencies.rest_through.Given as goal

abbrev pub invariant-loop-head : goal.invariant-loop-head
invariant-loop-head l = record {
  rests : AreHeadsOfBoth l.fn.heads.items (take l.head-index l.more) l.heads.items;
  read : AreReadThrough l.paths.0 l.fn.heads.items (take l.head-index l.more) l.heads.items;
}
