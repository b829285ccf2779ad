use Rattle.std.proofs.Common.{◌≡◌, ℕ, [], take}
use Rattle.std.specs.Int.RustNames.{bit_or}
use Rattle.search_paths.specs.Heads.{paths_to, AreHeadsOfBoth}
use Rattle.search_paths.proofs.dependencies.merge_heads.Given as goal

abbrev pub invariant-loop-head : goal.invariant-loop-head
invariant-loop-head l = record {
  unread : l.more ≡ [] → l.heads.items ≡ l.fn.heads.items;
  united : (place : ℕ) → paths_to l.heads.items place ≡ bit_or (paths_to l.fn.heads.items place) (paths_to (take l.head-index l.more) place);
  rests : AreHeadsOfBoth l.fn.heads.items (take l.head-index l.more) l.heads.items;
}
