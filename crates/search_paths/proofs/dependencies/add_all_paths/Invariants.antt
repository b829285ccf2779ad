use Rattle.std.proofs.Common.{◌≡◌, ℕ, take}
use Rattle.std.specs.Int.RustNames.{bit_or}
use Rattle.search_paths.specs.KeptPaths.{indices}
use Rattle.search_paths.specs.Heads.{paths_to, RestsOn}
use Rattle.search_paths.proofs.dependencies.add_all_paths.Given as goal

abbrev pub invariant-loop-head : goal.invariant-loop-head
invariant-loop-head l = record {
  same : indices l.heads.items ≡ indices l.fn.heads.items;
  counted : (place : ℕ) → RestsOn l.fn.heads.items place → paths_to l.heads.items place ≡ bit_or (paths_to l.fn.heads.items place) (paths_to (take l.head-index l.more) place);
}
