use Rattle.std.proofs.Common.{◌≡◌, ℕ, take}
use Rattle.std.specs.Int.RustNames.{bit_or}
use Rattle.search_paths.specs.KeptPaths.{indices}
use Rattle.search_paths.specs.Heads.{paths_to, paths_in, RestsOn}
use Rattle.search_graph.proofs.reads.CandidateReads.count.Given as goal

abbrev pub invariant-loop-read : goal.invariant-loop-read
invariant-loop-read l = record {
  same : indices l.heads.items ≡ indices l.fn.heads.items;
  counted : (place : ℕ) → RestsOn l.fn.heads.items place → paths_to l.heads.items place ≡ bit_or (paths_to l.fn.heads.items place) (paths_in (take l.read-index l.self.finished.items) place);
}
