use Rattle.std.proofs.Common.{◌≡◌, ◌++◌, ℕ, take}
use Rattle.search_paths.specs.KeptPaths.{indices}
use Rattle.search_paths.specs.Heads.{paths_to}
use Rattle.search_paths.proofs.dependencies.rest_on.Given as goal

abbrev pub invariant-loop-place : goal.invariant-loop-place
invariant-loop-place l = record {
  added : indices l.heads.items ≡ indices l.fn.heads.items ++ take l.place-index l.places;
  unread : (place : ℕ) → paths_to l.heads.items place ≡ paths_to l.fn.heads.items place;
}
