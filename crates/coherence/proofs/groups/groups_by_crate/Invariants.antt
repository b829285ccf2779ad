use Rattle.std.proofs.Common.{length}
use Rattle.coherence.specs.Groups.{AreGroups}
use Rattle.coherence.proofs.groups.groups_by_crate.Given as goal

abbrev pub invariant-loop-place : goal.invariant-loop-place
invariant-loop-place l = AreGroups (length l.workspace.checks) l.place l.workspace l.groups.items
