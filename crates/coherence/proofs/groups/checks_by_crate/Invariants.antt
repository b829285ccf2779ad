use Rattle.coherence.specs.Groups.{AreGroups}
use Rattle.coherence.proofs.groups.checks_by_crate.Given as goal

abbrev pub invariant-loop-place : goal.invariant-loop-place
invariant-loop-place l = AreGroups l.place 0 l.workspace l.groups.items
