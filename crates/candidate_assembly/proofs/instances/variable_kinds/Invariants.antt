use Rattle.std.proofs.Common.{◌≡◌, ◌++◌, map, length}
use Rattle.candidate_assembly.specs.Headers.{var_kind}
use Rattle.candidate_assembly.proofs.instances.variable_kinds.Given as goal

abbrev pub invariant-params : goal.invariant-params
invariant-params l = l.found.items ++ map var_kind l.left ≡ map var_kind l.fn.params

abbrev pub decreases-params : goal.decreases-params
decreases-params l = length l.left
