use Rattle.std.proofs.Common.{◌≡◌, map, length}
use Rattle.infer_table.specs.Values.{sort_of_arg}
use Rattle.declarations.specs.Applied.{sort_of_param}
use Rattle.candidate_assembly.specs.Fitting.{same_sorts}
use Rattle.candidate_assembly.proofs.decided.are_for.Given as goal

abbrev pub invariant-params : goal.invariant-params
invariant-params l = same_sorts (map sort_of_arg l.xs) (map sort_of_param l.ps) ≡ same_sorts (map sort_of_arg l.fn.args) (map sort_of_param l.fn.params)

abbrev pub decreases-params : goal.decreases-params
decreases-params l = length l.xs
