use Rattle.std.proofs.Common.{◌≡◌, ◌≤◌, length, drop, true}
use Rattle.text_names.specs.Machine.{keeping}
use Rattle.text_names.specs.Resolved.{autos_before}
use Rattle.text_names.proofs.found.Found.keep_autos.Given as goal

abbrev pub invariant-loop-at : goal.invariant-loop-at
invariant-loop-at l = record {
  within : l.at ≤ length l.autos;
  so_far : l.self ≡ keeping true (λ cs. autos_before (drop l.at l.autos) cs) l.fn.self;
}

abbrev pub decreases-loop-at : goal.decreases-loop-at
decreases-loop-at l = l.at
