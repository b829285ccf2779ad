use Rattle.std.proofs.Common.{◌≡◌, ◌≤◌, ◌-◌, length}
use Rattle.text_names.proofs.Summed.{Skips}
use Rattle.text_names.proofs.shapes.insert_once.Given as goal

abbrev pub invariant-loop-at : goal.invariant-loop-at
invariant-loop-at l = record {
  within : l.at ≤ length l.numbers.items;
  same : l.numbers ≡ l.fn.numbers;
  so_far : Skips l.number l.at l.numbers.items;
}

abbrev pub decreases-loop-at : goal.decreases-loop-at
decreases-loop-at l = length l.numbers.items - l.at
