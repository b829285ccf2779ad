use Rattle.std.proofs.Common.{◌≡◌, ℕ, ◌<◌, length, get_or, drop, None}
use Rattle.std.specs.Option.{option_or}
use Rattle.infer_table.proofs.Values.{own_of}
use Rattle.goal_evaluator.proofs.apply.known_values.Given as goal

abbrev pub invariant-loop-value : goal.invariant-loop-value
invariant-loop-value l = record {
  count : length l.known.items ≡ l.fn.count;
  found : (i : ℕ) → i < l.fn.count
      → option_or (get_or l.known.items i None) (own_of l.cx.entries i (drop (length l.yielded) l.values) (drop (length l.yielded) l.originals)) ≡ own_of l.cx.entries i l.values l.originals;
}
