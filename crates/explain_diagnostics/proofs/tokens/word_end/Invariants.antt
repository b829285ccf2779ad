use Rattle.std.proofs.Common.{length, ◌-◌, ◌≤◌}
use Rattle.explain_diagnostics.proofs.tokens.word_end.Given as goal

abbrev pub invariant-loop-at : goal.invariant-loop-at
invariant-loop-at l = (l.at ≤ length l.line) × (l.initial.at ≤ l.at)

abbrev pub decreases-loop-at : goal.decreases-loop-at
decreases-loop-at l = length l.line - l.at
