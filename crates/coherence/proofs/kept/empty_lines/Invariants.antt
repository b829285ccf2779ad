use Rattle.std.proofs.Common.{◌≡◌, length}
use Rattle.coherence.proofs.kept.empty_lines.Given as goal

abbrev pub invariant-loop-line : goal.invariant-loop-line
invariant-loop-line l = length l.lines.items ≡ l._line
