use Rattle.std.proofs.Common.{◌<◌, IfSome}
use Rattle.explain_diagnostics.proofs.excerpt.next_line.Given as goal

abbrev pub invariant-loop-label : goal.invariant-loop-label
invariant-loop-label l = IfSome l.found (λ line. l.last < line)
