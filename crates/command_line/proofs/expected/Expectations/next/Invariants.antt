use Rattle.std.proofs.Common.{◌≡◌, ◌≤◌, length}
use Rattle.command_line.proofs.expected.Expectations.next.Given as goal

abbrev pub invariant-text : goal.invariant-text
invariant-text l = (l.self.is_refused ≡ l.fn.self.is_refused) × (l.fn.self.line ≤ l.self.line)

abbrev pub decreases-text : goal.decreases-text
decreases-text l = length l.self.text.now
