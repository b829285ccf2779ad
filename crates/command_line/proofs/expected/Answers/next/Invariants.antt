use Rattle.std.proofs.Common.{length}
use Rattle.command_line.proofs.expected.Answers.next.Given as goal

abbrev pub decreases-left : goal.decreases-left
decreases-left l = length l.self.left.now
