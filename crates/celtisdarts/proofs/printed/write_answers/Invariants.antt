use Rattle.std.proofs.Common.{length}
use Rattle.celtisdarts.proofs.printed.write_answers.Given as goal

abbrev pub decreases-loop-line : goal.decreases-loop-line
decreases-loop-line g l = length l.rest
