use Rattle.std.proofs.Common.{length}
use Rattle.celtisdarts.proofs.lines.last_line.Given as goal

abbrev pub decreases-lines : goal.decreases-lines
decreases-lines l = length l.rest
