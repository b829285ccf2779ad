use Rattle.text_lines.proofs.LineAgain.{one_line}
use Rattle.text_lines.proofs.one_line.Goals as goal

pub returns : goal.returns
returns c = one_line
