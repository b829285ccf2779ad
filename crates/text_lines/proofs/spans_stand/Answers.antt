use Rattle.text_lines.proofs.Standing.{spans-stand}
use Rattle.text_lines.proofs.spans_stand.Goals as goal

pub returns : goal.returns
returns c = spans-stand
