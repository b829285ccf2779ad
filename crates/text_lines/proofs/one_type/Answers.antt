use Rattle.text_lines.proofs.MachineLaws.{one_type}
use Rattle.text_lines.proofs.one_type.Goals as goal

pub returns : goal.returns
returns c = one_type
