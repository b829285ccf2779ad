use Rattle.text_lines.proofs.Outcome.{one_outcome}
use Rattle.text_lines.proofs.one_outcome.Goals as goal

pub returns : goal.returns
returns c = one_outcome
