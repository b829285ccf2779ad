use Rattle.text_lines.proofs.OneWritten.{one_written}
use Rattle.text_lines.proofs.one_written.Goals as goal

pub returns : goal.returns
returns c = one_written
