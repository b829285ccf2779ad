use Rattle.text_printer.proofs.Telling.{lines-tell, outputs-tell}
use Rattle.text_printer.proofs.laws.lines_tell_answers.Goals as goal

pub returns-clause-lines : goal.returns-clause-lines
returns-clause-lines c = lines-tell

pub returns-clause-outputs : goal.returns-clause-outputs
returns-clause-outputs c = outputs-tell
