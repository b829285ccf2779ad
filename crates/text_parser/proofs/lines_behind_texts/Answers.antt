use Rattle.text_parser.proofs.Behind.{declared-behind, faulty-behind}
use Rattle.text_parser.proofs.lines_behind_texts.Goals as goal

pub returns : goal.returns
returns c = λ bytes line d t one short. (λ e g. declared-behind bytes line d e t one short g, λ n g. faulty-behind bytes line d n t one short g)
