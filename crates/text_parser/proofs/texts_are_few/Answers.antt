use Rattle.text_parser.proofs.Behind.{texts-few}
use Rattle.text_parser.proofs.texts_are_few.Goals as goal

pub returns : goal.returns
returns c = texts-few
