use Rattle.text_parser.proofs.FirstBytes.{text-of-first, first-of-text}
use Rattle.text_parser.proofs.first_bytes.Goals as goal

pub returns : goal.returns
returns c = λ bytes r. (text-of-first bytes r, first-of-text bytes r)
