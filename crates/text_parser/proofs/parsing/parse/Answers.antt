use Rattle.text_parser.proofs.Parsed.{gives-declarations, gives-fault}
use Rattle.text_parser.proofs.parsing.parse.Goals as goal

pub returns-clause-gives : goal.returns-clause-gives
returns-clause-gives c = λ d h. gives-declarations c.args.bytes.now d c.read_text.result c.read_text.ensures.taken c.read_text.ensures.refused h

pub returns-clause-faulty : goal.returns-clause-faulty
returns-clause-faulty c = λ k n h. gives-fault c.args.bytes.now k n c.read_text.result c.read_text.ensures.taken c.read_text.ensures.refused h
