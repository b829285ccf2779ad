use Rattle.text_parser.proofs.Behind.{is-alone, is-several}
use Rattle.text_parser.proofs.lines.is_one_line.Goals as goal

pub returns-clause-one : goal.returns-clause-one
returns-clause-one c = λ q. is-alone c.args.bytes.now c.split_line.result.0.now c.split_line.result.1 c.is_none.result c.split_line.ensures.lines c.is_none.ensures q

pub returns-clause-several : goal.returns-clause-several
returns-clause-several c = λ q. is-several c.args.bytes.now c.split_line.result.0.now c.split_line.result.1 c.is_none.result c.split_line.ensures.lines c.is_none.ensures q
