use Rattle.std.proofs.Common.{◌∙◌, sym}
use Rattle.text_language.specs.Agreement.{plain}
use Rattle.text_tables.specs.Tables.{declared}
use Rattle.text_parser.proofs.OwnFaults.{overlong-fault}
use Rattle.text_parser.proofs.Queried.{plain-query, read-comes}
use Rattle.text_parser.proofs.query_line.read_plain_behind.Goals as goal

pub returns-then-is_overlong : goal.returns-then-is_overlong
returns-then-is_overlong c = λ l r. overlong-fault (declared c.args.tables.now) c.args.line.now (plain l) (sym c.is_overlong.ensures ∙ c.if-is_overlong.true)

pub returns : goal.returns
returns c = λ l r.
    plain-query (declared c.args.tables.now) c.args.line.now l c.in_ok-query.query _ c.in_ok-is_ill.is_ill (sym c.is_overlong.ensures ∙ c.if-is_overlong.false)
    (read-comes (declared c.args.tables.now) c.args.read.now l c.in_ok-query.query r c.in_ok-query.ensures) (c.in_ok-is_ill.ensures l r) (c.with_own_fault.ensures (declared c.args.tables.now))
