use Rattle.std.proofs.Common.{◌∙◌, sym}
use Rattle.text_language.specs.Agreement.{plain}
use Rattle.text_tables.specs.Tables.{declared}
use Rattle.text_parser.proofs.OwnFaults.{overlong-fault, plain-comes, plain-found}
use Rattle.text_parser.proofs.text.take_plain.Goals as goal

pub returns-then-is_overlong-clause-gives : goal.returns-then-is_overlong-clause-gives
returns-then-is_overlong-clause-gives c = λ l r. overlong-fault (declared c.args.tables.now) c.args.line.now (plain l) (sym c.is_overlong.ensures ∙ c.if-is_overlong.true)

pub returns-clause-gives : goal.returns-clause-gives
returns-clause-gives c = λ l r.
    plain-comes (declared c.args.tables.now) (declared c.take_read.new.tables) c.args.line.now l c.in_ok-found.found _ c.in_ok-is_ill.is_ill (sym c.is_overlong.ensures ∙ c.if-is_overlong.false)
    (plain-found (declared c.args.tables.now) (declared c.take_read.new.tables) l c.args.read.now c.in_ok-found.found r c.in_ok-found.ensures.finds c.in_ok-found.ensures.added) (c.in_ok-is_ill.ensures l r) c.with_own_fault.ensures
