use Rattle.text_tables.specs.Made.{is_arg}
use Rattle.text_tables.proofs.CellLists.{part-there, no-arg}
use Rattle.text_tables.proofs.lists.args_in.Goals as goal

pub unreachable-requires : goal.unreachable-requires
unreachable-requires c =
    no-arg c.term-item.result (part-there is_arg c.args.stack.now c.loop-term.term-index c.term-item.result c.loop-term-test.true c.term-item.is c.requires)
    c.in_default.not-Type c.in_default.not-Const c.in_default.not-Lifetime
