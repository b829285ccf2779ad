use Rattle.text_tables.specs.Made.{is_type}
use Rattle.text_tables.proofs.CellLists.{part-there, no-type}
use Rattle.text_tables.proofs.lists.types_in.Goals as goal

pub unreachable-requires : goal.unreachable-requires
unreachable-requires c =
    no-type c.term-item.result (part-there is_type c.args.stack.now c.loop-term.term-index c.term-item.result c.loop-term-test.true c.term-item.is c.requires) c.in_default.not-Type
