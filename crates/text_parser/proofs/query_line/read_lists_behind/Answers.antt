use Rattle.text_tables.specs.Tables.{declared}
use Rattle.text_parser.proofs.ListsTaken.{one-first}
use Rattle.text_parser.proofs.Queried.{lists-first}
use Rattle.text_parser.proofs.query_line.read_lists_behind.Goals as goal

pub returns-in_ok-names-in-len1-up : goal.returns-in_ok-names-in-len1-up
returns-in_ok-names-in-len1-up c =
    lists-first (declared c.args.tables.now) c.args.lists.now _ c.first-item.result _ c.read_list_behind.result (one-first c.args.lists.now c.first-item.result _ c.in-len1-up.len_at_least c.first-item.is)
    c.deref-in-len1-up.ensures.value c.read_list_behind.ensures
