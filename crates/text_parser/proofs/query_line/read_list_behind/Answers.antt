use Rattle.text_parser.proofs.ListsTaken.{list-read, list-is-read, list-cells}
use Rattle.text_parser.proofs.Queried.{list-query}
use Rattle.text_parser.proofs.query_line.read_list_behind.Goals as goal

pub read_line_behind-requires-clause-read : goal.read_line_behind-requires-clause-read
read_line_behind-requires-clause-read c =
    list-is-read c.args.list.now c.in-Ok.read (list-read c.args.list.now c.in-Ok.read c.line_of_list.result c.line_of_list.ensures.only c.in-Ok.is) c.requires.line

pub read_line_behind-requires-clause-short : goal.read_line_behind-requires-clause-short
read_line_behind-requires-clause-short c =
    list-cells c.args.list.now c.in-Ok.read (list-read c.args.list.now c.in-Ok.read c.line_of_list.result c.line_of_list.ensures.only c.in-Ok.is) c.requires.line

pub returns-in-Ok : goal.returns-in-Ok
returns-in-Ok c =
    list-query _ c.args.list.now c.in-Ok.read c.read_line_behind.result (list-read c.args.list.now c.in-Ok.read c.line_of_list.result c.line_of_list.ensures.only c.in-Ok.is) c.read_line_behind.ensures
