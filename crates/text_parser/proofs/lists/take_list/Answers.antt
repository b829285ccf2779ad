use Rattle.text_parser.proofs.ListsTaken.{list-read, list-is-read, list-cells, list-gives}
use Rattle.text_parser.proofs.lists.take_list.Goals as goal

pub take_read-requires-clause-read : goal.take_read-requires-clause-read
take_read-requires-clause-read c =
    list-is-read c.args.list.now c.in-Ok.read (list-read c.args.list.now c.in-Ok.read c.line_of_list.result c.line_of_list.ensures.only c.in-Ok.is) c.requires.line

pub take_read-requires-clause-short : goal.take_read-requires-clause-short
take_read-requires-clause-short c =
    list-cells c.args.list.now c.in-Ok.read (list-read c.args.list.now c.in-Ok.read c.line_of_list.result c.line_of_list.ensures.only c.in-Ok.is) c.requires.line

pub returns-in-Ok-clause-gives : goal.returns-in-Ok-clause-gives
returns-in-Ok-clause-gives c =
    list-gives _ _ c.args.list.now c.in-Ok.read c.take_read.result (list-read c.args.list.now c.in-Ok.read c.line_of_list.result c.line_of_list.ensures.only c.in-Ok.is)
    c.take_read.ensures.finds c.take_read.ensures.added
