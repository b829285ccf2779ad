use Rattle.text_printer.proofs.Lists.{tuple-step}
use Rattle.text_printer.proofs.printer.start_tuple.Goals as goal

pub returns : goal.returns
returns g c =
    tuple-step (g.N.PrintNames.names c.args.names.now) c.args.interner.now.entries c.requires.lawful _ _ _ _ _ c.args.items.now c.tuple_end.result c.requires.held c.tuple_end.ensures.single c.tuple_end.ensures.others
    c.in_ok-extend_from_slice.ensures.items c.in_ok-push.ensures.items c.in_ok-push_types.ensures
