use Rattle.std.proofs.Common.{refl}
use Rattle.text_printer.proofs.Lists.{array-step}
use Rattle.text_printer.proofs.printer.start_array.Goals as goal

pub returns : goal.returns
returns g c =
    array-step (g.N.PrintNames.names c.args.names.now) c.args.interner.now.entries c.requires.lawful _ _ _ _ c.args.ty c.args.len _ _ c.requires.ty c.requires.len
    c.in_ok-extend_from_slice.ensures.items c.in_ok-extend_from_slice-2.ensures.items refl refl
