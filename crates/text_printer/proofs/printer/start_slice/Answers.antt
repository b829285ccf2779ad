use Rattle.std.proofs.Common.{refl}
use Rattle.text_printer.proofs.Lists.{slice-step}
use Rattle.text_printer.proofs.printer.start_slice.Goals as goal

pub returns : goal.returns
returns g c =
    slice-step (g.N.PrintNames.names c.args.names.now) c.args.interner.now.entries _ _ _ _ _ c.args.ty _ c.requires c.in_ok-extend_from_slice.ensures.items c.in_ok-push.ensures.items c.in_ok-push-2.ensures.items refl
