use Rattle.text_printer.proofs.Lists.{principal-step}
use Rattle.text_printer.proofs.printer.start_principal.Goals as goal

pub returns : goal.returns
returns g c =
    principal-step (g.N.PrintNames.names c.args.names.now) c.args.interner.now.entries _ _ _ _ c.extend_from_slice.new.self.items _ c.args.bounds.def_id.index c.args.bounds.args c.args.bounds.autos c.requires
    c.in_ok-extend_from_slice.ensures.items c.in_ok-push_trait.ensures c.in_ok-push.ensures.items c.in_ok-push-2.ensures.items
