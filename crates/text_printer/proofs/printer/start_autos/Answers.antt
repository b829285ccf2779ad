use Rattle.text_printer.proofs.Lists.{autos-step}
use Rattle.text_printer.proofs.printer.start_autos.Goals as goal

pub returns-in_ok-push-in-Some : goal.returns-in_ok-push-in-Some
returns-in_ok-push-in-Some g c =
    autos-step (g.N.PrintNames.names c.args.names.now) c.args.interner.now.entries _ _ _ c.extend_from_slice.new.self.items _ c.args.autos.now c.in-Some.first.now c.in-Some.rest
    c.in_ok-extend_from_slice.ensures.items c.in_ok-push_trait-in-Some.ensures c.in-Some.ensures.cases.0 c.in_ok-push-in-Some.ensures.items
