use Rattle.text_printer.proofs.Parts.{no-more-autos, some-more-autos}
use Rattle.text_printer.proofs.printer.next_auto.Goals as goal

pub returns-in-None : goal.returns-in-None
returns-in-None g c = no-more-autos (g.N.PrintNames.names c.args.names.now) c.args.interner.now.entries c.args.stack.now.items c.args.out.now.items c.args.list.now c.in-None.ensures.cases

pub returns-in_ok-push-in-Some : goal.returns-in_ok-push-in-Some
returns-in_ok-push-in-Some g c =
    some-more-autos (g.N.PrintNames.names c.args.names.now) c.args.interner.now.entries c.args.stack.now.items c.push.new.self.items c.args.out.now.items c.extend_from_slice.new.self.items c.push_trait.new.out.items
    c.args.list.now c.in-Some.first.now c.in-Some.rest c.in_ok-extend_from_slice-in-Some.ensures.items c.in_ok-push_trait-in-Some.ensures c.in-Some.ensures.cases.0 c.in_ok-push-in-Some.ensures.items
