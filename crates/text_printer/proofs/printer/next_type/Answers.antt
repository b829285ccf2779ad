use Rattle.text_printer.proofs.Parts.{no-more-types, next-types}
use Rattle.text_printer.proofs.printer.next_type.Goals as goal

pub returns-in-None : goal.returns-in-None
returns-in-None g c = no-more-types (g.N.PrintNames.names c.args.names.now) c.args.interner.now.entries c.args.stack.now.items c.args.out.now.items c.args.list.now c.in-None.ensures.cases

pub returns-in_ok-start_type-in-Some : goal.returns-in_ok-start_type-in-Some
returns-in_ok-start_type-in-Some g c =
    next-types (g.N.PrintNames.names c.args.names.now) c.args.interner.now.entries c.requires.lawful c.args.stack.now.items c.push.new.self.items _ c.args.out.now.items c.extend_from_slice.new.self.items _
    c.args.list.now c.in-Some.first.now c.in-Some.rest c.requires.held c.in-Some.ensures.cases.0 c.in_ok-extend_from_slice-in-Some.ensures.items c.in_ok-push-in-Some.ensures.items c.in_ok-start_type-in-Some.ensures
