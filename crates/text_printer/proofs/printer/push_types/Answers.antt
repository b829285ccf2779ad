use Rattle.text_printer.proofs.Lists.{no-types, some-types}
use Rattle.text_printer.proofs.printer.push_types.Goals as goal

pub returns-in-None : goal.returns-in-None
returns-in-None c = no-types c.args.interner.now.entries c.args.stack.now.items c.args.list.now c.in-None.ensures.cases

pub returns-in_ok-push-in-Some-2 : goal.returns-in_ok-push-in-Some-2
returns-in_ok-push-in-Some-2 c =
    some-types c.args.interner.now.entries c.requires.lawful c.args.stack.now.items c.push.new.self.items c.push-in-Some.new.self.items c.args.list.now c.in-Some.first.now c.in-Some.rest
    c.requires.held c.in-Some.ensures.cases.0 c.in_ok-push-in-Some.ensures.items c.in_ok-push-in-Some-2.ensures.items
