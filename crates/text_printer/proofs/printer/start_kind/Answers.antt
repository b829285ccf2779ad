use Rattle.text_printer.proofs.Dyns.{bound-kind}
use Rattle.text_printer.proofs.printer.start_kind.Goals as goal

pub returns-in-Bound : goal.returns-in-Bound
returns-in-Bound g c = bound-kind (g.N.PrintNames.names c.args.names.now) c.args.interner.now.entries c.args.stack.now.items c.args.out.now.items c.args.kind c.in-Bound.field-0 c.in-Bound.field-1 c.in-Bound.is
