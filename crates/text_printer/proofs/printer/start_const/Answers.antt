use Rattle.text_printer.proofs.Parts.{const-step}
use Rattle.text_printer.proofs.printer.start_const.Goals as goal

pub returns : goal.returns
returns g c =
    const-step (g.N.PrintNames.names c.args.names.now) c.args.interner.now.entries c.requires.lawful c.args.stack.now.items c.args.out.now.items _ c.args.value.0 c.requires.held c.in_ok-print_const.ensures
