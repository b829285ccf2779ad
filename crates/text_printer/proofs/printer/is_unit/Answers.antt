use Rattle.text_printer.proofs.Lists.{unit-no}
use Rattle.text_printer.proofs.printer.is_unit.Goals as goal

pub returns-in-Some : goal.returns-in-Some
returns-in-Some c =
    unit-no c.args.interner.now.entries c.requires.lawful c.args.ty.0 c.in-Tuple.items.0 c.tys.result.now c.in-Some.field-0.0.now c.in-Some.field-0.1.now c.in-Tuple.ensures.is c.tys.ensures.is c.tys.ensures.held
    c.in-Some.ensures.cases.0
