use Rattle.text_printer.proofs.Dyns.{autos-dyn, principal-dyn}
use Rattle.text_printer.proofs.printer.start_dyn.Goals as goal

pub returns-in_ok-start_autos-in-None : goal.returns-in_ok-start_autos-in-None
returns-in_ok-start_autos-in-None g c =
    autos-dyn (g.N.PrintNames.names c.args.names.now) c.args.interner.now.entries _ _ _ _ c.args.bounds.0 c.args.region c.bounds-data.result.now c.deref.result.now c.deref.ensures.value c.bounds-data.ensures.is c.in-None.is
    c.in_ok-start_autos-in-None.ensures

pub returns-in_ok-start_principal-in-Some : goal.returns-in_ok-start_principal-in-Some
returns-in_ok-start_principal-in-Some g c =
    principal-dyn (g.N.PrintNames.names c.args.names.now) c.args.interner.now.entries _ _ _ _ c.args.bounds.0 c.args.region c.bounds-data.result.now c.in-Some.principal c.args-args.result.now c.deref-in-Some.result.now c.deref-in-Some.ensures.value
    c.bounds-data.ensures.is c.in-Some.is c.args-args.ensures.is c.in_ok-start_principal-in-Some.ensures
