use Rattle.std.proofs.Common.{sym, subst}
use Rattle.text_printer.specs.Listed.{ListHeld}
use Rattle.text_printer.proofs.Listing.{list-more}
use Rattle.text_printer.proofs.listed.list_one.Goals as goal

pub returns-in_ok-push-clause-held : goal.returns-in_ok-push-clause-held
returns-in_ok-push-clause-held c =
    let es = c.args.cx.now.entries in
    subst (ListHeld es) (sym c.in_ok-push.ensures.items) (list-more es c.args.listed.now.items (record { variable = c.args.variable; value = c.args.value }) c.requires.held c.requires.value)
