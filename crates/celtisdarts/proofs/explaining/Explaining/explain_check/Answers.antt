use Rattle.std.proofs.Common.{sym, subst}
use Rattle.celtisdarts.specs.Asked.{IsCheckOf}
use Rattle.celtisdarts.proofs.explaining.Explaining.explain_check.Goals as goal

pub check_at-check-requires : goal.check_at-check-requires
check_at-check-requires c = (c.args.session.now.of_crate, c.requires.checked)

pub explain_checked-requires : goal.explain_checked-requires
explain_checked-requires c =
    subst (λ d. IsCheckOf d c.args.session.now.of_crate c.check_at-check.result) (sym c.requires.on) (c.check_at-check.ensures c.args.session.now.of_crate c.requires.checked)
