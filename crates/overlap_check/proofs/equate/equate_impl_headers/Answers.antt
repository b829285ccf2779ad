use Rattle.std.proofs.Common.{sym, subst}
use Rattle.infer_table.specs.Content.{Ready}
use Rattle.infer_table.specs.Kept.{ready-later}
use Rattle.overlap_check.proofs.equate.equate_impl_headers.Goals as goal

pub returns-clause-ready : goal.returns-clause-ready
returns-clause-ready c =
    subst (Ready c.equate_args.new.cx.entries) (sym (c.roll_back.ensures c.args.table.now c.snapshot-place.ensures c.in-Err.ensures.grows))
    (ready-later c.args.cx.now.entries c.equate_args.new.cx.entries c.args.table.now c.in-Err.ensures.terms.grew.keeps c.requires.ready)
