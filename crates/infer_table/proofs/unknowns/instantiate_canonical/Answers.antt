use Rattle.std.proofs.Common.{sym, subst}
use Rattle.infer_table.specs.Content.{Ready, Grows}
use Rattle.infer_table.specs.Growth.{grows-refl}
use Rattle.infer_table.specs.Kept.{ready-later}
use Rattle.infer_table.proofs.unknowns.instantiate_canonical.Goals as goal

pub returns-in-Err-clause-refused : goal.returns-in-Err-clause-refused
returns-in-Err-clause-refused c = c.roll_back.ensures c.args.table.now c.snapshot-place.ensures c.instantiate_in.ensures.grows

pub returns-in-Err-clause-ready : goal.returns-in-Err-clause-ready
returns-in-Err-clause-ready c =
    let end = c.instantiate_in.new.cx.entries in
    subst (Ready end) (sym (returns-in-Err-clause-refused c)) (ready-later c.args.cx.now.entries end c.args.table.now c.instantiate_in.ensures.terms.grew.keeps c.requires.ready)

pub returns-in-Err-clause-grows : goal.returns-in-Err-clause-grows
returns-in-Err-clause-grows c = subst (Grows c.args.table.now) (sym (returns-in-Err-clause-refused c)) (grows-refl c.args.table.now)
