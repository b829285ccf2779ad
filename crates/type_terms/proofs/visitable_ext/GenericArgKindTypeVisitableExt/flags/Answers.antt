use Rattle.std.proofs.Common.{sym, ◌∙◌}
use Rattle.type_terms.proofs.ScanFacts.{or_none}
use Rattle.type_terms.proofs.visitable_ext.GenericArgKindTypeVisitableExt.flags.Goals as goal

pub returns-in-Ty : goal.returns-in-Ty
returns-in-Ty c = rw c.in-Ty.is (c.flags-in-Ty.ensures ∙ sym (or_none _))

pub returns-in-Const : goal.returns-in-Const
returns-in-Const c = rw c.in-Const.is (c.flags-in-Const.ensures ∙ sym (or_none _))
