use Rattle.std.proofs.Common.{sym, subst}
use Rattle.type_terms.specs.Promised.Handles.{types}
use Rattle.type_terms.specs.Kinds.{kind_trees}
use Rattle.type_terms.specs.declared.kinds.TyKind.TheVariants.{Adt, Dynamic}
use Rattle.type_terms.specs.Kept.{trees-is}
use Rattle.declarations.specs.Items.{declared}
use Rattle.orphan_check.specs.Steps.{home_in}
use Rattle.orphan_check.specs.Walks.{IsTaken}
use Rattle.orphan_check.proofs.look.take.Goals as goal

pub returns-in-Adt : goal.returns-in-Adt
returns-in-Adt c =
    let es = c.args.cx.now.entries in
    subst (λ t. IsTaken es (declared es c.args.decls.now) (home_in c.args.decls.now.local c.args.in_crate) t c.take_adt.result)
    (sym (trees-is es types c.args.ty.0 (kind_trees es (Adt c.in-Adt.id c.in-Adt.args)) c.in-Adt.ensures.is)) (c.take_adt.ensures es c.in-Adt.ensures.held)

pub returns-in-Dynamic : goal.returns-in-Dynamic
returns-in-Dynamic c =
    let es = c.args.cx.now.entries in
    subst (λ t. IsTaken es (declared es c.args.decls.now) (home_in c.args.decls.now.local c.args.in_crate) t c.take_dyn.result)
    (sym (trees-is es types c.args.ty.0 (kind_trees es (Dynamic c.in-Dynamic.bounds c.in-Dynamic.field-1)) c.in-Dynamic.ensures.is)) (c.take_dyn.ensures c.in-Dynamic.field-1)
