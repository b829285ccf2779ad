use Rattle.std.proofs.Common.{ℕ, ◌+◌, ◌*◌, take, None}
use Rattle.type_terms.specs.Promised.Handles.{Is}
use Rattle.type_terms.specs.Terms.{type_lists, args_lists}
use Rattle.type_terms.specs.Kinds.{TysHeld, TysOlder, tys_trees, ArgsOlder, args_trees}
use Rattle.type_terms.specs.Promised.Handles.{ArgsHeld}
use Rattle.type_terms.specs.declared.kinds.GenericArgKind.{GenericArgKind}
use Rattle.type_terms.specs.declared.kinds.GenericArgKind.TheVariants.{Lifetime, Ty, Const}
use Rattle.type_terms.specs.Binders.{counts_of}
use Rattle.type_terms.specs.Visits.{Visits}
use Rattle.type_terms.proofs.visit_walk.+visits.Given as goal

abbrev pub number_of : GenericArgKind → ℕ
number_of (Lifetime r) = 0
number_of (Ty t) = t.0 + 1
number_of (Const c) = c.0 + 1

abbrev pub decreases-see_ty : goal.decreases-see_ty
decreases-see_ty g l = 4 * (l.ty.0 + 1) + 1

abbrev pub decreases-see_below : goal.decreases-see_below
decreases-see_below g l = 4 * (l.ty.0 + 1)

abbrev pub decreases-see_tys : goal.decreases-see_tys
decreases-see_tys g l = 4 * (l.tys.0 + 1)

abbrev pub decreases-see_args : goal.decreases-see_args
decreases-see_args g l = 4 * (l.args.0 + 1)

abbrev pub decreases-see_arg : goal.decreases-see_arg
decreases-see_arg g l = 4 * number_of l.arg + 2

abbrev pub decreases-see_bounds : goal.decreases-see_bounds
decreases-see_bounds g l = 4 * (l.bounds.0 + 1)

abbrev pub invariant-see_tys-loop-ty : goal.invariant-see_tys-loop-ty
invariant-see_tys-loop-ty g l =
    g.V.TypeVisitor.ready l.visitor l.cx.entries
    × Visits (g.V.TypeVisitor.sees l.cx.entries) (counts_of l.binders) (tys_trees l.cx.entries (take l.ty-index l.ty-items)) l.fn.visitor l.visitor None
    × TysHeld l.cx.entries l.ty-items
    × TysOlder l.fn.tys.0 l.ty-items
    × Is l.cx.entries type_lists l.fn.tys.0 (tys_trees l.cx.entries l.ty-items)

abbrev pub invariant-see_args-loop-arg : goal.invariant-see_args-loop-arg
invariant-see_args-loop-arg g l =
    g.V.TypeVisitor.ready l.visitor l.cx.entries
    × Visits (g.V.TypeVisitor.sees l.cx.entries) (counts_of l.binders) (args_trees l.cx.entries (take l.arg-index l.arg-items)) l.fn.visitor l.visitor None
    × ArgsHeld l.cx.entries l.arg-items
    × ArgsOlder l.fn.args.0 l.arg-items
    × Is l.cx.entries args_lists l.fn.args.0 (args_trees l.cx.entries l.arg-items)
