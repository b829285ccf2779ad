use Rattle.std.proofs.Common.{◌≡◌, ℕ, ◌+◌, ◌*◌, take, length, Option, Some, None}
use Rattle.type_terms.specs.Promised.Handles.{Is, Keeps, trees_at}
use Rattle.type_terms.specs.Terms.{type_lists, args_lists}
use Rattle.type_terms.specs.Kinds.{TysHeld, TysOlder, tys_trees, ArgsOlder, args_trees, principal_trees}
use Rattle.type_terms.specs.Promised.Handles.{ArgsHeld, arg_trees}
use Rattle.type_terms.specs.declared.kinds.GenericArgKind.{GenericArgKind}
use Rattle.type_terms.specs.declared.kinds.GenericArgKind.TheVariants.{Lifetime, Ty, Const}
use Rattle.type_terms.specs.declared.kinds.Principal.{Principal}
use Rattle.type_terms.specs.Binders.{counts_of}
use Rattle.term_folds.specs.Folds.{Folds}
use Rattle.term_folds.specs.Memos.{Remembers}
use Rattle.term_folds.proofs.walk.+walks.Given as goal

-- fuel first, then the handle, then the rank of the function
abbrev pub measure : ℕ → ℕ → ℕ → ℕ
measure fuel handle rank = 4 * (fuel * 4294967296 + handle) + rank

abbrev pub number_of : GenericArgKind → ℕ
number_of (Lifetime r) = 0
number_of (Ty t) = t.0 + 1
number_of (Const c) = c.0 + 1

abbrev pub number_of_principal : Option Principal → ℕ
number_of_principal None = 0
number_of_principal (Some p) = p.args.0 + 1

abbrev pub decreases-walk_ty : goal.decreases-walk_ty
decreases-walk_ty g l = measure (g.F.FallibleTypeFolder.fuel l.folder.now l.cx.now.entries (trees_at l.cx.now.entries l.ty.0)) (l.ty.0 + 1) 2

abbrev pub decreases-super_walk_ty : goal.decreases-super_walk_ty
decreases-super_walk_ty g l = measure (g.F.FallibleTypeFolder.fuel l.folder.now l.cx.now.entries (trees_at l.cx.now.entries l.ty.0)) (l.ty.0 + 1) 1

abbrev pub decreases-walk_kind : goal.decreases-walk_kind
decreases-walk_kind g l = measure (g.F.FallibleTypeFolder.fuel l.folder.now l.cx.now.entries (trees_at l.cx.now.entries l.ty.0)) (l.ty.0 + 1) 0

abbrev pub decreases-walk_tys : goal.decreases-walk_tys
decreases-walk_tys g l = measure (g.F.FallibleTypeFolder.fuel l.folder.now l.cx.now.entries (trees_at l.cx.now.entries l.tys.0)) (l.tys.0 + 1) 0

abbrev pub decreases-walk_args : goal.decreases-walk_args
decreases-walk_args g l = measure (g.F.FallibleTypeFolder.fuel l.folder.now l.cx.now.entries (trees_at l.cx.now.entries l.args.0)) (l.args.0 + 1) 1

abbrev pub decreases-walk_each_arg : goal.decreases-walk_each_arg
decreases-walk_each_arg g l = measure (g.F.FallibleTypeFolder.fuel l.folder.now l.cx.now.entries (trees_at l.cx.now.entries l.args.0)) (l.args.0 + 1) 0

abbrev pub decreases-walk_arg : goal.decreases-walk_arg
decreases-walk_arg g l = measure (g.F.FallibleTypeFolder.fuel l.folder.now l.cx.now.entries (arg_trees l.cx.now.entries l.arg)) (number_of l.arg) 3

abbrev pub decreases-walk_bounds : goal.decreases-walk_bounds
decreases-walk_bounds g l = measure (g.F.FallibleTypeFolder.fuel l.folder.now l.cx.now.entries (trees_at l.cx.now.entries l.bounds.0)) (l.bounds.0 + 1) 1

abbrev pub decreases-walk_principal : goal.decreases-walk_principal
decreases-walk_principal g l = measure (g.F.FallibleTypeFolder.fuel l.folder.now l.cx.now.entries (principal_trees l.cx.now.entries l.principal)) (number_of_principal l.principal) 2

abbrev pub invariant-walk_tys-loop-ty : goal.invariant-walk_tys-loop-ty
invariant-walk_tys-loop-ty g l =
    Keeps l.fn.cx.entries l.cx.entries
    × g.F.FallibleTypeFolder.ready l.folder l.cx.entries
    × TysHeld l.cx.entries l.new.items
    × Folds (g.F.FallibleTypeFolder.action l.folder l.fn.cx.entries) (counts_of l.binders) (tys_trees l.fn.cx.entries (take l.ty-index l.ty-items)) (tys_trees l.cx.entries l.new.items)
    × TysHeld l.fn.cx.entries l.ty-items
    × TysOlder l.fn.tys.0 l.ty-items
    × Is l.fn.cx.entries type_lists l.fn.tys.0 (tys_trees l.fn.cx.entries l.ty-items)
    × (length l.new.items ≡ l.ty-index)
    × (l.cx.limit ≡ l.fn.cx.limit)
    × Remembers (g.F.FallibleTypeFolder.action l.folder l.cx.entries) l.cx.entries l.memo

abbrev pub invariant-walk_each_arg-loop-arg : goal.invariant-walk_each_arg-loop-arg
invariant-walk_each_arg-loop-arg g l =
    Keeps l.fn.cx.entries l.cx.entries
    × g.F.FallibleTypeFolder.ready l.folder l.cx.entries
    × ArgsHeld l.cx.entries l.new.items
    × Folds (g.F.FallibleTypeFolder.action l.folder l.fn.cx.entries) (counts_of l.binders) (args_trees l.fn.cx.entries (take l.arg-index l.arg-items)) (args_trees l.cx.entries l.new.items)
    × ArgsHeld l.fn.cx.entries l.arg-items
    × ArgsOlder l.fn.args.0 l.arg-items
    × Is l.fn.cx.entries args_lists l.fn.args.0 (args_trees l.fn.cx.entries l.arg-items)
    × (l.cx.limit ≡ l.fn.cx.limit)
    × Remembers (g.F.FallibleTypeFolder.action l.folder l.cx.entries) l.cx.entries l.memo
