use Rattle.std.proofs.Common.{◌≡◌, ℕ, ◌+◌, ◌≤◌, arith, sym, ◌∙◌, get_or, take, ap, refl, Some}
use Rattle.type_terms.specs.Promised.Trees.{◌+++◌}
use Rattle.type_terms.specs.Trees.{Single}
use Rattle.type_terms.specs.Promised.Handles.{types, bounds_lists, trees_at}
use Rattle.type_terms.specs.Terms.{type_lists, args_lists}
use Rattle.type_terms.specs.Kinds.{tys_trees, args_trees, ArgOlder, principal_trees, autos_trees}
use Rattle.type_terms.specs.Promised.Handles.{arg_trees, ArgHeld, region_trees}
use Rattle.type_terms.specs.declared.kinds.GenericArgKind.{GenericArgKind}
use Rattle.type_terms.specs.declared.kinds.GenericArgKind.TheVariants.{Lifetime, Ty, Const}
use Rattle.type_terms.specs.Binders.{counts_of}
use Rattle.type_terms.specs.Kept.{trees-is}
use Rattle.type_terms.specs.Visits.{below, ended}
use Rattle.type_terms.proofs.Items.{type-is-one, take-push, ty-held-at, ty-older-at, tys-push, arg-held-at, arg-older-at, args-push}
use Rattle.type_terms.proofs.VisitFacts.{break-at, pass-at, enter-below, visits-append, visits-broken, autos-visited, bounds-visited, tys-cut, args-cut}
use Rattle.type_terms.proofs.LeafFacts.{leaf-visited}
use Rattle.type_terms.proofs.visit_walk.+visits.Invariants.{number_of}
use Rattle.type_terms.proofs.visit_walk.+visits.Goals as goal

pub see_ty-returns-in-Break-clause-visited : goal.see_ty-returns-in-Break-clause-visited
see_ty-returns-in-Break-clause-visited g t c =
    let es = c.args.cx.now.entries in
    let one : Single (trees_at es c.args.ty.0) = type-is-one es c.lawful.ensures c.args.ty.0 c.requires.held in
    break-at (g.V.TypeVisitor.sees es) (counts_of c.args.binders.now) (trees_at es c.args.ty.0) _ _ _ one c.in-Break.ensures.sees

pub see_ty-returns-in-Pass-clause-visited : goal.see_ty-returns-in-Pass-clause-visited
see_ty-returns-in-Pass-clause-visited g t c =
    let es = c.args.cx.now.entries in
    let one : Single (trees_at es c.args.ty.0) = type-is-one es c.lawful.ensures c.args.ty.0 c.requires.held in
    pass-at (g.V.TypeVisitor.sees es) (counts_of c.args.binders.now) (trees_at es c.args.ty.0) _ _ one (rw (← c.in-Pass.is) c.visit_ty.ensures.sees)

pub see_ty-returns-in-Enter-clause-visited : goal.see_ty-returns-in-Enter-clause-visited
see_ty-returns-in-Enter-clause-visited g t c =
    let es = c.args.cx.now.entries in
    enter-below (g.V.TypeVisitor.sees es) (counts_of c.args.binders.now) (trees_at es c.args.ty.0) _ _ _ _ (rw (← c.in-Enter.is) c.visit_ty.ensures.sees) c.see_below.ensures.visited

pub see_below-returns-in-Adt-clause-visited : goal.see_below-returns-in-Adt-clause-visited
see_below-returns-in-Adt-clause-visited g t c = rw (trees-is c.args.cx.now.entries types c.args.ty.0 _ c.in-Adt.ensures.is) (below (c.see_args.ensures.visited))

pub see_below-returns-in-Break-clause-visited : goal.see_below-returns-in-Break-clause-visited
see_below-returns-in-Break-clause-visited g t c = rw (trees-is c.args.cx.now.entries types c.args.ty.0 _ c.in-Ref.ensures.is) (below (visits-broken c.in-Break.ensures.visited refl (trees_at c.args.cx.now.entries c.in-Ref.to.0)))

pub see_below-returns-in-Continue-clause-visited : goal.see_below-returns-in-Continue-clause-visited
see_below-returns-in-Continue-clause-visited g t c = rw (trees-is c.args.cx.now.entries types c.args.ty.0 _ c.in-Ref.ensures.is) (below (visits-append c.in-Continue.ensures.visited refl c.see_ty.ensures.visited))

pub see_below-returns-in-RawPtr-clause-visited : goal.see_below-returns-in-RawPtr-clause-visited
see_below-returns-in-RawPtr-clause-visited g t c = rw (trees-is c.args.cx.now.entries types c.args.ty.0 _ c.in-RawPtr.ensures.is) (below (c.see_ty-in-RawPtr.ensures.visited))

pub see_below-returns-in-Break-see_ty-clause-visited : goal.see_below-returns-in-Break-see_ty-clause-visited
see_below-returns-in-Break-see_ty-clause-visited g t c = rw (trees-is c.args.cx.now.entries types c.args.ty.0 _ c.in-Array.ensures.is) (below (visits-broken c.in-Break-see_ty.ensures.visited refl (trees_at c.args.cx.now.entries c.in-Array.length.0)))

pub see_below-returns-in-Continue-see_ty-clause-visited : goal.see_below-returns-in-Continue-see_ty-clause-visited
see_below-returns-in-Continue-see_ty-clause-visited g t c = rw (trees-is c.args.cx.now.entries types c.args.ty.0 _ c.in-Array.ensures.is) (below (visits-append c.in-Continue-see_ty.ensures.visited refl c.visit_const.ensures.visited))

pub see_below-returns-in-Slice-clause-visited : goal.see_below-returns-in-Slice-clause-visited
see_below-returns-in-Slice-clause-visited g t c = rw (trees-is c.args.cx.now.entries types c.args.ty.0 _ c.in-Slice.ensures.is) (below (c.see_ty-in-Slice.ensures.visited))

pub see_below-returns-in-Tuple-clause-visited : goal.see_below-returns-in-Tuple-clause-visited
see_below-returns-in-Tuple-clause-visited g t c = rw (trees-is c.args.cx.now.entries types c.args.ty.0 _ c.in-Tuple.ensures.is) (below (c.see_tys.ensures.visited))

pub see_below-returns-in-FnPtr-clause-visited : goal.see_below-returns-in-FnPtr-clause-visited
see_below-returns-in-FnPtr-clause-visited g t c = rw (trees-is c.args.cx.now.entries types c.args.ty.0 _ c.in-FnPtr.ensures.is) (below (c.see_tys-in-FnPtr.ensures.visited))

pub see_below-returns-in-Break-see_bounds-clause-visited : goal.see_below-returns-in-Break-see_bounds-clause-visited
see_below-returns-in-Break-see_bounds-clause-visited g t c = rw (trees-is c.args.cx.now.entries types c.args.ty.0 _ c.in-Dynamic.ensures.is) (below (visits-broken c.in-Break-see_bounds.ensures.visited refl (region_trees c.in-Dynamic.region)))

pub see_below-returns-in-Continue-see_bounds-clause-visited : goal.see_below-returns-in-Continue-see_bounds-clause-visited
see_below-returns-in-Continue-see_bounds-clause-visited g t c = rw (trees-is c.args.cx.now.entries types c.args.ty.0 _ c.in-Dynamic.ensures.is) (below (visits-append c.in-Continue-see_bounds.ensures.visited refl c.visit_region-in-Continue-see_bounds.ensures.visited))

pub see_below-returns-in_default-clause-visited : goal.see_below-returns-in_default-clause-visited
see_below-returns-in_default-clause-visited g t c =
    let es = c.args.cx.now.entries in
    rw (trees-is es types c.args.ty.0 _ c.kind.ensures.is)
    (leaf-visited (g.V.TypeVisitor.sees es) (counts_of c.args.binders.now) es c.kind.result c.args.visitor.now
    c.in_default.not-Adt c.in_default.not-Ref c.in_default.not-RawPtr c.in_default.not-Array c.in_default.not-Slice c.in_default.not-Tuple c.in_default.not-FnPtr c.in_default.not-Dynamic)

number-older : (n : ℕ) (a : GenericArgKind) → ArgOlder n a → number_of a ≤ n
number-older n (Lifetime r) h = omega arith
number-older n (Ty t) h = omega arith
number-older n (Const t) h = omega arith

pub see_tys-loop-ty-init : goal.see_tys-loop-ty-init
see_tys-loop-ty-init g t c = (c.requires.ready, ended, c.tys-ty-items.ensures.held, c.tys-ty-items.ensures.older, c.tys-ty-items.ensures.is)

pub see_tys-see_ty-requires : goal.see_tys-see_ty-requires
see_tys-see_ty-requires g t c κs within =
    let inv = c.loop-ty.invariant in
    let xs = c.tys-ty-items.result.now in
    let lt = ty-older-at c.args.tys.0 xs c.loop-ty.ty-index (record { 0 = 0 }) inv.3 c.loop-ty-test.true in
    let old = ty-held-at c.args.cx.now.entries xs c.loop-ty.ty-index (record { 0 = 0 }) inv.2 c.loop-ty-test.true in
    (omega (arith, lt, c.decreases), (within.0, (within.1, (inv.0, old))))

pub see_tys-returns-in-Break-clause-visited : goal.see_tys-returns-in-Break-clause-visited
see_tys-returns-in-Break-clause-visited g t c =
    let inv = c.loop-ty.invariant in
    let es = c.args.cx.now.entries in
    let xs = c.tys-ty-items.result.now in
    let cut = tys-cut es xs c.loop-ty.ty-index (record { 0 = 0 }) c.loop-ty-test.true in
    rw (trees-is es type_lists c.args.tys.0 _ inv.4, cut.1) (visits-broken (visits-append inv.1 refl c.in-Break.ensures.visited) refl cut.0)

pub see_tys-loop-ty-preserved : goal.see_tys-loop-ty-preserved
see_tys-loop-ty-preserved g t c =
    let inv = c.loop-ty.invariant in
    let es = c.args.cx.now.entries in
    let xs = c.tys-ty-items.result.now in
    let i = c.loop-ty.ty-index in
    let from : tys_trees es (take (i + 1) xs) ≡ tys_trees es (take i xs) +++ trees_at es (get_or xs i (record { 0 = 0 })).0 =
    ap (tys_trees es) (take-push xs i (record { 0 = 0 }) c.loop-ty-test.true) ∙ tys-push es (take i xs) (get_or xs i (record { 0 = 0 })) in
    (c.see_ty.ensures.ready, rw from (visits-append inv.1 refl c.in-Continue.ensures.visited), inv.2, inv.3, inv.4)

pub see_args-loop-arg-init : goal.see_args-loop-arg-init
see_args-loop-arg-init g t c = (c.requires.ready, ended, c.args-arg-items.ensures.held, c.args-arg-items.ensures.older, c.args-arg-items.ensures.is)

pub see_args-see_arg-requires : goal.see_args-see_arg-requires
see_args-see_arg-requires g t c κs within =
    let inv = c.loop-arg.invariant in
    let xs = c.args-arg-items.result.now in
    let x = c.arg-item.result in
    let older : ArgOlder c.args.args.0 x = rw c.arg-item.is (arg-older-at c.args.args.0 xs c.loop-arg.arg-index x inv.3 c.loop-arg-test.true) in
    let old : ArgHeld c.args.cx.now.entries x = rw c.arg-item.is (arg-held-at c.args.cx.now.entries xs c.loop-arg.arg-index x inv.2 c.loop-arg-test.true) in
    let lt = number-older c.args.args.0 x older in
    (omega (arith, lt, c.decreases), (within.0, (within.1, (inv.0, old))))

pub see_args-returns-in-Break-clause-visited : goal.see_args-returns-in-Break-clause-visited
see_args-returns-in-Break-clause-visited g t c =
    let inv = c.loop-arg.invariant in
    let es = c.args.cx.now.entries in
    let xs = c.args-arg-items.result.now in
    let cut = args-cut es xs c.loop-arg.arg-index c.arg-item.result c.loop-arg-test.true in
    rw (trees-is es args_lists c.args.args.0 _ inv.4, cut.1, ← c.arg-item.is) (visits-broken (visits-append inv.1 refl c.in-Break.ensures.visited) refl cut.0)

pub see_args-loop-arg-preserved : goal.see_args-loop-arg-preserved
see_args-loop-arg-preserved g t c =
    let inv = c.loop-arg.invariant in
    let es = c.args.cx.now.entries in
    let xs = c.args-arg-items.result.now in
    let i = c.loop-arg.arg-index in
    let x = c.arg-item.result in
    let from : args_trees es (take (i + 1) xs) ≡ args_trees es (take i xs) +++ arg_trees es x =
    ap (args_trees es) (take-push xs i x c.loop-arg-test.true) ∙ args-push es (take i xs) (get_or xs i x) ∙ ap (λ z. args_trees es (take i xs) +++ arg_trees es z) (sym c.arg-item.is) in
    (c.see_arg.ensures.ready, rw from (visits-append inv.1 refl c.in-Continue.ensures.visited), inv.2, inv.3, inv.4)

pub see_bounds-returns-in-Some-clause-visited : goal.see_bounds-returns-in-Some-clause-visited
see_bounds-returns-in-Some-clause-visited g t c =
    let es = c.args.cx.now.entries in
    let bs = counts_of c.args.binders.now in
    let sees = g.V.TypeVisitor.sees es in
    let autos = c.bounds.result.now.autos.items in
    let p = c.in-Some.principal in
    let at : trees_at es c.args.bounds.0 ≡ principal_trees es (Some p) +++ autos_trees autos =
    trees-is es bounds_lists c.args.bounds.0 _ c.bounds.ensures.is ∙ ap (λ q. principal_trees es q +++ autos_trees autos) c.in-Some.is in
    rw at (bounds-visited sees bs p.bound_vars p.def_id.index (trees_at es p.args.0) (autos_trees autos) _ _ _ (λ v x h. g.met.V.TypeVisitor.enters_bounds v es bs x h)
    (autos-visited sees bs _ (λ x h. g.met.V.TypeVisitor.enters_bounds _ es bs x h) autos) c.see_args.ensures.visited)

pub see_bounds-returns-in-None-clause-visited : goal.see_bounds-returns-in-None-clause-visited
see_bounds-returns-in-None-clause-visited g t c =
    let es = c.args.cx.now.entries in
    let bs = counts_of c.args.binders.now in
    let autos = c.bounds.result.now.autos.items in
    let at : trees_at es c.args.bounds.0 ≡ autos_trees autos =
    trees-is es bounds_lists c.args.bounds.0 _ c.bounds.ensures.is ∙ ap (λ q. principal_trees es q +++ autos_trees autos) c.in-None.is in
    rw at (autos-visited (g.V.TypeVisitor.sees es) bs c.args.visitor.now (λ x h. g.met.V.TypeVisitor.enters_bounds c.args.visitor.now es bs x h) autos)
