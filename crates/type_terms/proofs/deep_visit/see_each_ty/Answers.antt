use Rattle.std.proofs.Common.{◌≡◌, ◌+◌, ◌∙◌, get_or, take, ap, refl}
use Rattle.type_terms.specs.Promised.Trees.{◌+++◌}
use Rattle.type_terms.specs.Promised.Handles.{trees_at}
use Rattle.type_terms.specs.Kinds.{tys_trees}
use Rattle.type_terms.specs.Visits.{ended}
use Rattle.type_terms.proofs.Items.{take-push, ty-held-at, tys-push}
use Rattle.type_terms.proofs.VisitFacts.{visits-append, visits-broken, tys-cut}
use Rattle.type_terms.proofs.deep_visit.see_each_ty.Goals as goal

pub loop-ty-init : goal.loop-ty-init
loop-ty-init g c = (c.requires.ready, ended)

pub see_ty-requires-clause-ready : goal.see_ty-requires-clause-ready
see_ty-requires-clause-ready g c = c.loop-ty.invariant.0

pub see_ty-requires-clause-held : goal.see_ty-requires-clause-held
see_ty-requires-clause-held g c = ty-held-at c.args.cx.now.entries c.args.tys.now c.loop-ty.ty-index (record { 0 = 0 }) c.requires.held c.loop-ty-test.true

pub returns-in-Break-clause-visited : goal.returns-in-Break-clause-visited
returns-in-Break-clause-visited g c =
    let cut = tys-cut c.args.cx.now.entries c.args.tys.now c.loop-ty.ty-index (record { 0 = 0 }) c.loop-ty-test.true in
    rw cut.1 (visits-broken (visits-append c.loop-ty.invariant.1 refl c.in-Break.ensures.visited) refl cut.0)

pub loop-ty-preserved : goal.loop-ty-preserved
loop-ty-preserved g c =
    let es = c.args.cx.now.entries in
    let xs = c.args.tys.now in
    let i = c.loop-ty.ty-index in
    let from : tys_trees es (take (i + 1) xs) ≡ tys_trees es (take i xs) +++ trees_at es (get_or xs i (record { 0 = 0 })).0 =
    ap (tys_trees es) (take-push xs i (record { 0 = 0 }) c.loop-ty-test.true) ∙ tys-push es (take i xs) (get_or xs i (record { 0 = 0 })) in
    (c.see_ty.ensures.ready, rw from (visits-append c.loop-ty.invariant.1 refl c.in-Continue.ensures.visited))
