use Rattle.std.proofs.Common.{◌≡◌, ◌+◌, ◌∙◌, get_or, take, ap, refl, sym}
use Rattle.type_terms.specs.Promised.Trees.{◌+++◌}
use Rattle.type_terms.specs.Kinds.{args_trees}
use Rattle.type_terms.specs.Promised.Handles.{arg_trees}
use Rattle.type_terms.specs.Visits.{ended}
use Rattle.type_terms.proofs.Items.{take-push, arg-held-at, args-push}
use Rattle.type_terms.proofs.VisitFacts.{visits-append, visits-broken, args-cut}
use Rattle.type_terms.proofs.deep_visit.see_each_arg.Goals as goal

pub loop-arg-init : goal.loop-arg-init
loop-arg-init g c = (c.requires.ready, ended)

pub see_arg-requires-clause-ready : goal.see_arg-requires-clause-ready
see_arg-requires-clause-ready g c = c.loop-arg.invariant.0

pub see_arg-requires-clause-held : goal.see_arg-requires-clause-held
see_arg-requires-clause-held g c =
    rw c.arg-item.is (arg-held-at c.args.cx.now.entries c.args.args.now c.loop-arg.arg-index c.arg-item.result c.requires.held c.loop-arg-test.true)

pub returns-in-Break-clause-visited : goal.returns-in-Break-clause-visited
returns-in-Break-clause-visited g c =
    let cut = args-cut c.args.cx.now.entries c.args.args.now c.loop-arg.arg-index c.arg-item.result c.loop-arg-test.true in
    rw (cut.1, ← c.arg-item.is) (visits-broken (visits-append c.loop-arg.invariant.1 refl c.in-Break.ensures.visited) refl cut.0)

pub loop-arg-preserved : goal.loop-arg-preserved
loop-arg-preserved g c =
    let es = c.args.cx.now.entries in
    let xs = c.args.args.now in
    let i = c.loop-arg.arg-index in
    let x = c.arg-item.result in
    let from : args_trees es (take (i + 1) xs) ≡ args_trees es (take i xs) +++ arg_trees es x =
    ap (args_trees es) (take-push xs i x c.loop-arg-test.true) ∙ args-push es (take i xs) (get_or xs i x) ∙ ap (λ z. args_trees es (take i xs) +++ arg_trees es z) (sym c.arg-item.is) in
    (c.see_arg.ensures.ready, rw from (visits-append c.loop-arg.invariant.1 refl c.in-Continue.ensures.visited))
