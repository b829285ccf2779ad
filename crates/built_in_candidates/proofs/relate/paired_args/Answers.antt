use Rattle.std.proofs.Common.{subst, ◌∷◌}
use Rattle.built_in_candidates.proofs.Pairs.{Pairs, pairs-first, pairs-next, pairs-both, pairs-left, pairs-right}
use Rattle.built_in_candidates.proofs.relate.paired_args.Goals as goal
use Rattle.type_terms.proofs.ListBasics.{empty-is}

pub pairs-init : goal.pairs-init
pairs-init c = pairs-first c.args.first.now c.args.second.now c.new-found.result.items c.new-found.ensures.items

pub pairs-preserved : goal.pairs-preserved
pairs-preserved c =
    let first = c.args.first.now in
    let second = c.args.second.now in
    let found = c.pairs.found.items in
    let xs = c.in-Some-Some.ensures.cases.0 in
    let ys = c.in-Some-Some.ensures'.cases.0 in
    pairs-next first second c.in-Some-Some.xs_left.now c.in-Some-Some.ys_left.now found _ c.in-Some-Some.x.now c.in-Some-Some.y.now c.in_ok-push-in-Some-Some.ensures.items
    (subst (λ l. Pairs first second (c.in-Some-Some.x.now ∷ c.in-Some-Some.xs_left.now) l found) ys (subst (λ l. Pairs first second l c.pairs.ys.now found) xs c.pairs.invariant))

pub returns-in-None-None-clause-are : goal.returns-in-None-None-clause-are
returns-in-None-None-clause-are c =
    pairs-both c.args.first.now c.args.second.now c.pairs.xs.now c.pairs.ys.now c.pairs.found.items
    (empty-is c.pairs.xs.now c.in-None-None.ensures.cases) (empty-is c.pairs.ys.now c.in-None-None.ensures'.cases) c.pairs.invariant

pub returns-in-Some-None-clause-are : goal.returns-in-Some-None-clause-are
returns-in-Some-None-clause-are c =
    pairs-left c.args.first.now c.args.second.now c.pairs.xs.now c.pairs.ys.now c.pairs.found.items _ _ c.in-Some-None.ensures.cases.0 (empty-is c.pairs.ys.now c.in-Some-None.ensures'.cases) c.pairs.invariant

pub returns-in-None-Some-clause-are : goal.returns-in-None-Some-clause-are
returns-in-None-Some-clause-are c =
    pairs-right c.args.first.now c.args.second.now c.pairs.xs.now c.pairs.ys.now c.pairs.found.items _ _ (empty-is c.pairs.xs.now c.in-None-Some.ensures.cases) c.in-None-Some.ensures'.cases.0 c.pairs.invariant
