use Rattle.std.proofs.Common.{◌≡◌, [], inl, inr, subst}
use Rattle.declarations.specs.Merges.{IsMerge}
use Rattle.declarations.proofs.Merging.{empty-is, first-and-rest, merge-none, merge-first, merge-second}
use Rattle.declarations.proofs.merge.split_smaller.Goals as goal

pub returns-in-None-None-clause-next : goal.returns-in-None-None-clause-next
returns-in-None-None-clause-next c ids m r =
    let no-first : c.args.first.now ≡ [] = empty-is c.args.first.now c.in-None-None.ensures.cases in
    let no-second : c.args.second.now ≡ [] = empty-is c.args.second.now c.in-None-None.ensures'.cases in
    merge-none ids (subst (λ l. IsMerge l [] ids) no-first (subst (λ l. IsMerge c.args.first.now l ids) no-second m))

pub returns-in-None-Some-clause-next : goal.returns-in-None-Some-clause-next
returns-in-None-Some-clause-next c ids m r =
    let no-first : c.args.first.now ≡ [] = empty-is c.args.first.now c.in-None-Some.ensures.cases in
    let back = first-and-rest c.args.second.now _ _ c.in-None-Some.ensures'.cases in
    merge-second _ c.args.first.now _ ids (subst (λ l. IsMerge c.args.first.now l ids) back m) r (inl no-first)

pub returns-in-Some-None-clause-next : goal.returns-in-Some-None-clause-next
returns-in-Some-None-clause-next c ids m r =
    let no-second : c.args.second.now ≡ [] = empty-is c.args.second.now c.in-Some-None.ensures'.cases in
    let back = first-and-rest c.args.first.now _ _ c.in-Some-None.ensures.cases in
    merge-first _ _ c.args.second.now ids (subst (λ l. IsMerge l c.args.second.now ids) back m) r (inl no-second)

pub returns-then-x-y-clause-next : goal.returns-then-x-y-clause-next
returns-then-x-y-clause-next c ids m r =
    let back = first-and-rest c.args.first.now _ _ c.in-Some-Some.ensures.cases in
    let next = first-and-rest c.args.second.now _ _ c.in-Some-Some.ensures'.cases in
    merge-first _ _ c.args.second.now ids (subst (λ l. IsMerge l c.args.second.now ids) back m) r (inr (_, _, next, c.if-x-y.true))

pub returns-else-x-y-clause-next : goal.returns-else-x-y-clause-next
returns-else-x-y-clause-next c ids m r =
    let back = first-and-rest c.args.first.now _ _ c.in-Some-Some.ensures.cases in
    let next = first-and-rest c.args.second.now _ _ c.in-Some-Some.ensures'.cases in
    merge-second _ c.args.first.now _ ids (subst (λ l. IsMerge c.args.first.now l ids) next m) r (inr (_, _, back, c.if-x-y.false))
