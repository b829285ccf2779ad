use Rattle.std.proofs.Common.{rules, of_calls, ◌≡◌, ◌∷◌, [], subst}
use Rattle.declarations.specs.Merges.{Rises}
use Rattle.declarations.proofs.Merging.{shorter, folds-none, folds-more}
use Rattle.declarations.proofs.merge.for_each_merged.Goals as goal

pub merge-smaller : goal.merge-smaller
merge-smaller g c = shorter _ _ _ _ c.in-Some.ensures.shorter

pub merge-preserved : goal.merge-preserved
merge-preserved g c = (
  search (rules, of_calls),
  λ ids m r.
      let i = c.merge.invariant.1 ids m r in
      let n = c.in-Some.ensures.next i.0 i.1 i.2 in
      let rises : Rises (c.in-Some.id ∷ n.0) = subst Rises n.1 i.2 in
      (n.0, n.2, rises.1, λ last k. i.3 last (folds-more _ _ _ _ c.in-Some.id _ _ n.1 (search (rules, c.f.ensures)) k)),
)

pub returns : goal.returns
returns g c ids m r =
    let i = c.merge.invariant.1 ids m r in
    let none : i.0 ≡ [] = search (rules, c.in_default.ensures.next i.0 i.1 i.2) in
    (c.merge.f, i.3 c.merge.f (folds-none _ _ _ none))
