use Rattle.std.proofs.Common.{suc, sym, ap, ◌∙◌}
use Rattle.type_terms.specs.Promised.Handles.{bounds_lists, trees_at}
use Rattle.type_terms.specs.Kept.{trees-is}
use Rattle.type_terms.specs.Kinds.{bounds_trees}
use Rattle.declarations.specs.Apart.{may_meet}
use Rattle.declarations.proofs.Meeting.{principals-left, bounds-differ}
use Rattle.declarations.proofs.apart.compare_bounds.Goals as goal

pub returns-then-eq-clause-held : goal.returns-then-eq-clause-held
returns-then-eq-clause-held c = c.compare_principals.ensures.held c.args.cx.now.entries c.bounds-first.ensures.held.0 c.bounds-second.ensures.held.0

pub returns-then-eq-clause-tell : goal.returns-then-eq-clause-tell
returns-then-eq-clause-tell c n =
    let es = c.args.cx.now.entries in
    let first = c.bounds-first.result.now in
    let second = c.bounds-second.result.now in
    ap (λ z. may_meet (suc n) z (trees_at es c.args.right.0)) (trees-is es bounds_lists c.args.left.0 _ c.bounds-first.ensures.is)
    ∙ ap (λ z. may_meet (suc n) (bounds_trees es first) z) (trees-is es bounds_lists c.args.right.0 _ c.bounds-second.ensures.is)
    ∙ principals-left es n first.principal second.principal first.autos.items second.autos.items (sym c.eq.ensures ∙ c.if-eq.true)
    ∙ c.compare_principals.ensures.tell es n

pub returns-else-eq-clause-tell : goal.returns-else-eq-clause-tell
returns-else-eq-clause-tell c n =
    let es = c.args.cx.now.entries in
    let first = c.bounds-first.result.now in
    let second = c.bounds-second.result.now in
    ap (λ z. may_meet (suc n) z (trees_at es c.args.right.0)) (trees-is es bounds_lists c.args.left.0 _ c.bounds-first.ensures.is)
    ∙ ap (λ z. may_meet (suc n) (bounds_trees es first) z) (trees-is es bounds_lists c.args.right.0 _ c.bounds-second.ensures.is)
    ∙ bounds-differ es n first.principal second.principal first.autos.items second.autos.items (sym c.eq.ensures ∙ c.if-eq.false)
