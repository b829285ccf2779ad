use Rattle.std.proofs.Common.{subst}
use Rattle.overlap_check.specs.FixedClauses.{AppendsFixedGoals}
use Rattle.overlap_check.proofs.FixedClauses.{both-fixed}
use Rattle.overlap_check.proofs.fixed.fixed_goals.Goals as goal

pub returns : goal.returns
returns c =
    let es = c.args.cx.now.entries in
    let w = c.args.left.now in
    let x = c.args.right.now in
    let one = c.add_fixed_goals.new.found.items in
    let both = c.add_fixed_goals-2.new.found.items in
    both-fixed es w x c.new-found.result.items one both c.new-found.ensures.items
    (subst (λ l. AppendsFixedGoals es l w.header x.header c.new-found.result.items one) c.deref.ensures.value c.in_ok-add_fixed_goals.ensures)
    (subst (λ l. AppendsFixedGoals es l x.header w.header one both) c.deref-2.ensures.value c.in_ok-add_fixed_goals-2.ensures)
