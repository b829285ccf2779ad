use Rattle.std.proofs.Common.{refl, sym, ◌∙◌}
use Rattle.infer_table.specs.Content.{IsHeldConstraint, content}
use Rattle.infer_table.specs.Kept.{constraint-kept, constraints-kept, content-kept}
use Rattle.infer_table.proofs.SolutionLaws.{resolved-none}
use Rattle.infer_table.proofs.ConstraintLists.{constraint-held-at, constraints-held-push, one-more-resolved}
use Rattle.infer_table.proofs.constraints.resolve_constraints.Goals as goal

pub eager_resolve_vars-requires-clause-held : goal.eager_resolve_vars-requires-clause-held
eager_resolve_vars-requires-clause-held c =
    let x = c.constraint-item.result in
    let had : IsHeldConstraint c.args.cx.now.entries x = rw c.constraint-item.is (constraint-held-at c.args.cx.now.entries c.args.constraints.now c.loop-constraint.constraint-index x c.requires.held c.loop-constraint-test.true) in
    constraint-kept c.args.cx.now.entries c.loop-constraint.cx.entries x c.loop-constraint.invariant.keeps had

pub loop-constraint-init : goal.loop-constraint-init
loop-constraint-init c =
    let none-yet = c.new-resolved.ensures.items in
    record {
      keeps = λ i e h. h;
      limit = refl;
      ready = c.requires.ready;
      held = rw none-yet tt;
      resolved = rw none-yet (sym (resolved-none (content c.args.cx.now.entries c.args.table.now.values)));
    }

pub loop-constraint-preserved : goal.loop-constraint-preserved
loop-constraint-preserved c =
    let es = c.args.cx.now.entries in
    let now = c.loop-constraint.cx.entries in
    let next = c.eager_resolve_vars.new.cx.entries in
    let inv = c.loop-constraint.invariant in
    let xs = c.args.constraints.now in
    let i = c.loop-constraint.constraint-index in
    let ys = c.loop-constraint.resolved.items in
    let x = c.constraint-item.result in
    let y = c.in_ok-next.next in
    let k = c.eager_resolve_vars.ensures.terms.grew.keeps in
    let values = c.args.table.now.values in
    let had : IsHeldConstraint es x = rw c.constraint-item.is (constraint-held-at es xs i x c.requires.held c.loop-constraint-test.true) in
    record {
      keeps = λ j e h. k j e (inv.keeps j e h);
      limit = c.eager_resolve_vars.ensures.terms.grew.limit ∙ inv.limit;
      ready = c.eager_resolve_vars.ensures.ready;
      held = rw c.in_ok-push.ensures.items (constraints-held-push next ys y (constraints-kept now next ys k inv.held) c.in_ok-next.ensures.held);
      resolved = rw c.in_ok-push.ensures.items
          (one-more-resolved (content es values) (content now values) es now next (content-kept es now values inv.keeps c.requires.ready.held) inv.keeps k xs ys i x y
          c.loop-constraint-test.true c.constraint-item.is had inv.held inv.resolved c.in_ok-next.ensures.outline c.in_ok-next.ensures.resolved);
    }
