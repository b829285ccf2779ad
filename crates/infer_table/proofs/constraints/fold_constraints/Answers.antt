use Rattle.std.proofs.Common.{◌∙◌, ap, Err}
use Rattle.infer_table.specs.Content.{IsHeldConstraint}
use Rattle.infer_table.specs.Kept.{constraint-kept, constraints-kept}
use Rattle.infer_table.proofs.ConstraintLists.{constraint-held-at, constraints-held-push, one-more-fold}
use Rattle.infer_table.proofs.constraints.fold_constraints.Goals as goal
use Rattle.type_terms.proofs.TypeBasics.{handed-on}

pub fold_with-requires-clause-ready : goal.fold_with-requires-clause-ready
fold_with-requires-clause-ready g c = c.loop-constraint.invariant.ready

pub fold_with-requires-clause-held : goal.fold_with-requires-clause-held
fold_with-requires-clause-held g c =
    let x = c.constraint-item.result in
    let had : IsHeldConstraint c.args.cx.now.entries x = rw c.constraint-item.is (constraint-held-at c.args.cx.now.entries c.args.constraints.now c.loop-constraint.constraint-index x c.requires.held c.loop-constraint-test.true) in
    constraint-kept c.args.cx.now.entries c.loop-constraint.cx.entries x c.loop-constraint.invariant.keeps had

pub loop-constraint-preserved : goal.loop-constraint-preserved
loop-constraint-preserved g c =
    let es = c.args.cx.now.entries in
    let now = c.loop-constraint.cx.entries in
    let next = c.fold_with.new.cx.entries in
    let inv = c.loop-constraint.invariant in
    let law = g.met.F.TypeFolder in
    let xs = c.args.constraints.now in
    let i = c.loop-constraint.constraint-index in
    let ys = c.loop-constraint.folded.items in
    let x = c.constraint-item.result in
    let y = c.in_ok-next.next in
    let k = c.fold_with.ensures.grew.keeps in
    let had : IsHeldConstraint es x = rw c.constraint-item.is (constraint-held-at es xs i x c.requires.held c.loop-constraint-test.true) in
    record {
      keeps = λ j e h. k j e (inv.keeps j e h);
      limit = c.fold_with.ensures.grew.limit ∙ inv.limit;
      ready = law.ready_kept c.args.folder.now now next k inv.ready;
      held = rw c.in_ok-push.ensures.items (constraints-held-push next ys y (constraints-kept now next ys k inv.held) c.in_ok-next.ensures.held);
      folded = rw c.in_ok-push.ensures.items
          (one-more-fold (g.F.TypeFolder.action c.args.folder.now es) (g.F.TypeFolder.action c.args.folder.now now) es now next (law.action_kept c.args.folder.now es now inv.keeps c.requires.ready) inv.keeps k xs ys i x y
          c.loop-constraint-test.true c.constraint-item.is had inv.held inv.folded c.in_ok-next.ensures.outline c.in_ok-next.ensures.folded);
    }

pub returns-in_err-next-clause-full : goal.returns-in_err-next-clause-full
returns-in_err-next-clause-full g c = λ q. handed-on c.from_residual.result c.from_residual.ensures.1 (λ p. c.in_err-next.ensures.full (ap Err p)) q
