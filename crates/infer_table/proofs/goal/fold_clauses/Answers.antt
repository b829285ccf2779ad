use Rattle.std.proofs.Common.{◌∙◌, ap, Err}
use Rattle.term_folds.specs.Clauses.{ClauseHeld, clause-held-later}
use Rattle.infer_table.proofs.Numbers.{clause-held-at, clauses-held-later, clauses-held-push, one-more-fold}
use Rattle.infer_table.proofs.goal.fold_clauses.Goals as goal
use Rattle.type_terms.proofs.TypeBasics.{handed-on}

pub fold_with-requires-clause-ready : goal.fold_with-requires-clause-ready
fold_with-requires-clause-ready g c = c.loop-clause.invariant.ready

pub fold_with-requires-clause-held : goal.fold_with-requires-clause-held
fold_with-requires-clause-held g c =
    let x = c.clause-item.result in
    let had : ClauseHeld c.args.cx.now.entries x = rw c.clause-item.is (clause-held-at c.args.cx.now.entries c.args.clauses.now c.loop-clause.clause-index x c.requires.held c.loop-clause-test.true) in
    clause-held-later c.args.cx.now.entries c.loop-clause.cx.entries c.loop-clause.invariant.keeps x had

pub loop-clause-preserved : goal.loop-clause-preserved
loop-clause-preserved g c =
    let es = c.args.cx.now.entries in
    let now = c.loop-clause.cx.entries in
    let next = c.fold_with.new.cx.entries in
    let inv = c.loop-clause.invariant in
    let law = g.met.F.TypeFolder in
    let xs = c.args.clauses.now in
    let i = c.loop-clause.clause-index in
    let ys = c.loop-clause.folded.items in
    let x = c.clause-item.result in
    let y = c.in_ok-next.next in
    let k = c.fold_with.ensures.grew.keeps in
    let had : ClauseHeld es x = rw c.clause-item.is (clause-held-at es xs i x c.requires.held c.loop-clause-test.true) in
    record {
      keeps = λ j e h. k j e (inv.keeps j e h);
      limit = c.fold_with.ensures.grew.limit ∙ inv.limit;
      ready = law.ready_kept c.args.folder.now now next k inv.ready;
      held = rw c.in_ok-push.ensures.items (clauses-held-push next ys y (clauses-held-later now next k ys inv.held) c.in_ok-next.ensures.held);
      folded = rw c.in_ok-push.ensures.items
          (one-more-fold (g.F.TypeFolder.action c.args.folder.now es) (g.F.TypeFolder.action c.args.folder.now now) es now next (law.action_kept c.args.folder.now es now inv.keeps c.requires.ready) inv.keeps k xs ys i x y
          c.loop-clause-test.true c.clause-item.is had inv.held inv.folded c.in_ok-next.ensures.outline c.in_ok-next.ensures.folded);
    }

pub returns-in_err-next-clause-full : goal.returns-in_err-next-clause-full
returns-in_err-next-clause-full g c = λ q. handed-on c.from_residual.result c.from_residual.ensures.1 (λ p. c.in_err-next.ensures.full (ap Err p)) q
