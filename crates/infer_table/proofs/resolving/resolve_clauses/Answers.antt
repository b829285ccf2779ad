use Rattle.std.proofs.Common.{◌≡◌, refl, ap, ◌∙◌}
use Rattle.term_folds.specs.Clauses.{ClauseHeld, clause_pieces, clause-held-later}
use Rattle.type_terms.specs.Pieces.{each_piece}
use Rattle.infer_table.specs.Solutions.{resolved}
use Rattle.infer_table.specs.Content.{content}
use Rattle.infer_table.specs.Kept.{content-kept}
use Rattle.infer_table.proofs.Numbers.{clause-held-at, clauses-held-later, clauses-held-push}
use Rattle.infer_table.proofs.Resolutions.{resolved-nothing, one-more-resolved}
use Rattle.infer_table.proofs.resolving.resolve_clauses.Goals as goal

pub loop-clause-init : goal.loop-clause-init
loop-clause-init c = record {
  keeps = λ i e h. h;
  limit = refl;
  ready = c.requires.ready;
  held = rw c.new-resolved.ensures.items tt;
  resolved = rw c.new-resolved.ensures.items (resolved-nothing (content c.args.cx.now.entries c.args.table.now.values));
}

pub resolve-requires-clause-held : goal.resolve-requires-clause-held
resolve-requires-clause-held c =
    let es = c.args.cx.now.entries in
    let x = c.clause-item.result in
    let had : ClauseHeld es x = rw c.clause-item.is (clause-held-at es c.args.clauses.now c.loop-clause.clause-index x c.requires.held c.loop-clause-test.true) in
    clause-held-later es c.loop-clause.cx.entries c.loop-clause.invariant.keeps x had

pub loop-clause-preserved : goal.loop-clause-preserved
loop-clause-preserved c =
    let es = c.args.cx.now.entries in
    let now = c.loop-clause.cx.entries in
    let next = c.resolve.new.cx.entries in
    let inv = c.loop-clause.invariant in
    let xs = c.args.clauses.now in
    let i = c.loop-clause.clause-index in
    let ys = c.loop-clause.resolved.items in
    let x = c.clause-item.result in
    let y = c.in_ok-next.next in
    let k = c.resolve.ensures.terms.grew.keeps in
    let bs = content es c.args.table.now.values in
    let had : ClauseHeld es x = rw c.clause-item.is (clause-held-at es xs i x c.requires.held c.loop-clause-test.true) in
    let pieces : clause_pieces next y ≡ each_piece (λ d t. resolved bs t) (clause_pieces now x) =
    c.in_ok-next.ensures.resolved ∙ ap (λ z. each_piece (λ d t. resolved z t) (clause_pieces now x)) (content-kept es now c.args.table.now.values inv.keeps c.requires.ready.held) in
    record {
      keeps = λ j e h. k j e (inv.keeps j e h);
      limit = c.resolve.ensures.terms.grew.limit ∙ inv.limit;
      ready = c.resolve.ensures.ready;
      held = rw c.in_ok-push.ensures.items (clauses-held-push next ys y (clauses-held-later now next k ys inv.held) c.in_ok-next.ensures.held);
      resolved = rw c.in_ok-push.ensures.items
          (one-more-resolved bs es now next inv.keeps k xs ys i x y c.loop-clause-test.true c.clause-item.is had inv.held inv.resolved c.in_ok-next.ensures.outline pieces);
    }
