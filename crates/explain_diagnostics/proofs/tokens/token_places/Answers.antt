use Rattle.std.proofs.Common.{rules}
use Rattle.explain_diagnostics.proofs.Covering.{covers-more}
use Rattle.explain_diagnostics.proofs.tokens.token_places.Goals as goal

pub loop-at-preserved : goal.loop-at-preserved
loop-at-preserved c =
    let covered = covers-more c.args.line.now c.loop-at.places.items record { start = c.loop-at.at; end = c.token_end-end.result } c.loop-at.invariant.1 in
    (search rules, λ at below seen. rw c.in_ok-push.ensures.items (covered at below seen))
