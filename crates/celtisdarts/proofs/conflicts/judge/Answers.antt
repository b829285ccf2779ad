use Rattle.std.proofs.Common.{true, subst}
use Rattle.explain_texts.specs.Sessions.Checking.{HasJudged}
use Rattle.celtisdarts.proofs.Staying.{judged-after}
use Rattle.celtisdarts.proofs.conflicts.judge.Goals as goal

pub returns-clause-overlap : goal.returns-clause-overlap
returns-clause-overlap c = λ t.
    let first = c.args.session.now in
    let k = c.args.pair.later.index in
    let j = c.args.pair.earlier.index in
    judged-after first c.impls_overlap.new.session c.impls_overlap.ensures.stays k j true (subst (HasJudged first k j) t c.in_ok-overlaps.ensures.judged)
