use Rattle.std.proofs.Common.{◌≡◌, true, subst}
use Rattle.std.specs.Prelude.{IfSome}
use Rattle.explain_texts.specs.ProofChecker.Steps.{term_of}
use Rattle.explain_texts.specs.Sessions.Promised.Promises.{view_in}
use Rattle.explain_texts.specs.ExplainSessions.Rules.{HasRulesByBoth}
use Rattle.celtisdarts.proofs.Staying.{judged-after, same-view}
use Rattle.celtisdarts.proofs.conflicts.tell_later_pair.Goals as goal

pub note_pair-requires-clause-overlap : goal.note_pair-requires-clause-overlap
note_pair-requires-clause-overlap c =
    judged-after c.args.session.now c.explain_overlap.new.session c.explain_overlap.ensures.stays c.args.pair.later.index c.args.pair.earlier.index true c.requires

pub note_pair-requires-clause-common : goal.note_pair-requires-clause-common
note_pair-requires-clause-common c = λ t.
    let first = c.args.session.now in
    let last = c.explain_overlap.new.session in
    let p = c.in-Some.walk in
    let rules = subst (λ o. IfSome o (λ x. x.is_checked ≡ true → HasRulesByBoth (view_in first.declarations first.of_crate) (term_of last.terms x.common) c.args.pair.later.index c.args.pair.earlier.index)) c.in-Some.is c.in_ok-walk.ensures.rules in
    subst (λ V. HasRulesByBoth V (term_of last.terms p.common) c.args.pair.later.index c.args.pair.earlier.index) (same-view first last c.explain_overlap.ensures.stays) (rules t)
