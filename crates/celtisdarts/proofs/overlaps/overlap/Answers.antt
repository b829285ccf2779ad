use Rattle.std.proofs.Common.{◌≡◌, true, ◌∙◌, sym, subst}
use Rattle.std.specs.Prelude.{IfSome}
use Rattle.explain_texts.specs.ProofChecker.Steps.{term_of}
use Rattle.explain_texts.proofs.ProofChecker.Later.{term-same}
use Rattle.explain_texts.specs.Sessions.Promised.Promises.{view_in}
use Rattle.explain_texts.specs.ExplainSessions.Rules.{HasRulesByBoth}
use Rattle.explain_texts.specs.ExplainSessions.Walked.{PairWalkHeld}
use Rattle.celtisdarts.proofs.Staying.{same-view, stays-after}
use Rattle.celtisdarts.proofs.overlaps.overlap.Goals as goal

pub tell_pair-requires-clause-common : goal.tell_pair-requires-clause-common
tell_pair-requires-clause-common c = λ t.
    let first = c.args.session.now in
    let second = c.explain_overlap.new.session in
    let last = c.pair_claims.new.session in
    let p = c.in-Some.pair in
    let held = subst (λ o. IfSome o (PairWalkHeld second.terms)) c.in-Some.is c.in_ok-pair.ensures.held in
    let rules = subst (λ o. IfSome o (λ x. x.is_checked ≡ true → HasRulesByBoth (view_in first.declarations first.of_crate) (term_of second.terms x.common) c.args.impls.later.index c.args.impls.earlier.index)) c.in-Some.is c.in_ok-pair.ensures.rules in
    let here = subst (λ V. HasRulesByBoth V (term_of second.terms p.common) c.args.impls.later.index c.args.impls.earlier.index)
    (same-view first second c.explain_overlap.ensures.stays ∙ same-view second last c.pair_claims.ensures.stays) (rules t) in
    subst (λ r. HasRulesByBoth (view_in last.declarations last.of_crate) r c.args.impls.later.index c.args.impls.earlier.index)
    (sym (term-same second.terms last.terms c.pair_claims.ensures.stays.terms p.common held.common)) here

pub returns-in_err-tell_later_pairs : goal.returns-in_err-tell_later_pairs
returns-in_err-tell_later_pairs c = stays-after _ _ _ _ c.explain_overlap.ensures.stays c.pair_claims.ensures.stays c.tell_later_pairs.ensures

pub returns-in_err-told : goal.returns-in_err-told
returns-in_err-told c = stays-after _ _ _ _ c.explain_overlap.ensures.stays c.pair_claims.ensures.stays c.tell_later_pairs.ensures

pub returns : goal.returns
returns c = stays-after _ _ _ _ c.explain_overlap.ensures.stays c.pair_claims.ensures.stays c.tell_later_pairs.ensures
