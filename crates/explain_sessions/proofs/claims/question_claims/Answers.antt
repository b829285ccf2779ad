use Rattle.std.proofs.Common.{sym, subst}
use Rattle.sessions.specs.Promised.Promises.{view_in}
use Rattle.explain_sessions.specs.Rules.{AreChecked}
use Rattle.explain_sessions.proofs.ClaimsLater.{checked-on, of-candidates}
use Rattle.explain_sessions.proofs.claims.question_claims.Goals as goal

pub returns-clause-claims : goal.returns-clause-claims
returns-clause-claims c =
    let s = c.args.session.now in
    let t = c.checked_candidates.new.session in
    let e = c.of_candidates.ensures in
    of-candidates t c.args.walk.now c.of_candidates.result
    (subst (AreChecked t.terms (view_in t.declarations t.of_crate) c.args.walk.now) (sym e.candidates)
    (checked-on s t c.checked_candidates.ensures.stays c.args.walk.now c.requires c.in_ok-candidates.candidates c.in_ok-candidates.ensures.checked))
    e.refused e.held e.unseen e.adders e.no_impl e.no_built_in_rule
