use Rattle.std.proofs.Common.{sym, subst}
use Rattle.sessions.specs.Promised.Promises.{view_in}
use Rattle.explain_sessions.specs.Rules.{AreChecked}
use Rattle.explain_sessions.proofs.ClaimsLater.{no-candidates, of-candidates}
use Rattle.explain_sessions.proofs.claims.no_claims.Goals as goal

pub returns : goal.returns
returns c = λ s w.
    let e = c.of_candidates.ensures in
    of-candidates s w c.of_candidates.result
    (subst (AreChecked s.terms (view_in s.declarations s.of_crate) w) (sym e.candidates) (no-candidates s.terms (view_in s.declarations s.of_crate) w _ c.new.ensures.items c.new-2.ensures.items))
    e.refused e.held e.unseen e.adders e.no_impl e.no_built_in_rule
