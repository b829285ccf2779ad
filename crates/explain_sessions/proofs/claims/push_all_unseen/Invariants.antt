use Rattle.explain_sessions.specs.Claims.{AddersHold, UnseenHold}
use Rattle.explain_sessions.proofs.claims.push_all_unseen.Given as goal

abbrev pub invariant-loop-place : goal.invariant-loop-place
invariant-loop-place l = record {
  unseen : UnseenHold l.session l.walk l.unseen.items;
  adders : AddersHold l.session l.walk l.adders.items;
}
