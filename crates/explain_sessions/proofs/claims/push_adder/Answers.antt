use Rattle.std.proofs.Common.{sym, subst}
use Rattle.sessions.specs.Declarations.Items.{reference_in}
use Rattle.sessions.specs.Promised.Promises.{view_in}
use Rattle.explain_sessions.specs.Claims.{AddersHold}
use Rattle.explain_sessions.specs.Unseen.{IsUnseen}
use Rattle.explain_sessions.proofs.ClaimsLater.{one-adder}
use Rattle.explain_sessions.proofs.claims.push_adder.Goals as goal

pub find_adder-requires-clause-unseen : goal.find_adder-requires-clause-unseen
find_adder-requires-clause-unseen c =
    let s = c.args.session.now in
    subst (IsUnseen (view_in s.declarations s.of_crate) s.of_crate (reference_in s.terms c.args.reference)) c.in-Some.is c.requires.unseen

pub returns-in_ok-push : goal.returns-in_ok-push
returns-in_ok-push c =
    subst (AddersHold c.args.session.now c.args.walk.now) (sym c.in_ok-push.ensures.items)
    (one-adder c.args.session.now c.args.walk.now _ _ c.requires.adders (c.args.reference, c.requires.there, (c.in-Some-find_adder.ensures, c.requires.free)))
