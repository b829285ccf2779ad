use Rattle.std.proofs.Common.{sym, subst}
use Rattle.explain_sessions.specs.Claims.{FreeHold}
use Rattle.explain_sessions.proofs.ClaimsLater.{free-on, holds-on, no-impl-on, refused-on}
use Rattle.explain_sessions.proofs.Staying.{stays-further}
use Rattle.explain_sessions.proofs.claims.refutation_claims.Goals as goal

pub push_all_unseen-requires-clause-unseen : goal.push_all_unseen-requires-clause-unseen
push_all_unseen-requires-clause-unseen c = c.in_ok-claims.ensures.claims.unseen

pub push_all_unseen-requires-clause-adders : goal.push_all_unseen-requires-clause-adders
push_all_unseen-requires-clause-adders c = c.in_ok-claims.ensures.claims.adders

pub push_all_unseen-requires-clause-free : goal.push_all_unseen-requires-clause-free
push_all_unseen-requires-clause-free c =
    let fourth = c.held_goals.new.session in
    let last = c.question_claims.new.session in
    let behind = stays-further fourth c.free_goals.new.session last c.free_goals.ensures.stays c.question_claims.ensures.stays in
    subst (FreeHold last c.args.walk.now) (sym c.deref.ensures.value) (free-on fourth last behind c.args.walk.now c.held_goals.ensures.held _ c.in_ok-free.ensures.free)

pub returns-clause-claims : goal.returns-clause-claims
returns-clause-claims c =
    let first = c.args.session.now in
    let second = c.no_impl_fits.new.session in
    let third = c.refused_goals.new.session in
    let fourth = c.held_goals.new.session in
    let last = c.question_claims.new.session in
    let end = stays-further fourth c.free_goals.new.session last c.free_goals.ensures.stays c.question_claims.ensures.stays in
    let behind = stays-further third fourth last c.held_goals.ensures.stays end in
    let all = stays-further second third last c.refused_goals.ensures.stays behind in
    let claims = c.in_ok-claims.ensures.claims in
    record {
      candidates = claims.candidates;
      refused = refused-on second last all c.args.walk.now c.no_impl_fits.ensures.held _ c.in_ok-refused.ensures.refused;
      held = holds-on third last behind c.args.walk.now c.refused_goals.ensures.held _ c.in_ok-held.ensures.holds;
      unseen = c.push_all_unseen.ensures.unseen;
      adders = c.push_all_unseen.ensures.adders;
      no_impl = λ e. no-impl-on first last (stays-further first second last c.no_impl_fits.ensures.stays all) c.args.walk.now c.requires (c.in_ok-no_impl.ensures.none e);
      no_built_in_rule = λ e. c.no_built_in_rule_fits.ensures e;
    }

pub returns-clause-stays : goal.returns-clause-stays
returns-clause-stays c =
    stays-further c.args.session.now c.no_impl_fits.new.session c.question_claims.new.session c.no_impl_fits.ensures.stays
    (stays-further c.no_impl_fits.new.session c.refused_goals.new.session c.question_claims.new.session c.refused_goals.ensures.stays
    (stays-further c.refused_goals.new.session c.held_goals.new.session c.question_claims.new.session c.held_goals.ensures.stays
    (stays-further c.held_goals.new.session c.free_goals.new.session c.question_claims.new.session c.free_goals.ensures.stays c.question_claims.ensures.stays)))
