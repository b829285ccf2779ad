use Rattle.std.proofs.Common.{sym, subst}
use Rattle.explain_sessions.specs.Claims.{FreeHold}
use Rattle.sessions.proofs.Declarations.Growth.{reference-kept}
use Rattle.explain_sessions.proofs.ClaimsLater.{free-on, holds-on}
use Rattle.explain_sessions.proofs.Staying.{stays-further}
use Rattle.explain_sessions.proofs.claims.pair_claims.Goals as goal

pub push_all_unseen-requires-clause-unseen : goal.push_all_unseen-requires-clause-unseen
push_all_unseen-requires-clause-unseen c = c.in_ok-claims.ensures.claims.unseen

pub push_all_unseen-requires-clause-adders : goal.push_all_unseen-requires-clause-adders
push_all_unseen-requires-clause-adders c = c.in_ok-claims.ensures.claims.adders

pub push_all_unseen-requires-clause-free : goal.push_all_unseen-requires-clause-free
push_all_unseen-requires-clause-free c =
    let t = c.held_goals.new.session in
    let u = c.question_claims.new.session in
    let behind = stays-further t c.free_goals.new.session u c.free_goals.ensures.stays c.question_claims.ensures.stays in
    subst (FreeHold u c.args.pair.now.walk) (sym c.deref.ensures.value) (free-on t u behind c.args.pair.now.walk c.held_goals.ensures.held _ c.in_ok-free.ensures.free)

pub returns-clause-claims : goal.returns-clause-claims
returns-clause-claims c =
    let s = c.args.session.now in
    let t = c.held_goals.new.session in
    let u = c.question_claims.new.session in
    let behind = stays-further t c.free_goals.new.session u c.free_goals.ensures.stays c.question_claims.ensures.stays in
    let all = stays-further s t u c.held_goals.ensures.stays behind in
    let claims = c.in_ok-claims.ensures.claims in
    record {
      candidates = claims.candidates;
      refused = claims.refused;
      held = holds-on s u all c.args.pair.now.walk c.requires.walked _ c.in_ok-held.ensures.holds;
      unseen = c.push_all_unseen.ensures.unseen;
      adders = c.push_all_unseen.ensures.adders;
      no_impl = claims.no_impl;
      no_built_in_rule = claims.no_built_in_rule;
    }

pub returns-clause-held : goal.returns-clause-held
returns-clause-held c = record {
  common = reference-kept c.args.session.now.terms c.question_claims.new.session.terms
      (stays-further c.args.session.now c.held_goals.new.session c.question_claims.new.session c.held_goals.ensures.stays
      (stays-further c.held_goals.new.session c.free_goals.new.session c.question_claims.new.session c.free_goals.ensures.stays c.question_claims.ensures.stays)).terms c.args.pair.now.common c.requires.common;
  walked = c.question_claims.ensures.held;
}

pub returns-clause-stays : goal.returns-clause-stays
returns-clause-stays c =
    stays-further c.args.session.now c.held_goals.new.session c.question_claims.new.session c.held_goals.ensures.stays
    (stays-further c.held_goals.new.session c.free_goals.new.session c.question_claims.new.session c.free_goals.ensures.stays c.question_claims.ensures.stays)
