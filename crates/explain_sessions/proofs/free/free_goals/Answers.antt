use Rattle.std.proofs.Common.{refl, sym, subst}
use Rattle.sessions.specs.Declarations.Promised.Elaboration.{Each}
use Rattle.sessions.specs.Promised.Promises.{view_in}
use Rattle.explain_sessions.specs.Claims.{IsFreeAt}
use Rattle.explain_sessions.proofs.FreeGoals.{free-staying}
use Rattle.explain_sessions.proofs.RuleCandidates.{put-if}
use Rattle.explain_sessions.proofs.Staying.{stays-further}
use Rattle.explain_sessions.proofs.free.free_goals.Goals as goal

pub loop-place-init : goal.loop-place-init
loop-place-init c = record {
  stays = record { declarations = refl; of_crate = refl; depth = refl; handles = refl; terms = λ i e h. h };
  held = c.requires;
  free = subst (Each (IsFreeAt c.args.session.now.terms (view_in c.args.session.now.declarations c.args.session.now.of_crate) c.args.walk.now.references.items)) (sym c.new-found.ensures.items) tt;
}

pub loop-place-preserved : goal.loop-place-preserved
loop-place-preserved c =
    let s = c.args.session.now in
    let now = c.loop-place.session in
    let P = IsFreeAt c.args.session.now.terms (view_in c.args.session.now.declarations c.args.session.now.of_crate) c.args.walk.now.references.items in
    record {
      stays = stays-further s now c.is_free_goal.new.session c.loop-place.invariant.stays c.is_free_goal.ensures.stays;
      held = c.is_free_goal.ensures.held;
      free =
          subst (Each P) (sym c.in_ok-push_if.ensures)
          (put-if P c.loop-place.found.items _ _ c.loop-place.invariant.free
          (λ q. free-staying s now c.loop-place.invariant.stays c.args.walk.now.references.items c.requires _ (c.in_ok-is_free.ensures.free q)));
    }
