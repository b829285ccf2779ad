use Rattle.std.proofs.Common.{refl, subst, sym}
use Rattle.std.specs.Prelude.{is_ok}
use Rattle.coherence.specs.KeptSessions.{AreLeftSessions}
use Rattle.coherence.proofs.KeptSessions.{left-put, left-without}
use Rattle.coherence.proofs.kept_sessions.KeptSessions.put.Goals as goal

pub oldest-init : goal.oldest-init
oldest-init c =
    let self = c.args.self.now in
    record {
      limits = refl;
      left = λ d h is. subst (AreLeftSessions d self.limits) (sym c.push.ensures.items) (left-put d self.limits self.left.items c.args.left (is_ok c.push.result) h is);
    }

pub oldest-preserved : goal.oldest-preserved
oldest-preserved c =
    let self = c.args.self.now in
    record {
      limits = c.oldest.invariant.limits;
      left = λ d h is. subst (AreLeftSessions d self.limits) (sym c.remove.ensures.items) (left-without d self.limits c.oldest.self.left.items 0 (c.oldest.invariant.left d h is));
    }
