use Rattle.std.proofs.Common.{refl}
use Rattle.coherence.proofs.KeptSessions.{none-left}
use Rattle.coherence.proofs.asker.Asker.read.Goals as goal

pub invariant_of-result : goal.invariant_of-result
invariant_of-result c = record {
  text = (c.args.text.now, c.in_ok-workspace.ensures.taken, refl);
  left = none-left c.in_ok-workspace.workspace c.new.result.limits c.new.result.left.items c.new.ensures.none;
}
