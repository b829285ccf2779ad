use Rattle.messages.specs.Told.{KeepsMessage}
use Rattle.explain_texts.proofs.refused.tell_refused.Given as goal

abbrev pub invariant-loop-index : goal.invariant-loop-index
invariant-loop-index l = KeepsMessage l.initial.telling l.telling
