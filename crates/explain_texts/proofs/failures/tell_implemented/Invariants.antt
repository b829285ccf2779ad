use Rattle.messages.specs.Told.{KeepsMessage}
use Rattle.explain_texts.proofs.failures.tell_implemented.Given as goal

abbrev pub invariant-loop-other : goal.invariant-loop-other
invariant-loop-other l = KeepsMessage l.initial.telling l.telling
