use Rattle.messages.specs.Told.{KeepsMessage}
use Rattle.explain_texts.proofs.doubts.tell_ways.Given as goal

abbrev pub invariant-loop-index : goal.invariant-loop-index
invariant-loop-index l = KeepsMessage l.initial.telling l.telling
