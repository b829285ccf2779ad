use Rattle.messages.specs.Told.{KeepsMessage}
use Rattle.explain_texts.proofs.open_questions.tell_ways.Given as goal

abbrev pub invariant-loop-number : goal.invariant-loop-number
invariant-loop-number l = KeepsMessage l.initial.telling l.telling
