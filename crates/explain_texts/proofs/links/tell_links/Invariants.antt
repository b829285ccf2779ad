use Rattle.messages.specs.Told.{KeepsMessage}
use Rattle.explain_texts.proofs.links.tell_links.Given as goal

abbrev pub invariant-loop-number : goal.invariant-loop-number
invariant-loop-number l = KeepsMessage l.initial.telling l.telling
