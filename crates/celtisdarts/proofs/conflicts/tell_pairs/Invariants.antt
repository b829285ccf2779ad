use Rattle.explain_texts.specs.Sessions.Promised.Subjects.{StaysOn}
use Rattle.celtisdarts.proofs.conflicts.tell_pairs.Given as goal

abbrev pub invariant-loop-pair : goal.invariant-loop-pair
invariant-loop-pair l = StaysOn l.fn.session l.session
