use Rattle.explain_texts.specs.Sessions.Promised.Subjects.{StaysOn}
use Rattle.celtisdarts.proofs.questions.explain_each.Given as goal

abbrev pub invariant-loop-bound : goal.invariant-loop-bound
invariant-loop-bound l = StaysOn l.fn.session l.session
