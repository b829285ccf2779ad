use Rattle.std.proofs.Common.{ℕ, ◌<◌}
use Rattle.sessions.specs.FixedGoals.{AreRefutedInSession}
use Rattle.sessions.specs.Promised.Subjects.{StaysOn}
use Rattle.sessions.proofs.CheckedSubjects.{Passed}
use Rattle.sessions.proofs.session.Session.first_overlap.Given as goal

abbrev pub invariant-loop-index : goal.invariant-loop-index
invariant-loop-index l = record {
  stays : StaysOn l.fn.self l.self;
  noted : AreRefutedInSession l.self l.answers;
  passed : (k : ℕ) → k < l.index → (j : ℕ) → j < l.end → Passed l.fn.self k j;
}
