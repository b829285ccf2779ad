use Rattle.std.proofs.Common.{ℕ, ◌<◌}
use Rattle.sessions.specs.Promised.Subjects.{StaysOn}
use Rattle.sessions.proofs.HeaderChecks.{HeldHere}
use Rattle.sessions.proofs.session.Session.check_supertraits.Given as goal

abbrev pub invariant-loop-number : goal.invariant-loop-number
invariant-loop-number l = record {
  stays : StaysOn l.fn.self l.self;
  held : (k : ℕ) → k < l.number → HeldHere l.fn.self k;
}
