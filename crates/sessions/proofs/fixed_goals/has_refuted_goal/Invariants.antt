use Rattle.std.proofs.Common.{ℕ}
use Rattle.text_language.specs.Promised.Declarations.{Declarations}
use Rattle.sessions.specs.FixedGoals.{AreRefutedAsNoted, RestsSince}
use Rattle.sessions.specs.Sessions.{IsSession}
use Rattle.sessions.proofs.fixed_goals.has_refuted_goal.Given as goal

abbrev pub invariant-loop-goal : goal.invariant-loop-goal
invariant-loop-goal l = record {
  rests : RestsSince l.fn.search.graph.root_depth l.fn.search.cx l.search.cx l.search.graph l.search.cache;
  noted : (d : Declarations) (c depth : ℕ) → IsSession d c depth l.fn.search.cx l.fn.search.graph l.fn.search.cache → AreRefutedAsNoted d c l.fn.search.cx.interner.entries l.fn.answers → AreRefutedAsNoted d c l.search.cx.interner.entries l.answers;
}
