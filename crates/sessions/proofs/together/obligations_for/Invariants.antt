use Rattle.std.proofs.Common.{take}
use Rattle.sessions.specs.ProvingTogether.{AreObligationsFor}
use Rattle.sessions.proofs.together.obligations_for.Given as goal

abbrev pub invariant-loop-reference : goal.invariant-loop-reference
invariant-loop-reference l = AreObligationsFor l.clauses (take l.reference-index l.references) l.goals.obligations.items
