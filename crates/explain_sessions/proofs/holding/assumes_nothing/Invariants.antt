use Rattle.std.proofs.Common.{◌≡◌, List, length}
use Rattle.sessions.specs.TypeTerms.Promised.Handles.{Entry}
use Rattle.sessions.specs.ProofChecker.Steps.{assumed_in}
use Rattle.explain_sessions.proofs.holding.assumes_nothing.Given as goal

abbrev pub invariant-steps : goal.invariant-steps
invariant-steps l = (es : List Entry) → assumed_in es l.left ≡ assumed_in es l.fn.steps

abbrev pub decreases-steps : goal.decreases-steps
decreases-steps l = length l.left
