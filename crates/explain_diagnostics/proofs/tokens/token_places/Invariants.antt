use Rattle.std.proofs.Common.{length, ◌-◌, All}
use Rattle.explain_diagnostics.specs.Places.{CoverUpTo, IsPartOfLine}
use Rattle.explain_diagnostics.proofs.tokens.token_places.Given as goal

abbrev pub invariant-loop-at : goal.invariant-loop-at
invariant-loop-at l = All (IsPartOfLine (length l.line)) l.places.items × CoverUpTo l.line l.places.items l.at

abbrev pub decreases-loop-at : goal.decreases-loop-at
decreases-loop-at l = length l.line - l.at
