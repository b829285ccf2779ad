use Rattle.std.proofs.Common.{IfSome}
use Rattle.explain_diagnostics.specs.Places.{IsPartOf}
use Rattle.explain_diagnostics.proofs.excerpt.main_place.Given as goal

abbrev pub invariant-loop-label : goal.invariant-loop-label
invariant-loop-label l = IfSome l.found (IsPartOf l.length)
