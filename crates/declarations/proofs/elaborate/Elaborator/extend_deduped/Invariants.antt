use Rattle.std.proofs.Common.{length}
use Rattle.declarations.proofs.Extending.{Extending}
use Rattle.declarations.proofs.elaborate.Elaborator.extend_deduped.Given as goal

abbrev pub invariant-references : goal.invariant-references
invariant-references l = Extending l.fn.cx.entries l.fn.references l.fn.self l.left l.self

abbrev pub decreases-references : goal.decreases-references
decreases-references l = length l.left
