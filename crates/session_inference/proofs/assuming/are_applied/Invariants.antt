use Rattle.std.proofs.Common.{length}
use Rattle.declarations.specs.Applied.{AreApplied, TraitRefsHeld}
use Rattle.session_inference.proofs.assuming.are_applied.Given as goal

abbrev pub invariant-references : goal.invariant-references
invariant-references l = record {
  held : TraitRefsHeld l.cx.interner.entries l.left;
  all : AreApplied l.cx.interner.entries l.cx.handler.declarations l.left → AreApplied l.cx.interner.entries l.cx.handler.declarations l.references;
}

abbrev pub decreases-references : goal.decreases-references
decreases-references l = length l.left
