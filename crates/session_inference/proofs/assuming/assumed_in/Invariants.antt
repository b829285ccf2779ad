use Rattle.std.proofs.Common.{◌≡◌, take}
use Rattle.declarations.specs.Applied.{TraitRefsHeld, references_in}
use Rattle.sessions.specs.Proving.{SolverAdvances}
use Rattle.session_inference.specs.Assuming.{bounds_over}
use Rattle.session_inference.proofs.assuming.assumed_in.Given as goal

abbrev pub invariant-assumptions : goal.invariant-assumptions
invariant-assumptions l = record {
  advances : SolverAdvances l.fn.cx l.cx;
  held : TraitRefsHeld l.cx.interner.entries l.references.items;
  are : references_in l.cx.interner.entries l.references.items ≡ bounds_over l.fn.cx.interner.entries l.stated.terms.now (take l.assumption-index l.stated.assumptions.now);
}
