use Rattle.std.proofs.Common.{length}
use Rattle.declarations.specs.Applied.{TraitRefsHeld}
use Rattle.type_terms.specs.Growth.{Grew}
use Rattle.proof_checker.specs.Checked.{AreFirstOf}
use Rattle.proof_checker.specs.Steps.{terms_of}
use Rattle.proof_checker.proofs.links.are_first.Given as goal

abbrev pub invariant-premises : goal.invariant-premises
invariant-premises l = record {
  grew : Grew l.fn.cx l.cx;
  left_held : TraitRefsHeld l.fn.cx.entries l.left;
  asked_held : TraitRefsHeld l.fn.cx.entries l.left_asked;
  first : AreFirstOf (terms_of l.fn.cx.entries l.left_asked) (terms_of l.fn.cx.entries l.left) → AreFirstOf (terms_of l.fn.cx.entries l.fn.asked) (terms_of l.fn.cx.entries l.fn.premises);
}

abbrev pub decreases-premises : goal.decreases-premises
decreases-premises l = length l.left
