use Rattle.std.proofs.Common.{◌≡◌, length, take}
use Rattle.type_terms.specs.Promised.Proofs.{In, Every}
use Rattle.declarations.specs.Applied.{TraitRefsHeld}
use Rattle.type_terms.specs.Growth.{Grew}
use Rattle.proof_checker.specs.Steps.{terms_of, steps_say, at_places}
use Rattle.proof_checker.proofs.checker.premises_stand.Given as goal

abbrev pub invariant-premises : goal.invariant-premises
invariant-premises l = record {
  grew : Grew l.fn.cx l.cx;
  left_held : TraitRefsHeld l.fn.cx.entries l.left;
  are : at_places (steps_say l.fn.cx.entries l.fn.steps) l.left_places ≡ terms_of l.fn.cx.entries l.left → at_places (steps_say l.fn.cx.entries l.fn.steps) l.fn.places ≡ terms_of l.fn.cx.entries l.fn.premises;
  stand : Every (λ p. In p (take l.fn.allowed (steps_say l.fn.cx.entries l.fn.steps))) (terms_of l.fn.cx.entries l.left) → Every (λ p. In p (take l.fn.allowed (steps_say l.fn.cx.entries l.fn.steps))) (terms_of l.fn.cx.entries l.fn.premises);
}

abbrev pub decreases-premises : goal.decreases-premises
decreases-premises l = length l.left
