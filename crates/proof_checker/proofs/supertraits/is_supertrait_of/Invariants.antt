use Rattle.declarations.specs.Items.{declared}
use Rattle.declarations.specs.Promised.Elaboration.{Each}
use Rattle.type_terms.specs.Growth.{Grew}
use Rattle.proof_checker.specs.Steps.{term_of}
use Rattle.proof_checker.proofs.Above.{IsAbove}
use Rattle.proof_checker.proofs.supertraits.is_supertrait_of.Given as goal

abbrev pub invariant-looked : goal.invariant-looked
invariant-looked l = record {
  grew : Grew l.fn.cx l.cx;
  above : Each (IsAbove (declared l.fn.cx.entries l.fn.declarations) (term_of l.fn.cx.entries l.fn.below) l.cx.entries) l.waiting.items;
}
