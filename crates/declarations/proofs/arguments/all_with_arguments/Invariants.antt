use Rattle.std.proofs.Common.{◌≡◌, ◌++◌, length, None}
use Rattle.type_terms.specs.Promised.Worlds.{all_with_args}
use Rattle.type_terms.specs.Promised.Handles.{trees_at}
use Rattle.term_folds.specs.Arguments.{first_misfit}
use Rattle.type_terms.specs.Growth.{Grew}
use Rattle.declarations.specs.Promised.Elaboration.{Each}
use Rattle.declarations.specs.Applied.{references_in, TraitRefsHeld}
use Rattle.declarations.proofs.arguments.all_with_arguments.Given as goal

abbrev pub invariant-references : goal.invariant-references
invariant-references l = record {
  grew : Grew l.fn.cx l.cx;
  left_held : TraitRefsHeld l.fn.cx.entries l.left;
  left_fit : Each (λ b. first_misfit (trees_at l.fn.cx.entries l.fn.args.0) (trees_at l.fn.cx.entries b.args.0) ≡ None) l.left;
  found_held : TraitRefsHeld l.cx.entries l.found.items;
  are : references_in l.cx.entries l.found.items ++ all_with_args (trees_at l.fn.cx.entries l.fn.args.0) (references_in l.fn.cx.entries l.left) ≡ all_with_args (trees_at l.fn.cx.entries l.fn.args.0) (references_in l.fn.cx.entries l.fn.references);
}

abbrev pub decreases-references : goal.decreases-references
decreases-references l = length l.left
