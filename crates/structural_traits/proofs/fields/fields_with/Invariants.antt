use Rattle.std.proofs.Common.{◌≡◌, ◌++◌, length, None, map}
use Rattle.type_terms.specs.Promised.Trees.{instantiate}
use Rattle.type_terms.specs.Kinds.{TysHeld}
use Rattle.type_terms.specs.Promised.Handles.{trees_at}
use Rattle.type_terms.specs.declared.kinds.Ty.{Ty}
use Rattle.term_folds.specs.Arguments.{first_misfit}
use Rattle.declarations.specs.Promised.Elaboration.{Each}
use Rattle.declarations.specs.Unsizing.{field_trees}
use Rattle.type_terms.specs.Growth.{Grew}
use Rattle.structural_traits.proofs.fields.fields_with.Given as goal

abbrev pub invariant-fields : goal.invariant-fields
invariant-fields l = record {
  grew : Grew l.fn.cx l.cx;
  left_held : TysHeld l.fn.cx.entries l.left;
  left_fits : Each (λ (f : Ty). first_misfit (trees_at l.fn.cx.entries l.fn.args.0) (trees_at l.fn.cx.entries f.0) ≡ None) l.fn.fields → Each (λ (f : Ty). first_misfit (trees_at l.fn.cx.entries l.fn.args.0) (trees_at l.fn.cx.entries f.0) ≡ None) l.left;
  fits : Each (λ (f : Ty). first_misfit (trees_at l.fn.cx.entries l.fn.args.0) (trees_at l.fn.cx.entries f.0) ≡ None) l.left → Each (λ (f : Ty). first_misfit (trees_at l.fn.cx.entries l.fn.args.0) (trees_at l.fn.cx.entries f.0) ≡ None) l.fn.fields;
  found_held : TysHeld l.cx.entries l.found.items;
  are : field_trees l.cx.entries l.found.items ++ map (instantiate 0 (trees_at l.fn.cx.entries l.fn.args.0)) (field_trees l.fn.cx.entries l.left) ≡ map (instantiate 0 (trees_at l.fn.cx.entries l.fn.args.0)) (field_trees l.fn.cx.entries l.fn.fields);
}

abbrev pub decreases-fields : goal.decreases-fields
decreases-fields l = length l.left
