use Rattle.std.proofs.Common.{◌≡◌, ◌++◌, length}
use Rattle.type_terms.specs.Promised.Handles.{trees_at}
use Rattle.type_terms.specs.Growth.{Grew}
use Rattle.goal_evaluator.specs.Merge.{if_there}
use Rattle.declarations.specs.Applied.{references_in, TraitRefsHeld}
use Rattle.built_in_candidates.specs.Unsizing.{traits_asked}
use Rattle.built_in_candidates.proofs.unsize_to_dyn.with_traits_asked.Given as goal

abbrev pub invariant-traits : goal.invariant-traits
invariant-traits l = record {
  grew : Grew l.fn.cx l.cx;
  found_held : TraitRefsHeld l.cx.entries l.found.items;
  are : references_in l.cx.entries l.found.items ++ traits_asked l.left (trees_at l.fn.cx.entries l.fn.ty.0) ≡ references_in l.fn.cx.entries (if_there l.fn.first) ++ traits_asked l.fn.def_ids (trees_at l.fn.cx.entries l.fn.ty.0);
}

abbrev pub decreases-traits : goal.decreases-traits
decreases-traits l = length l.left
