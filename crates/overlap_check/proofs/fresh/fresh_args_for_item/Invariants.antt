use Rattle.std.proofs.Common.{◌≡◌, map, length}
use Rattle.type_terms.specs.Promised.Trees.{◌+++◌}
use Rattle.type_terms.specs.Promised.Handles.{ArgsHeld}
use Rattle.type_terms.specs.Kinds.{args_trees}
use Rattle.infer_table.specs.Content.{Ready}
use Rattle.declarations.specs.Applied.{sort_of_param}
use Rattle.type_terms.specs.Growth.{Grew}
use Rattle.overlap_check.specs.Fresh.{with_unknowns, fresh_unknowns}
use Rattle.overlap_check.proofs.fresh.fresh_args_for_item.Given as goal

abbrev pub invariant-params : goal.invariant-params
invariant-params l = record {
  ready : Ready l.cx.entries l.table;
  grew : Grew l.fn.cx l.cx;
  held : ArgsHeld l.cx.entries l.unknowns.items;
  are : args_trees l.cx.entries l.unknowns.items +++ fresh_unknowns l.table (map sort_of_param l.left) ≡ fresh_unknowns l.fn.table (map sort_of_param l.params);
  made : with_unknowns l.table (map sort_of_param l.left) ≡ with_unknowns l.fn.table (map sort_of_param l.params);
}

abbrev pub decreases-params : goal.decreases-params
decreases-params l = length l.left
