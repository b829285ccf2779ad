use Rattle.std.proofs.Common.{◌≡◌, map, length}
use Rattle.type_terms.specs.Promised.Trees.{◌+++◌}
use Rattle.type_terms.specs.Growth.{Grew}
use Rattle.type_terms.specs.Promised.Handles.{ArgsHeld}
use Rattle.type_terms.specs.Kinds.{args_trees}
use Rattle.declarations.specs.Applied.{sort_of_param}
use Rattle.sessions.specs.Placeholders.{placeholders_from}
use Rattle.sessions.proofs.placeholders.placeholders_for_item.Given as goal

abbrev pub invariant-params : goal.invariant-params
invariant-params l = record {
  grew : Grew l.fn.cx l.cx;
  held : ArgsHeld l.cx.entries l.placeholders.items;
  are : args_trees l.cx.entries l.placeholders.items +++ placeholders_from l.place (map sort_of_param l.left) ≡ placeholders_from 0 (map sort_of_param l.params);
}

abbrev pub decreases-params : goal.decreases-params
decreases-params l = length l.left
