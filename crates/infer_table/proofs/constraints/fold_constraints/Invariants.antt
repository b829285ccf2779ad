use Rattle.std.proofs.Common.{◌≡◌, take}
use Rattle.type_terms.specs.Promised.Handles.{Keeps}
use Rattle.infer_table.specs.Content.{AllConstraintsHeld}
use Rattle.infer_table.specs.Responses.{ConstraintsFold}
use Rattle.infer_table.proofs.constraints.fold_constraints.Given as goal

abbrev pub invariant-loop-constraint : goal.invariant-loop-constraint
invariant-loop-constraint g l = record {
  keeps : Keeps l.fn.cx.entries l.cx.entries;
  limit : l.cx.limit ≡ l.fn.cx.limit;
  ready : g.F.TypeFolder.ready l.folder l.cx.entries;
  held : AllConstraintsHeld l.cx.entries l.folded.items;
  folded : ConstraintsFold (g.F.TypeFolder.action l.folder l.fn.cx.entries) l.fn.cx.entries (take l.constraint-index l.constraints) l.cx.entries l.folded.items;
}
