use Rattle.std.proofs.Common.{◌≡◌, length}
use Rattle.type_terms.specs.Promised.Handles.{ArgsHeld}
use Rattle.type_terms.specs.Promised.Handles.{Keeps}
use Rattle.infer_table.specs.Content.{Ready}
use Rattle.sessions.proofs.shown.equate_all.Given as goal

abbrev pub invariant-unknowns : goal.invariant-unknowns
invariant-unknowns l = record {
  keeps : Keeps l.fn.cx.entries l.cx.entries;
  limit : l.cx.limit ≡ l.fn.cx.limit;
  ready : Ready l.cx.entries l.table;
  left_held : ArgsHeld l.cx.entries l.left;
  given_held : ArgsHeld l.cx.entries l.given;
}

abbrev pub decreases-unknowns : goal.decreases-unknowns
decreases-unknowns l = length l.left
