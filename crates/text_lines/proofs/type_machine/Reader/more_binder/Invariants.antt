use Rattle.std.proofs.Common.{◌≡◌, length, None}
use Rattle.text_lines.specs.TypeViews.{cells_in}
use Rattle.text_lines.specs.Machine.{more_binder}
use Rattle.text_lines.proofs.Turning.{Names}
use Rattle.text_lines.proofs.type_machine.Reader.more_binder.Given as goal

abbrev pub invariant-loop : goal.invariant-loop
invariant-loop l = record {
  some : Names l.fn.self.cursor (cells_in l.fn.self.cells.items) l.self.cursor (cells_in l.self.cells.items);
  none : more_binder l.self.cursor ≡ None → more_binder l.fn.self.cursor ≡ None;
  same : l.self.stack ≡ l.fn.self.stack;
}

abbrev pub decreases-loop : goal.decreases-loop
decreases-loop l = length l.self.cursor
