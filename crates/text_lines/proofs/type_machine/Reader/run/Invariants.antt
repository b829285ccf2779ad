use Rattle.text_lines.specs.TypeViews.{cells_in, opens_in}
use Rattle.text_lines.specs.Machine.{State, opening, Reaches}
use Rattle.text_lines.specs.TypeSteps.{now_at, weight}
use Rattle.text_lines.proofs.type_machine.Reader.run.Given as goal

abbrev pub invariant-loop-next : goal.invariant-loop-next
invariant-loop-next l = record {
  so_far : (y : State) → Reaches (now_at l.next (opens_in l.self.stack.items) (cells_in l.self.cells.items) l.self.cursor) y → Reaches (opening (opens_in l.fn.self.stack.items) (cells_in l.fn.self.cells.items) l.fn.self.cursor) y;
}

abbrev pub decreases-loop-next : goal.decreases-loop-next
decreases-loop-next l = weight (now_at l.next (opens_in l.self.stack.items) (cells_in l.self.cells.items) l.self.cursor)
