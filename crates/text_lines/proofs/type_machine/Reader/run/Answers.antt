use Rattle.text_lines.specs.TypeViews.{cells_in, opens_in}
use Rattle.text_lines.proofs.Turning.{turned, fewer}
use Rattle.text_lines.proofs.type_machine.Reader.run.Goals as goal

pub loop-next-smaller : goal.loop-next-smaller
loop-next-smaller c =
    rw c.in-Some.is (fewer c.in-Some.now c.in_ok-next.next (opens_in c.loop-next.self.stack.items) (opens_in c.turn.new.self.stack.items) (cells_in c.loop-next.self.cells.items) (cells_in c.turn.new.self.cells.items) c.loop-next.self.cursor c.turn.new.self.cursor c.in_ok-next.ensures)

pub loop-next-preserved : goal.loop-next-preserved
loop-next-preserved c = record {
  so_far = λ y r. c.loop-next.invariant.so_far y
      (rw c.in-Some.is (turned c.in-Some.now c.in_ok-next.next (opens_in c.loop-next.self.stack.items) (opens_in c.turn.new.self.stack.items) (cells_in c.loop-next.self.cells.items) (cells_in c.turn.new.self.cells.items) c.loop-next.self.cursor c.turn.new.self.cursor c.in_ok-next.ensures y r));
}
