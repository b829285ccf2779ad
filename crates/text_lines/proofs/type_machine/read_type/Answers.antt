use Rattle.text_lines.specs.TypeViews.{cells_in}
use Rattle.text_lines.proofs.MachineLaws.{finds, machine_reads}
use Rattle.text_lines.proofs.Turning.{is-refused}
use Rattle.text_lines.proofs.TypeReading.{reads-finished, gives-error}
use Rattle.text_lines.proofs.type_machine.read_type.Goals as goal

pub returns-in_err-run-clause-refused : goal.returns-in_err-run-clause-refused
returns-in_err-run-clause-refused c =
    is-refused c.from_residual.result c.in_err-run.field-0.0 (cells_in c.args.cells.items) c.args.cursor c.run.new.self.cursor (cells_in c.run.new.self.cells.items) c.from_residual.ensures.1
    (rw c.new.ensures.items at (c.in_err-run.ensures {u = tt}))

pub returns-clause-found : goal.returns-clause-found
returns-clause-found c = finds (cells_in c.args.cells.items) c.args.cursor c.run.new.self.cursor (cells_in c.run.new.self.cells.items) (rw c.new.ensures.items at c.in_ok-run.ensures)

pub returns-clause-only : goal.returns-clause-only
returns-clause-only c t rest h k =
    machine_reads (cells_in c.args.cells.items) c.args.cursor c.run.new.self.cursor (cells_in c.run.new.self.cells.items) t rest (rw c.new.ensures.items at c.in_ok-run.ensures) h k

pub returns-clause-reads : goal.returns-clause-reads
returns-clause-reads c = reads-finished (cells_in c.args.cells.items) c.args.cursor c.run.new.self.cursor (cells_in c.run.new.self.cells.items) (rw c.new.ensures.items at c.in_ok-run.ensures)

pub returns-in_err-run-clause-reads : goal.returns-in_err-run-clause-reads
returns-in_err-run-clause-reads c =
    gives-error c.from_residual.result c.in_err-run.field-0.0 (cells_in c.args.cells.items) c.args.cursor c.run.new.self.cursor (cells_in c.run.new.self.cells.items) c.from_residual.ensures.1
    (rw c.new.ensures.items at (c.in_err-run.ensures {u = tt}))
