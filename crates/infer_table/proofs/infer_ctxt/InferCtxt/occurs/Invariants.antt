use Rattle.infer_table.specs.Content.{content}
use Rattle.infer_table.specs.Occurring.{weight}
use Rattle.infer_table.proofs.Occurring.{Searches}
use Rattle.infer_table.proofs.infer_ctxt.InferCtxt.occurs.Given as goal

abbrev pub invariant-work : goal.invariant-work
invariant-work l = Searches l.cx.entries (content l.cx.entries l.self.values) l.variable.index l.fn.ty.0 l.entered l.todo.items

abbrev pub decreases-work : goal.decreases-work
decreases-work l = weight l.cx.entries (content l.cx.entries l.self.values) l.todo.items
