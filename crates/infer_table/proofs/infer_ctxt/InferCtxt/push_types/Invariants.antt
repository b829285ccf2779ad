use Rattle.std.proofs.Common.{take}
use Rattle.type_terms.specs.Kinds.{args_trees}
use Rattle.infer_table.specs.Content.{content}
use Rattle.infer_table.specs.Occurring.{Pushes}
use Rattle.infer_table.proofs.infer_ctxt.InferCtxt.push_types.Given as goal

abbrev pub invariant-parts : goal.invariant-parts
invariant-parts l =
    Pushes l.cx.entries (content l.cx.entries l.self.values) l.variable.index (args_trees l.cx.entries (take l.arg-index l.args)) l.fn.todo.items l.todo.items
