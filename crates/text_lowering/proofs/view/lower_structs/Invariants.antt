use Rattle.text_lowering.proofs.Views.{StructsAdded}
use Rattle.text_lowering.proofs.view.lower_structs.Given as goal

abbrev pub invariant-loop-entry : goal.invariant-loop-entry
invariant-loop-entry l = StructsAdded l.workspace l.crate_id.index l.from l.fn.cx.entries l.fn.cx.limit l.fn.decls l.entry-index l.cx.entries l.cx.limit l.decls
