use Rattle.text_lowering.proofs.LaterImpls.{LaterAdded}
use Rattle.text_lowering.proofs.later.lower_later.Given as goal

abbrev pub invariant-loop-entry : goal.invariant-loop-entry
invariant-loop-entry l = LaterAdded l.workspace l.section l.fn.cx.entries l.fn.cx.limit l.entry-index l.cx.entries l.cx.limit l.defs.items
