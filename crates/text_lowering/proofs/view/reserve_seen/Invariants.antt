use Rattle.std.proofs.Common.{◌≤◌}
use Rattle.text_lowering.proofs.view.reserve_seen.Given as goal

abbrev pub invariant-loop-entry : goal.invariant-loop-entry
invariant-loop-entry l = l.structs ≤ l.entry-index

abbrev pub invariant-loop-entry-2 : goal.invariant-loop-entry-2
invariant-loop-entry-2 l = l.traits ≤ l.entry-index

abbrev pub invariant-loop-entry-3 : goal.invariant-loop-entry-3
invariant-loop-entry-3 l = l.impls ≤ l.entry-index
