use Rattle.std.proofs.Common.{◌≡◌, map, take}
use Rattle.text_tables.specs.Stack.{lowered_type}
use Rattle.text_tables.proofs.lists.types_in.Given as goal

abbrev pub invariant-loop-term : goal.invariant-loop-term
invariant-loop-term l = map lowered_type l.tys.items ≡ take l.term-index l.stack
