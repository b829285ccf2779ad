use Rattle.std.proofs.Common.{◌≡◌, map, take}
use Rattle.text_tables.specs.Stack.{lowered_arg}
use Rattle.text_tables.proofs.lists.args_in.Given as goal

abbrev pub invariant-loop-term : goal.invariant-loop-term
invariant-loop-term l = map lowered_arg l.args.items ≡ take l.term-index l.stack
