use Rattle.std.proofs.Common.{◌≡◌, ◌+◌, length, map, IsSome}
use Rattle.std.specs.Prelude.{reverse}
use Rattle.text_tables.specs.Made.{off, is_type}
use Rattle.text_tables.specs.Stack.{stack_of, pushed_parts, parts_in, lowered_type}
use Rattle.text_tables.proofs.stack.pop_types.Given as goal

abbrev pub invariant-loop-left : goal.invariant-loop-left
invariant-loop-left l = record {
  made : IsSome (off is_type l.left (parts_in l.stack.items));
  popped : stack_of l.fn.stack.items ≡ pushed_parts (map lowered_type (reverse l.tys.items)) (stack_of l.stack.items);
  counted : length l.tys.items + l.left ≡ l.count;
}

abbrev pub decreases-loop-left : goal.decreases-loop-left
decreases-loop-left l = l.left
