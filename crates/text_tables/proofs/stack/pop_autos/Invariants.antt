use Rattle.std.proofs.Common.{◌≡◌, ◌+◌, length, map, IsSome}
use Rattle.std.specs.Prelude.{reverse}
use Rattle.std.specs.List.Sorted.{IsStrictlyIncreasing}
use Rattle.text_tables.specs.Made.{off_autos}
use Rattle.text_tables.specs.Stack.{stack_of, pushed_parts, parts_in, lowered_auto}
use Rattle.text_tables.proofs.Stacks.{lowest}
use Rattle.text_tables.proofs.stack.pop_autos.Given as goal

abbrev pub invariant-loop-left : goal.invariant-loop-left
invariant-loop-left l = record {
  made : IsSome (off_autos l.left (lowest l.autos.items) (parts_in l.stack.items));
  popped : stack_of l.fn.stack.items ≡ pushed_parts (map lowered_auto (reverse l.autos.items)) (stack_of l.stack.items);
  counted : length l.autos.items + l.left ≡ l.count;
  rise : IsStrictlyIncreasing (map (λ t. t.index) (reverse l.autos.items));
}

abbrev pub decreases-loop-left : goal.decreases-loop-left
decreases-loop-left l = l.left
