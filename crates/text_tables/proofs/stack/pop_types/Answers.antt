use Rattle.std.proofs.Common.{ap, sym, ◌∙◌, map, arith, [], ◌∷◌, length, length-append}
use Rattle.std.specs.Prelude.{reverse}
use Rattle.text_tables.specs.Made.{is_type}
use Rattle.text_tables.specs.Stack.{part_of, parts_in, pushed_parts, stack_of, lowered_type}
use Rattle.text_tables.proofs.Stacks.{off-one, off-more, popped-more}
use Rattle.text_tables.proofs.stack.pop_types.Goals as goal

pub pop_type-requires : goal.pop_type-requires
pop_type-requires c = off-one is_type c.loop-left.left (parts_in c.loop-left.stack.items) c.loop-left-test.true c.loop-left.invariant.made

pub loop-left-preserved : goal.loop-left-preserved
loop-left-preserved c =
    record {
      made = off-more is_type c.loop-left.left (parts_in c.loop-left.stack.items) (parts_in c.pop_type.new.stack.items) _ c.loop-left-test.true c.loop-left.invariant.made (ap (map part_of) c.pop_type.ensures);
      popped =
          popped-more lowered_type c.loop-left.tys.items c.pop_type.result _ _ _ c.pop_type.ensures c.loop-left.invariant.popped
          ∙ ap (λ xs. pushed_parts (map lowered_type (reverse xs)) (stack_of c.pop_type.new.stack.items)) (sym c.in_ok-push.ensures.items);
      counted = omega (arith, ap length c.in_ok-push.ensures.items, length-append c.loop-left.tys.items (c.pop_type.result ∷ []), c.loop-left.invariant.counted, c.loop-left-test.true);
    }
