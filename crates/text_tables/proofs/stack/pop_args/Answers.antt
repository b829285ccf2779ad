use Rattle.std.proofs.Common.{ap, sym, ◌∙◌, map, arith, [], ◌∷◌, length, length-append}
use Rattle.std.specs.Prelude.{reverse}
use Rattle.text_tables.specs.Made.{is_arg}
use Rattle.text_tables.specs.Stack.{part_of, parts_in, pushed_parts, stack_of, lowered_arg}
use Rattle.text_tables.proofs.Stacks.{off-one, off-more, popped-more}
use Rattle.text_tables.proofs.stack.pop_args.Goals as goal

pub pop_arg-requires : goal.pop_arg-requires
pop_arg-requires c = off-one is_arg c.loop-left.left (parts_in c.loop-left.stack.items) c.loop-left-test.true c.loop-left.invariant.made

pub loop-left-preserved : goal.loop-left-preserved
loop-left-preserved c =
    record {
      made = off-more is_arg c.loop-left.left (parts_in c.loop-left.stack.items) (parts_in c.pop_arg.new.stack.items) _ c.loop-left-test.true c.loop-left.invariant.made (ap (map part_of) c.pop_arg.ensures);
      popped =
          popped-more lowered_arg c.loop-left.args.items c.pop_arg.result _ _ _ c.pop_arg.ensures c.loop-left.invariant.popped
          ∙ ap (λ xs. pushed_parts (map lowered_arg (reverse xs)) (stack_of c.pop_arg.new.stack.items)) (sym c.in_ok-push.ensures.items);
      counted = omega (arith, ap length c.in_ok-push.ensures.items, length-append c.loop-left.args.items (c.pop_arg.result ∷ []), c.loop-left.invariant.counted, c.loop-left-test.true);
    }
