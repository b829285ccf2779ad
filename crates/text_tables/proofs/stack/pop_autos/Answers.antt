use Rattle.std.proofs.Common.{◌-◌, ap, sym, ◌∙◌, map, subst, arith, [], ◌∷◌, length, length-append}
use Rattle.std.proofs.lemmas.List.{reverse-append}
use Rattle.std.specs.Prelude.{reverse, IsSome}
use Rattle.std.specs.List.Sorted.{IsStrictlyIncreasing}
use Rattle.text_tables.specs.Made.{off_autos}
use Rattle.text_tables.specs.Stack.{part_of, parts_in, pushed_parts, stack_of, lowered_auto}
use Rattle.text_tables.proofs.Stacks.{autos-one, autos-more, popped-more, lowest, first_number, rising-cons}
use Rattle.text_tables.proofs.stack.pop_autos.Goals as goal

pub pop_auto-requires : goal.pop_auto-requires
pop_auto-requires c = autos-one c.loop-left.left (lowest c.loop-left.autos.items) (parts_in c.loop-left.stack.items) c.loop-left-test.true c.loop-left.invariant.made

pub loop-left-preserved : goal.loop-left-preserved
loop-left-preserved c =
    let old = c.loop-left.autos.items in
    let t = c.pop_auto.result in
    let S = parts_in c.pop_auto.new.stack.items in
    let more = autos-more c.loop-left.left (lowest old) (parts_in c.loop-left.stack.items) S t.index c.loop-left-test.true c.loop-left.invariant.made (ap (map part_of) c.pop_auto.ensures) in
    let turned = ap (λ ts. map (λ x. x.index) (reverse ts)) c.in_ok-push.ensures.items ∙ ap (map (λ x. x.index)) (reverse-append old (t ∷ [])) in
    record {
      made = subst (λ ns. IsSome (off_autos (c.loop-left.left - 1) (first_number ns) S)) (sym turned) more.0;
      popped =
          popped-more lowered_auto old t _ _ _ c.pop_auto.ensures c.loop-left.invariant.popped
          ∙ ap (λ xs. pushed_parts (map lowered_auto (reverse xs)) (stack_of c.pop_auto.new.stack.items)) (sym c.in_ok-push.ensures.items);
      counted = omega (arith, ap length c.in_ok-push.ensures.items, length-append old (t ∷ []), c.loop-left.invariant.counted, c.loop-left-test.true);
      rise = subst IsStrictlyIncreasing (sym turned) (rising-cons t.index (map (λ x. x.index) (reverse old)) more.1 c.loop-left.invariant.rise);
    }
