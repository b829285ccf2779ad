use Rattle.std.proofs.Common.{take, ◌+◌, ◌++◌, ◌∷◌, [], ap, sym, ◌∙◌}
use Rattle.std.proofs.lemmas.List.{take_more}
use Rattle.text_printer.proofs.Values.{one_more}
use Rattle.text_printer.proofs.answer.push_more_values.Goals as goal

pub loop-value-preserved : goal.loop-value-preserved
loop-value-preserved c =
    one_more c.args.text.now.items c.loop-value.text.items c.extend_from_slice.new.self.items c.push_value.new.text.items (take c.loop-value.value-index c.args.values.now) (take (c.loop-value.value-index + 1) c.args.values.now)
    c.value-item.result c.loop-value.invariant c.in_ok-extend_from_slice.ensures.items c.in_ok-push_value.ensures
    (take_more c.args.values.now c.loop-value.value-index c.value-item.result c.loop-value-test.true ∙ ap (λ y. take c.loop-value.value-index c.args.values.now ++ y ∷ []) (sym c.value-item.is))
