use Rattle.text_printer.proofs.Values.{all_values}
use Rattle.text_printer.proofs.answer.push_values.Goals as goal

pub returns-in_ok-push_more_values-in-Some : goal.returns-in_ok-push_more_values-in-Some
returns-in_ok-push_more_values-in-Some c =
    all_values c.args.text.now.items c.extend_from_slice.new.self.items c.push_value.new.text.items c.push_more_values.new.text.items c.args.values.now c.in-Some.rest.now c.in-Some.first.now
    c.in_ok-extend_from_slice-in-Some.ensures.items c.in_ok-push_value-in-Some.ensures c.in_ok-push_more_values-in-Some.ensures c.in-Some.ensures.cases.0
