use Rattle.std.proofs.Common.{◌≡◌, ◌++◌, map, take}
use Rattle.text_printer.specs.Answers.{value_of, more_values}
use Rattle.text_printer.proofs.answer.push_more_values.Given as goal

abbrev pub invariant-loop-value : goal.invariant-loop-value
invariant-loop-value l = l.text.items ≡ l.initial.text.items ++ more_values (map value_of (take l.value-index l.values))
