use Rattle.std.proofs.Common.{◌≡◌, ◌++◌, map, drop}
use Rattle.text_printer.specs.Answers.{value_of}
use Rattle.text_printer.specs.Listed.{listed_of}
use Rattle.text_printer.specs.Valued.{printed_names, text_by}
use Rattle.text_printer.proofs.named_values.value_texts.Given as goal

abbrev pub invariant-loop-one : goal.invariant-loop-one
invariant-loop-one l = record {
  texts : map (text_by (printed_names l.fn.names)) (map (listed_of l.fn.cx.entries) l.listed)
      ≡ map value_of l.texts.items ++ map (text_by (printed_names l.fn.names)) (map (listed_of l.fn.cx.entries) (drop l.one-index l.listed));
}
