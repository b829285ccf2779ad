use Rattle.std.proofs.Common.{◌≡◌, [], map, drop}
use Rattle.text_language.specs.Names as names
use Rattle.text_tables.specs.Views.{question_of}
use Rattle.text_printer.specs.Called.{unknowns_of}
use Rattle.text_printer.specs.Listed.{listed_of}
use Rattle.text_printer.proofs.free.free_unknowns.Given as goal

abbrev pub invariant-loop-listed : goal.invariant-loop-listed
invariant-loop-listed l = record {
  question : l.lists.question.now ≡ l.fn.question;
  free : names.free_unknowns (question_of l.fn.question) (map (listed_of l.fn.cx.entries) l.values) []
      ≡ names.free_unknowns (question_of l.fn.question) (map (listed_of l.fn.cx.entries) (drop l.listed-index l.values)) (unknowns_of l.lists.free.items);
}
