use Rattle.std.proofs.Common.{◌≡◌, ◌+◌, drop}
use Rattle.text_language.specs.Output.{place_in}
use Rattle.text_printer.specs.Kinds.{sort_of_kind}
use Rattle.text_printer.specs.Called.{unknowns_of}
use Rattle.text_printer.proofs.question.place_of.Given as goal

abbrev pub invariant-loop-unknown : goal.invariant-loop-unknown
invariant-loop-unknown l = record {
  counted : l.place ≡ l.unknown-index;
  left : place_in (sort_of_kind l.kind) l.index (unknowns_of l.free) ≡ l.place + place_in (sort_of_kind l.kind) l.index (unknowns_of (drop l.unknown-index l.free));
}
