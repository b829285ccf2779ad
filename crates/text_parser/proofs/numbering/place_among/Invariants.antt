use Rattle.std.proofs.Common.{◌≡◌, ◌+◌, ◌≤◌, length, map}
use Rattle.text_language.specs.Lowering.{place_among}
use Rattle.text_tables.specs.Views.{sort_of_kind}
use Rattle.text_names.specs.Views.{variable_in}
use Rattle.text_parser.specs.Numbering.{names_of_sort}
use Rattle.text_parser.proofs.numbering.place_among.Given as goal

abbrev pub invariant-loop-rest : goal.invariant-loop-rest
invariant-loop-rest l = record {
  so_far : l.place + place_among l.name (names_of_sort (sort_of_kind l.sort) (map variable_in l.rest)) ≡ place_among l.name (names_of_sort (sort_of_kind l.sort) (map variable_in l.variables));
  small : l.place + length l.rest ≤ length l.variables;
}

abbrev pub decreases-loop-rest : goal.decreases-loop-rest
decreases-loop-rest l = length l.rest
