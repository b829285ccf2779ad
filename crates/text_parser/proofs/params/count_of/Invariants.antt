use Rattle.std.proofs.Common.{◌≡◌, ◌+◌, ◌≤◌, length}
use Rattle.text_lines.specs.Views.{params_in}
use Rattle.text_tables.specs.Views.{sort_of_kind}
use Rattle.text_parser.specs.BareLines.{names_of_sort}
use Rattle.text_parser.proofs.params.count_of.Given as goal

abbrev pub invariant-loop-rest : goal.invariant-loop-rest
invariant-loop-rest l = record {
  so_far : l.count + length (names_of_sort (sort_of_kind l.sort) (params_in l.rest)) ≡ length (names_of_sort (sort_of_kind l.sort) (params_in l.params));
  small : l.count + length l.rest ≤ length l.params;
}

abbrev pub decreases-loop-rest : goal.decreases-loop-rest
decreases-loop-rest l = length l.rest
