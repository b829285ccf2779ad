use Rattle.std.proofs.Common.{◌≡◌, ◌+◌, ◌≤◌, length}
use Rattle.std.specs.List.{position_from}
use Rattle.std.specs.Str.{bytes_eq}
use Rattle.text_lines.specs.Views.{params_in}
use Rattle.text_names.specs.LookUps.{place_in}
use Rattle.text_tables.specs.Views.{sort_of_kind}
use Rattle.text_parser.specs.BareLines.{names_of_sort}
use Rattle.text_parser.proofs.params.place_of.Given as goal

abbrev pub invariant-loop-rest : goal.invariant-loop-rest
invariant-loop-rest l = record {
  so_far : position_from (λ m. bytes_eq m l.name) l.place (names_of_sort (sort_of_kind l.sort) (params_in l.rest)) ≡ place_in l.name (names_of_sort (sort_of_kind l.sort) (params_in l.params));
  small : l.place + length l.rest ≤ length l.params;
}

abbrev pub decreases-loop-rest : goal.decreases-loop-rest
decreases-loop-rest l = length l.rest
