use Rattle.std.proofs.Common.{◌≡◌, drop}
use Rattle.std.specs.Prelude.{slice_get, filter}
use Rattle.type_terms.specs.Promised.Trees.{is_sort}
use Rattle.text_printer.specs.Kinds as term
use Rattle.text_tables.specs.Views as param
use Rattle.text_printer.proofs.params.nth_of_kind.Given as goal

abbrev pub invariant-loop-param : goal.invariant-loop-param
invariant-loop-param l =
    slice_get (filter (λ p. is_sort (param.sort_of_kind p.kind) (term.sort_of_kind l.kind)) (drop l.param-index l.params)) l.left
    ≡ slice_get (filter (λ p. is_sort (param.sort_of_kind p.kind) (term.sort_of_kind l.kind)) l.params) l.index
