use Rattle.std.proofs.Common.{◌≡◌, ◌∷◌, ◌++◌, length}
use Rattle.std.specs.Prelude.{map}
use Rattle.text_lines.specs.TokenViews.{tokens_in}
use Rattle.text_lines.specs.LineLists.{plain_list, companion_list, impl_list}
use Rattle.text_lines.specs.Pieces.{lists_in}
use Rattle.text_lines.specs.Views.{params_in}
use Rattle.text_lines.specs.WrittenViews.{binding_of, bound_of, clauses_in}
use Rattle.text_lines.proofs.line_lists.impl_lines.Given as goal

abbrev pub invariant-loop-rest : goal.invariant-loop-rest
invariant-loop-rest l =
    lists_in l.lines.items ++ map (λ v. impl_list (params_in l.params) (tokens_in l.header.subject.now) (clauses_in l.clauses) (companion_list (bound_of l.header.bound) v)) (map binding_of l.rest)
    ≡ impl_list (params_in l.params) (tokens_in l.header.subject.now) (clauses_in l.clauses) (plain_list (bound_of l.header.bound))
    ∷ map (λ v. impl_list (params_in l.params) (tokens_in l.header.subject.now) (clauses_in l.clauses) (companion_list (bound_of l.header.bound) v)) (map binding_of l.given)

abbrev pub decreases-loop-rest : goal.decreases-loop-rest
decreases-loop-rest l = length l.rest
