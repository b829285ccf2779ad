use Rattle.std.proofs.Common.{◌≡◌, length}
use Rattle.std.specs.List.{list_any}
use Rattle.text_lines.specs.TypedLines.{binds_again}
use Rattle.text_lines.specs.WrittenViews.{clauses_in}
use Rattle.text_lines.proofs.typed_line.clauses_bind_again.Given as goal

abbrev pub invariant-loop-rest : goal.invariant-loop-rest
invariant-loop-rest l = list_any (λ k. binds_again k.bound) (clauses_in l.rest) ≡ list_any (λ k. binds_again k.bound) (clauses_in l.clauses)

abbrev pub decreases-loop-rest : goal.decreases-loop-rest
decreases-loop-rest l = length l.rest
