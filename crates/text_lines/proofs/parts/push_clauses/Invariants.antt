use Rattle.std.proofs.Common.{◌≡◌, ◌++◌, length}
use Rattle.std.specs.List.{flat_map}
use Rattle.text_lines.specs.LineParts.{clause_places}
use Rattle.text_lines.proofs.parts.push_clauses.Given as goal

abbrev pub invariant-loop-rest : goal.invariant-loop-rest
invariant-loop-rest l = l.parts.items ++ flat_map clause_places l.rest ≡ l.fn.parts.items ++ flat_map clause_places l.clauses

abbrev pub decreases-loop-rest : goal.decreases-loop-rest
decreases-loop-rest l = length l.rest
