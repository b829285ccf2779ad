use Rattle.std.proofs.Common.{◌≡◌, length, map}
use Rattle.text_language.specs.Promised.Faults.{is_among}
use Rattle.text_tables.proofs.tables.is_one_of.Given as goal

abbrev pub invariant-loop-rest : goal.invariant-loop-rest
invariant-loop-rest l = is_among l.name (map (λ v. v.items) l.rest) ≡ is_among l.name (map (λ v. v.items) l.names)

abbrev pub decreases-loop-rest : goal.decreases-loop-rest
decreases-loop-rest l = length l.rest
