use Rattle.std.proofs.Common.{◌≡◌, length, map}
use Rattle.std.specs.List.{list_any}
use Rattle.text_tables.specs.Tables.{has_name_besides}
use Rattle.text_tables.specs.Views.{trait_of}
use Rattle.text_tables.proofs.tables.any_besides.Given as goal

abbrev pub invariant-loop-rest : goal.invariant-loop-rest
invariant-loop-rest l =
    list_any (λ t. has_name_besides l.front (map (λ v. v.items) l.names) t.text) (map trait_of l.rest)
    ≡ list_any (λ t. has_name_besides l.front (map (λ v. v.items) l.names) t.text) (map trait_of l.traits)

abbrev pub decreases-loop-rest : goal.decreases-loop-rest
decreases-loop-rest l = length l.rest
