use Rattle.std.proofs.Common.{◌≡◌, map, take}
use Rattle.text_language.specs.Promised.Declarations.{world_of}
use Rattle.text_tables.specs.Tables.{declared, will_see}
use Rattle.text_tables.proofs.tables.Tables.seen_by.Given as goal

abbrev pub invariant-loop-id : goal.invariant-loop-id
invariant-loop-id l = l.row.items ≡ map (λ i. will_see (world_of (declared l.self)) l.uses i.index) (take l.id-index l.self.ids.items)
