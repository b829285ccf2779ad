use Rattle.std.proofs.Common.{◌≡◌, take}
use Rattle.std.specs.Prelude.{filter}
use Rattle.type_terms.specs.Promised.Worlds.{sees}
use Rattle.text_language.specs.Promised.Declarations.{world_of}
use Rattle.text_tables.specs.Tables.{declared}
use Rattle.text_tables.proofs.tables.Tables.seen_from.Given as goal

abbrev pub invariant-loop-id : goal.invariant-loop-id
invariant-loop-id l = l.seen.items ≡ filter (λ i. sees (world_of (declared l.self)) l.seeing.index i.index) (take l.id-index l.self.ids.items)
