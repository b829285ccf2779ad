use Rattle.std.proofs.Common.{◌≡◌, ◌<◌, length, map, take}
use Rattle.std.specs.Prelude.{All}
use Rattle.text_language.specs.Promised.Declarations.{known}
use Rattle.text_language.specs.Lowering.{crate_number}
use Rattle.text_tables.specs.Tables.{declared}
use Rattle.text_tables.specs.Views.{numbers_of, name_texts}
use Rattle.text_tables.proofs.tables.Tables.crate_ids.Given as goal

abbrev pub invariant-loop-name : goal.invariant-loop-name
invariant-loop-name l =
    (numbers_of l.ids.items ≡ map (λ u. crate_number (known (declared l.self) u)) (name_texts (take l.name-index l.used))) × All (λ u. u.index < length l.self.crates.items) l.ids.items
