use Rattle.std.proofs.Common.{refl, arith}
use Rattle.std.proofs.lemmas.List.{length-map}
use Rattle.std.proofs.lemmas.Option.{slice_get_read}
use Rattle.text_tables.specs.Views.{crate_of}
use Rattle.text_tables.proofs.Consistent.{ids-at, ids-length}
use Rattle.text_tables.proofs.tables.Tables.last_crate.Goals as goal

pub returns : goal.returns
returns c =
    let t = c.args.self.now in
    let long = ids-length t c.requires in
    let some = length-map t.crates.items crate_of in
    let there = slice_get_read t.ids.items _ _ c.index.result.now refl (omega (arith, long, some, c.len.ensures, c.requires.numbered.has_core)) c.index.ensures in
    omega (arith, ids-at t c.requires _ _ there, long, some, c.len.ensures)
