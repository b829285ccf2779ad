use Rattle.std.proofs.Common.{refl, ap, ◌∙◌, false}
use Rattle.std.specs.Prelude.{slice_get, unwrap_or}
use Rattle.std.proofs.lemmas.Option.{slice_get_read}
use Rattle.text_tables.proofs.tables.Tables.sees.Goals as goal

pub returns : goal.returns
returns c =
    let there = slice_get_read c.args.self.now.crates.items _ c.args.seeing.index c.index-entry.result.now refl c.requires.there c.index-entry.ensures in
    c.is_marked.ensures ∙ ap (λ row. unwrap_or (slice_get row c.args.seen.index) false) c.deref.ensures.value ∙ c.requires.consistent.rows c.args.seeing.index c.index-entry.result.now there c.args.seen.index
