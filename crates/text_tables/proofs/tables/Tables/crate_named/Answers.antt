use Rattle.std.proofs.Common.{Some, ap, sym, ◌∙◌, arith}
use Rattle.std.proofs.lemmas.List.{length-map}
use Rattle.std.specs.Option.{option_map}
use Rattle.text_tables.specs.Tables.{declared}
use Rattle.text_tables.specs.Views.{known_of, crate_of}
use Rattle.text_tables.proofs.Names.{known-there}
use Rattle.text_tables.proofs.tables.Tables.crate_named.Goals as goal

pub returns-in-Some-Crate-clause-there : goal.returns-in-Some-Crate-clause-there
returns-in-Some-Crate-clause-there c =
    let stands = sym c.known.ensures ∙ ap (option_map known_of) (c.in-Some-Crate.is ∙ ap Some c.in-Some-Crate.field-0-is) in
    omega (arith, known-there (declared c.args.self.now) c.args.name.now c.in-Some-Crate.id.index c.requires.numbered stands, length-map c.args.self.now.crates.items crate_of)
