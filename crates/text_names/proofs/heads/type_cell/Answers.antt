use Rattle.std.specs.Option.{option_map}
use Rattle.text_tables.specs.Views.{known_of}
use Rattle.text_names.specs.Views.{label_in}
use Rattle.text_names.specs.Machine.{seen_items, params}
use Rattle.text_names.proofs.Meanings.{type-param, type-item}
use Rattle.text_names.proofs.heads.type_cell.Goals as goal

pub returns-in-Some : goal.returns-in-Some
returns-in-Some g c =
    let v = g.N.Names.sight c.args.names.now in
    type-param (seen_items v) (params v) c.args.name.now c.args.count c.in-Some.place (c.in-Some.ensures {u = tt})

pub returns-in-None : goal.returns-in-None
returns-in-None g c =
    let v = g.N.Names.sight c.args.names.now in
    type-item (seen_items v) (params v) c.args.name.now c.args.count (option_map known_of c.args.meaning) (label_in c.struct_label.result) (c.in-None.ensures {u = tt}) c.struct_label.ensures c.requires
