use Rattle.std.proofs.Common.{◌≡◌, Some, refl, ap, sym, ◌∙◌, arith}
use Rattle.std.proofs.lemmas.List.{length-map}
use Rattle.std.proofs.lemmas.Option.{slice_get_within, slice_get_read, slice_get-map, same_Some}
use Rattle.std.specs.Option.{option_map}
use Rattle.text_language.specs.Promised.Declarations.{a_struct, a_trait}
use Rattle.text_tables.specs.Tables.{declared, named_item}
use Rattle.text_tables.specs.Views.{struct_of, trait_of, sorts_of}
use Rattle.text_tables.proofs.Names.{struct-known, trait-known}
use Rattle.text_tables.proofs.tables.Tables.known.Goals as goal

pub index-entry-requires : goal.index-entry-requires
index-entry-requires c =
    let t = c.args.self.now in
    let stands = sym c.named.ensures ∙ ap (option_map named_item) (c.in-Some-Struct.is ∙ ap Some c.in-Some-Struct.field-0-is) in
    let found = struct-known (declared t) c.args.name.now c.in-Some-Struct.id.index c.requires.numbered stands in
    omega (arith, slice_get_within (declared t).structs c.in-Some-Struct.id.index found.0 found.1, length-map t.structs.items struct_of)

pub index-entry-requires-in-Some-Trait : goal.index-entry-requires-in-Some-Trait
index-entry-requires-in-Some-Trait c =
    let t = c.args.self.now in
    let stands = sym c.named.ensures ∙ ap (option_map named_item) (c.in-Some-Trait.is ∙ ap Some c.in-Some-Trait.field-0-is) in
    let found = trait-known (declared t) c.args.name.now c.in-Some-Trait.id.index c.requires.numbered stands in
    omega (arith, slice_get_within (declared t).traits c.in-Some-Trait.id.index found.0 found.1, length-map t.traits.items trait_of)

pub returns-in-Some-Struct : goal.returns-in-Some-Struct
returns-in-Some-Struct c =
    let t = c.args.self.now in
    let k = c.in-Some-Struct.id.index in
    let entry = c.index-entry.result.now in
    let stands = sym c.named.ensures ∙ ap (option_map named_item) (c.in-Some-Struct.is ∙ ap Some c.in-Some-Struct.field-0-is) in
    let found = struct-known (declared t) c.args.name.now k c.requires.numbered stands in
    let within = slice_get_within (declared t).structs k found.0 found.1 in
    let there = slice_get_read t.structs.items _ k entry refl (omega (arith, within, length-map t.structs.items struct_of)) c.index-entry.ensures in
    let same : found.0 ≡ struct_of entry = same_Some found.0 (struct_of entry) (sym found.1 ∙ slice_get-map struct_of t.structs.items k ∙ ap (option_map struct_of) there) in
    ap (λ ps. Some (a_struct k entry.owner.index (sorts_of ps))) c.deref.ensures.value ∙ ap (λ s. Some (a_struct k s.item.home s.kinds)) (sym same) ∙ sym found.2

pub returns-in-Some-Trait : goal.returns-in-Some-Trait
returns-in-Some-Trait c =
    let t = c.args.self.now in
    let k = c.in-Some-Trait.id.index in
    let entry = c.index-entry-in-Some-Trait.result.now in
    let stands = sym c.named.ensures ∙ ap (option_map named_item) (c.in-Some-Trait.is ∙ ap Some c.in-Some-Trait.field-0-is) in
    let found = trait-known (declared t) c.args.name.now k c.requires.numbered stands in
    let within = slice_get_within (declared t).traits k found.0 found.1 in
    let there = slice_get_read t.traits.items _ k entry refl (omega (arith, within, length-map t.traits.items trait_of)) c.index-entry-in-Some-Trait.ensures in
    let same : found.0 ≡ trait_of entry = same_Some found.0 (trait_of entry) (sym found.1 ∙ slice_get-map trait_of t.traits.items k ∙ ap (option_map trait_of) there) in
    ap (λ ps. Some (a_trait k entry.owner.index entry.is_auto (sorts_of ps))) c.deref-in-Some-Trait.ensures.value ∙ ap (λ s. Some (a_trait k s.item.home s.item.is_auto s.kinds)) (sym same) ∙ sym found.2
