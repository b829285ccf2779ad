use Rattle.std.proofs.Common.{subst}
use Rattle.std.proofs.lemmas.List.{drop_all}
use Rattle.text_parser.specs.Numbering.{meanings}
use Rattle.text_parser.proofs.KeptTypes.{Fields, fields-start, fields-at, fields-end, line-ready}
use Rattle.text_parser.proofs.parts.field_cells.Goals as goal

pub loop-field-init : goal.loop-field-init
loop-field-init g c line fs s st u =
    let v = g.N.Names.sight c.args.names.now in
    fields-start v (meanings v c.args.numbering) line fs c.args.fields.now st u c.new-kept.result.items c.new-kept.ensures.items

pub loop-field-preserved : goal.loop-field-preserved
loop-field-preserved g c line fs s st u =
    let v = g.N.Names.sight c.args.names.now in
    let e = meanings v c.args.numbering in
    fields-at v e line fs c.args.fields.now c.loop-field.field-index _ c.field-item.result c.loop-field.kept.items c.push_type.new.kept.items c.loop-field-test.true c.field-item.is
    (line-ready v c.args.numbering line c.requires s) (c.in_ok-push_type.ensures v e c.of-numbers.ensures) (c.loop-field.invariant line fs s st u)

pub returns : goal.returns
returns g c line fs s st u =
    let v = g.N.Names.sight c.args.names.now in
    let e = meanings v c.args.numbering in
    fields-end v e line fs c.loop-field.kept.items
    (subst (λ z. Fields v e line fs z c.loop-field.kept.items) (drop_all c.loop-field.field-index c.args.fields.now c.loop-field-test.false) (c.loop-field.invariant line fs s st u))
