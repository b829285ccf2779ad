use Rattle.std.proofs.Common.{arith, subst}
use Rattle.std.proofs.lemmas.Result.{IfOk-weaker}
use Rattle.text_tables.specs.Tables.{declared}
use Rattle.text_parser.specs.Kept.{MeansFields}
use Rattle.text_parser.specs.Sights.{sight_of}
use Rattle.text_parser.specs.declared.numbering.Numbering.TheVariants.{Item}
use Rattle.text_parser.proofs.Meaning.{fields-are, ready-item}
use Rattle.text_parser.proofs.entries.struct_fields.Goals as goal

pub field_cells-requires : goal.field_cells-requires
field_cells-requires c = ready-item (declared c.args.tables.now) c.args.read.now (sight_of c.in_ok-names.names) 0 c.requires.judged.agrees.numbered c.requires.judged.few c.in_ok-names.ensures c.requires.judged.faultless (omega arith)

pub returns-clause-made : goal.returns-clause-made
returns-clause-made c =
    let (l, r) = c.requires.judged.faultless.0 in
    let v = sight_of c.in_ok-names.names in
    IfOk-weaker c.field_cells.result _ _
    (λ cs means.
    (fields-are (declared c.args.tables.now) c.args.read.now v c.args.found.now cs.items c.in_ok-names.ensures c.requires.judged.faultless c.requires.judged.short c.requires.judged.found c.requires.line
    (subst (λ x. MeansFields v (Item 0) x cs.items) c.deref.ensures.value means) l r).1)
    c.field_cells.ensures

pub returns-clause-are : goal.returns-clause-are
returns-clause-are c =
    let v = sight_of c.in_ok-names.names in
    IfOk-weaker c.field_cells.result _ _
    (λ cs means l r.
    (fields-are (declared c.args.tables.now) c.args.read.now v c.args.found.now cs.items c.in_ok-names.ensures c.requires.judged.faultless c.requires.judged.short c.requires.judged.found c.requires.line
    (subst (λ x. MeansFields v (Item 0) x cs.items) c.deref.ensures.value means) l r).0)
    c.field_cells.ensures
