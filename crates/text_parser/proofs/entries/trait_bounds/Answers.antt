use Rattle.std.proofs.Common.{arith, subst}
use Rattle.std.proofs.lemmas.Result.{IfOk-weaker}
use Rattle.text_tables.specs.Tables.{declared}
use Rattle.text_parser.specs.Kept.{MeansBounds}
use Rattle.text_parser.specs.Sights.{sight_of}
use Rattle.text_parser.proofs.Meaning.{bounds-are, ready-item}
use Rattle.text_parser.proofs.entries.trait_bounds.Goals as goal

pub bound_cells-requires : goal.bound_cells-requires
bound_cells-requires c = ready-item (declared c.args.tables.now) c.args.read.now (sight_of c.in_ok-names.names) 1 c.requires.judged.agrees.numbered c.requires.judged.few c.in_ok-names.ensures c.requires.judged.faultless (omega arith)

pub returns-clause-made : goal.returns-clause-made
returns-clause-made c =
    let (l, r) = c.requires.judged.faultless.0 in
    let v = sight_of c.in_ok-names.names in
    IfOk-weaker c.bound_cells.result _ _
    (λ rs means.
    (bounds-are (declared c.args.tables.now) c.args.read.now v c.args.found.now rs.items c.in_ok-names.ensures c.requires.judged.faultless c.requires.judged.short c.requires.judged.found c.requires.line
    (subst (λ x. MeansBounds v x rs.items) c.deref.ensures.value means) l r).1)
    c.bound_cells.ensures

pub returns-clause-are : goal.returns-clause-are
returns-clause-are c =
    let v = sight_of c.in_ok-names.names in
    IfOk-weaker c.bound_cells.result _ _
    (λ rs means l r.
    (bounds-are (declared c.args.tables.now) c.args.read.now v c.args.found.now rs.items c.in_ok-names.ensures c.requires.judged.faultless c.requires.judged.short c.requires.judged.found c.requires.line
    (subst (λ x. MeansBounds v x rs.items) c.deref.ensures.value means) l r).0)
    c.bound_cells.ensures
