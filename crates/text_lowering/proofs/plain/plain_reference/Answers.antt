use Rattle.std.proofs.Common.{ap, ◌∙◌, sym, subst, map}
use Rattle.type_terms.specs.Promised.Worlds.{Reference}
use Rattle.text_tables.specs.TermCells.{trees_of, joined}
use Rattle.text_tables.specs.Made.{AreMade, is_arg}
use Rattle.text_tables.specs.Views.{cells_of}
use Rattle.text_lowering.specs.PlainCells.{is_kept, plain_cell}
use Rattle.text_lowering.proofs.Plainly.{trees-plain, joined-plain}
use Rattle.text_lowering.proofs.plain.plain_reference.Goals as goal

pub returns-clause-is : goal.returns-clause-is
returns-clause-is c =
    let k = is_kept c.args.kept in
    let cs = c.args.cells.now.args.items in
    ap (λ t. (let r : Reference = record { trait = c.args.cells.now.trait_id.index; args = t } in r))
    (ap (λ x. joined (trees_of x)) (c.in_ok-args.ensures.are ∙ ap (λ y. map (plain_cell k) (cells_of y)) c.deref.ensures.value) ∙ ap joined (trees-plain k (cells_of cs)) ∙ joined-plain k (trees_of (cells_of cs)))

pub returns-clause-made : goal.returns-clause-made
returns-clause-made c = λ m. c.in_ok-args.ensures.made is_arg (subst (AreMade is_arg) (sym c.deref.ensures.value) m)
