use Rattle.std.proofs.Common.{◌≡◌, List, arith, ap, sym, subst, ◌∙◌, map, Err}
use Rattle.type_terms.proofs.FailFacts.{at-limit}
use Rattle.text_tables.specs.Made.{AreMade, is_type}
use Rattle.text_tables.specs.TermCells.{trees_of}
use Rattle.text_tables.specs.Views.{cells_of}
use Rattle.text_lowering.specs.Promised.SeenWorlds.{none_kept, plain}
use Rattle.text_lowering.specs.PlainCells.{plain_cell}
use Rattle.text_lowering.proofs.Plainly.{trees-plain}
use Rattle.text_lowering.proofs.Structs.{struct-lowered}
use Rattle.std.specs.Prelude.{sum_by}
use Rattle.text_tables.specs.TermCounts.{parts}
use Rattle.text_tables.specs.declared.cell.TermCell.{TermCell}
use Rattle.text_lowering.proofs.Counts.{all-parts-plain}
use Rattle.text_lowering.proofs.items.lower_struct.Goals as goal

pub lower_types-requires : goal.lower_types-requires
lower_types-requires c = subst (AreMade is_type) (sym c.deref-3.ensures.value) (c.in_ok-cells.ensures.made is_type (subst (AreMade is_type) (sym c.deref-2.ensures.value) c.requires))

pub returns-clause-is : goal.returns-clause-is
returns-clause-is c =
    let cs = cells_of c.args.entry.now.fields.items in
    struct-lowered c.lower_types.new.cx.entries c.args.entry.now.id c.new.result c.args.entry.now.owner c.args.entry.now.is_fundamental c.in_ok-fields.fields (map (plain none_kept) (trees_of cs)) c.new.ensures.home c.new.ensures.is_fundamental c.new.ensures.fields
    (c.in_ok-fields.ensures.is ∙ ap (λ x. trees_of (cells_of x)) c.deref-3.ensures.value ∙ ap trees_of (c.in_ok-cells.ensures.are ∙ ap (λ x. map (plain_cell none_kept) (cells_of x)) c.deref-2.ensures.value) ∙ trees-plain none_kept cs)

pub returns-in_err-fields-clause-terms : goal.returns-in_err-fields-clause-terms
returns-in_err-fields-clause-terms c = record {
  grew = c.lower_types.ensures.terms.grew;
  full = at-limit c.from_residual-in_err-fields.result c.from_residual-in_err-fields.ensures.1 c.in_err-fields.ensures.terms.full;
}

-- the fields are as many parts as they were
same_parts : (plain_cells given : List TermCell) (fields : List TermCell) → plain_cells ≡ given → cells_of given ≡ map (plain_cell none_kept) (cells_of fields) → sum_by parts (trees_of (cells_of plain_cells)) ≡ sum_by parts (trees_of (cells_of fields))
same_parts xs ys fields e f =
    ap (λ zs. sum_by parts (trees_of (cells_of zs))) e ∙ ap (λ cs. sum_by parts (trees_of cs)) f ∙ ap (sum_by parts) (trees-plain none_kept (cells_of fields)) ∙ all-parts-plain none_kept (trees_of (cells_of fields))

pub returns-in_err-fields-clause-few : goal.returns-in_err-fields-clause-few
returns-in_err-fields-clause-few c =
    let same = same_parts _ _ c.args.entry.now.fields.items c.deref-3.ensures.value (c.in_ok-cells.ensures.are ∙ ap (λ x. map (plain_cell none_kept) (cells_of x)) c.deref-2.ensures.value) in
    omega (arith, same, c.lower_types.ensures.few)

pub returns-clause-few : goal.returns-clause-few
returns-clause-few c =
    let same = same_parts _ _ c.args.entry.now.fields.items c.deref-3.ensures.value (c.in_ok-cells.ensures.are ∙ ap (λ x. map (plain_cell none_kept) (cells_of x)) c.deref-2.ensures.value) in
    omega (arith, same, c.lower_types.ensures.few)
