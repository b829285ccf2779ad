use Rattle.std.proofs.Common.{◌≡◌, [], suc, ◌+◌, length, map, drop, sym, ◌∙◌, subst, ap, arith}
use Rattle.type_terms.proofs.Grown.{grew-on}
use Rattle.type_terms.proofs.FailFacts.{at-limit}
use Rattle.text_tables.specs.Made.{parts_of}
use Rattle.text_tables.specs.TermCells.{behind_cells}
use Rattle.text_tables.specs.Views.{cells_of}
use Rattle.text_tables.specs.Stack.{part_of, stack_of, parts_in, trees_of_stack, StackHeld}
use Rattle.text_tables.proofs.CellLists.{drop-all, next-made, cell-held, parts-further, trees-further}
use Rattle.text_tables.proofs.lists.lower_cells.Goals as goal
use Rattle.type_terms.proofs.ListBasics.{next-behind as drop-more}

pub lower_cell-requires : goal.lower_cell-requires
lower_cell-requires c =
    let cells = c.args.cells.now in
    let i = c.loop-cell.cell-index in
    let x = c.cell-item.result in
    let P = parts_in c.loop-cell.stack.items in
    record {
      made =
          next-made x (drop (suc i) cells) cells P
          (subst (λ cs. parts_of cs P ≡ parts_of cells []) (drop-more cells i x c.loop-cell-test.true c.cell-item.is) c.loop-cell.invariant.parts) c.requires.made;
      held = c.loop-cell.invariant.held;
      range = cell-held cells i x c.loop-cell-test.true c.cell-item.is c.requires.range;
    }

pub returns-in_err-term-clause-terms : goal.returns-in_err-term-clause-terms
returns-in_err-term-clause-terms c = record { grew = grew-on c.loop-cell.invariant.grew c.lower_cell.ensures.terms.grew; full = at-limit c.from_residual.result c.from_residual.ensures.1 c.in_err-term.ensures.terms.full }

pub loop-cell-preserved : goal.loop-cell-preserved
loop-cell-preserved c =
    let cells = c.args.cells.now in
    let i = c.loop-cell.cell-index in
    let x = c.cell-item.result in
    let S = stack_of c.loop-cell.stack.items in
    let R = stack_of c.lower_cell.new.stack.items in
    let t = c.in_ok-term.term in
    let es = c.loop-cell.cx.entries in
    let es1 = c.lower_cell.new.cx.entries in
    let inv = c.loop-cell.invariant in
    let low = c.in_ok-term.ensures.lowers in
    let rest = drop (suc i) cells in
    let more = drop-more cells i x c.loop-cell-test.true c.cell-item.is in
    let behind : i + 1 ≡ suc i = omega arith in
    record {
      parts =
          subst (λ n. parts_of (drop n cells) (parts_in c.push.new.stack.items) ≡ parts_of cells []) (sym behind)
          (ap (λ s. parts_of rest (map part_of s)) c.in_ok-push.ensures ∙ parts-further x rest es es1 S R t low ∙ ap (λ cs. parts_of cs (map part_of S)) (sym more) ∙ inv.parts);
      trees =
          subst (λ n. behind_cells (cells_of (drop n cells)) (trees_of_stack es1 (stack_of c.push.new.stack.items)) ≡ behind_cells (cells_of cells) []) (sym behind)
          (ap (λ s. behind_cells (cells_of rest) (trees_of_stack es1 s)) c.in_ok-push.ensures ∙ trees-further x rest es es1 S R t low
          ∙ ap (λ cs. behind_cells (cells_of cs) (trees_of_stack es S)) (sym more) ∙ inv.trees);
      held = subst (StackHeld es1) (sym c.in_ok-push.ensures) (low.term_held, low.stack_held);
      grew = grew-on inv.grew c.lower_cell.ensures.terms.grew;
      few = omega (arith, c.lower_cell.ensures.few, inv.few);
    }

pub returns-clause-parts : goal.returns-clause-parts
returns-clause-parts c =
    let i = c.loop-cell.cell-index in
    let done : length c.args.cells.now ≡ i = omega (arith, c.loop-cell-test.false, c.loop-cell.auto.cell-index-end) in
    sym c.loop-cell.invariant.parts ∙ ap (λ cs. parts_of cs (parts_in c.loop-cell.stack.items)) (drop-all c.args.cells.now i done)

pub returns-clause-trees : goal.returns-clause-trees
returns-clause-trees c =
    let i = c.loop-cell.cell-index in
    let done : length c.args.cells.now ≡ i = omega (arith, c.loop-cell-test.false, c.loop-cell.auto.cell-index-end) in
    sym c.loop-cell.invariant.trees ∙ ap (λ cs. behind_cells (cells_of cs) (trees_of_stack c.loop-cell.cx.entries (stack_of c.loop-cell.stack.items))) (drop-all c.args.cells.now i done)

pub returns-in_err-term-clause-few : goal.returns-in_err-term-clause-few
returns-in_err-term-clause-few c = omega (arith, c.lower_cell.ensures.few, c.loop-cell.invariant.few, c.loop-cell-test.true)

pub returns-in_err-push-clause-few : goal.returns-in_err-push-clause-few
returns-in_err-push-clause-few c = omega (arith, c.lower_cell.ensures.few, c.loop-cell.invariant.few, c.loop-cell-test.true)

pub returns-clause-few : goal.returns-clause-few
returns-clause-few c = omega (arith, c.loop-cell.invariant.few, c.loop-cell.auto.cell-index-end)
