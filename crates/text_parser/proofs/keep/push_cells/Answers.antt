use Rattle.std.proofs.Common.{refl, arith, subst, map}
use Rattle.std.proofs.lemmas.List.{drop_all}
use Rattle.text_names.specs.Views.{resolved_in}
use Rattle.text_parser.proofs.KeptCells.{Adding, adding-starts, adding-at, adding-ends, next-small}
use Rattle.text_parser.proofs.keep.push_cells.Goals as goal

pub loop-resolved-init : goal.loop-resolved-init
loop-resolved-init c = record { adding = λ e n. adding-starts e (map resolved_in c.args.cells.now) c.args.kept.now.items; small = omega arith }

pub loop-resolved-preserved : goal.loop-resolved-preserved
loop-resolved-preserved c = record {
  adding = λ e n.
      adding-at e c.args.cells.now c.loop-resolved.resolved-index _ _ c.loop-resolved.autos _ c.args.kept.now.items c.loop-resolved.kept.items _ c.cell.result c.loop-resolved-test.true refl c.cell.ensures.held (c.cell.ensures.stands e n)
      c.next_autos-autos.ensures c.in_ok-push.ensures.items (c.loop-resolved.invariant.adding e n);
  small = next-small c.args.cells.now c.loop-resolved.resolved-index _ _ c.loop-resolved.autos c.next_autos-autos.result refl c.next_autos-autos.ensures c.loop-resolved.invariant.small;
}

pub returns : goal.returns
returns c e n =
    adding-ends e (map resolved_in c.args.cells.now) c.loop-resolved.autos c.args.kept.now.items c.loop-resolved.kept.items
    (subst (λ z. Adding e (map resolved_in c.args.cells.now) (map resolved_in z) c.loop-resolved.autos c.args.kept.now.items c.loop-resolved.kept.items) (drop_all c.loop-resolved.resolved-index c.args.cells.now c.loop-resolved-test.false)
    (c.loop-resolved.invariant.adding e n))
