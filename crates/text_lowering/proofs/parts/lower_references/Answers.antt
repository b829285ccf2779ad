use Rattle.std.proofs.Common.{◌+◌, arith, ◌∙◌, ap, sym, subst, refl}
use Rattle.std.proofs.lemmas.Option.{slice_get_read}
use Rattle.declarations.specs.Applied.{references_in, TraitRefsHeld}
use Rattle.declarations.proofs.Bounded.{held-more}
use Rattle.text_lowering.proofs.References.{one-more-lowered}
use Rattle.type_terms.proofs.Grown.{grew-on}
use Rattle.text_tables.specs.TermCounts.{reference_terms}
use Rattle.text_tables.specs.Views.{reference_of}
use Rattle.text_lowering.specs.PlainCells.{is_kept}
use Rattle.text_lowering.proofs.Counts.{one-more, no-more}
use Rattle.text_lowering.proofs.parts.lower_references.Goals as goal

pub lower_reference-requires : goal.lower_reference-requires
lower_reference-requires c =
    let i = c.loop-cells.cells-index in
    c.requires i c.cells-item.result (slice_get_read c.args.list.now _ i c.cells-item.result refl c.loop-cells-test.true c.cells-item.is)

pub loop-cells-preserved : goal.loop-cells-preserved
loop-cells-preserved c =
    let i = c.loop-cells.cells-index in
    let x = c.cells-item.result in
    let e = slice_get_read c.args.list.now _ i x refl c.loop-cells-test.true c.cells-item.is in
    let rs = c.loop-cells.refs.items in
    let r = c.in_ok-trait_ref.trait_ref in
    let old = c.loop-cells.cx.entries in
    let new = c.lower_reference.new.cx.entries in
    let k = c.lower_reference.ensures.terms.grew.keeps in
    let inv = c.loop-cells.invariant in
    let put = c.in_ok-push.ensures.items in
    record {
      grew = grew-on inv.grew c.lower_reference.ensures.terms.grew;
      few = let more = one-more reference_terms reference_of c.args.list.now i x c.loop-cells-test.true c.cells-item.is in omega (arith, more, inv.few, c.lower_reference.ensures.few);
      are = ap (references_in new) put ∙ one-more-lowered (is_kept c.args.kept) old new k rs r c.args.list.now i x inv.held e inv.are c.in_ok-trait_ref.ensures.is;
      held = subst (TraitRefsHeld new) (sym put) (held-more old new k rs r inv.held c.in_ok-trait_ref.ensures.held);
    }

pub returns-in_err-trait_ref-clause-few : goal.returns-in_err-trait_ref-clause-few
returns-in_err-trait_ref-clause-few c =
    let i = c.loop-cells.cells-index in
    let more = one-more reference_terms reference_of c.args.list.now i c.cells-item.result c.loop-cells-test.true c.cells-item.is in
    let less = no-more reference_terms reference_of c.args.list.now (i + 1) in
    omega (arith, more, less, c.loop-cells.invariant.few, c.lower_reference.ensures.few)

pub returns-in_err-push-clause-few : goal.returns-in_err-push-clause-few
returns-in_err-push-clause-few c =
    let i = c.loop-cells.cells-index in
    let more = one-more reference_terms reference_of c.args.list.now i c.cells-item.result c.loop-cells-test.true c.cells-item.is in
    let less = no-more reference_terms reference_of c.args.list.now (i + 1) in
    omega (arith, more, less, c.loop-cells.invariant.few, c.lower_reference.ensures.few)

pub returns-clause-few : goal.returns-clause-few
returns-clause-few c = let less = no-more reference_terms reference_of c.args.list.now c.loop-cells.cells-index in omega (arith, less, c.loop-cells.invariant.few)
