use Rattle.std.proofs.Common.{subst}
use Rattle.std.proofs.lemmas.List.{drop_all}
use Rattle.type_terms.specs.Promised.Label.{of_type, param}
use Rattle.type_terms.specs.Promised.Trees.{leaf}
use Rattle.text_language.specs.Lowering.{bound_with_self}
use Rattle.text_lines.specs.LineParts.{bound_part}
use Rattle.text_parser.specs.declared.numbering.Numbering.TheVariants.{Item}
use Rattle.text_parser.specs.Kept.{IsReadAs}
use Rattle.text_parser.specs.Laws.{BoundFits}
use Rattle.text_parser.specs.Numbering.{meanings}
use Rattle.text_parser.proofs.KeptTypes.{References, references-start, references-at, references-end, bounds-read, line-ready}
use Rattle.text_parser.proofs.parts.bound_cells.Goals as goal

pub loop-bound-init : goal.loop-bound-init
loop-bound-init g c line bs s st u =
    let v = g.N.Names.sight c.args.names.now in
    references-start (λ b r. IsReadAs v (bound_part b) r) (BoundFits v.before line) (bound_with_self (meanings v (Item 1)) (leaf (param of_type 0))) bs c.args.bounds.now (bounds-read v bs c.args.bounds.now st) u c.new-references.result.items
    c.new-references.ensures.items

pub loop-bound-preserved : goal.loop-bound-preserved
loop-bound-preserved g c line bs s st u =
    let v = g.N.Names.sight c.args.names.now in
    references-at (λ b r. IsReadAs v (bound_part b) r) (BoundFits v.before line) (bound_with_self (meanings v (Item 1)) (leaf (param of_type 0))) bs c.args.bounds.now c.loop-bound.bound-index _ c.bound-item.result c.loop-bound.references.items _ c.in_ok-made.made c.loop-bound-test.true c.bound-item.is
    c.in_ok-push.ensures.items (λ b h f. c.in_ok-made.ensures v (meanings v (Item 1)) c.of-numbers.ensures line b (leaf (param of_type 0)) (line-ready v (Item 1) line c.requires s) h f c.in_ok-self_cells.ensures) (c.loop-bound.invariant line bs s st u)

pub returns : goal.returns
returns g c line bs s st u =
    let v = g.N.Names.sight c.args.names.now in
    references-end (λ b r. IsReadAs v (bound_part b) r) (BoundFits v.before line) (bound_with_self (meanings v (Item 1)) (leaf (param of_type 0))) bs c.loop-bound.references.items
    (subst (λ z. References (λ b r. IsReadAs v (bound_part b) r) (BoundFits v.before line) (bound_with_self (meanings v (Item 1)) (leaf (param of_type 0))) bs z c.loop-bound.references.items) (drop_all c.loop-bound.bound-index c.args.bounds.now c.loop-bound-test.false)
    (c.loop-bound.invariant line bs s st u))
