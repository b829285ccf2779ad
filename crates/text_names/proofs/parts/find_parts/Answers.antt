use Rattle.std.proofs.Common.{subst, refl}
use Rattle.std.proofs.lemmas.List.{drop_all}
use Rattle.text_lines.specs.TypeViews.{cells_in}
use Rattle.text_names.proofs.Finding.{Going, going-starts, going-at, going-ends}
use Rattle.text_names.proofs.parts.find_parts.Goals as goal

pub loop-part-init : goal.loop-part-init
loop-part-init g c ps h = going-starts (g.N.Names.sight c.args.names.now) (cells_in c.args.cells.now) ps c.args.parts.now c.in_ok-found.found (c.in_ok-found.ensures (g.N.Names.sight c.args.names.now)) h

pub loop-part-preserved : goal.loop-part-preserved
loop-part-preserved g c ps h =
    going-at (g.N.Names.sight c.args.names.now) (cells_in c.args.cells.now) ps c.args.parts.now c.loop-part.part-index _ _ c.loop-part.found _ c.loop-part-test.true refl c.in_ok-add.ensures (c.loop-part.invariant ps h)

pub returns : goal.returns
returns g c ps h =
    going-ends (g.N.Names.sight c.args.names.now) (cells_in c.args.cells.now) ps c.loop-part.found
    (subst (λ z. Going (g.N.Names.sight c.args.names.now) (cells_in c.args.cells.now) ps z c.loop-part.found) (drop_all c.loop-part.part-index c.args.parts.now c.loop-part-test.false) (c.loop-part.invariant ps h))
