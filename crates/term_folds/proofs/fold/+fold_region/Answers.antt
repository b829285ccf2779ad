use Rattle.std.proofs.Common.{ap, sym, ◌∙◌, refl}
use Rattle.type_terms.specs.Promised.Handles.{region_trees, region_label}
use Rattle.type_terms.specs.Binders.{counts_of}
use Rattle.term_folds.specs.Folds.{puts, again}
use Rattle.term_folds.proofs.FoldFacts.{RegionIs, says-enters, says-puts, says-again, put-at, turn-at, leaf-stays, ok-map}
use Rattle.term_folds.proofs.fold.+fold_region.Goals as goal

pub returns-in-Enter-clause-folded : goal.returns-in-Enter-clause-folded
returns-in-Enter-clause-folded g t c =
    let bs = counts_of c.args.binders.now in
    let f = g.F.FallibleTypeFolder.action c.args.folder.now c.args.cx.now.entries in
    leaf-stays f bs (region_label c.args.region.kind)
    (says-enters RegionIs (f bs (region_trees c.args.region)) (rw (← c.in-Enter.is) c.in_ok-try_fold_region.ensures.answer))

pub returns-in-Replace-clause-folded : goal.returns-in-Replace-clause-folded
returns-in-Replace-clause-folded g t c =
    let bs = counts_of c.args.binders.now in
    let f = g.F.FallibleTypeFolder.action c.args.folder.now c.args.cx.now.entries in
    let says = says-puts RegionIs (f bs (region_trees c.args.region)) c.in-Replace.new (rw (← c.in-Replace.is) c.in_ok-try_fold_region.ensures.answer) in
    put-at f bs (region_trees c.args.region) (region_trees c.in-Replace.new) refl (says.1 ∙ ap puts (sym says.2.0))

pub returns-in-Again-clause-folded : goal.returns-in-Again-clause-folded
returns-in-Again-clause-folded g t c =
    let bs = counts_of c.args.binders.now in
    let f = g.F.FallibleTypeFolder.action c.args.folder.now c.args.cx.now.entries in
    let says = says-again RegionIs (f bs (region_trees c.args.region)) c.in-Again.next (rw (← c.in-Again.is) c.in_ok-try_fold_region.ensures.answer) in
    ok-map c.fold_region.result c.fold_region.ensures.folded
    (λ r h. turn-at f bs (region_trees c.args.region) (region_trees c.in-Again.next) (region_trees r) refl (says.1 ∙ ap again (sym says.2.0)) h)
