use Rattle.type_terms.specs.Promised.Handles.{trees_at}
use Rattle.term_folds.proofs.fold.+fold_const.Given as goal

abbrev pub decreases-fold_const : goal.decreases-fold_const
decreases-fold_const g l = g.F.FallibleTypeFolder.fuel l.folder.now l.cx.now.entries (trees_at l.cx.now.entries l.ct.0)
