use Rattle.type_terms.specs.Promised.Handles.{region_trees}
use Rattle.term_folds.proofs.fold.+fold_region.Given as goal

abbrev pub decreases-fold_region : goal.decreases-fold_region
decreases-fold_region g l = g.F.FallibleTypeFolder.fuel l.folder.now l.cx.now.entries (region_trees l.region)
