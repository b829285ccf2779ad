use Rattle.type_terms.proofs.FailFacts.{failed-by}
use Rattle.term_folds.proofs.folder.InfallibleFallibleTypeFolder.try_fold_region.Goals as goal

pub returns-clause-failed : goal.returns-clause-failed
returns-clause-failed g c = failed-by c.fold_region.result c.fold_region.ensures.full
