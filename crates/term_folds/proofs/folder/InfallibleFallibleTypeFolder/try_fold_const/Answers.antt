use Rattle.type_terms.proofs.FailFacts.{failed-by}
use Rattle.term_folds.proofs.folder.InfallibleFallibleTypeFolder.try_fold_const.Goals as goal

pub returns-clause-failed : goal.returns-clause-failed
returns-clause-failed g c = failed-by c.fold_const.result c.fold_const.ensures.full
