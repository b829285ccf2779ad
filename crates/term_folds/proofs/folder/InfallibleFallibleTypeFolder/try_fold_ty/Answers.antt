use Rattle.type_terms.proofs.FailFacts.{failed-by}
use Rattle.term_folds.proofs.folder.InfallibleFallibleTypeFolder.try_fold_ty.Goals as goal

pub returns-clause-failed : goal.returns-clause-failed
returns-clause-failed g c = failed-by c.fold_ty.result c.fold_ty.ensures.full
