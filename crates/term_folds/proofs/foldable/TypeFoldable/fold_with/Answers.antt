use Rattle.type_terms.proofs.FailFacts.{full-of}
use Rattle.term_folds.proofs.foldable.TypeFoldable.fold_with.Goals as goal

pub returns-clause-full : goal.returns-clause-full
returns-clause-full g c = full-of c.try_fold_under.result c.try_fold_under.ensures.failed
