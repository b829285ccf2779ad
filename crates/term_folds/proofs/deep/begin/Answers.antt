use Rattle.type_terms.proofs.FailFacts.{memory-error}
use Rattle.term_folds.proofs.deep.begin.Goals as goal

pub returns-in_err-push_parts-clause-failed : goal.returns-in_err-push_parts-clause-failed
returns-in_err-push_parts-clause-failed g c = memory-error _ _ _ _ c.from_residual.result c.from_residual.ensures.1 c.in_err-push_parts.ensures.memory
