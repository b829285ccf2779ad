use Rattle.candidate_model.proofs.ErasedViews.{solutions-by}
use Rattle.candidate_model.proofs.solutions_are_by_candidates.Goals as goal

pub returns : goal.returns
returns g m = solutions-by m
