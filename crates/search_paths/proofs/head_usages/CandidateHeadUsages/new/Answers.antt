use Rattle.std.proofs.Common.{subst, sym}
use Rattle.search_paths.proofs.UsageFacts.{AllFit, AllFit-shown, AllFit-none}
use Rattle.search_paths.proofs.head_usages.CandidateHeadUsages.new.Goals as goal

pub invariant_of-result : goal.invariant_of-result
invariant_of-result c = AllFit-shown _ (subst AllFit (sym c.new.ensures.empty) AllFit-none)
