use Rattle.overlap_check.proofs.Contracts.{answers-hold}
use Rattle.overlap_check.proofs.laws.answers_hold_in_linked_sets.Goals as goal

pub returns : goal.returns
returns c = answers-hold
