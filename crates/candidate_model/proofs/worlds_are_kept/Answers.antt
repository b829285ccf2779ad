use Rattle.candidate_model.proofs.Worlds.{keep-worlds}
use Rattle.candidate_model.proofs.worlds_are_kept.Goals as goal

pub returns : goal.returns
returns g applicable = keep-worlds applicable
