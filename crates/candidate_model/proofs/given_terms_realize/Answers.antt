use Rattle.candidate_model.proofs.Given.{given-is-realized}
use Rattle.candidate_model.proofs.given_terms_realize.Goals as goal

pub returns : goal.returns
returns g W = given-is-realized W
