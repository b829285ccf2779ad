use Rattle.type_terms.proofs.Applies.{applies-up-to-lifetimes}
use Rattle.type_terms.proofs.laws.impls_apply_up_to_lifetimes.Goals as goal

pub returns : goal.returns
returns c = applies-up-to-lifetimes
