use Rattle.sessions.proofs.Clauses.{supertraits-prove-no-more}
use Rattle.sessions.proofs.ErasedClauses.{supertraits-are-erased}
use Rattle.sessions.proofs.laws.supertraits_prove_no_more.Goals as goal

pub returns-clause-proofs : goal.returns-clause-proofs
returns-clause-proofs c = supertraits-prove-no-more

pub returns-clause-erased : goal.returns-clause-erased
returns-clause-erased c = supertraits-are-erased
