use Rattle.sessions.proofs.ScopedTexts.{impls-are-in-scope}
use Rattle.sessions.proofs.laws.impls_are_in_scope.Goals as goal

pub returns : goal.returns
returns c = impls-are-in-scope
