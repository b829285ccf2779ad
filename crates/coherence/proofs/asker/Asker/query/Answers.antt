use Rattle.std.proofs.Common.{◌≡◌, subst}
use Rattle.std.specs.Prelude.{None, IfSome}
use Rattle.coherence.specs.Asking.{AskedText}
use Rattle.coherence.specs.Queries.{HasNoQuery, IsQueryAt}
use Rattle.coherence.proofs.asker.Asker.query.Goals as goal

pub returns-clause-is : goal.returns-clause-is
returns-clause-is c = subst (λ (a : AskedText). IfSome c.of_text.result (IsQueryAt a.declarations c.args.number)) c.self.view_is c.of_text.ensures.is

pub returns-clause-none : goal.returns-clause-none
returns-clause-none c = subst (λ (a : AskedText). c.of_text.result ≡ None → HasNoQuery a.declarations c.args.number) c.self.view_is c.of_text.ensures.none
