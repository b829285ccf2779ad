use Rattle.test_handlers.proofs.LawfulBooks.{handler_is_lawful}
use Rattle.test_handlers.proofs.rule_books_are_lawful.Goals as goal

pub returns : goal.returns
returns c = λ book goal. handler_is_lawful book goal
