use Rattle.test_handlers.proofs.LawfulBooks.{handler_is_lawful}
use Rattle.test_handlers.proofs.rule_books_keep_promises.Goals as goal

pub definite_yes_follows-requires-clause-handler : goal.definite_yes_follows-requires-clause-handler
definite_yes_follows-requires-clause-handler c = λ goal. handler_is_lawful goal.0 goal.1

pub answer_covers_goal-requires-clause-handler : goal.answer_covers_goal-requires-clause-handler
answer_covers_goal-requires-clause-handler c = λ goal. handler_is_lawful goal.0 goal.1

pub returns-clause-yes : goal.returns-clause-yes
returns-clause-yes c = λ book goal. c.definite_yes_follows.ensures (book, goal)

pub returns-clause-covers : goal.returns-clause-covers
returns-clause-covers c = λ book goal. c.answer_covers_goal.ensures (book, goal)
