use Rattle.std.proofs.Common.{arith}
use Rattle.std.proofs.lemmas.Bool.Decides.{nat_tests}
use Rattle.test_delegate.proofs.Rule.decides.Goals as goal

pub returns-then-answer-eq-YES : goal.returns-then-answer-eq-YES
returns-then-answer-eq-YES c = grind (arith, nat_tests)

pub returns-else-answer-eq-YES : goal.returns-else-answer-eq-YES
returns-else-answer-eq-YES c = grind (arith, nat_tests)

pub returns-then-answer-eq-YES-2 : goal.returns-then-answer-eq-YES-2
returns-then-answer-eq-YES-2 c = grind (arith, nat_tests)

pub returns-else-answer-eq-YES-2 : goal.returns-else-answer-eq-YES-2
returns-else-answer-eq-YES-2 c = grind (arith, nat_tests)

pub returns-then-answer-eq-NO : goal.returns-then-answer-eq-NO
returns-then-answer-eq-NO c = grind (arith, nat_tests)

pub returns-then-answer-eq-OVERFLOW : goal.returns-then-answer-eq-OVERFLOW
returns-then-answer-eq-OVERFLOW c = grind (arith, nat_tests)

pub returns-then-answer-eq-YES-3 : goal.returns-then-answer-eq-YES-3
returns-then-answer-eq-YES-3 c = grind (arith, nat_tests)

pub returns-else-answer-eq-YES-3 : goal.returns-else-answer-eq-YES-3
returns-else-answer-eq-YES-3 c = grind (arith, nat_tests)
