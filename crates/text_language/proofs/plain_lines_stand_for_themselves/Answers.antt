use Rattle.text_language.proofs.PlainLines.{stands-alone, written-alone, few-types, lacks-alone, fault-alone}
use Rattle.text_language.proofs.plain_lines_stand_for_themselves.Goals as goal

pub returns-clause-stand : goal.returns-clause-stand
returns-clause-stand c = λ l. (stands-alone l, written-alone l)

pub returns-clause-lack : goal.returns-clause-lack
returns-clause-lack c = λ l. (few-types l, λ d. lacks-alone l d)

pub returns-clause-faults : goal.returns-clause-faults
returns-clause-faults c = fault-alone
