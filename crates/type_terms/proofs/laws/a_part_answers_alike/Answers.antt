use Rattle.type_terms.proofs.PartProofs.{what-agrees-answers-alike, closed-list, determinate-alike}
use Rattle.type_terms.proofs.PartLaws.{a-part-agrees, a-part-answers-alike, a-part-keeps-headers, closed-by-the-part, cut-down-is-part, cut-down-rules, clause-by-part-clears, part-in-set, text-of-part-answers-alike, supers-held, what-passes-is-enough}
use Rattle.type_terms.proofs.laws.a_part_answers_alike.Goals as goal

pub returns-clause-agreeing : goal.returns-clause-agreeing
returns-clause-agreeing c = what-agrees-answers-alike

pub returns-clause-part : goal.returns-clause-part
returns-clause-part c = a-part-agrees

pub returns-clause-answers : goal.returns-clause-answers
returns-clause-answers c = a-part-answers-alike

pub returns-clause-closed : goal.returns-clause-closed
returns-clause-closed c = closed-by-the-part

pub returns-clause-sets : goal.returns-clause-sets
returns-clause-sets c = part-in-set

pub returns-clause-headers : goal.returns-clause-headers
returns-clause-headers c = a-part-keeps-headers

pub returns-clause-listed : goal.returns-clause-listed
returns-clause-listed c = closed-list

pub returns-clause-cut : goal.returns-clause-cut
returns-clause-cut c = cut-down-is-part

pub returns-clause-tested : goal.returns-clause-tested
returns-clause-tested c = what-passes-is-enough

pub returns-clause-supers : goal.returns-clause-supers
returns-clause-supers c = supers-held

pub returns-clause-pairs : goal.returns-clause-pairs
returns-clause-pairs c = clause-by-part-clears

pub returns-clause-rules : goal.returns-clause-rules
returns-clause-rules c = cut-down-rules

pub returns-clause-determinate : goal.returns-clause-determinate
returns-clause-determinate c = determinate-alike

pub returns-clause-texts : goal.returns-clause-texts
returns-clause-texts c = text-of-part-answers-alike
