use Rattle.overlap_check.proofs.AllValues.{refuted-for-all}
use Rattle.overlap_check.proofs.Alone.{proved-alone}
use Rattle.overlap_check.proofs.WorkedAnswers.{two-texts-accepted, values-of-both-kinds, parameters-stand}
use Rattle.overlap_check.proofs.laws.worked_answers.Goals as goal

pub returns-clause-two_texts : goal.returns-clause-two_texts
returns-clause-two_texts c = two-texts-accepted

pub returns-clause-values : goal.returns-clause-values
returns-clause-values c = values-of-both-kinds

pub returns-clause-parameters : goal.returns-clause-parameters
returns-clause-parameters c = parameters-stand

pub returns-clause-for_all : goal.returns-clause-for_all
returns-clause-for_all c = refuted-for-all

pub returns-clause-alone : goal.returns-clause-alone
returns-clause-alone c = proved-alone
