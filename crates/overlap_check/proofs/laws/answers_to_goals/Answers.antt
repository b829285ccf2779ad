use Rattle.overlap_check.proofs.Verdicts.{passes, refuses}
use Rattle.overlap_check.proofs.laws.answers_to_goals.Goals as goal

pub returns-clause-passed : goal.returns-clause-passed
returns-clause-passed c = λ V d i j ks left right goals g h r. passes i j ks left right goals V d g h r

pub returns-clause-refused : goal.returns-clause-refused
returns-clause-refused c = λ limit V d i j ks left right goals all. refuses i j ks left right goals limit V d all
