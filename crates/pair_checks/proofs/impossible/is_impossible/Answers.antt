use Rattle.type_terms.specs.declared.Fault.{Fault}
use Rattle.pair_checks.proofs.ImpossibleAlone.{if-true, if-false, full-inside}
use Rattle.pair_checks.proofs.impossible.is_impossible.Goals as goal

pub returns-clause-impossible : goal.returns-clause-impossible
returns-clause-impossible g c = if-true Fault _ c.is_refused.result λ q. c.evaluate_alone-evaluated.ensures.impossible (c.is_refused.ensures.refused q)

pub returns-clause-left_open : goal.returns-clause-left_open
returns-clause-left_open g c = if-false Fault _ c.is_refused.result λ q. c.evaluate_alone-evaluated.ensures.left_open (c.is_refused.ensures.left_open q)

pub returns-clause-full : goal.returns-clause-full
returns-clause-full g c = full-inside c.evaluate_alone-evaluated.new.search.cx c.evaluate_alone-evaluated.result c.is_refused.result c.evaluate_alone-evaluated.ensures.full c.is_refused.ensures.fault
