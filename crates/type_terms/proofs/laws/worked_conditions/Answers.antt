use Rattle.type_terms.proofs.Inhabited.{world-linked}
use Rattle.type_terms.proofs.LaterText.{later-in-one-set, own-later}
use Rattle.type_terms.proofs.TwoTexts.{two-texts, opposite-orders}
use Rattle.type_terms.proofs.WorkedProofs.{out-of-scope, texts-are-erased}
use Rattle.type_terms.proofs.laws.worked_conditions.Goals as goal

pub returns-clause-scope : goal.returns-clause-scope
returns-clause-scope c = out-of-scope

pub returns-clause-linked : goal.returns-clause-linked
returns-clause-linked c = world-linked

pub returns-clause-texts : goal.returns-clause-texts
returns-clause-texts c = two-texts

pub returns-clause-orders : goal.returns-clause-orders
returns-clause-orders c = opposite-orders

pub returns-clause-erased : goal.returns-clause-erased
returns-clause-erased c = texts-are-erased

pub returns-clause-later_base : goal.returns-clause-later_base
returns-clause-later_base c = later-in-one-set

pub returns-clause-own_later : goal.returns-clause-own_later
returns-clause-own_later c = own-later
