use Rattle.type_terms.proofs.ArrangedLaws.{arranging-carries-over, opposite-orders-of-one-dyn}
use Rattle.type_terms.proofs.ArrangedSets.{arranged-linked}
use Rattle.type_terms.proofs.ArrangedViews.{in-any-order}
use Rattle.type_terms.proofs.ArrangedNoTwo.{no-two-in-any-order}
use Rattle.type_terms.proofs.ArrangedHeld.{held-in-any-order}
use Rattle.type_terms.proofs.TwoOrders.{any-two-orders}
use Rattle.type_terms.proofs.OneOrder.{one-list}
use Rattle.type_terms.proofs.laws.arranging_carries_over.Goals as goal

pub returns-clause-law : goal.returns-clause-law
returns-clause-law c = arranging-carries-over

pub returns-clause-worked : goal.returns-clause-worked
returns-clause-worked c = opposite-orders-of-one-dyn

pub returns-clause-answers : goal.returns-clause-answers
returns-clause-answers c = in-any-order

pub returns-clause-no_two : goal.returns-clause-no_two
returns-clause-no_two c = no-two-in-any-order

pub returns-clause-held : goal.returns-clause-held
returns-clause-held c = held-in-any-order

pub returns-clause-orders : goal.returns-clause-orders
returns-clause-orders c = any-two-orders

pub returns-clause-one_list : goal.returns-clause-one_list
returns-clause-one_list c = one-list

pub returns-clause-sets : goal.returns-clause-sets
returns-clause-sets c = λ W vs rank l α. arranged-linked α W vs rank l
