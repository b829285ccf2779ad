use Rattle.type_terms.proofs.WiderProofs.{proof-above, elaborated-above}
use Rattle.type_terms.proofs.WiderSets.{proofs-above, elaborated-proofs-above, view-proofs-above, view-cleared-below}
use Rattle.type_terms.proofs.laws.proofs_hold_above.Goals as goal

pub returns-clause-all : goal.returns-clause-all
returns-clause-all c = λ V U E b r. (proofs-above V U E b r, elaborated-proofs-above V U E b r)

pub returns-clause-tested : goal.returns-clause-tested
returns-clause-tested c = λ t V U E b keep r a. (proof-above t V U E b keep r a, λ supers. elaborated-above t V U E b keep supers r a)

pub returns-clause-views : goal.returns-clause-views
returns-clause-views c = λ W vs rank l v holds U b. (view-proofs-above W vs rank l v holds U b, view-cleared-below W vs rank l v holds U b)
