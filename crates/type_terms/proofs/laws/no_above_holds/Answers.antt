use Rattle.std.specs.Prelude.{◌≡◌, true}
use Rattle.type_terms.proofs.WiderAnswers.{no-above, impossible-does-not-hold, accounts-for-set}
use Rattle.type_terms.proofs.laws.no_above_holds.Goals as goal

pub returns-clause-set : goal.returns-clause-set
returns-clause-set c = no-above

pub returns-clause-any : goal.returns-clause-any
returns-clause-any c = λ U k holds a. impossible-does-not-hold U k (λ r. holds r ≡ true) a

pub returns-clause-accounts : goal.returns-clause-accounts
returns-clause-accounts c = accounts-for-set
