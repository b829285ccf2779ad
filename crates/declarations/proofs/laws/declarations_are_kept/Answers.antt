use Rattle.declarations.proofs.Growth.{all-held, all-declared, all-written}
use Rattle.declarations.proofs.Elaborating.{have-bounds-later, applied-later}
use Rattle.declarations.proofs.laws.declarations_are_kept.Goals as goal

pub returns-clause-held : goal.returns-clause-held
returns-clause-held c = λ old new d k h. all-held old new k d h

pub returns-clause-declares : goal.returns-clause-declares
returns-clause-declares c = λ old new d k h. all-declared old new k d h

pub returns-clause-written : goal.returns-clause-written
returns-clause-written c = λ old new d k h. all-written old new k d h

pub returns-clause-bounds : goal.returns-clause-bounds
returns-clause-bounds c = λ old new d k h b. have-bounds-later old new k d h b

pub returns-clause-applied : goal.returns-clause-applied
returns-clause-applied c = λ old new d r k h a. applied-later old new k d r h a
