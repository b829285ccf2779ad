use Rattle.std.specs.Prelude.{[]}
use Rattle.type_terms.specs.Promised.Proofs.{HasProof}
use Rattle.type_terms.specs.Promised.Proofs.{HasElaboratedProof}
use Rattle.type_terms.proofs.WiderImpls.{cleared-below}
use Rattle.type_terms.proofs.WiderSets.{proofs-above, elaborated-proofs-above}
use Rattle.type_terms.proofs.laws.cleared_above_is_cleared.Goals as goal

pub returns : goal.returns
returns c = λ V U b i j x y f g p q. (
  cleared-below (HasProof V []) (HasProof U []) (λ r k h. proofs-above V U [] b r h) i j x y f g p q,
  cleared-below (HasElaboratedProof V []) (HasElaboratedProof U []) (λ r k h. elaborated-proofs-above V U [] b r h) i j x y f g p q,
)
