-- What an elaborated proof concludes.
use Rattle.std.proofs.Common.{List, [], refl, subst}
use Rattle.type_terms.specs.Promised.Worlds.{World, Reference}
use Rattle.type_terms.specs.Promised.Rules.{Rule, rules, strict_supertraits}
use Rattle.type_terms.specs.Promised.Proofs.{ProofEntry, In, Every, Stands, HasProof}
use Rattle.type_terms.specs.Promised.Proofs.{IsElaboratedProof, HasElaboratedProof}
use Rattle.type_terms.proofs.ProofEntries.{map-in, every-map, entry-stands}
use Rattle.type_terms.proofs.NoHolds.{every-member}

-- it is a proof
pub bare-proof : (W : World) (E : List Reference) (r : Reference) → HasElaboratedProof W E r → HasProof W E r
bare-proof W E r h = (h.0, h.1.0, h.2)

-- whatever stands in it has one
all-have : (W : World) (E : List Reference) (ps : List ProofEntry) → IsElaboratedProof W E ps → (rs : List Reference) → Every (λ r. Stands r ps) rs → Every (HasElaboratedProof W E) rs
all-have W E ps p rs e = every-map (λ r. Stands r ps) (HasElaboratedProof W E) rs (λ r s. (ps, p, s)) e

-- so have the premises of a rule that concludes the reference
pub elaborated-rule : (W : World) (E : List Reference) (r : Reference) → HasElaboratedProof W E r → (u : Rule) × In u (rules W E r) × Every (HasElaboratedProof W E) u.premises
elaborated-rule W E r h =
    let m = map-in (λ (e : ProofEntry). e.of) h.0 r h.2 in
    let a = entry-stands W E h.0 [] h.0 refl h.1.0 m.0 m.1 in
    (m.0.rule, subst (λ q. In m.0.rule (rules W E q)) m.2 a.0, all-have W E h.0 h.1 m.0.rule.premises a.1)

-- and its supertraits
pub elaborated-supers : (W : World) (E : List Reference) (r : Reference) → HasElaboratedProof W E r → Every (HasElaboratedProof W E) (strict_supertraits W r)
elaborated-supers W E r h =
    let m = map-in (λ (e : ProofEntry). e.of) h.0 r h.2 in
    let stand = every-member (λ (e : ProofEntry). Every (λ q. Stands q h.0) (strict_supertraits W e.of)) h.0 m.0 h.1.1 m.1 in
    all-have W E h.0 h.1 (strict_supertraits W r) (subst (λ q. Every (λ p. Stands p h.0) (strict_supertraits W q)) m.2 stand)
