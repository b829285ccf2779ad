-- Where-clauses with their supertraits.
use Rattle.std.specs.Prelude.{◌<◌, ℕ, List, map}
use Rattle.type_terms.specs.Promised.Erased.{erased_reference, erased_world}
use Rattle.type_terms.specs.Promised.Trees.{Fits}
use Rattle.type_terms.specs.Promised.Worlds.{World, Reference, TraitDecl, traits_named}
use Rattle.type_terms.specs.Promised.Rules.{elaborated}
use Rattle.type_terms.specs.Promised.Proofs.{In, HasProof}

-- The bounds of a trait are of traits with lower rank, so no trait is among its own supertraits.
abbrev pub BoundsLeadDown : World → (ℕ → ℕ) → Type 0
BoundsLeadDown V rank = (x : TraitDecl) (b : Reference) → In x V.traits → In b x.bounds → rank b.trait < rank x.name

-- Each of the second clauses is one of the first or one of their supertraits.
abbrev pub AddSupertraits : World → List Reference → List Reference → Type 0
AddSupertraits V E F = (x : Reference) → In x F → In x (elaborated V E)

-- Clauses with their supertraits prove no more than the clauses, since rules read the supertraits themselves.
abbrev pub SupertraitsProveNoMore : Type 0
SupertraitsProveNoMore = (V : World) (rank : ℕ → ℕ) → BoundsLeadDown V rank → (E F : List Reference) → AddSupertraits V E F → (r : Reference) → HasProof V F r → HasProof V E r

-- The arguments of the trait references and of their supertraits fit the bounds of their traits.
abbrev pub BoundsFit : World → List Reference → Type 0
BoundsFit W E = (r : Reference) → In r (elaborated W E) → (x : TraitDecl) → In x (traits_named W r.trait) → (b : Reference) → In b x.bounds → Fits r.args b.args

-- Supertraits with lifetimes are also supertraits without them.
abbrev pub SupertraitsAreErased : Type 0
SupertraitsAreErased =
    (W : World) (rank : ℕ → ℕ) → BoundsLeadDown W rank → (E F : List Reference) → BoundsFit W E → AddSupertraits W E F
    → AddSupertraits (erased_world W) (map erased_reference E) (map erased_reference F)
