-- Trait references that were elaborated for one candidate, and are noted for the next.
use Rattle.std.specs.Prelude.{◌≡◌, List, [], ◌∷◌}
use Rattle.type_terms.specs.Promised.Handles.{Entry, Keeps}
use Rattle.term_folds.specs.declared.predicate.TraitRef.{TraitRef}
use Rattle.declarations.specs.Items.{Items, written}
use Rattle.declarations.specs.Applied.{references_in, TraitRefsHeld}
use Rattle.declarations.specs.Promised.Elaboration.{elaborate}

-- The first, if there is one.
abbrev pub first_of : {A : Type 0} → List A → List A
first_of [] = []
first_of (x ∷ xs) = x ∷ []

-- The list is its first trait reference with all supertraits, or empty.
pub record IsElaborated (es : List Entry) (d : Items) (rs : List TraitRef) : Type 0 where
  pub held : TraitRefsHeld es rs
  pub is : references_in es rs ≡ elaborate (written es d) (first_of (references_in es rs))

-- It stays so as the interner grows.
abbrev pub StayElaborated : List Entry → Items → List TraitRef → Type 0
StayElaborated es d rs = (later : List Entry) → Keeps es later → IsElaborated later d rs
