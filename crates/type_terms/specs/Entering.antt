-- Visitors that enter each type once.
use Rattle.std.specs.Prelude.{◌≡◌, ◌⊎◌, ℕ, List, true, nat_eq}
use Rattle.std.specs.HashSet.{contains}
use Rattle.type_terms.specs.Promised.Trees.{Trees}
use Rattle.type_terms.specs.Promised.Handles.{Entry, trees_at}
use Rattle.type_terms.specs.declared.entered.Entered.{Entered}
use Rattle.type_terms.specs.declared.once.Once.{Once}
use Rattle.type_terms.specs.declared.visit.Seen.{Seen}
use Rattle.type_terms.specs.declared.visit.Seen.TheVariants.{Break, Enter, Pass}

-- The visit has entered this term.
abbrev pub HasEntered : List Entry → Entered → Trees → Type 0
HasEntered es e t = (i : ℕ) × ((contains nat_eq e.types i ≡ true) × (trees_at es i ≡ t))

-- The visit has entered no other term since.
abbrev pub EntersOnly : List Entry → Entered → Entered → Trees → Type 0
EntersOnly es e f t = (s : Trees) → HasEntered es f s → HasEntered es e s ⊎ (s ≡ t)

-- The visit has entered no term since.
abbrev pub EntersNone : List Entry → Entered → Entered → Type 0
EntersNone es e f = (s : Trees) → HasEntered es f s → HasEntered es e s

-- At each node the inner visitor is called. If it enters a term that the visit has entered before, this visitor passes.
abbrev pub SeesOnce : {V B : Type 0} → (List ℕ → Trees → V → V → Seen B → Type 0) → List Entry → List ℕ → Trees → Once V → Once V → Seen B → Type 0
SeesOnce sees es bs t v w (Break b) = sees bs t v.visitor w.visitor (Break b)
SeesOnce sees es bs t v w Enter = sees bs t v.visitor w.visitor Enter × EntersOnly es v.entered w.entered t
SeesOnce sees es bs t v w Pass = (sees bs t v.visitor w.visitor Pass ⊎ (sees bs t v.visitor w.visitor Enter × HasEntered es v.entered t)) × EntersNone es v.entered w.entered
