-- Parameters that unsize a struct.
use Rattle.std.specs.Prelude.{◌≡◌, refl, ℕ, zero, suc, Bool, List, [], ◌∷◌, ◌++◌, map, length, cond, Option, Some, None}
use Rattle.type_terms.specs.Promised.Trees.{Trees, none, tree}
use Rattle.type_terms.specs.Promised.Label.{principal, auto_trait}
use Rattle.type_terms.specs.Promised.Rules.{is_parameter, is_unsizing}
use Rattle.type_terms.specs.Promised.Worlds.{StructDecl}
use Rattle.type_terms.specs.Promised.Handles.{Entry, trees_at}
use Rattle.type_terms.specs.declared.kinds.Ty.{Ty}
use Rattle.type_terms.specs.Visits.{IsBound}
use Rattle.type_terms.specs.declared.visit.Seen.{Seen}
use Rattle.type_terms.specs.declared.visit.Seen.TheVariants.{Break, Enter}

-- The fields, over the terms of an interner.
abbrev pub field_trees : List Entry → List Ty → List Trees
field_trees es ts = map (λ t. trees_at es t.0) ts

-- For each of the first n parameters, whether it is unsizing for a struct with these fields.
abbrev pub unsizing_flags : List Trees → ℕ → List Bool
unsizing_flags fs zero = []
unsizing_flags fs (suc n) = unsizing_flags fs n ++ is_unsizing fs n ∷ []

-- The flags state which parameters of the only struct are unsizing. Without flags there is no struct.
abbrev pub TellUnsizing : {R : Type 0} → (R → List Bool) → Option R → List StructDecl → Type 0
TellUnsizing f None xs = xs ≡ []
TellUnsizing f (Some r) xs = (x : StructDecl) × (xs ≡ x ∷ []) × (f r ≡ unsizing_flags x.fields (length (f r)))

-- The outcome at a node of a search for parameter i.
abbrev pub looked_for : ℕ → Trees → Seen (Unit {0})
looked_for i none = Enter
looked_for i (tree l c o) = cond (is_parameter i l) (Break tt) Enter

-- No parameter is the bound of a `dyn`.
pub bounds-are-entered : (i : ℕ) (t : Trees) → IsBound t → Enter ≡ looked_for i t
bounds-are-entered i (tree (principal n j) c o) h = refl
bounds-are-entered i (tree (auto_trait j) c o) h = refl
bounds-are-entered i none h = absurd h
bounds-are-entered i (tree l c o) h = absurd h
