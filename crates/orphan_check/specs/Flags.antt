-- `IsFirstInputType` in visits and folds, and lists of types with this flag.
use Rattle.std.specs.Prelude.{ℕ, Bool, List, [], ◌∷◌, map}
use Rattle.type_terms.specs.Promised.Trees.{Trees}
use Rattle.type_terms.specs.Promised.Handles.{Entry, trees_at}
use Rattle.type_terms.specs.declared.kinds.Ty.{Ty}
use Rattle.orphan_check.specs.declared.errors.IsFirstInputType.{IsFirstInputType}
use Rattle.orphan_check.specs.declared.errors.IsFirstInputType.TheVariants.{No, Yes}
use Rattle.orphan_check.specs.Promised.Errors.{is_first}

-- The data of the flag apart from its terms. It has no terms, so this is all of it, and a fold preserves it.
abbrev pub first_outline : IsFirstInputType → List ℕ
first_outline No = 0 ∷ []
first_outline Yes = 1 ∷ []

-- Types with their flags, as terms.
abbrev pub leaves_in : List Entry → List (Ty × IsFirstInputType) → List (Trees × Bool)
leaves_in es ps = map (λ p. (trees_at es p.0.0, is_first p.1)) ps
