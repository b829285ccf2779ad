-- Orphan errors of the library as the orphan errors of verdicts: types as terms without lifetimes.
use Rattle.std.specs.Prelude.{List, map}
use Rattle.std.specs.Option.{option_map}
use Rattle.type_terms.specs.Promised.Trees.{Trees, erase}
use Rattle.type_terms.specs.Promised.Handles.{Entry, trees_at}
use Rattle.type_terms.specs.declared.kinds.Ty.{Ty}
use Rattle.orphan_check.specs.Promised.Errors.{is_first}
use Rattle.type_terms.specs.Promised.OrphanErrors.{OrphanError, nonlocal, uncovered}
use Rattle.orphan_check.specs.declared.errors.OrphanCheckErr.{OrphanCheckErr}
use Rattle.orphan_check.specs.declared.errors.OrphanCheckErr.TheVariants.{NonLocalInputType, UncoveredTyParams}

-- A type of an interner as a term without lifetimes.
abbrev pub type_in : List Entry → Ty → Trees
type_in es t = erase (trees_at es t.0)

-- An error with types of an interner as an error with terms without lifetimes.
abbrev pub error_in : List Entry → OrphanCheckErr Ty → OrphanError
error_in es (NonLocalInputType v) = nonlocal (map (λ p. (type_in es p.0, is_first p.1)) v.items)
error_in es (UncoveredTyParams u) = uncovered (type_in es u.uncovered) (option_map (type_in es) u.local_ty)
