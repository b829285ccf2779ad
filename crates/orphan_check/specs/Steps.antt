-- The steps of an orphan walk that reads values of variables, applies a normalizer and has a limit of depth.
use Rattle.std.specs.Prelude.{ℕ, zero, suc, Bool, true, false, if◌then◌else◌, List, [], ◌∷◌, ◌++◌, Option, Some, None, Result, Ok, Err}
use Rattle.type_terms.specs.Promised.Label.{of_type}
use Rattle.type_terms.specs.Promised.Trees.{Trees, none, tree, is_sort, sort_of}
use Rattle.type_terms.specs.Promised.Worlds.{World}
use Rattle.type_terms.specs.Promised.Handles.{Entry, trees_at}
use Rattle.type_terms.specs.declared.kinds.Ty.{Ty}
use Rattle.declarations.specs.Items.{Items, declared}
use Rattle.infer_table.specs.Solutions.{Binding}
use Rattle.infer_table.specs.Content.{Table, content}
use Rattle.infer_table.specs.Resolving.{followed, is_open_leaf}
use Rattle.orphan_check.specs.declared.errors.InCrate.{InCrate}
use Rattle.orphan_check.specs.declared.errors.InCrate.TheVariants.{Local, Remote}
use Rattle.type_terms.specs.Promised.OrphanErrors.{Look, local_type, open_type, leaf_type, passage, look}

-- The result of a normalizer: the type as a term, or the error.
abbrev pub answered : {E : Type 0} → List Entry → Result Ty E → Result Trees E
answered es (Ok t) = Ok (trees_at es t.0)
answered es (Err e) = Err e

-- What a walk reads: the declarations, the crate whose items are local, the values of variables, and the results of the normalizer.
pub record Reading (E : Type 0) : Type 0 where
  pub view : World
  pub home : Option ℕ
  pub values : List Binding
  pub answers : Trees → Result Trees E

-- The crate whose items are local. In `Remote` there is none.
abbrev pub home_in : ℕ → InCrate → Option ℕ
home_in c (Local mode) = Some c
home_in c Remote = None

-- What a walk reads, from the data of its context.
abbrev pub reading : {E : Type 0} → List Entry → Items → Table → (Trees → Result Trees E) → InCrate → Reading E
reading es d t f k = record { view = declared es d; home = home_in d.local k; values = content es t.values; answers = f }

-- One step:
-- - `refused`: the normalizer fails for a type,
-- - `too_deep`: a type is nested deeper than the limit,
-- - `entered`: a type is entered,
-- - `met_local`, `met_open`, `met_foreign`: a type is local, uncovered or non-local.
pub data Step (E : Type 0) : Type 0 where
  refused : E → Step E
  too_deep met_foreign : Trees → Bool → Step E
  entered : Step E
  met_local met_open : Trees → Step E

-- A type is read as the normalizer returns it, or as it was if the normalizer returns a variable.
abbrev pub settled : {E : Type 0} → Trees → Result Trees E → Result Trees E
settled t (Ok u) = if is_open_leaf u then Ok t else Ok u
settled t (Err e) = Err e

-- The normalizer gets the value of a variable in place of the variable.
abbrev pub read : {E : Type 0} → Reading E → Trees → Result Trees E
read r t = settled (followed r.values t) (r.answers (followed r.values t))

-- The steps of the types of a list. `first`: its first type is the first input type.
abbrev pub steps_in : {E : Type 0} → (Bool → Trees → List (Step E)) → Bool → Trees → List (Step E)
steps_in go first none = []
steps_in go first (tree l c o) = if is_sort (sort_of l) of_type then go first (tree l c none) ++ steps_in go false o else steps_in go first o

-- The steps of a type of this look. `inner` are the steps of the types in it.
abbrev pub step_of : {E : Type 0} → Look → Trees → Bool → List (Step E) → List (Step E)
step_of local_type t first inner = met_local t ∷ []
step_of open_type t first inner = met_open t ∷ []
step_of leaf_type t first inner = met_foreign t first ∷ []
step_of passage t first inner = entered ∷ inner

-- The steps of a type that was read so.
abbrev pub steps_at : {E : Type 0} → (Bool → Trees → List (Step E)) → Reading E → Bool → Result Trees E → List (Step E)
steps_at go r first (Ok none) = []
steps_at go r first (Ok (tree l c o)) = step_of (look r.view r.home l c) (tree l c o) first (steps_in go first c)
steps_at go r first (Err e) = refused e ∷ []

-- The steps of a type, down to a number of levels that includes its own.
abbrev pub steps_to : {E : Type 0} → Reading E → ℕ → Bool → Trees → List (Step E)
steps_to r zero first t = too_deep t first ∷ []
steps_to r (suc n) first t = steps_at (λ f u. steps_to r n f u) r first (read r t)

-- The steps of all arguments.
abbrev pub steps : {E : Type 0} → Reading E → ℕ → Trees → List (Step E)
steps r limit args = steps_in (λ f u. steps_to r limit f u) true args

-- The step that ends the first walk: any but `entered` and `met_foreign`.
abbrev pub first_end : {E : Type 0} → List (Step E) → Option (Step E)
first_end [] = None
first_end (entered ∷ ss) = first_end ss
first_end (met_foreign t first ∷ ss) = first_end ss
first_end (s ∷ ss) = Some s

-- The step that ends the second walk, which does not end at uncovered types.
abbrev pub second_end : {E : Type 0} → List (Step E) → Option (Step E)
second_end [] = None
second_end (entered ∷ ss) = second_end ss
second_end (met_foreign t first ∷ ss) = second_end ss
second_end (met_open t ∷ ss) = second_end ss
second_end (s ∷ ss) = Some s

-- The non-local types, with their flags.
abbrev pub leaves : {E : Type 0} → List (Step E) → List (Trees × Bool)
leaves [] = []
leaves (met_foreign t first ∷ ss) = (t, first) ∷ leaves ss
leaves (s ∷ ss) = leaves ss
