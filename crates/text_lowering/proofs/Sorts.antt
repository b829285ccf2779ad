-- Parameters by number and sort.
use Rattle.std.specs.Prelude.{Bool, true, false, ◌||◌, not, List, slice_get}
use Rattle.std.specs.Option.{option_map_or}
use Rattle.type_terms.specs.Promised.Label.{Label, Sort, param, bound}
use Rattle.type_terms.specs.Promised.Trees.{is_sort}
use Rattle.candidate_model.specs.Declared.{is_counted}

-- if it is a parameter, its number is that of a parameter of its sort; and no binder binds it
abbrev pub has_sort : List Sort → Label → Bool
has_sort sorts (param s i) = option_map_or (is_sort s) (slice_get sorts i) false
has_sort sorts (bound s j i) = false
has_sort sorts l = true

-- a binder that counts its lifetimes, what it binds, or a parameter that there is not
abbrev pub is_bad : List Sort → Label → Bool
is_bad sorts l = is_counted l || not (has_sort sorts l)
