-- The names of parameters, those of lifetimes separate from all others.
use Rattle.std.specs.Prelude.{ℕ, Bool, false, ◌||◌, List, [], ◌∷◌, map, is_some}
use Rattle.std.specs.List.{list_any, flat_map}
use Rattle.std.specs.Option.{option_map_or}
use Rattle.text_language.specs.Promised.Declarations.{Declarations, known}
use Rattle.text_language.specs.Promised.Faults.{is_among, repeats}
use Rattle.text_language.specs.Faults.{static_name}
use Rattle.text_lines.specs.Says.{name_said, params_said}
use Rattle.text_lines.specs.TokenViews.{text_of}
use Rattle.text_lines.specs.Statement.{Statement, Param, lifetime_param, type_param, const_param}
use Rattle.text_names.specs.declared.params.ParamNames.{ParamNames}

abbrev pub lifetime_name : Param → List (List ℕ)
lifetime_name (lifetime_param n) = n ∷ []
lifetime_name _ = []

abbrev pub other_name : Param → List (List ℕ)
other_name (lifetime_param n) = []
other_name (type_param n) = n ∷ []
other_name (const_param n) = n ∷ []

abbrev pub lifetimes_said : List Param → List (List ℕ)
lifetimes_said ps = flat_map lifetime_name ps

-- Those of types and constants.
abbrev pub others_said : List Param → List (List ℕ)
others_said ps = flat_map other_name ps

-- A name occurs twice, is `'static`, or is declared.
abbrev pub names_taken : Declarations → (lifetimes others : List (List ℕ)) → Bool
names_taken d ls os = repeats ls || (is_among static_name ls || (repeats os || list_any (λ n. is_some (known d n)) os))

-- The same for names that were collected.
abbrev pub collected_taken : Declarations → ParamNames → Bool
collected_taken d ps = names_taken d (map text_of ps.lifetimes.items) (map text_of ps.others.items)

abbrev pub are_taken : Declarations → List Param → Bool
are_taken d ps = names_taken d (lifetimes_said ps) (others_said ps)

-- The name that the statement declares was declared before, or that of a parameter is taken. `own` has the statement's own item.
abbrev pub takes_said : (before own : Declarations) → Statement → Bool
takes_said before own s = option_map_or (λ n. is_some (known before n)) (name_said s) false || are_taken own (params_said s)
