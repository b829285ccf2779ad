-- A statement apart from its types.
use Rattle.std.specs.Prelude.{◌≡◌, ℕ, max, Bool, true, false, ◌||◌, ◌&&◌, not, List, [], ◌∷◌, length, Option, Some, None, ◌==◌}
use Rattle.std.specs.List.{list_any}
use Rattle.std.specs.Option.{option_map_or}
use Rattle.text_language.specs.Promised.Syntax.{Line}
use Rattle.text_language.specs.Promised.Declarations.{kinds_of}
use Rattle.text_language.specs.Uses.{declared_name, params_of}
use Rattle.text_language.specs.Faults.{belongs_to_crate, is_impl, is_loaded_auto, refutes_params, is_long, has_long_name, parts}
use Rattle.text_lines.specs.Statement.{Param, param_name, Statement, crate_statement, struct_statement, trait_statement, impl_statement, prove_statement, refute_statement, later_statement, supers_statement, param_list, line_statement}

abbrev pub name_said : Statement → Option (List ℕ)
name_said (crate_statement n us) = Some n
name_said (struct_statement f n ps ss) = Some n
name_said (trait_statement f a n ps ss) = Some n
name_said _ = None

abbrev pub params_said : Statement → List Param
params_said (crate_statement n us) = []
params_said (struct_statement f n ps ss) = ps
params_said (trait_statement f a n ps ss) = ps
params_said (impl_statement ps h ks) = ps
params_said (prove_statement c ps k js ks) = ps
params_said (refute_statement c ps k js) = ps
params_said (later_statement n) = []
params_said (supers_statement n) = []

-- the number of fields, supertraits, clauses or queried bounds; the greater one where there are two lists
abbrev pub count_said : Statement → ℕ
count_said (crate_statement n us) = 0
count_said (struct_statement f n ps ss) = length ss
count_said (trait_statement f a n ps ss) = length ss
count_said (impl_statement ps h ks) = length ks
count_said (prove_statement c ps k js ks) = max (length (k ∷ js)) (length ks)
count_said (refute_statement c ps k js) = length (k ∷ js)
count_said (later_statement n) = 0
count_said (supers_statement n) = 0

abbrev pub is_item : Statement → Bool
is_item (struct_statement f n ps ss) = true
is_item (trait_statement f a n ps ss) = true
is_item (impl_statement ps h ks) = true
is_item _ = false

abbrev pub is_said_impl : Statement → Bool
is_said_impl (impl_statement ps h ks) = true
is_said_impl _ = false

abbrev pub is_loaded : Statement → Bool
is_loaded (trait_statement f a n ps ss) = a && not ((length ps == 0) && (length ss == 0))
is_loaded _ = false

abbrev pub refutes_some : Statement → Bool
refutes_some (refute_statement c ps k js) = not (length ps == 0)
refutes_some _ = false

abbrev pub has_long : Statement → Bool
has_long s = option_map_or is_long (name_said s) false || list_any (λ p. is_long (param_name p)) (params_said s)

-- ---- For the statement of a line these agree with the definitions of the line.
abbrev pub NameIsSaid : Type 0
NameIsSaid = (l : Line) → name_said (line_statement l) ≡ declared_name l

abbrev pub ParamsAreSaid : Type 0
ParamsAreSaid = (l : Line) → params_said (line_statement l) ≡ param_list (params_of l)

abbrev pub ParamsAreCounted : Type 0
ParamsAreCounted = (l : Line) → length (params_said (line_statement l)) ≡ length (kinds_of (params_of l))

abbrev pub PartsAreCounted : Type 0
PartsAreCounted = (l : Line) → count_said (line_statement l) ≡ parts l

abbrev pub TestsAgree : Type 0
TestsAgree =
    (l : Line) → (is_item (line_statement l) ≡ belongs_to_crate l) × (is_said_impl (line_statement l) ≡ is_impl l) × (is_loaded (line_statement l) ≡ is_loaded_auto l) × (refutes_some (line_statement l) ≡ refutes_params l)
    × (has_long (line_statement l) ≡ has_long_name l)
