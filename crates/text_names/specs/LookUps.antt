-- How names are looked up.
use Rattle.std.specs.Prelude.{ℕ, suc, Bool, false, not, List, [], ◌∷◌, Option, Some, None}
use Rattle.std.specs.List.{position_from}
use Rattle.std.specs.Option.{option_map_or}
use Rattle.std.specs.Str.{bytes_eq}
use Rattle.type_terms.specs.Promised.Label.{Sort, of_type, of_const, of_lifetime}
use Rattle.type_terms.specs.Promised.Worlds.{sees}
use Rattle.text_language.specs.Promised.Syntax.{Params}
use Rattle.text_language.specs.Promised.Declarations.{world_of}
use Rattle.text_language.specs.Uses.{declared_name}
use Rattle.text_language.specs.Faults.{looking_crate}
use Rattle.text_names.specs.Machine.{Sight}

-- The crate of the line does not see this crate.
abbrev pub is_hidden_home : Sight → ℕ → Bool
is_hidden_home v h = option_map_or (λ c. not (sees (world_of v.before) c h)) (looking_crate v.before v.line) false

abbrev pub is_own_name : Sight → List ℕ → Bool
is_own_name v n = option_map_or (λ m. bytes_eq n m) (declared_name v.line) false

-- The index of the name among these, if it is there.
abbrev pub place_in : List ℕ → List (List ℕ) → Option ℕ
place_in n ms = position_from (λ m. bytes_eq m n) 0 ms

abbrev pub params_of_sort : Params → Sort → List (List ℕ)
params_of_sort p of_type = p.types
params_of_sort p of_const = p.consts
params_of_sort p of_lifetime = p.lifetimes

-- How many binders further out than k others the name is bound, and its index there.
abbrev pub scope_place : ℕ → List (List (List ℕ)) → List ℕ → Option (ℕ × ℕ)
scope_place k [] n = None
scope_place k (b ∷ s) n = option_map_or (λ i. Some (k, i)) (place_in n b) (scope_place (suc k) s n)
