-- Definitions that the tests for faults use. The tests read a line that follows the grammar, and the declarations of
-- the lines before it.
use Rattle.std.specs.Prelude.{ℕ, ◌+◌, Bool, false, ◌||◌, List, [], ◌∷◌, ◌++◌, length, count_by, ◌==◌}
use Rattle.std.specs.List.{list_any}
use Rattle.std.specs.Option.{option_map_or}
use Rattle.std.specs.Str.{bytes_eq}
use Rattle.type_terms.specs.Promised.Rules.{sized, tuple_trait, fn_ptr_trait, fn_once, fn_mut, fn_shared, unsize}
use Rattle.text_language.specs.Promised.Syntax.{Params, Line, struct_line, trait_line}
use Rattle.text_language.specs.Promised.Declarations.{Declarations, NamedStruct, NamedTrait, a_crate, a_struct, a_trait, known, kinds_of, last_crate}

-- ---- words
-- The name is one of these names.
abbrev pub is_among : List ℕ → List (List ℕ) → Bool
is_among n ns = list_any (λ m. bytes_eq m n) ns

-- Some name occurs twice.
abbrev pub repeats : List (List ℕ) → Bool
repeats [] = false
repeats (n ∷ ns) = is_among n ns || repeats ns

-- The struct of the line itself, without its fields.
abbrev pub own_struct : Declarations → Bool → List ℕ → Params → NamedStruct
own_struct d f n ps = record { text = n; kinds = kinds_of ps; item = record { name = length d.structs; home = last_crate d; is_fundamental = f; fields = [] } }

-- The trait of the line itself, without its bounds.
abbrev pub own_trait : Declarations → Bool → Bool → List ℕ → Params → NamedTrait
own_trait d f a n ps = record { text = n; kinds = kinds_of ps; item = record { name = length d.traits; home = last_crate d; is_fundamental = f; is_auto = a; bounds = [] } }

-- The declarations with the struct or trait of the line itself, so that the line may mention it.
abbrev pub with_own : Declarations → Line → Declarations
with_own d (struct_line f n ps fs) = record d { structs = d.structs ++ own_struct d f n ps ∷ [] }
with_own d (trait_line f a n ps bs) = record d { traits = d.traits ++ own_trait d f a n ps ∷ [] }
with_own d l = d

-- ---- fault 11: an impl of an auto trait whose self type is not a struct of the impl's crate
-- The name is that of an auto trait.
abbrev pub is_auto_name : Declarations → List ℕ → Bool
is_auto_name d n = option_map_or (λ k. elim k [ a_crate i ↦ false | a_struct i h kinds ↦ false | a_trait i h a kinds ↦ a ]) (known d n) false

-- ---- fault 12: an impl of a trait that has built-in rules alone
-- The traits that have built-in rules alone.
abbrev pub built_in_traits : List ℕ
built_in_traits = sized ∷ tuple_trait ∷ fn_ptr_trait ∷ fn_once ∷ fn_mut ∷ fn_shared ∷ unsize ∷ []

-- The number of structs, traits and impls of the last crate.
abbrev pub last_items : Declarations → ℕ
last_items d = count_by (λ s. s.item.home == last_crate d) d.structs + count_by (λ t. t.item.home == last_crate d) d.traits + count_by (λ i. i.item.home == last_crate d) d.impls
