-- Whether two types, or the bounds of two `dyn` types, can become one: what their outermost nodes tell, and the parts below.
use Rattle.std.specs.Prelude.{◌≡◌, ℕ, suc, Bool, true, false, List, Option, None, Some}
use Rattle.type_terms.specs.Promised.Label.{Label}
use Rattle.type_terms.specs.Promised.Trees.{Trees, none, tree, ◌+++◌}
use Rattle.type_terms.specs.Promised.Answers.{is_open}
use Rattle.type_terms.specs.Promised.Handles.{Entry, Has, trees_at, types, consts, bounds_lists}
use Rattle.type_terms.specs.Terms.{args_lists, type_lists}
use Rattle.declarations.specs.Apart.{may_meet}
use Rattle.declarations.specs.declared.apart.Parts.{Parts}
use Rattle.declarations.specs.declared.apart.Parts.TheVariants.{Inner, Array, Args, Items, Bounds}
use Rattle.declarations.specs.declared.apart.Tops.{Tops}
use Rattle.declarations.specs.declared.apart.Tops.TheVariants.{MayMeet, Differ, Parts as Below}

-- The first node is open.
abbrev pub top_is_open : Trees → Bool
top_is_open none = false
top_is_open (tree l c o) = is_open l

-- The head exists.
abbrev pub is_some_head : Option Label → Type 0
is_some_head None = ⊥
is_some_head (Some l) = Unit {0}

-- The parts are of this interner.
abbrev pub PartsHeld : List Entry → Parts → Type 0
PartsHeld es (Inner t u) = Has es types t.0 × Has es types u.0
PartsHeld es (Array t n u m) = (Has es types t.0 × Has es consts n.0) × (Has es types u.0 × Has es consts m.0)
PartsHeld es (Args x y) = Has es args_lists x.0 × Has es args_lists y.0
PartsHeld es (Items x y) = Has es type_lists x.0 × Has es type_lists y.0
PartsHeld es (Bounds x y) = Has es bounds_lists x.0 × Has es bounds_lists y.0

-- The parts of the left type without lifetimes.
abbrev pub left_parts : List Entry → Parts → Trees
left_parts es (Inner t u) = trees_at es t.0
left_parts es (Array t n u m) = trees_at es t.0 +++ trees_at es n.0
left_parts es (Args x y) = trees_at es x.0
left_parts es (Items x y) = trees_at es x.0
left_parts es (Bounds x y) = trees_at es x.0

-- The parts of the right type without lifetimes.
abbrev pub right_parts : List Entry → Parts → Trees
right_parts es (Inner t u) = trees_at es u.0
right_parts es (Array t n u m) = trees_at es u.0 +++ trees_at es m.0
right_parts es (Args x y) = trees_at es y.0
right_parts es (Items x y) = trees_at es y.0
right_parts es (Bounds x y) = trees_at es y.0

-- What remains to be compared is of this interner.
abbrev pub TopsHeld : List Entry → Tops → Type 0
TopsHeld es MayMeet = Unit {0}
TopsHeld es Differ = Unit {0}
TopsHeld es (Below p) = PartsHeld es p

-- Whether types can become one, if their parts are compared so many levels deep.
abbrev pub meet_below : List Entry → Tops → ℕ → Bool
meet_below es MayMeet n = true
meet_below es Differ n = false
meet_below es (Below p) n = may_meet n (left_parts es p) (right_parts es p)

-- This is the outcome for these two types, or these two bounds, however many levels are compared.
abbrev pub tell : List Entry → Tops → Trees → Trees → Type 0
tell es tops x y = (n : ℕ) → may_meet (suc n) x y ≡ meet_below es tops n
