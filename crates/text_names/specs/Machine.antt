-- The machine that visits the cells of a type from the last to the first: what is found, with a stack of what is open.
use Rattle.std.specs.Prelude.{◌≡◌, ℕ, zero, suc, ◌-◌, ◌==◌, Bool, true, false, not, ◌||◌, ◌&&◌, List, [], ◌∷◌, ◌++◌, length, map, drop, Option, None, if◌then◌else◌, nat_lt}
use Rattle.std.specs.List.{list_any}
use Rattle.std.specs.Option.{option_map, option_map_or}
use Rattle.type_terms.specs.Promised.Label.{Label, Sort, of_type, of_const, of_lifetime, never, array, slice, tuple, fn_ptr, value, raw_pointer, principal}
use Rattle.text_language.specs.Promised.Syntax.{Params, Line, Length}
use Rattle.text_language.specs.Promised.Declarations.{Declarations, known}
use Rattle.text_language.specs.Uses.{ItemShape, bound_shape, lifetime_shape, Use, name_use, trait_use, lifetime_use, variable_use, misfit_use, dyn_use, items_use, next_kind, kinds_of_struct, kinds_of_trait, length_uses, lifetime_uses, lifetime_arg_uses, number_arg_uses, binder_uses, params_of}
use Rattle.text_language.specs.Promised.Faults.{with_own, is_auto_name}
use Rattle.text_language.specs.Faults.{is_taken_binder, is_unknown_use, is_hidden_use, looking_crate, is_other_sort, is_use_of, is_bad_dyn, passes_in, variables_in}
use Rattle.text_language.specs.Uses.{declared_name}
use Rattle.text_language.specs.Lowering.{trait_number, inserted}
use Rattle.text_lines.specs.Cells.{Cell, primitive_cell, never_cell, slice_cell, variable_cell, lifetime_cell, number_cell, named_cell, reference_cell, pointer_cell, array_cell, tuple_cell, dyn_cell, fn_cell, fn_to_cell, bound_cell}
use Rattle.text_names.specs.Resolved as resolved
use Rattle.text_names.specs.declared.findings.Findings.{Findings}
use Rattle.text_names.specs.Resolved.{ResolvedCell, Region, static_region, region_of, optional_region, const_cell, length_cell, dyn_before}
use Rattle.text_lines.specs.Back.{parts_above, count_above, names_between, down_to, shape_of}

-- What the line's names are looked up in: what is declared before it, and the line itself.
pub record Sight : Type 0 where
  pub before : Declarations
  pub line : Line

abbrev pub seen_items : Sight → Declarations
seen_items v = with_own v.before v.line

abbrev pub params : Sight → Params
params v = params_of v.line

-- ---- what is wrong with what is used, one flag for each test of the uses
abbrev pub findings : Sight → List Use → Findings
findings v us = record {
  takes_names = list_any (is_taken_binder v.line) us;
  uses_unknown = list_any (is_unknown_use v.before v.line) us;
  uses_hidden = option_map_or (λ c. list_any (is_hidden_use v.before v.line c) us) (looking_crate v.before v.line) false;
  uses_other_sort = list_any (is_other_sort v.before v.line) us;
  uses_own = option_map_or (λ n. list_any (is_use_of n) us) (declared_name v.line) false;
  has_bad_dyn = list_any (is_bad_dyn (seen_items v)) us;
  passes_limit = list_any passes_in us;
}

abbrev pub either : Findings → Findings → Findings
either f g = record {
  takes_names = f.takes_names || g.takes_names;
  uses_unknown = f.uses_unknown || g.uses_unknown;
  uses_hidden = f.uses_hidden || g.uses_hidden;
  uses_other_sort = f.uses_other_sort || g.uses_other_sort;
  uses_own = f.uses_own || g.uses_own;
  has_bad_dyn = f.has_bad_dyn || g.has_bad_dyn;
  passes_limit = f.passes_limit || g.passes_limit;
}

-- ---- what is found so far
pub record Found : Type 0 where
  pub faults : Findings
  pub variables : List (List ℕ × Sort)
  pub is_deep : Bool
  pub cells : List ResolvedCell

abbrev pub noting : Findings → Found → Found
noting f a = record a { faults = either f a.faults }

-- With these uses before.
abbrev pub using : Sight → List Use → Found → Found
using v us a = record a { faults = either (findings v us) a.faults; variables = variables_in us ++ a.variables }

-- With these cells before, unless they are not wanted.
abbrev pub keeping : Bool → (List ResolvedCell → List ResolvedCell) → Found → Found
keeping b f a = record a { cells = if b then f a.cells else a.cells }

-- This many more types may be nested, or any number.
abbrev pub has_room : Option ℕ → Bool
has_room r = option_map_or (λ n. not (n == 0)) r true

abbrev pub deepening : Option ℕ → Found → Found
deepening r a = record a { is_deep = a.is_deep || not (has_room r) }

-- There is no room for types that are this deep.
abbrev pub deep_in : Option ℕ → ℕ → Bool
deep_in r k = option_map_or (λ n. nat_lt n k) r false

abbrev pub sinking : Option ℕ → ℕ → Found → Found
sinking r k a = record a { is_deep = a.is_deep || deep_in r k }

abbrev pub deeper : Option ℕ → Option ℕ
deeper r = option_map (λ n. n - 1) r

-- ---- the position of an argument or a type
pub record Place : Type 0 where
  pub kind : Sort
  pub room : Option ℕ
  pub is_kept : Bool

abbrev pub type_place : Option ℕ → Bool → Place
type_place r b = record { kind = of_type; room = r; is_kept = b }

-- Constants and lifetimes do not count.
abbrev pub room_at : Sort → Option ℕ → Option ℕ
room_at of_type r = r
room_at _ r = None

abbrev pub arg_place : Sort → Option ℕ → Bool → Place
arg_place p r b = record { kind = p; room = room_at p r; is_kept = b }

-- ---- what is open: it begins at `start`, and what is inside it begins at `inner`
pub data Inside : Type 0 where
  types_inside items_inside : Inside
  -- this many arguments are left
  args_inside : List Sort → ℕ → Inside

pub record WalkFrame : Type 0 where
  pub start : ℕ
  pub inner : ℕ
  pub binds : Bool
  pub holds : Inside
  pub room : Option ℕ
  pub is_kept : Bool

pub data WalkState : Type 0 where
  -- a type or an argument comes next
  visiting : Place → List WalkFrame → List (List (List ℕ)) → List Cell → Found → WalkState
  going : List WalkFrame → List (List (List ℕ)) → List Cell → Found → WalkState
  finished : List Cell → Found → WalkState

-- ---- the uses of a cell itself
-- A type that is no name alone and no variable.
abbrev pub sort_misfits : Sort → List Use
sort_misfits of_type = []
sort_misfits _ = misfit_use ∷ []

abbrev pub name_misfits : Sort → List Use
name_misfits of_lifetime = misfit_use ∷ []
name_misfits _ = []

-- A lifetime where an argument of this kind is expected.
abbrev pub lifetime_misfits : Sort → List Use
lifetime_misfits of_lifetime = []
lifetime_misfits _ = misfit_use ∷ []

abbrev pub is_const_place : Sort → Bool
is_const_place of_const = true
is_const_place _ = false

-- A name where a type or a constant is expected.
abbrev pub name_cells : Sight → Sort → List ℕ → ℕ → List ResolvedCell → List ResolvedCell
name_cells v of_const n k cs = const_cell (params v) n ∷ cs
name_cells v p n k cs = resolved.named_cell (seen_items v) (params v) n k ∷ cs

abbrev pub leaf_step : Sight → Place → List WalkFrame → List (List (List ℕ)) → Label → List Cell → Found → WalkState
leaf_step v pl fs s l r a = going fs s r (using v (sort_misfits pl.kind) (deepening pl.room (keeping pl.is_kept (λ cs. resolved.node_cell l 0 ∷ cs) a)))

abbrev pub variable_step : Sight → Place → List WalkFrame → List (List (List ℕ)) → List ℕ → List Cell → Found → WalkState
variable_step v pl fs s n r a =
    going fs s r (using v (name_misfits pl.kind ++ variable_use pl.kind n ∷ []) (deepening pl.room (keeping pl.is_kept (λ cs. resolved.variable_cell pl.kind n ∷ cs) a)))

abbrev pub named_step : Sight → Place → List WalkFrame → List (List (List ℕ)) → List ℕ → ℕ → List Cell → Found → WalkState
named_step v pl fs s n start r a =
    let k = count_above start r in
    going
    (record { start = start; inner = start; binds = false; holds = args_inside (kinds_of_struct (known (seen_items v) n)) k; room = deeper pl.room; is_kept = pl.is_kept && not (is_const_place pl.kind) } ∷ fs)
    s r (using v (name_misfits pl.kind ++ name_use pl.kind n k ∷ []) (deepening pl.room (keeping pl.is_kept (name_cells v pl.kind n k) a)))

-- A type with one type inside. The cells are its own.
abbrev pub wrapped_step : Sight → Place → List WalkFrame → List (List (List ℕ)) → List Use → (List ResolvedCell → List ResolvedCell) → List Cell → Found → WalkState
wrapped_step v pl fs s us f r a =
    visiting (type_place (deeper pl.room) pl.is_kept) fs s r (using v (sort_misfits pl.kind ++ us) (deepening pl.room (keeping pl.is_kept f a)))

abbrev pub array_step : Sight → Place → List WalkFrame → List (List (List ℕ)) → Length → List Cell → Found → WalkState
array_step v pl fs s n r a = wrapped_step v pl fs s (length_uses n) (λ cs. length_cell (params v) n ∷ resolved.node_cell array 2 ∷ cs) r a

abbrev pub reference_step : Sight → Place → List WalkFrame → List (List (List ℕ)) → Option (List ℕ) → Bool → List Cell → Found → WalkState
reference_step v pl fs s l m r a = wrapped_step v pl fs s (lifetime_uses s l) (λ cs. resolved.reference_cell (optional_region (params v) s l) m ∷ cs) r a

abbrev pub tuple_step : Sight → Place → List WalkFrame → List (List (List ℕ)) → ℕ → List Cell → Found → WalkState
tuple_step v pl fs s start r a =
    let k = count_above start r in
    going
    (record { start = start; inner = start; binds = false; holds = types_inside; room = deeper pl.room; is_kept = pl.is_kept } ∷ fs)
    s r (using v (sort_misfits pl.kind ++ items_use k ∷ []) (deepening pl.room (keeping pl.is_kept (λ cs. resolved.node_cell tuple k ∷ cs) a)))

-- A fn with this many inputs.
abbrev pub fn_frame : Place → ℕ → ℕ → WalkFrame
fn_frame pl start inner = record { start = start; inner = inner; binds = true; holds = types_inside; room = deeper pl.room; is_kept = pl.is_kept }

abbrev pub fn_step : Sight → Place → List WalkFrame → List (List (List ℕ)) → ℕ → ℕ → List Cell → Found → WalkState
fn_step v pl fs s start inner r a =
    let b = names_between start inner r in
    let k = count_above inner r in
    going (fn_frame pl start inner ∷ fs) (b ∷ s) r
    (using v (sort_misfits pl.kind ++ (binder_uses s b ++ items_use k ∷ []))
    (deepening pl.room (keeping pl.is_kept (λ cs. resolved.node_cell tuple 0 ∷ resolved.node_cell (fn_ptr (length b)) (suc k) ∷ cs) a)))

abbrev pub fn_to_step : Sight → Place → List WalkFrame → List (List (List ℕ)) → ℕ → ℕ → List Cell → Found → WalkState
fn_to_step v pl fs s start inner r a =
    let b = names_between start inner r in
    let k = count_above inner r in
    going (fn_frame pl start inner ∷ fs) (b ∷ s) r
    (using v (sort_misfits pl.kind ++ (binder_uses s b ++ items_use (k - 1) ∷ []))
    (deepening pl.room (keeping pl.is_kept (λ cs. resolved.node_cell (fn_ptr (length b)) k ∷ cs) a)))

-- ---- a `dyn`
abbrev pub shape_autos : Declarations → List ItemShape → List ℕ
shape_autos d [] = []
shape_autos d (bound_shape b n ∷ is) = if is_auto_name d n then inserted (trait_number (known d n)) (shape_autos d is) else shape_autos d is
shape_autos d (lifetime_shape ∷ is) = shape_autos d is

abbrev pub shape_principals : Declarations → List ItemShape → ℕ
shape_principals d [] = 0
shape_principals d (bound_shape b n ∷ is) = if is_auto_name d n then shape_principals d is else suc (shape_principals d is)
shape_principals d (lifetime_shape ∷ is) = shape_principals d is

-- The lifetime that is the last item.
abbrev pub last_item_region : Params → List (List (List ℕ)) → List Cell → Region
last_item_region ps s [] = static_region
last_item_region ps s (lifetime_cell n ∷ r) = region_of ps s n
last_item_region ps s (c ∷ r) = static_region

abbrev pub dyn_step : Sight → Place → List WalkFrame → List (List (List ℕ)) → ℕ → List Cell → Found → WalkState
dyn_step v pl fs s start r a =
    let is = map shape_of (parts_above start r) in
    going
    (record { start = start; inner = start; binds = false; holds = items_inside; room = deeper pl.room; is_kept = pl.is_kept } ∷ fs)
    s r (using v (sort_misfits pl.kind ++ dyn_use is ∷ [])
    (deepening pl.room (keeping pl.is_kept (dyn_before (last_item_region (params v) s r) (shape_autos (seen_items v) is) (shape_principals (seen_items v) is)) a)))

-- ---- arguments that are no types
abbrev pub lifetime_step : Sight → Place → List WalkFrame → List (List (List ℕ)) → List ℕ → List Cell → Found → WalkState
lifetime_step v pl fs s n r a = going fs s r (using v (lifetime_arg_uses s pl.kind n) (keeping pl.is_kept (λ cs. resolved.lifetime_cell (region_of (params v) s n) ∷ cs) a))

abbrev pub number_step : Sight → Place → List WalkFrame → List (List (List ℕ)) → ℕ → List Cell → Found → WalkState
number_step v pl fs s n r a = going fs s r (using v (number_arg_uses pl.kind n) (keeping pl.is_kept (λ cs. resolved.node_cell (value n) 0 ∷ cs) a))

abbrev pub visit_step : Sight → Place → List WalkFrame → List (List (List ℕ)) → List Cell → Found → WalkState
visit_step v pl fs s (primitive_cell l ∷ r) a = leaf_step v pl fs s l r a
visit_step v pl fs s (never_cell ∷ r) a = leaf_step v pl fs s never r a
visit_step v pl fs s (variable_cell n ∷ r) a = variable_step v pl fs s n r a
visit_step v pl fs s (lifetime_cell n ∷ r) a = lifetime_step v pl fs s n r a
visit_step v pl fs s (number_cell n ∷ r) a = number_step v pl fs s n r a
visit_step v pl fs s (named_cell n start ∷ r) a = named_step v pl fs s n start r a
visit_step v pl fs s (reference_cell l m ∷ r) a = reference_step v pl fs s l m r a
visit_step v pl fs s (pointer_cell m ∷ r) a = wrapped_step v pl fs s [] (λ cs. resolved.node_cell (raw_pointer m) 1 ∷ cs) r a
visit_step v pl fs s (slice_cell ∷ r) a = wrapped_step v pl fs s [] (λ cs. resolved.node_cell slice 1 ∷ cs) r a
visit_step v pl fs s (array_cell n ∷ r) a = array_step v pl fs s n r a
visit_step v pl fs s (tuple_cell start ∷ r) a = tuple_step v pl fs s start r a
visit_step v pl fs s (fn_cell start inner ∷ r) a = fn_step v pl fs s start inner r a
visit_step v pl fs s (fn_to_cell start inner ∷ r) a = fn_to_step v pl fs s start inner r a
visit_step v pl fs s (dyn_cell start ∷ r) a = dyn_step v pl fs s start r a
visit_step v pl fs s r a = finished r a

-- ---- inside what is open
abbrev pub bound_step : Sight → WalkFrame → List WalkFrame → List (List (List ℕ)) → List ℕ → ℕ → ℕ → List Cell → Found → WalkState
bound_step v f fs s n start inner r a =
    let b = names_between start inner r in
    let k = count_above inner r in
    let kept = f.is_kept && not (is_auto_name (seen_items v) n) in
    going
    (record { start = start; inner = inner; binds = true; holds = args_inside (kinds_of_trait (known (seen_items v) n)) k; room = f.room; is_kept = kept } ∷ f ∷ fs)
    (b ∷ s) r (using v (binder_uses s b ++ trait_use n k ∷ []) (keeping kept (λ cs. resolved.node_cell (principal (length b) (trait_number (known (seen_items v) n))) k ∷ cs) a))

abbrev pub item_step : Sight → WalkFrame → List WalkFrame → List (List (List ℕ)) → List Cell → Found → WalkState
item_step v f fs s (bound_cell n start inner ∷ r) a = bound_step v f fs s n start inner r a
item_step v f fs s (lifetime_cell n ∷ r) a = going (f ∷ fs) s r (using v (lifetime_use s n ∷ []) a)
item_step v f fs s r a = finished r a

abbrev pub inside_step : Sight → Inside → WalkFrame → List WalkFrame → List (List (List ℕ)) → List Cell → Found → WalkState
inside_step v types_inside f fs s r a = visiting (type_place f.room f.is_kept) (f ∷ fs) s r a
inside_step v items_inside f fs s r a = item_step v f fs s r a
inside_step v (args_inside ks zero) f fs s r a = finished r a
inside_step v (args_inside ks (suc k)) f fs s r a = visiting (arg_place (next_kind (drop k ks)) f.room f.is_kept) (record f { holds = args_inside ks k } ∷ fs) s r a

abbrev pub outer_scope : Bool → List (List (List ℕ)) → List (List (List ℕ))
outer_scope true (b ∷ s) = s
outer_scope _ s = s

abbrev pub frame_step : Sight → List WalkFrame → List (List (List ℕ)) → List Cell → Found → WalkState
frame_step v [] s r a = finished r a
frame_step v (f ∷ fs) s r a = if length r == f.inner then going fs (outer_scope f.binds s) (down_to f.start r) a else inside_step v f.holds f fs s r a

abbrev pub step : Sight → WalkState → WalkState
step v (visiting pl fs s r a) = visit_step v pl fs s r a
step v (going fs s r a) = frame_step v fs s r a
step v (finished r a) = finished r a

abbrev pub run : Sight → ℕ → WalkState → WalkState
run v zero x = x
run v (suc n) x = run v n (step v x)

-- It is reached in some number of steps.
abbrev pub WalkReaches : Sight → WalkState → WalkState → Type 0
WalkReaches v x y = (n : ℕ) × (run v n x ≡ y)
