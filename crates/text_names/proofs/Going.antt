-- Going over the cells of a type finds what the definitions say of the type.
use Rattle.std.proofs.Common.{◌≡◌, ℕ, zero, suc, ◌+◌, ◌-◌, ◌<◌, ◌≤◌, Bool, true, false, List, [], ◌∷◌, ◌++◌, length, drop, Option, refl, sym, ap, ◌∙◌, subst, arith, append_assoc}
use Rattle.std.specs.Prelude.{if◌then◌else◌, max, ◌==◌, not, ◌&&◌}
use Rattle.std.proofs.lemmas.List.{append-nil}
use Rattle.type_terms.specs.Promised.Label.{Label, Sort, of_type, of_const, of_lifetime, never, array, slice, tuple, fn_ptr, value, raw_pointer, principal}
use Rattle.text_language.specs.Promised.Syntax.{TypeTree, of_primitive, never_type, variable_type, named, reference_to, pointer_to, slice_of, array_of, tuple_of, fn_of, fn_to, dyn_of, Types, no_types, and_type, Args, no_args, and_arg, Arg, lifetime_arg, number_arg, type_arg, Item, bound_item, lifetime_item, DynBounds, no_items, and_item, Params}
use Rattle.text_language.specs.Promised.Declarations.{Declarations, known}
use Rattle.text_language.specs.Uses.{ItemShape, Use, name_use, trait_use, lifetime_use, variable_use, misfit_use, dyn_use, items_use, types_count, args_count, next_kind, other_kinds, kinds_of_struct, kinds_of_trait, type_misfits, length_uses, lifetime_uses, lifetime_arg_uses, number_arg_uses, binder_uses, item_shape, item_shapes, type_uses, types_uses, args_uses, arg_uses, item_uses, items_uses, type_depth, types_depth, args_depth, arg_depth, item_depth, items_depth, at_place}
use Rattle.text_language.specs.Promised.Faults.{is_auto_name}
use Rattle.text_language.specs.Faults.{variables_in}
use Rattle.text_language.specs.Lowering.{trait_number, with_auto, autos, inserted}
use Rattle.text_lines.specs.Cells.{Cell}
use Rattle.text_names.specs.Resolved as resolved
use Rattle.text_names.specs.Resolved.{ResolvedCell, optional_region, region_of, length_cell, dyn_before, last_region, principals, principals_count, type_before, types_before, args_before, arg_before, item_before, items_before}
use Rattle.text_lines.specs.Back.{binder_back, type_back, types_back, args_back, arg_back, item_back, items_back, count_above, down_to}
use Rattle.text_names.specs.Machine.{Sight, seen_items, params, Found, using, keeping, deepening, deeper, Place, type_place, arg_place, types_inside, items_inside, args_inside, WalkFrame, WalkState, visiting, going, sort_misfits, name_misfits, is_const_place, name_cells, fn_frame, shape_autos, shape_principals, last_item_region, inside_step, outer_scope, step, run, WalkReaches}
use Rattle.text_names.specs.Machine.{sinking, finished}
use Rattle.text_names.specs.Laws.{with_arg, with_arguments_found, MachineResolves, ArgsResolved}
use Rattle.text_lines.proofs.Counting.{if-true, if-false, is-eq, not-eq, same, longer, further, down, binder-extends, types-extends, type-extends, args-extends, count-types, count-output, count-args, shapes-above, names-of, arg-longer, type-longer, item-longer}
use Rattle.text_names.proofs.Uses.{using-append, using-none, using-swap, using-first, sink-suc, sink-one, sink-max, sink-none, sink-at}
use Rattle.text_names.proofs.Walking.{name-variables, no-variables-with as sort-misfits}
use Rattle.text_language.proofs.TypeBasics.{optional-variables}

-- ---- what one state leads to
pub record Leads (v : Sight) (x z : WalkState) : Type 0 where
  pub on : (y : WalkState) → WalkReaches v z y → WalkReaches v x y

pub leads-step : (v : Sight) (x z : WalkState) → step v x ≡ z → Leads v x z
leads-step v x z e = record { on = λ y h. (suc h.0, ap (run v h.0) e ∙ h.1) }

leads-is : (v : Sight) (x z : WalkState) → x ≡ z → Leads v x z
leads-is v x z e = record { on = λ y h. subst (λ w. WalkReaches v w y) (sym e) h }

-- ---- what is kept
abbrev celled : List ResolvedCell → Found → Found
celled cs a = record a { cells = cs }

if-twice : (b : Bool) (f g : List ResolvedCell → List ResolvedCell) (c : List ResolvedCell) → (if b then f (if b then g c else c) else (if b then g c else c)) ≡ (if b then f (g c) else c)
if-twice true f g c = refl
if-twice false f g c = refl

keep-keep : (b : Bool) (f g : List ResolvedCell → List ResolvedCell) (a : Found) → keeping b f (keeping b g a) ≡ keeping b (λ cs. f (g cs)) a
keep-keep b f g a = ap (λ cs. celled cs a) (if-twice b f g a.cells)

if-same : (b : Bool) (c : List ResolvedCell) → (if b then c else c) ≡ c
if-same true c = refl
if-same false c = refl

keep-none : (b : Bool) (a : Found) → keeping b (λ cs. cs) a ≡ a
keep-none b a = ap (λ cs. celled cs a) (if-same b a.cells)

-- ---- what is found behind a part
abbrev with_types : Sight → List (List (List ℕ)) → Option ℕ → Bool → Types → Found → Found
with_types v s room kept ts a = using v (types_uses (seen_items v) s ts) (sinking room (types_depth (seen_items v) ts) (keeping kept (types_before (seen_items v) (params v) s ts) a))

abbrev with_item : Sight → List (List (List ℕ)) → Option ℕ → Bool → Item → Found → Found
with_item v s room kept i a = using v (item_uses (seen_items v) s i) (sinking room (item_depth (seen_items v) i) (keeping kept (item_before (seen_items v) (params v) s i) a))

abbrev with_items : Sight → List (List (List ℕ)) → Option ℕ → Bool → DynBounds → Found → Found
with_items v s room kept is a = using v (items_uses (seen_items v) s is) (sinking room (items_depth (seen_items v) is) (keeping kept (items_before (seen_items v) (params v) s is) a))

-- nothing
with-nothing : (v : Sight) (room : Option ℕ) (kept : Bool) (a : Found) → a ≡ using v [] (sinking room 0 (keeping kept (λ cs. cs) a))
with-nothing v room kept a = sym (using-none v (sinking room 0 (keeping kept (λ cs. cs) a)) ∙ sink-none room (keeping kept (λ cs. cs) a) ∙ keep-none kept a)

-- two parts, the first of which is met last
with-both : (v : Sight) (room : Option ℕ) (kept : Bool) (us ws : List Use) (m n : ℕ) (f g : List ResolvedCell → List ResolvedCell) (a : Found)
    → using v us (sinking room m (keeping kept f (using v ws (sinking room n (keeping kept g a))))) ≡ using v (us ++ ws) (sinking room (max m n) (keeping kept (λ cs. f (g cs)) a))
with-both v room kept us ws m n f g a =
    sym (using-append v us ws (sinking room m (sinking room n (keeping kept f (keeping kept g a)))))
    ∙ ap (using v (us ++ ws)) (sink-max room m n (keeping kept f (keeping kept g a)) ∙ ap (sinking room (max m n)) (keep-keep kept f g a))

and-type : (v : Sight) (s : List (List (List ℕ))) (room : Option ℕ) (kept : Bool) (t : TypeTree) (ts : Types) (a : Found)
    → with_arg v s (type_place room kept) (type_arg t) (with_types v s room kept ts a) ≡ with_types v s room kept (and_type t ts) a
and-type v s room kept t ts a =
    with-both v room kept (type_uses (seen_items v) s of_type t) (types_uses (seen_items v) s ts) (type_depth (seen_items v) t) (types_depth (seen_items v) ts) (type_before (seen_items v) (params v) s of_type t) (types_before (seen_items v) (params v) s ts) a

and-item : (v : Sight) (s : List (List (List ℕ))) (room : Option ℕ) (kept : Bool) (i : Item) (is : DynBounds) (a : Found)
    → with_item v s room kept i (with_items v s room kept is a) ≡ with_items v s room kept (and_item i is) a
and-item v s room kept i is a =
    with-both v room kept (item_uses (seen_items v) s i) (items_uses (seen_items v) s is) (item_depth (seen_items v) i) (items_depth (seen_items v) is) (item_before (seen_items v) (params v) s i) (items_before (seen_items v) (params v) s is) a

and-arg : (v : Sight) (s : List (List (List ℕ))) (ks : List Sort) (room : Option ℕ) (kept : Bool) (x : Arg) (args : Args) (a : Found)
    → with_arg v s (arg_place (next_kind ks) room kept) x (with_arguments_found v s (other_kinds ks) room kept args a) ≡ with_arguments_found v s ks room kept (and_arg x args) a
and-arg v s ks room kept x args a =
    ap (using v (arg_uses (seen_items v) s (next_kind ks) x))
    (sink-at (next_kind ks) room (arg_depth (seen_items v) x) (keeping kept (arg_before (seen_items v) (params v) s (next_kind ks) x) (with_arguments_found v s (other_kinds ks) room kept args a)))
    ∙ with-both v room kept (arg_uses (seen_items v) s (next_kind ks) x) (args_uses (seen_items v) s (other_kinds ks) args) (at_place (next_kind ks) (arg_depth (seen_items v) x)) (args_depth (seen_items v) (other_kinds ks) args)
    (arg_before (seen_items v) (params v) s (next_kind ks) x) (args_before (seen_items v) (params v) s (other_kinds ks) args) a

drop-other : (i : ℕ) (ks : List Sort) → drop (suc i) ks ≡ other_kinds (drop i ks)
drop-other zero [] = refl
drop-other zero (k ∷ ks) = refl
drop-other (suc i) [] = refl
drop-other (suc i) (k ∷ ks) = drop-other i ks

-- ---- a cell and what stands inside it
no-variables : (p : Sort) → variables_in (sort_misfits p) ≡ []
no-variables of_type = refl
no-variables of_const = refl
no-variables of_lifetime = refl

-- a type of types: what it is itself comes first
inside-type : (v : Sight) (room : Option ℕ) (kept : Bool) (own ws us : List Use) (n : ℕ) (f g : List ResolvedCell → List ResolvedCell) (a : Found) → variables_in own ≡ [] → us ≡ own ++ ws
    → using v ws (sinking (deeper room) n (keeping kept f (using v own (deepening room (keeping kept g a))))) ≡ using v us (sinking room (suc n) (keeping kept (λ cs. f (g cs)) a))
inside-type v room kept own ws us n f g a h e =
    using-first v own ws us (sinking (deeper room) n (deepening room (keeping kept f (keeping kept g a)))) h e
    ∙ ap (using v us) (sink-suc room n (keeping kept f (keeping kept g a)) ∙ ap (sinking room (suc n)) (keep-keep kept f g a))

misfits-plain : (v : Sight) (p : Sort) (room : Option ℕ) (kept : Bool) (l : Label) (t : TypeTree) (a : Found) → type_misfits p t ≡ sort_misfits p
    → using v (sort_misfits p) (deepening room (keeping kept (λ cs. resolved.node_cell l 0 ∷ cs) a)) ≡ using v (type_misfits p t ++ []) (sinking room 1 (keeping kept (λ cs. resolved.node_cell l 0 ∷ cs) a))
misfits-plain v p room kept l t a e =
    ap (using v (sort_misfits p)) (sink-one room (keeping kept (λ cs. resolved.node_cell l 0 ∷ cs) a))
    ∙ ap (λ us. using v us (sinking room 1 (keeping kept (λ cs. resolved.node_cell l 0 ∷ cs) a))) (sym e ∙ sym (append-nil (type_misfits p t)))

variable-misfits : (p : Sort) (n : List ℕ) → name_misfits p ≡ type_misfits p (variable_type n)
variable-misfits of_type n = refl
variable-misfits of_const n = refl
variable-misfits of_lifetime n = refl

named-misfits : (p : Sort) (n : List ℕ) (args : Args) → name_misfits p ≡ type_misfits p (named n args)
named-misfits of_type n args = refl
named-misfits of_const n args = refl
named-misfits of_lifetime n args = refl

-- the cells of a name with arguments; those of a const have none
name-kept : (v : Sight) (s : List (List (List ℕ))) (p : Sort) (kept : Bool) (n : List ℕ) (args : Args) (a : Found)
    → keeping (kept && not (is_const_place p)) (args_before (seen_items v) (params v) s (kinds_of_struct (known (seen_items v) n)) args) (keeping kept (name_cells v p n (args_count args)) a)
    ≡ keeping kept (type_before (seen_items v) (params v) s p (named n args)) a
name-kept v s of_type true n args a = refl
name-kept v s of_const true n args a = refl
name-kept v s of_lifetime true n args a = refl
name-kept v s p false n args a = refl

with-named : (v : Sight) (s : List (List (List ℕ))) (pl : Place) (n : List ℕ) (args : Args) (a : Found)
    → with_arguments_found v s (kinds_of_struct (known (seen_items v) n)) (deeper pl.room) (pl.is_kept && not (is_const_place pl.kind)) args
    (using v (name_misfits pl.kind ++ name_use pl.kind n (args_count args) ∷ []) (deepening pl.room (keeping pl.is_kept (name_cells v pl.kind n (args_count args)) a)))
    ≡ with_arg v s pl (type_arg (named n args)) a
with-named v s pl n args a =
    let p = pl.kind in
    let ks = kinds_of_struct (known (seen_items v) n) in
    let k = args_count args in
    let kept = pl.is_kept && not (is_const_place p) in
    let inside = args_before (seen_items v) (params v) s ks args in
    let us = type_misfits p (named n args) ++ name_use p n k ∷ args_uses (seen_items v) s ks args in
    using-first v (name_misfits p ++ name_use p n k ∷ []) (args_uses (seen_items v) s ks args) us
    (sinking (deeper pl.room) (args_depth (seen_items v) ks args) (deepening pl.room (keeping kept inside (keeping pl.is_kept (name_cells v p n k) a))))
    (name-variables p n k)
    (ap (λ m. m ++ name_use p n k ∷ args_uses (seen_items v) s ks args) (sym (named-misfits p n args)) ∙ sym (append_assoc (name_misfits p) (name_use p n k ∷ []) (args_uses (seen_items v) s ks args)))
    ∙ ap (using v us) (sink-suc pl.room (args_depth (seen_items v) ks args) (keeping kept inside (keeping pl.is_kept (name_cells v p n k) a)) ∙ ap (sinking pl.room (suc (args_depth (seen_items v) ks args))) (name-kept v s p pl.is_kept n args a))

-- a type of types: which uses are its own
with-inside : (v : Sight) (pl : Place) (t : TypeTree) (own ws : List Use) (n : ℕ) (f g : List ResolvedCell → List ResolvedCell) (a : Found) → type_misfits pl.kind t ≡ sort_misfits pl.kind → variables_in own ≡ []
    → using v ws (sinking (deeper pl.room) n (keeping pl.is_kept f (using v (sort_misfits pl.kind ++ own) (deepening pl.room (keeping pl.is_kept g a)))))
    ≡ using v (type_misfits pl.kind t ++ (own ++ ws)) (sinking pl.room (suc n) (keeping pl.is_kept (λ cs. f (g cs)) a))
with-inside v pl t own ws n f g a e h =
    inside-type v pl.room pl.is_kept (sort_misfits pl.kind ++ own) ws (type_misfits pl.kind t ++ (own ++ ws)) n f g a (sort-misfits pl.kind own h)
    (ap (λ m. m ++ (own ++ ws)) e ∙ sym (append_assoc (sort_misfits pl.kind) own ws))

-- an array: its length stands behind its type
with-array : (v : Sight) (pl : Place) (t : TypeTree) (own ws : List Use) (n : ℕ) (f g : List ResolvedCell → List ResolvedCell) (a : Found) → type_misfits pl.kind t ≡ sort_misfits pl.kind
    → using v ws (sinking (deeper pl.room) n (keeping pl.is_kept f (using v (sort_misfits pl.kind ++ own) (deepening pl.room (keeping pl.is_kept g a)))))
    ≡ using v (type_misfits pl.kind t ++ (ws ++ own)) (sinking pl.room (suc n) (keeping pl.is_kept (λ cs. f (g cs)) a))
with-array v pl t own ws n f g a e =
    let m = sort_misfits pl.kind in
    let b = sinking (deeper pl.room) n (deepening pl.room (keeping pl.is_kept f (keeping pl.is_kept g a))) in
    ap (using v ws) (using-append v m own b)
    ∙ sym (using-swap v m ws (using v own b) (no-variables pl.kind))
    ∙ ap (using v m) (sym (using-append v ws own b))
    ∙ sym (using-append v m (ws ++ own) b)
    ∙ ap (λ x. using v (x ++ (ws ++ own)) b) (sym e)
    ∙ ap (using v (type_misfits pl.kind t ++ (ws ++ own))) (sink-suc pl.room n (keeping pl.is_kept f (keeping pl.is_kept g a)) ∙ ap (sinking pl.room (suc n)) (keep-keep pl.is_kept f g a))

binder-variables : (s : List (List (List ℕ))) (b : List (List ℕ)) (us : List Use) → variables_in us ≡ [] → variables_in (binder_uses s b ++ us) ≡ []
binder-variables s [] us h = h
binder-variables s (n ∷ ns) us h = h

-- which uses are misfits is said by the outermost type alone
plain-misfits : (p : Sort) (t : TypeTree) → type_misfits of_const t ≡ misfit_use ∷ [] → type_misfits p t ≡ sort_misfits p
plain-misfits of_type t h = refl
plain-misfits of_const t h = h
plain-misfits of_lifetime t h = refl

-- ---- a `dyn`
autos-of : (d : Declarations) (i : Item) (ns : List ℕ) (is : DynBounds) → shape_autos d (item_shapes is) ≡ ns → shape_autos d (item_shape i ∷ item_shapes is) ≡ with_auto d i ns
autos-of d (bound_item b n args) ns is e = ap (λ x. if is_auto_name d n then inserted (trait_number (known d n)) x else x) e
autos-of d (lifetime_item n) ns is e = e

all-autos : (d : Declarations) (is : DynBounds) → shape_autos d (item_shapes is) ≡ autos d is
all-autos d no_items = refl
all-autos d (and_item i is) = autos-of d i (autos d is) is (all-autos d is)

principals-of : (d : Declarations) (i : Item) (k : ℕ) (is : DynBounds) → shape_principals d (item_shapes is) ≡ k → shape_principals d (item_shape i ∷ item_shapes is) ≡ principals_count d i k
principals-of d (bound_item b n args) k is e = ap (λ x. if is_auto_name d n then x else suc x) e
principals-of d (lifetime_item n) k is e = e

all-principals : (d : Declarations) (is : DynBounds) → shape_principals d (item_shapes is) ≡ principals d is
all-principals d no_items = refl
all-principals d (and_item i is) = principals-of d i (principals d is) is (all-principals d is)

last-item : (ps : Params) (s : List (List (List ℕ))) (i : Item) (is : DynBounds) (r : List Cell) → last_item_region ps s (items_back is (item_back i r)) ≡ last_region ps s i is
last-item ps s (bound_item b n args) no_items r = refl
last-item ps s (lifetime_item n) no_items r = refl
last-item ps s i (and_item j is) r = last-item ps s j is (item_back i r)

-- ---- what is open
leads-close : (v : Sight) (f : WalkFrame) (fs : List WalkFrame) (s : List (List (List ℕ))) (r q : List Cell) (a : Found) → length r ≡ f.inner → down_to f.start r ≡ q → Leads v (going (f ∷ fs) s r a) (going fs (outer_scope f.binds s) q a)
leads-close v f fs s r q a e d =
    leads-step v (going (f ∷ fs) s r a) (going fs (outer_scope f.binds s) q a)
    (if-true (length r == f.inner) (going fs (outer_scope f.binds s) (down_to f.start r) a) (inside_step v f.holds f fs s r a) (is-eq (length r) f.inner e) ∙ ap (λ x. going fs (outer_scope f.binds s) x a) d)

leads-inside : (v : Sight) (f : WalkFrame) (fs : List WalkFrame) (s : List (List (List ℕ))) (r : List Cell) (a : Found) (x : WalkState) → f.inner < length r → inside_step v f.holds f fs s r a ≡ x → Leads v (going (f ∷ fs) s r a) x
leads-inside v f fs s r a x h e =
    leads-step v (going (f ∷ fs) s r a) x
    (if-false (length r == f.inner) (going fs (outer_scope f.binds s) (down_to f.start r) a) (inside_step v f.holds f fs s r a) (not-eq (length r) f.inner h) ∙ e)

abbrev args_frame : WalkFrame → List Sort → ℕ → WalkFrame
args_frame f ks k = record f { holds = args_inside ks k }

abbrev types_frame : Option ℕ → Bool → Bool → ℕ → ℕ → WalkFrame
types_frame room kept binds start inner = record { start = start; inner = inner; binds = binds; holds = types_inside; room = room; is_kept = kept }

abbrev items_frame : Option ℕ → Bool → ℕ → WalkFrame
items_frame room kept start = record { start = start; inner = start; binds = false; holds = items_inside; room = room; is_kept = kept }

infixl 30 ◌▸◌
◌▸◌ : {v : Sight} {x z w : WalkState} → Leads v x z → Leads v z w → Leads v x w
f ▸ g = record { on = λ y h. f.on y (g.on y h) }

-- ---- a name with arguments, with their number
abbrev named_frame : Sight → Place → List ℕ → ℕ → WalkFrame
named_frame v pl n start = record { start = start; inner = start; binds = false; holds = types_inside; room = deeper pl.room; is_kept = pl.is_kept && not (is_const_place pl.kind) }

abbrev named_found : Sight → Place → List ℕ → Found → ℕ → Found
named_found v pl n a k = using v (name_misfits pl.kind ++ name_use pl.kind n k ∷ []) (deepening pl.room (keeping pl.is_kept (name_cells v pl.kind n k) a))

abbrev tuple_found : Sight → Place → Found → ℕ → Found
tuple_found v pl a k = using v (sort_misfits pl.kind ++ items_use k ∷ []) (deepening pl.room (keeping pl.is_kept (λ cs. resolved.node_cell tuple k ∷ cs) a))

abbrev fn_found : Sight → Place → List (List (List ℕ)) → Found → List (List ℕ) → ℕ → Found
fn_found v pl s a b k =
    using v (sort_misfits pl.kind ++ (binder_uses s b ++ items_use k ∷ []))
    (deepening pl.room (keeping pl.is_kept (λ cs. resolved.node_cell tuple 0 ∷ resolved.node_cell (fn_ptr (length b)) (suc k) ∷ cs) a))

abbrev fn_to_found : Sight → Place → List (List (List ℕ)) → Found → List (List ℕ) → ℕ → Found
fn_to_found v pl s a b k =
    using v (sort_misfits pl.kind ++ (binder_uses s b ++ items_use (k - 1) ∷ []))
    (deepening pl.room (keeping pl.is_kept (λ cs. resolved.node_cell (fn_ptr (length b)) k ∷ cs) a))

abbrev dyn_found : Sight → Place → Found → List ItemShape → resolved.Region → List ℕ → ℕ → Found
dyn_found v pl a is r ns k = using v (sort_misfits pl.kind ++ dyn_use is ∷ []) (deepening pl.room (keeping pl.is_kept (dyn_before r ns k) a))

abbrev is_bound_kept : Sight → Bool → List ℕ → Bool
is_bound_kept v kept n = kept && not (is_auto_name (seen_items v) n)

abbrev bound_frame : Sight → WalkFrame → List ℕ → ℕ → ℕ → WalkFrame
bound_frame v f n start inner = record { start = start; inner = inner; binds = true; holds = types_inside; room = f.room; is_kept = is_bound_kept v f.is_kept n }

abbrev bound_found : Sight → Bool → List (List (List ℕ)) → List ℕ → Found → List (List ℕ) → ℕ → Found
bound_found v kept s n a b k =
    using v (binder_uses s b ++ trait_use n k ∷ []) (keeping (is_bound_kept v kept n) (λ cs. resolved.node_cell (principal (length b) (trait_number (known (seen_items v) n))) k ∷ cs) a)

bound-variables : (s : List (List (List ℕ))) (b : List (List ℕ)) (n : List ℕ) (k : ℕ) → variables_in (binder_uses s b ++ trait_use n k ∷ []) ≡ []
bound-variables s b n k = binder-variables s b (trait_use n k ∷ []) refl

if-kept : (kept auto : Bool) (f g : List ResolvedCell → List ResolvedCell) (cs : List ResolvedCell)
    → (if kept && not auto then f (if kept && not auto then g cs else cs) else (if kept && not auto then g cs else cs)) ≡ (if kept then (if auto then cs else f (g cs)) else cs)
if-kept true true f g cs = refl
if-kept true false f g cs = refl
if-kept false auto f g cs = refl

with-bound : (v : Sight) (s : List (List (List ℕ))) (room : Option ℕ) (kept : Bool) (b : List (List ℕ)) (n : List ℕ) (args : Args) (a : Found)
    → with_arguments_found v (b ∷ s) (kinds_of_trait (known (seen_items v) n)) room (is_bound_kept v kept n) args (bound_found v kept s n a b (args_count args)) ≡ with_item v s room kept (bound_item b n args) a
with-bound v s room kept b n args a =
    let ks = kinds_of_trait (known (seen_items v) n) in
    let k = args_count args in
    let auto = is_auto_name (seen_items v) n in
    let us = binder_uses s b ++ trait_use n k ∷ args_uses (seen_items v) (b ∷ s) ks args in
    let f : List ResolvedCell → List ResolvedCell = args_before (seen_items v) (params v) (b ∷ s) ks args in
    let g : List ResolvedCell → List ResolvedCell = λ cs. resolved.node_cell (principal (length b) (trait_number (known (seen_items v) n))) k ∷ cs in
    using-first v (binder_uses s b ++ trait_use n k ∷ []) (args_uses (seen_items v) (b ∷ s) ks args) us (sinking room (args_depth (seen_items v) ks args) (keeping (is_bound_kept v kept n) f (keeping (is_bound_kept v kept n) g a)))
    (bound-variables s b n k) (sym (append_assoc (binder_uses s b) (trait_use n k ∷ []) (args_uses (seen_items v) (b ∷ s) ks args)))
    ∙ ap (λ cs. using v us (sinking room (args_depth (seen_items v) ks args) (celled cs a))) (if-kept kept auto f g a.cells)

nothing-inside : (v : Sight) (room : Option ℕ) (kept : Bool) (us : List Use) (f : List ResolvedCell → List ResolvedCell) (a : Found) → using v us (keeping kept f a) ≡ using v us (sinking room 0 (keeping kept f a))
nothing-inside v room kept us f a = ap (using v us) (sym (sink-none room (keeping kept f a)))

lifetime-found : (v : Sight) (s : List (List (List ℕ))) (room : Option ℕ) (kept : Bool) (n : List ℕ) (a : Found) → using v (lifetime_use s n ∷ []) a ≡ with_item v s room kept (lifetime_item n) a
lifetime-found v s room kept n a = ap (using v (lifetime_use s n ∷ [])) (sym (sink-none room (keeping kept (λ cs. cs) a) ∙ keep-none kept a))

with-output : (v : Sight) (pl : Place) (s : List (List (List ℕ))) (b : List (List ℕ)) (ts : Types) (o : TypeTree) (a : Found)
    → with_types v (b ∷ s) (deeper pl.room) pl.is_kept ts (with_arg v (b ∷ s) (type_place (deeper pl.room) pl.is_kept) (type_arg o) (fn_to_found v pl s a b (suc (types_count ts))))
    ≡ with_arg v s pl (type_arg (fn_to b ts o)) a
with-output v pl s b ts o a =
    let k = types_count ts in
    let own = binder_uses s b ++ items_use k ∷ [] in
    let ws = types_uses (seen_items v) (b ∷ s) ts ++ type_uses (seen_items v) (b ∷ s) of_type o in
    let f : List ResolvedCell → List ResolvedCell = types_before (seen_items v) (params v) (b ∷ s) ts in
    let g : List ResolvedCell → List ResolvedCell = type_before (seen_items v) (params v) (b ∷ s) of_type o in
    let c : List ResolvedCell → List ResolvedCell = λ cs. resolved.node_cell (fn_ptr (length b)) (suc k) ∷ cs in
    let z : suc k - 1 ≡ k = omega arith in
    ap (λ j. with_types v (b ∷ s) (deeper pl.room) pl.is_kept ts (with_arg v (b ∷ s) (type_place (deeper pl.room) pl.is_kept) (type_arg o)
    (using v (sort_misfits pl.kind ++ (binder_uses s b ++ items_use j ∷ [])) (deepening pl.room (keeping pl.is_kept c a))))) z
    ∙ with-both v (deeper pl.room) pl.is_kept (types_uses (seen_items v) (b ∷ s) ts) (type_uses (seen_items v) (b ∷ s) of_type o) (types_depth (seen_items v) ts) (type_depth (seen_items v) o) f g
    (using v (sort_misfits pl.kind ++ own) (deepening pl.room (keeping pl.is_kept c a)))
    ∙ with-inside v pl (fn_to b ts o) own ws (max (types_depth (seen_items v) ts) (type_depth (seen_items v) o)) (λ cs. f (g cs)) c a (plain-misfits pl.kind (fn_to b ts o) refl) (binder-variables s b (items_use k ∷ []) refl)
    ∙ ap (λ us. using v (type_misfits pl.kind (fn_to b ts o) ++ us) (sinking pl.room (type_depth (seen_items v) (fn_to b ts o)) (keeping pl.is_kept (type_before (seen_items v) (params v) s pl.kind (fn_to b ts o)) a)))
    (append_assoc (binder_uses s b) (items_use k ∷ []) ws)

fn-to-found : (v : Sight) (pl : Place) (fs : List WalkFrame) (s : List (List (List ℕ))) (b : List (List ℕ)) (ts : Types) (o : TypeTree) (r : List Cell) (a : Found)
    → Leads v (visiting (type_place (deeper pl.room) pl.is_kept) (fn_frame pl (length r) (length (binder_back b r)) ∷ fs) (b ∷ s) (type_back o (types_back ts (binder_back b r))) (fn_to_found v pl s a b (suc (types_count ts))))
    (going (fn_frame pl (length r) (length (binder_back b r)) ∷ fs) (b ∷ s) (types_back ts (binder_back b r))
    (with_arg v (b ∷ s) (type_place (deeper pl.room) pl.is_kept) (type_arg o) (fn_to_found v pl s a b (suc (types_count ts)))))
    → (length (binder_back b r) ≤ length (binder_back b r)
    → Leads v
    (going (fn_frame pl (length r) (length (binder_back b r)) ∷ fs) (b ∷ s) (types_back ts (binder_back b r))
    (with_arg v (b ∷ s) (type_place (deeper pl.room) pl.is_kept) (type_arg o) (fn_to_found v pl s a b (suc (types_count ts)))))
    (going (fn_frame pl (length r) (length (binder_back b r)) ∷ fs) (b ∷ s) (binder_back b r)
    (with_types v (b ∷ s) (deeper pl.room) pl.is_kept ts (with_arg v (b ∷ s) (type_place (deeper pl.room) pl.is_kept) (type_arg o) (fn_to_found v pl s a b (suc (types_count ts)))))))
    → Leads v (visiting pl fs s (type_back (fn_to b ts o) r) a) (going fs s r (with_arg v s pl (type_arg (fn_to b ts o)) a))
fn-to-found v pl fs s b ts o r a first others =
    let q = binder_back b r in
    let us = types_back ts q in
    let xs = type_back o us in
    let f = fn_frame pl (length r) (length q) in
    let k = suc (types_count ts) in
    let x = fn_to_found v pl s a b k in
    let h : length q ≤ length q = omega arith in
    let lt : length us < length xs = type-longer o us in
    let le : length q ≤ length us = longer us q (types-extends ts q) in
    let m : length q < length xs = omega arith in
    leads-step v (visiting pl fs s (type_back (fn_to b ts o) r) a) (going (f ∷ fs) (b ∷ s) xs x)
    (ap (λ c. going (f ∷ fs) (c ∷ s) xs (fn_to_found v pl s a c (count_above (length q) xs))) (names-of b r xs (further xs us q (type-extends o us) (types-extends ts q)))
    ∙ ap (λ j. going (f ∷ fs) (b ∷ s) xs (fn_to_found v pl s a b j)) (count-output ts o q))
    ▸ leads-inside v f fs (b ∷ s) xs x (visiting (type_place (deeper pl.room) pl.is_kept) (f ∷ fs) (b ∷ s) xs x) m refl
    ▸ first
    ▸ others h
    ▸ leads-close v f fs (b ∷ s) q r (with_types v (b ∷ s) (deeper pl.room) pl.is_kept ts (with_arg v (b ∷ s) (type_place (deeper pl.room) pl.is_kept) (type_arg o) x)) refl (down q r (binder-extends b r))
    ▸ leads-is v _ _ (ap (going fs s r) (with-output v pl s b ts o a))

with-dyn : (v : Sight) (pl : Place) (s : List (List (List ℕ))) (i : Item) (is : DynBounds) (a : Found)
    → with_items v s (deeper pl.room) pl.is_kept (and_item i is)
    (dyn_found v pl a (item_shape i ∷ item_shapes is) (last_region (params v) s i is) (with_auto (seen_items v) i (autos (seen_items v) is)) (principals_count (seen_items v) i (principals (seen_items v) is)))
    ≡ with_arg v s pl (type_arg (dyn_of i is)) a
with-dyn v pl s i is a =
    with-inside v pl (dyn_of i is) (dyn_use (item_shape i ∷ item_shapes is) ∷ []) (items_uses (seen_items v) s (and_item i is)) (items_depth (seen_items v) (and_item i is)) (items_before (seen_items v) (params v) s (and_item i is))
    (dyn_before (last_region (params v) s i is) (with_auto (seen_items v) i (autos (seen_items v) is)) (principals_count (seen_items v) i (principals (seen_items v) is))) a (plain-misfits pl.kind (dyn_of i is) refl) refl

dyn-found : (v : Sight) (pl : Place) (fs : List WalkFrame) (s : List (List (List ℕ))) (i : Item) (is : DynBounds) (r : List Cell) (a : Found)
    → ((x : Found) → items_frame (deeper pl.room) pl.is_kept (length r) ≡ items_frame (deeper pl.room) pl.is_kept (length r) → length r ≤ length (item_back i r)
    → Leads v (going (items_frame (deeper pl.room) pl.is_kept (length r) ∷ fs) s (items_back is (item_back i r)) x) (going (items_frame (deeper pl.room) pl.is_kept (length r) ∷ fs) s (item_back i r) (with_items v s (deeper pl.room) pl.is_kept is x)))
    → ((x : Found) → length r ≤ length r
    → Leads v (going (items_frame (deeper pl.room) pl.is_kept (length r) ∷ fs) s (item_back i r) x) (going (items_frame (deeper pl.room) pl.is_kept (length r) ∷ fs) s r (with_item v s (deeper pl.room) pl.is_kept i x)))
    → Leads v (visiting pl fs s (type_back (dyn_of i is) r) a) (going fs s r (with_arg v s pl (type_arg (dyn_of i is)) a))
dyn-found v pl fs s i is r a others first =
    let f = items_frame (deeper pl.room) pl.is_kept (length r) in
    let d = seen_items v in
    let q = item_back i r in
    let xs = items_back is q in
    let sh = item_shape i ∷ item_shapes is in
    let lr = last_region (params v) s i is in
    let ns = with_auto d i (autos d is) in
    let k = principals_count d i (principals d is) in
    let x = dyn_found v pl a sh lr ns k in
    let h : length r ≤ length r = omega arith in
    let lt : length r < length q = item-longer i r in
    let le : length r ≤ length q = omega arith in
    leads-step v (visiting pl fs s (type_back (dyn_of i is) r) a) (going (f ∷ fs) s xs x)
    (ap (λ z. going (f ∷ fs) s xs (dyn_found v pl a z (last_item_region (params v) s xs) (shape_autos d z) (shape_principals d z))) (shapes-above i is r)
    ∙ ap (λ z. going (f ∷ fs) s xs (dyn_found v pl a sh z (shape_autos d sh) (shape_principals d sh))) (last-item (params v) s i is r)
    ∙ ap (λ z. going (f ∷ fs) s xs (dyn_found v pl a sh lr z (shape_principals d sh))) (autos-of d i (autos d is) is (all-autos d is))
    ∙ ap (λ z. going (f ∷ fs) s xs (dyn_found v pl a sh lr ns z)) (principals-of d i (principals d is) is (all-principals d is)))
    ▸ others x refl le
    ▸ first (with_items v s (deeper pl.room) pl.is_kept is x) h
    ▸ leads-close v f fs s r r (with_item v s (deeper pl.room) pl.is_kept i (with_items v s (deeper pl.room) pl.is_kept is x)) refl (down r r (same r))
    ▸ leads-is v _ _ (ap (going fs s r) (and-item v s (deeper pl.room) pl.is_kept i is x ∙ with-dyn v pl s i is a))

mutual
  pub at-type : (t : TypeTree) (v : Sight) (pl : Place) (fs : List WalkFrame) (s : List (List (List ℕ))) (r : List Cell) (a : Found)
      → Leads v (visiting pl fs s (type_back t r) a) (going fs s r (with_arg v s pl (type_arg t) a))
  at-type (of_primitive l) v pl fs s r a =
      leads-step v _ _ (ap (going fs s r) (misfits-plain v pl.kind pl.room pl.is_kept l (of_primitive l) a (plain-misfits pl.kind (of_primitive l) refl)))
  at-type never_type v pl fs s r a =
      leads-step v _ _ (ap (going fs s r) (misfits-plain v pl.kind pl.room pl.is_kept never never_type a (plain-misfits pl.kind never_type refl)))
  at-type (variable_type n) v pl fs s r a =
      leads-step v _ _ (ap (going fs s r)
      (ap (λ m. using v (m ++ variable_use pl.kind n ∷ []) (deepening pl.room (keeping pl.is_kept (λ cs. resolved.variable_cell pl.kind n ∷ cs) a))) (variable-misfits pl.kind n)
      ∙ ap (using v (type_misfits pl.kind (variable_type n) ++ variable_use pl.kind n ∷ [])) (sink-one pl.room (keeping pl.is_kept (λ cs. resolved.variable_cell pl.kind n ∷ cs) a))))
  at-type (named n args) v pl fs s r a =
      let f = named_frame v pl n (length r) in
      let ks = kinds_of_struct (known (seen_items v) n) in
      let z : args_count args ≡ 0 + args_count args = omega arith in
      let h : length r ≤ length r = omega arith in
      leads-step v (visiting pl fs s (type_back (named n args) r) a) (going (args_frame f ks (args_count args) ∷ fs) s (args_back args r) (named_found v pl n a (args_count args)))
      (ap (λ k. going (args_frame f ks k ∷ fs) s (args_back args r) (named_found v pl n a k)) (count-args args r))
      ▸ leads-is v _ _ (ap (λ k. going (args_frame f ks k ∷ fs) s (args_back args r) (named_found v pl n a (args_count args))) z)
      ▸ at-args args v fs f ks 0 s r (named_found v pl n a (args_count args)) h
      ▸ leads-close v (args_frame f ks 0) fs s r r (with_arguments_found v s ks f.room f.is_kept args (named_found v pl n a (args_count args))) refl (down r r (same r))
      ▸ leads-is v _ _ (ap (going fs s r) (with-named v s pl n args a))
  at-type (reference_to l m t) v pl fs s r a =
      let f : List ResolvedCell → List ResolvedCell = λ cs. resolved.reference_cell (optional_region (params v) s l) m ∷ cs in
      leads-step v (visiting pl fs s (type_back (reference_to l m t) r) a)
      (visiting (type_place (deeper pl.room) pl.is_kept) fs s (type_back t r) (using v (sort_misfits pl.kind ++ lifetime_uses s l) (deepening pl.room (keeping pl.is_kept f a)))) refl
      ▸ at-type t v (type_place (deeper pl.room) pl.is_kept) fs s r (using v (sort_misfits pl.kind ++ lifetime_uses s l) (deepening pl.room (keeping pl.is_kept f a)))
      ▸ leads-is v _ _ (ap (going fs s r)
      (with-inside v pl (reference_to l m t) (lifetime_uses s l) (type_uses (seen_items v) s of_type t) (type_depth (seen_items v) t) (type_before (seen_items v) (params v) s of_type t) f a (plain-misfits pl.kind (reference_to l m t) refl) (optional-variables s l)))
  at-type (pointer_to m t) v pl fs s r a =
      let f : List ResolvedCell → List ResolvedCell = λ cs. resolved.node_cell (raw_pointer m) 1 ∷ cs in
      leads-step v (visiting pl fs s (type_back (pointer_to m t) r) a)
      (visiting (type_place (deeper pl.room) pl.is_kept) fs s (type_back t r) (using v (sort_misfits pl.kind ++ []) (deepening pl.room (keeping pl.is_kept f a)))) refl
      ▸ at-type t v (type_place (deeper pl.room) pl.is_kept) fs s r (using v (sort_misfits pl.kind ++ []) (deepening pl.room (keeping pl.is_kept f a)))
      ▸ leads-is v _ _ (ap (going fs s r)
      (with-inside v pl (pointer_to m t) [] (type_uses (seen_items v) s of_type t) (type_depth (seen_items v) t) (type_before (seen_items v) (params v) s of_type t) f a (plain-misfits pl.kind (pointer_to m t) refl) refl))
  at-type (slice_of t) v pl fs s r a =
      let f : List ResolvedCell → List ResolvedCell = λ cs. resolved.node_cell slice 1 ∷ cs in
      leads-step v (visiting pl fs s (type_back (slice_of t) r) a)
      (visiting (type_place (deeper pl.room) pl.is_kept) fs s (type_back t r) (using v (sort_misfits pl.kind ++ []) (deepening pl.room (keeping pl.is_kept f a)))) refl
      ▸ at-type t v (type_place (deeper pl.room) pl.is_kept) fs s r (using v (sort_misfits pl.kind ++ []) (deepening pl.room (keeping pl.is_kept f a)))
      ▸ leads-is v _ _ (ap (going fs s r)
      (with-inside v pl (slice_of t) [] (type_uses (seen_items v) s of_type t) (type_depth (seen_items v) t) (type_before (seen_items v) (params v) s of_type t) f a (plain-misfits pl.kind (slice_of t) refl) refl))
  at-type (array_of t n) v pl fs s r a =
      let f : List ResolvedCell → List ResolvedCell = λ cs. length_cell (params v) n ∷ resolved.node_cell array 2 ∷ cs in
      leads-step v (visiting pl fs s (type_back (array_of t n) r) a)
      (visiting (type_place (deeper pl.room) pl.is_kept) fs s (type_back t r) (using v (sort_misfits pl.kind ++ length_uses n) (deepening pl.room (keeping pl.is_kept f a)))) refl
      ▸ at-type t v (type_place (deeper pl.room) pl.is_kept) fs s r (using v (sort_misfits pl.kind ++ length_uses n) (deepening pl.room (keeping pl.is_kept f a)))
      ▸ leads-is v _ _ (ap (going fs s r)
      (with-array v pl (array_of t n) (length_uses n) (type_uses (seen_items v) s of_type t) (type_depth (seen_items v) t) (type_before (seen_items v) (params v) s of_type t) f a (plain-misfits pl.kind (array_of t n) refl)))
  at-type (tuple_of ts) v pl fs s r a =
      let f = types_frame (deeper pl.room) pl.is_kept false (length r) (length r) in
      let k = types_count ts in
      let h : length r ≤ length r = omega arith in
      leads-step v (visiting pl fs s (type_back (tuple_of ts) r) a) (going (f ∷ fs) s (types_back ts r) (tuple_found v pl a k))
      (ap (λ j. going (f ∷ fs) s (types_back ts r) (tuple_found v pl a j)) (count-types ts r))
      ▸ at-types ts v fs f s r (tuple_found v pl a k) refl h
      ▸ leads-close v f fs s r r (with_types v s f.room f.is_kept ts (tuple_found v pl a k)) refl (down r r (same r))
      ▸ leads-is v _ _ (ap (going fs s r)
      (with-inside v pl (tuple_of ts) (items_use k ∷ []) (types_uses (seen_items v) s ts) (types_depth (seen_items v) ts) (types_before (seen_items v) (params v) s ts) (λ cs. resolved.node_cell tuple k ∷ cs) a (plain-misfits pl.kind (tuple_of ts) refl) refl))
  at-type (fn_of b ts) v pl fs s r a =
      let q = binder_back b r in
      let f = fn_frame pl (length r) (length q) in
      let k = types_count ts in
      let h : length q ≤ length q = omega arith in
      let own = binder_uses s b ++ items_use k ∷ [] in
      leads-step v (visiting pl fs s (type_back (fn_of b ts) r) a) (going (f ∷ fs) (b ∷ s) (types_back ts q) (fn_found v pl s a b k))
      (ap (λ c. going (f ∷ fs) (c ∷ s) (types_back ts q) (fn_found v pl s a c (count_above (length q) (types_back ts q)))) (names-of b r (types_back ts q) (types-extends ts q))
      ∙ ap (λ j. going (f ∷ fs) (b ∷ s) (types_back ts q) (fn_found v pl s a b j)) (count-types ts q))
      ▸ at-types ts v fs f (b ∷ s) q (fn_found v pl s a b k) refl h
      ▸ leads-close v f fs (b ∷ s) q r (with_types v (b ∷ s) f.room f.is_kept ts (fn_found v pl s a b k)) refl (down q r (binder-extends b r))
      ▸ leads-is v _ _ (ap (going fs s r)
      (with-inside v pl (fn_of b ts) own (types_uses (seen_items v) (b ∷ s) ts) (types_depth (seen_items v) ts) (types_before (seen_items v) (params v) (b ∷ s) ts)
      (λ cs. resolved.node_cell tuple 0 ∷ resolved.node_cell (fn_ptr (length b)) (suc k) ∷ cs) a (plain-misfits pl.kind (fn_of b ts) refl) (binder-variables s b (items_use k ∷ []) refl)
      ∙ ap (λ us. using v (type_misfits pl.kind (fn_of b ts) ++ us) (sinking pl.room (suc (types_depth (seen_items v) ts)) (keeping pl.is_kept (type_before (seen_items v) (params v) s pl.kind (fn_of b ts)) a)))
      (append_assoc (binder_uses s b) (items_use k ∷ []) (types_uses (seen_items v) (b ∷ s) ts))))
  at-type (fn_to b ts o) v pl fs s r a = fn-to-found v pl fs s b ts o r a
      (at-type o v (type_place (deeper pl.room) pl.is_kept) (fn_frame pl (length r) (length (binder_back b r)) ∷ fs) (b ∷ s) (types_back ts (binder_back b r)) (fn_to_found v pl s a b (suc (types_count ts))))
      (at-types ts v fs (fn_frame pl (length r) (length (binder_back b r))) (b ∷ s) (binder_back b r)
      (with_arg v (b ∷ s) (type_place (deeper pl.room) pl.is_kept) (type_arg o) (fn_to_found v pl s a b (suc (types_count ts)))) refl)
  at-type (dyn_of i is) v pl fs s r a = dyn-found v pl fs s i is r a
      (λ x e h. at-items is v fs (items_frame (deeper pl.room) pl.is_kept (length r)) s (item_back i r) x refl h)
      (λ x h. at-item i v fs (items_frame (deeper pl.room) pl.is_kept (length r)) s r x refl h)

  pub at-types : (ts : Types) (v : Sight) (fs : List WalkFrame) (f : WalkFrame) (s : List (List (List ℕ))) (r : List Cell) (a : Found) → f.holds ≡ types_inside → f.inner ≤ length r
      → Leads v (going (f ∷ fs) s (types_back ts r) a) (going (f ∷ fs) s r (with_types v s f.room f.is_kept ts a))
  at-types no_types v fs f s r a e h = leads-is v _ _ (ap (going (f ∷ fs) s r) (with-nothing v f.room f.is_kept a))
  at-types (and_type t ts) v fs f s r a e h =
      let q = type_back t r in
      let x = with_types v s f.room f.is_kept ts a in
      let lt : length r < length q = type-longer t r in
      let k : f.inner ≤ length q = omega arith in
      let m : f.inner < length q = omega arith in
      at-types ts v fs f s q a e k
      ▸ leads-inside v f fs s q x (visiting (type_place f.room f.is_kept) (f ∷ fs) s q x) m (ap (λ j. inside_step v j f fs s q x) e)
      ▸ at-type t v (type_place f.room f.is_kept) (f ∷ fs) s r x
      ▸ leads-is v _ _ (ap (going (f ∷ fs) s r) (and-type v s f.room f.is_kept t ts a))

  pub at-args : (args : Args) (v : Sight) (fs : List WalkFrame) (f : WalkFrame) (ks : List Sort) (i : ℕ) (s : List (List (List ℕ))) (r : List Cell) (a : Found) → f.inner ≤ length r
      → Leads v (going (args_frame f ks (i + args_count args) ∷ fs) s (args_back args r) a) (going (args_frame f ks i ∷ fs) s r (with_arguments_found v s (drop i ks) f.room f.is_kept args a))
  at-args no_args v fs f ks i s r a h =
      let e : i + 0 ≡ i = omega arith in
      leads-is v _ _ (ap (λ j. going (args_frame f ks j ∷ fs) s r a) e ∙ ap (going (args_frame f ks i ∷ fs) s r) (with-nothing v f.room f.is_kept a))
  at-args (and_arg x args) v fs f ks i s r a h =
      let q = arg_back x r in
      let e : i + suc (args_count args) ≡ suc i + args_count args = omega arith in
      let lt : length r < length q = arg-longer x r in
      let k : f.inner ≤ length q = omega arith in
      let m : f.inner < length q = omega arith in
      let y = with_arguments_found v s (drop (suc i) ks) f.room f.is_kept args a in
      let pl = arg_place (next_kind (drop i ks)) f.room f.is_kept in
      leads-is v _ _ (ap (λ j. going (args_frame f ks j ∷ fs) s (args_back args q) a) e)
      ▸ at-args args v fs f ks (suc i) s q a k
      ▸ leads-inside v (args_frame f ks (suc i)) fs s q y (visiting pl (args_frame f ks i ∷ fs) s q y) m refl
      ▸ at-arg x v pl (args_frame f ks i ∷ fs) s r y
      ▸ leads-is v _ _ (ap (λ z. going (args_frame f ks i ∷ fs) s r (with_arg v s pl x (with_arguments_found v s z f.room f.is_kept args a))) (drop-other i ks)
      ∙ ap (going (args_frame f ks i ∷ fs) s r) (and-arg v s (drop i ks) f.room f.is_kept x args a))

  pub at-arg : (x : Arg) (v : Sight) (pl : Place) (fs : List WalkFrame) (s : List (List (List ℕ))) (r : List Cell) (a : Found)
      → Leads v (visiting pl fs s (arg_back x r) a) (going fs s r (with_arg v s pl x a))
  at-arg (lifetime_arg n) v pl fs s r a =
      leads-step v _ _ (ap (going fs s r) (nothing-inside v pl.room pl.is_kept (lifetime_arg_uses s pl.kind n) (λ cs. resolved.lifetime_cell (region_of (params v) s n) ∷ cs) a))
  at-arg (number_arg n) v pl fs s r a =
      leads-step v _ _ (ap (going fs s r) (nothing-inside v pl.room pl.is_kept (number_arg_uses pl.kind n) (λ cs. resolved.node_cell (value n) 0 ∷ cs) a))
  at-arg (type_arg t) v pl fs s r a = at-type t v pl fs s r a

  pub at-item : (i : Item) (v : Sight) (fs : List WalkFrame) (f : WalkFrame) (s : List (List (List ℕ))) (r : List Cell) (a : Found) → f.holds ≡ items_inside → f.inner ≤ length r
      → Leads v (going (f ∷ fs) s (item_back i r) a) (going (f ∷ fs) s r (with_item v s f.room f.is_kept i a))
  at-item (bound_item b n args) v fs f s r a e h =
      let q = binder_back b r in
      let g = bound_frame v f n (length r) (length q) in
      let ks = kinds_of_trait (known (seen_items v) n) in
      let k = args_count args in
      let z : args_count args ≡ 0 + args_count args = omega arith in
      let j : length q ≤ length q = omega arith in
      let lt : length r < length (item_back (bound_item b n args) r) = item-longer (bound_item b n args) r in
      let m : f.inner < length (item_back (bound_item b n args) r) = omega arith in
      leads-inside v f fs s (item_back (bound_item b n args) r) a (going (args_frame g ks k ∷ f ∷ fs) (b ∷ s) (args_back args q) (bound_found v f.is_kept s n a b k)) m
      (ap (λ x. inside_step v x f fs s (item_back (bound_item b n args) r) a) e
      ∙ ap (λ c. going (args_frame g ks (count_above (length q) (args_back args q)) ∷ f ∷ fs) (c ∷ s) (args_back args q) (bound_found v f.is_kept s n a c (count_above (length q) (args_back args q)))) (names-of b r (args_back args q) (args-extends args q))
      ∙ ap (λ c. going (args_frame g ks c ∷ f ∷ fs) (b ∷ s) (args_back args q) (bound_found v f.is_kept s n a b c)) (count-args args q))
      ▸ leads-is v _ _ (ap (λ c. going (args_frame g ks c ∷ f ∷ fs) (b ∷ s) (args_back args q) (bound_found v f.is_kept s n a b k)) z)
      ▸ at-args args v (f ∷ fs) g ks 0 (b ∷ s) q (bound_found v f.is_kept s n a b k) j
      ▸ leads-close v (args_frame g ks 0) (f ∷ fs) (b ∷ s) q r (with_arguments_found v (b ∷ s) ks g.room g.is_kept args (bound_found v f.is_kept s n a b k)) refl (down q r (binder-extends b r))
      ▸ leads-is v _ _ (ap (going (f ∷ fs) s r) (with-bound v s f.room f.is_kept b n args a))
  at-item (lifetime_item n) v fs f s r a e h =
      let m : f.inner < length (item_back (lifetime_item n) r) = omega arith in
      leads-inside v f fs s (item_back (lifetime_item n) r) a (going (f ∷ fs) s r (using v (lifetime_use s n ∷ []) a)) m (ap (λ x. inside_step v x f fs s (item_back (lifetime_item n) r) a) e)
      ▸ leads-is v _ _ (ap (going (f ∷ fs) s r) (lifetime-found v s f.room f.is_kept n a))

  pub at-items : (is : DynBounds) (v : Sight) (fs : List WalkFrame) (f : WalkFrame) (s : List (List (List ℕ))) (r : List Cell) (a : Found) → f.holds ≡ items_inside → f.inner ≤ length r
      → Leads v (going (f ∷ fs) s (items_back is r) a) (going (f ∷ fs) s r (with_items v s f.room f.is_kept is a))
  at-items no_items v fs f s r a e h = leads-is v _ _ (ap (going (f ∷ fs) s r) (with-nothing v f.room f.is_kept a))
  at-items (and_item i is) v fs f s r a e h =
      let lt : length r < length (item_back i r) = item-longer i r in
      let k : f.inner ≤ length (item_back i r) = omega arith in
      at-items is v fs f s (item_back i r) a e k
      ▸ at-item i v fs f s r (with_items v s f.room f.is_kept is a) e h
      ▸ leads-is v _ _ (ap (going (f ∷ fs) s r) (and-item v s f.room f.is_kept i is a))

-- ---- the laws
reached : (v : Sight) (x z : WalkState) → Leads v x z → WalkReaches v x z
reached v x z l = l.on z (0, refl)

pub machine_resolves : MachineResolves
machine_resolves v pl x r a =
    reached v (visiting pl [] [] (arg_back x r) a) (finished r (with_arg v [] pl x a)) (at-arg x v pl [] [] r a ▸ leads-step v (going [] [] r (with_arg v [] pl x a)) (finished r (with_arg v [] pl x a)) refl)

pub args_resolved : ArgsResolved
args_resolved v ks room kept args r a =
    let f : WalkFrame = record { start = length r; inner = length r; binds = false; holds = types_inside; room = room; is_kept = kept } in
    let k = args_count args in
    let z : args_count args ≡ 0 + args_count args = omega arith in
    let h : length r ≤ length r = omega arith in
    reached v _ _
    (leads-is v _ _ (ap (λ j. going (args_frame f ks j ∷ []) [] (args_back args r) a) z)
    ▸ at-args args v [] f ks 0 [] r a h
    ▸ leads-close v (args_frame f ks 0) [] [] r r (with_arguments_found v [] ks room kept args a) refl (down r r (same r))
    ▸ leads-step v (going [] [] r (with_arguments_found v [] ks room kept args a)) (finished r (with_arguments_found v [] ks room kept args a)) refl)
