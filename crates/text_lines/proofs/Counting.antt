-- What stands inside a cell: where it begins, of how many parts it is, which names its binder has.
use Rattle.std.proofs.Common.{◌≡◌, ℕ, zero, suc, ◌+◌, ◌-◌, ◌<◌, ◌≤◌, Bool, true, false, List, [], ◌∷◌, ◌++◌, map, length, drop, refl, sym, ap, ◌∙◌, arith, length-append, append_assoc, inl, inr}
use Rattle.std.specs.Prelude.{if◌then◌else◌, min, nat_le, nat_lt, ◌==◌, not}
use Rattle.std.proofs.lemmas.Bool.Decides.{nat_tests, leb_tells}
use Rattle.std.proofs.lemmas.List.{append-nil, length-drop}
use Rattle.std.proofs.Math.Seq.{drop-append_seam}
use Rattle.text_language.specs.Promised.Syntax.{TypeTree, of_primitive, never_type, variable_type, named, reference_to, pointer_to, slice_of, array_of, tuple_of, fn_of, fn_to, dyn_of, Types, no_types, and_type, Args, no_args, and_arg, Arg, lifetime_arg, number_arg, type_arg, Item, bound_item, lifetime_item, DynBounds, no_items, and_item}
use Rattle.text_language.specs.Uses.{ItemShape, bound_shape, types_count, args_count, item_shape, item_shapes, has_names}
use Rattle.text_lines.specs.Cells.{Cell, primitive_cell, never_cell, slice_cell, variable_cell, lifetime_cell, binder_cell, number_cell, named_cell, reference_cell, pointer_cell, array_cell, tuple_cell, dyn_cell, fn_cell, fn_to_cell, bound_cell}
use Rattle.text_lines.specs.Back.{binder_back, type_back, types_back, args_back, arg_back, item_back, items_back, begins, parts, parts_above, count_above, names_before, names_between, down_to, shape_of}

-- ---- tests
pub if-true : {A : Type 0} (b : Bool) (x y : A) → b ≡ true → (if b then x else y) ≡ x
if-true true x y e = refl
if-true false x y e = absurd cc

pub if-false : {A : Type 0} (b : Bool) (x y : A) → b ≡ false → (if b then x else y) ≡ y
if-false true x y e = absurd cc
if-false false x y e = refl

not-le : (a b : ℕ) → b < a → nat_le a b ≡ false
not-le a b h = grind (arith, nat_tests)

pub not-lt : (a b : ℕ) → b ≤ a → nat_lt a b ≡ false
not-lt a b h = grind (arith, nat_tests)

pub is-lt : (a b : ℕ) → a < b → nat_lt a b ≡ true
is-lt a b h = grind (arith, nat_tests)

is-le : (a b : ℕ) → a ≤ b → nat_le a b ≡ true
is-le a b h = grind (arith, nat_tests)

pub is-eq : (a b : ℕ) → a ≡ b → (a == b) ≡ true
is-eq a b h = grind (arith, nat_tests)

pub not-eq : (a b : ℕ) → b < a → (a == b) ≡ false
not-eq a b h = grind (arith, nat_tests)

-- ---- a list that ends with another
pub Extends : List Cell → List Cell → Type 0
Extends xs r = (ys : List Cell) × (xs ≡ ys ++ r)

pub same : (r : List Cell) → Extends r r
unfolding Extends
same r = ([], refl)

one-more : (c : Cell) (xs r : List Cell) → Extends xs r → Extends (c ∷ xs) r
unfolding Extends
one-more c xs r (ys, e) = (c ∷ ys, ap (λ x. c ∷ x) e)

pub further : (xs r q : List Cell) → Extends xs r → Extends r q → Extends xs q
unfolding Extends
further xs r q (ys, e) (zs, f) = (ys ++ zs, e ∙ ap (λ x. ys ++ x) f ∙ sym (append_assoc ys zs q))

pub longer : (xs r : List Cell) → Extends xs r → length r ≤ length xs
unfolding Extends
longer xs r (ys, e) = let h : length xs ≡ length ys + length r = ap length e ∙ length-append ys r in omega arith

pub down : (xs r : List Cell) → Extends xs r → down_to (length r) xs ≡ r
unfolding Extends
down xs r (ys, e) =
    let h : length xs ≡ length ys + length r = ap length e ∙ length-append ys r in
    let k : length xs - length r ≡ length ys = omega arith in
    ap (λ n. drop n xs) k ∙ ap (drop (length ys)) e ∙ drop-append_seam ys r

pub binder-extends : (b : List (List ℕ)) (r : List Cell) → Extends (binder_back b r) r
binder-extends [] r = same r
binder-extends (n ∷ ns) r = further (binder_back ns (binder_cell n ∷ r)) (binder_cell n ∷ r) r (binder-extends ns (binder_cell n ∷ r)) (one-more (binder_cell n) r r (same r))

mutual
  pub type-extends : (t : TypeTree) (r : List Cell) → Extends (type_back t r) r
  type-extends (of_primitive p) r = one-more (primitive_cell p) r r (same r)
  type-extends never_type r = one-more never_cell r r (same r)
  type-extends (variable_type n) r = one-more (variable_cell n) r r (same r)
  type-extends (named n args) r = one-more (named_cell n (length r)) (args_back args r) r (args-extends args r)
  type-extends (reference_to l m t) r = one-more (reference_cell l m) (type_back t r) r (type-extends t r)
  type-extends (pointer_to m t) r = one-more (pointer_cell m) (type_back t r) r (type-extends t r)
  type-extends (slice_of t) r = one-more slice_cell (type_back t r) r (type-extends t r)
  type-extends (array_of t n) r = one-more (array_cell n) (type_back t r) r (type-extends t r)
  type-extends (tuple_of ts) r = one-more (tuple_cell (length r)) (types_back ts r) r (types-extends ts r)
  type-extends (fn_of b ts) r =
      one-more (fn_cell (length r) (length (binder_back b r))) (types_back ts (binder_back b r)) r (further (types_back ts (binder_back b r)) (binder_back b r) r (types-extends ts (binder_back b r)) (binder-extends b r))
  type-extends (fn_to b ts o) r =
      one-more (fn_to_cell (length r) (length (binder_back b r))) (type_back o (types_back ts (binder_back b r))) r
      (further (type_back o (types_back ts (binder_back b r))) (types_back ts (binder_back b r)) r (type-extends o (types_back ts (binder_back b r)))
      (further (types_back ts (binder_back b r)) (binder_back b r) r (types-extends ts (binder_back b r)) (binder-extends b r)))
  type-extends (dyn_of i is) r = one-more (dyn_cell (length r)) (items_back is (item_back i r)) r (further (items_back is (item_back i r)) (item_back i r) r (items-extends is (item_back i r)) (item-extends i r))

  pub types-extends : (ts : Types) (r : List Cell) → Extends (types_back ts r) r
  types-extends no_types r = same r
  types-extends (and_type t ts) r = further (types_back ts (type_back t r)) (type_back t r) r (types-extends ts (type_back t r)) (type-extends t r)

  pub args-extends : (args : Args) (r : List Cell) → Extends (args_back args r) r
  args-extends no_args r = same r
  args-extends (and_arg a args) r = further (args_back args (arg_back a r)) (arg_back a r) r (args-extends args (arg_back a r)) (arg-extends a r)

  pub arg-extends : (a : Arg) (r : List Cell) → Extends (arg_back a r) r
  arg-extends (lifetime_arg n) r = one-more (lifetime_cell n) r r (same r)
  arg-extends (number_arg n) r = one-more (number_cell n) r r (same r)
  arg-extends (type_arg t) r = type-extends t r

  pub item-extends : (i : Item) (r : List Cell) → Extends (item_back i r) r
  item-extends (bound_item b n args) r =
      one-more (bound_cell n (length r) (length (binder_back b r))) (args_back args (binder_back b r)) r (further (args_back args (binder_back b r)) (binder_back b r) r (args-extends args (binder_back b r)) (binder-extends b r))
  item-extends (lifetime_item n) r = one-more (lifetime_cell n) r r (same r)

  pub items-extends : (is : DynBounds) (r : List Cell) → Extends (items_back is r) r
  items-extends no_items r = same r
  items-extends (and_item i is) r = further (items_back is (item_back i r)) (item_back i r) r (items-extends is (item_back i r)) (item-extends i r)

-- ---- a part: a cell with what stands inside it
pub record Part (xs r : List Cell) : Type 0 where
  pub cell : Cell
  pub body : List Cell
  pub is : xs ≡ cell ∷ body
  pub rest : Extends body r
  pub from : begins xs ≡ length r

min-rest : (xs r : List Cell) → Extends xs r → min (length r) (length xs) ≡ length r
min-rest xs r h = let k : length r ≤ length xs = longer xs r h in omega arith

pub type-part : (t : TypeTree) (r : List Cell) → Part (type_back t r) r
type-part (of_primitive p) r = record { cell = primitive_cell p; body = r; is = refl; rest = same r; from = refl }
type-part never_type r = record { cell = never_cell; body = r; is = refl; rest = same r; from = refl }
type-part (variable_type n) r = record { cell = variable_cell n; body = r; is = refl; rest = same r; from = refl }
type-part (named n args) r = record { cell = named_cell n (length r); body = args_back args r; is = refl; rest = args-extends args r; from = min-rest (args_back args r) r (args-extends args r) }
type-part (reference_to l m t) r = record { cell = reference_cell l m; body = type_back t r; is = refl; rest = type-extends t r; from = (type-part t r).from }
type-part (pointer_to m t) r = record { cell = pointer_cell m; body = type_back t r; is = refl; rest = type-extends t r; from = (type-part t r).from }
type-part (slice_of t) r = record { cell = slice_cell; body = type_back t r; is = refl; rest = type-extends t r; from = (type-part t r).from }
type-part (array_of t n) r = record { cell = array_cell n; body = type_back t r; is = refl; rest = type-extends t r; from = (type-part t r).from }
type-part (tuple_of ts) r = record { cell = tuple_cell (length r); body = types_back ts r; is = refl; rest = types-extends ts r; from = min-rest (types_back ts r) r (types-extends ts r) }
type-part (fn_of b ts) r =
    let xs = types_back ts (binder_back b r) in
    let h = further xs (binder_back b r) r (types-extends ts (binder_back b r)) (binder-extends b r) in
    record { cell = fn_cell (length r) (length (binder_back b r)); body = xs; is = refl; rest = h; from = min-rest xs r h }
type-part (fn_to b ts o) r =
    let us = types_back ts (binder_back b r) in
    let h = further (type_back o us) us r (type-extends o us) (further us (binder_back b r) r (types-extends ts (binder_back b r)) (binder-extends b r)) in
    record { cell = fn_to_cell (length r) (length (binder_back b r)); body = type_back o us; is = refl; rest = h; from = min-rest (type_back o us) r h }
type-part (dyn_of i is) r =
    let h = further (items_back is (item_back i r)) (item_back i r) r (items-extends is (item_back i r)) (item-extends i r) in
    record { cell = dyn_cell (length r); body = items_back is (item_back i r); is = refl; rest = h; from = min-rest (items_back is (item_back i r)) r h }

pub arg-part : (a : Arg) (r : List Cell) → Part (arg_back a r) r
arg-part (lifetime_arg n) r = record { cell = lifetime_cell n; body = r; is = refl; rest = same r; from = refl }
arg-part (number_arg n) r = record { cell = number_cell n; body = r; is = refl; rest = same r; from = refl }
arg-part (type_arg t) r = type-part t r

part-longer : (xs r : List Cell) → Part xs r → length r < length xs
part-longer xs r p = let h : length r ≤ length p.body = longer p.body r p.rest in let e : length xs ≡ suc (length p.body) = ap length p.is in omega arith

pub type-longer : (t : TypeTree) (r : List Cell) → length r < length (type_back t r)
type-longer t r = part-longer (type_back t r) r (type-part t r)

pub arg-longer : (a : Arg) (r : List Cell) → length r < length (arg_back a r)
arg-longer a r = part-longer (arg_back a r) r (arg-part a r)

item-cell : Item → List Cell → Cell
item-cell (bound_item b n args) r = bound_cell n (length r) (length (binder_back b r))
item-cell (lifetime_item n) r = lifetime_cell n

item-body : Item → List Cell → List Cell
item-body (bound_item b n args) r = args_back args (binder_back b r)
item-body (lifetime_item n) r = r

item-part : (i : Item) (r : List Cell) → (item_back i r ≡ item-cell i r ∷ item-body i r) × Extends (item-body i r) r × (begins (item_back i r) ≡ length r)
unfolding item-cell item-body
item-part (bound_item b n args) r =
    let xs = args_back args (binder_back b r) in
    let h = further xs (binder_back b r) r (args-extends args (binder_back b r)) (binder-extends b r) in
    (refl, h, min-rest xs r h)
item-part (lifetime_item n) r = (refl, same r, refl)

pub item-longer : (i : Item) (r : List Cell) → length r < length (item_back i r)
item-longer i r =
    let p = item-part i r in
    let h : length r ≤ length (item-body i r) = longer (item-body i r) r p.1 in
    let e : length (item_back i r) ≡ suc (length (item-body i r)) = ap length p.0 in
    omega arith

-- ---- counting
pub parts-none : (start end : ℕ) (r later : List Cell) → end ≤ start → parts start end r later ≡ later
parts-none start end [] later h = refl
parts-none start end (c ∷ r) later h = if-true (nat_le end start) later _ (is-le end start h)

-- what stands further inside is passed over
pub parts-skip : (start : ℕ) (ys r later : List Cell) → parts start (length r) (ys ++ r) later ≡ parts start (length r) r later
parts-skip start [] r later = refl
parts-skip start (y ∷ ys) r later = elim (leb_tells (length r) start) [
  | inl h ↦ parts-none start (length r) (y ∷ (ys ++ r)) later h.1 ∙ sym (parts-none start (length r) r later h.1)
  | inr h ↦
      let l : length (ys ++ r) ≡ length ys + length r = length-append ys r in
      let m : length r < suc (length (ys ++ r)) = omega arith in
      if-false (nat_le (length r) start) later _ h.0 ∙ if-false (suc (length (ys ++ r)) == length r) _ _ (not-eq (suc (length (ys ++ r))) (length r) m) ∙ parts-skip start ys r later
]

-- one part
parts-part : (start : ℕ) (c : Cell) (body r later : List Cell) → Extends body r → begins (c ∷ body) ≡ length r → start ≤ length r
    → parts start (length (c ∷ body)) (c ∷ body) later ≡ parts start (length r) r (c ∷ later)
unfolding Extends
parts-part start c body r later (ys, e) f h =
    let l : length body ≡ length ys + length r = ap length e ∙ length-append ys r in
    let m : start < suc (length body) = omega arith in
    if-false (nat_le (suc (length body)) start) later _ (not-le (suc (length body)) start m) ∙ if-true (suc (length body) == suc (length body)) _ _ (is-eq (suc (length body)) (suc (length body)) refl)
    ∙ ap (λ n. parts start n body (c ∷ later)) f ∙ ap (λ x. parts start (length r) x (c ∷ later)) e ∙ parts-skip start ys r (c ∷ later)

parts-of : (start : ℕ) (xs r later : List Cell) (p : Part xs r) → start ≤ length r → parts start (length xs) xs later ≡ parts start (length r) r (p.cell ∷ later)
parts-of start xs r later p h =
    ap (λ x. parts start (length x) x later) p.is ∙ parts-part start p.cell p.body r later p.rest (ap begins (sym p.is) ∙ p.from) h

pub parts-one : (start : ℕ) (c : Cell) (body later : List Cell) → start < suc (length body) → parts start (suc (length body)) (c ∷ body) later ≡ parts start (begins (c ∷ body)) body (c ∷ later)
parts-one start c body later m =
    if-false (nat_le (suc (length body)) start) later _ (not-le (suc (length body)) start m) ∙ if-true (suc (length body) == suc (length body)) _ _ (is-eq (suc (length body)) (suc (length body)) refl)

-- the parts' own cells, before others
type-cells : Types → List Cell → List Cell → List Cell
type-cells no_types r later = later
type-cells (and_type t ts) r later = (type-part t r).cell ∷ type-cells ts (type_back t r) later

types-parts : (start : ℕ) (ts : Types) (r later : List Cell) → start ≤ length r → parts start (length (types_back ts r)) (types_back ts r) later ≡ parts start (length r) r (type-cells ts r later)
unfolding type-cells
types-parts start no_types r later h = refl
types-parts start (and_type t ts) r later h =
    let k : length r ≤ length (type_back t r) = longer (type_back t r) r (type-extends t r) in
    let m : start ≤ length (type_back t r) = omega arith in
    types-parts start ts (type_back t r) later m ∙ parts-of start (type_back t r) r (type-cells ts (type_back t r) later) (type-part t r) h

type-cells-length : (ts : Types) (r later : List Cell) → length (type-cells ts r later) ≡ types_count ts + length later
unfolding type-cells
type-cells-length no_types r later = let e : length later ≡ 0 + length later = omega arith in e
type-cells-length (and_type t ts) r later = let e : suc (types_count ts + length later) ≡ suc (types_count ts) + length later = omega arith in ap suc (type-cells-length ts (type_back t r) later) ∙ e

pub count-types : (ts : Types) (r : List Cell) → count_above (length r) (types_back ts r) ≡ types_count ts
count-types ts r =
    let h : length r ≤ length r = omega arith in
    let z : types_count ts + zero ≡ types_count ts = omega arith in
    ap length (types-parts (length r) ts r [] h ∙ parts-none (length r) (length r) r (type-cells ts r []) h) ∙ type-cells-length ts r [] ∙ z

pub count-output : (ts : Types) (o : TypeTree) (r : List Cell) → count_above (length r) (type_back o (types_back ts r)) ≡ suc (types_count ts)
count-output ts o r =
    let us = types_back ts r in
    let h : length r ≤ length r = omega arith in
    let k : length r ≤ length us = longer us r (types-extends ts r) in
    let c = (type-part o us).cell in
    let z : types_count ts + suc zero ≡ suc (types_count ts) = omega arith in
    ap length (parts-of (length r) (type_back o us) us [] (type-part o us) k ∙ types-parts (length r) ts r (c ∷ []) h ∙ parts-none (length r) (length r) r (type-cells ts r (c ∷ [])) h)
    ∙ type-cells-length ts r (c ∷ []) ∙ z

arg-cells : Args → List Cell → List Cell → List Cell
arg-cells no_args r later = later
arg-cells (and_arg a args) r later = (arg-part a r).cell ∷ arg-cells args (arg_back a r) later

args-parts : (start : ℕ) (args : Args) (r later : List Cell) → start ≤ length r → parts start (length (args_back args r)) (args_back args r) later ≡ parts start (length r) r (arg-cells args r later)
unfolding arg-cells
args-parts start no_args r later h = refl
args-parts start (and_arg a args) r later h =
    let k : length r ≤ length (arg_back a r) = longer (arg_back a r) r (arg-extends a r) in
    let m : start ≤ length (arg_back a r) = omega arith in
    args-parts start args (arg_back a r) later m ∙ parts-of start (arg_back a r) r (arg-cells args (arg_back a r) later) (arg-part a r) h

arg-cells-length : (args : Args) (r : List Cell) → length (arg-cells args r []) ≡ args_count args
unfolding arg-cells
arg-cells-length no_args r = refl
arg-cells-length (and_arg a args) r = ap suc (arg-cells-length args (arg_back a r))

pub count-args : (args : Args) (r : List Cell) → count_above (length r) (args_back args r) ≡ args_count args
count-args args r =
    let h : length r ≤ length r = omega arith in
    ap length (args-parts (length r) args r [] h ∙ parts-none (length r) (length r) r (arg-cells args r []) h) ∙ arg-cells-length args r

-- ---- the items of a `dyn`
item-cells : DynBounds → List Cell → List Cell
item-cells no_items r = []
item-cells (and_item i is) r = item-cell i r ∷ item-cells is (item_back i r)

items-parts : (start : ℕ) (is : DynBounds) (r later : List Cell) → start ≤ length r → parts start (length (items_back is r)) (items_back is r) later ≡ parts start (length r) r (item-cells is r ++ later)
unfolding item-cells
items-parts start no_items r later h = refl
items-parts start (and_item i is) r later h =
    let k : length r ≤ length (item_back i r) = longer (item_back i r) r (item-extends i r) in
    let m : start ≤ length (item_back i r) = omega arith in
    let p = item-part i r in
    items-parts start is (item_back i r) later m
    ∙ ap (λ x. parts start (length x) x (item-cells is (item_back i r) ++ later)) p.0
    ∙ parts-part start (item-cell i r) (item-body i r) r (item-cells is (item_back i r) ++ later) p.1 (ap begins (sym p.0) ∙ p.2) h

is-binder : (b : List (List ℕ)) (r : List Cell) → not (length r == length (binder_back b r)) ≡ has_names b
is-binder [] r = ap not (is-eq (length r) (length r) refl)
is-binder (n ∷ ns) r =
    let h : length (binder_cell n ∷ r) ≤ length (binder_back ns (binder_cell n ∷ r)) = longer (binder_back ns (binder_cell n ∷ r)) (binder_cell n ∷ r) (binder-extends ns (binder_cell n ∷ r)) in
    let k : length r < length (binder_back ns (binder_cell n ∷ r)) = omega arith in
    ap not (is-other (length r) (length (binder_back ns (binder_cell n ∷ r))) k)
  where
    is-other : (a b : ℕ) → a < b → (a == b) ≡ false
    is-other a b h = grind (arith, nat_tests)

item-shaped : (i : Item) (r : List Cell) → shape_of (item-cell i r) ≡ item_shape i
unfolding item-cell
item-shaped (bound_item b n args) r = ap (λ h. item_shape_with h n) (is-binder b r)
  where
    item_shape_with : Bool → List ℕ → ItemShape
    item_shape_with h n = bound_shape h n
item-shaped (lifetime_item n) r = refl

items-shaped : (is : DynBounds) (r : List Cell) → map shape_of (item-cells is r) ≡ item_shapes is
unfolding item-cells
items-shaped no_items r = refl
items-shaped (and_item i is) r = ap (λ x. x ∷ map shape_of (item-cells is (item_back i r))) (item-shaped i r) ∙ ap (λ x. item_shape i ∷ x) (items-shaped is (item_back i r))

pub shapes-above : (i : Item) (is : DynBounds) (r : List Cell) → map shape_of (parts_above (length r) (items_back is (item_back i r))) ≡ item_shape i ∷ item_shapes is
unfolding item-cells
shapes-above i is r =
    let h : length r ≤ length r = omega arith in
    let cs = item-cells (and_item i is) r in
    ap (map shape_of) (items-parts (length r) (and_item i is) r [] h ∙ parts-none (length r) (length r) r (cs ++ []) h ∙ append-nil cs) ∙ items-shaped (and_item i is) r

-- ---- the names of a binder
names-skip : (start inner : ℕ) (ys r : List Cell) (later : List (List ℕ)) → start ≤ length r → inner ≤ length r → names_before start inner (ys ++ r) later ≡ names_before start inner r later
names-skip start inner [] r later h k = refl
names-skip start inner (y ∷ ys) r later h k = passed y (names-skip start inner ys r later h k)
  where
    long : length r ≤ length (ys ++ r)
    long = let l : length (ys ++ r) ≡ length ys + length r = length-append ys r in omega arith

    past : nat_lt (length (ys ++ r)) start ≡ false
    past = let l : length r ≤ length (ys ++ r) = long in let m : start ≤ length (ys ++ r) = omega arith in not-lt (length (ys ++ r)) start m

    within : nat_lt (length (ys ++ r)) inner ≡ false
    within = let l : length r ≤ length (ys ++ r) = long in let m : inner ≤ length (ys ++ r) = omega arith in not-lt (length (ys ++ r)) inner m

    passed : (y : Cell) → names_before start inner (ys ++ r) later ≡ names_before start inner r later → names_before start inner (y ∷ (ys ++ r)) later ≡ names_before start inner r later
    passed (binder_cell n) plain =
        if-false (nat_lt (length (ys ++ r)) start) later _ past ∙ ap (names_before start inner (ys ++ r)) (if-false (nat_lt (length (ys ++ r)) inner) (n ∷ later) later within) ∙ plain
    passed _ plain = if-false (nat_lt (length (ys ++ r)) start) later _ past ∙ plain

pub name-collected : (start inner : ℕ) (n : List ℕ) (r : List Cell) (later : List (List ℕ)) → start ≤ length r → length r < inner → names_before start inner (binder_cell n ∷ r) later ≡ names_before start inner r (n ∷ later)
name-collected start inner n r later h i =
    if-false (nat_lt (length r) start) later _ (not-lt (length r) start h) ∙ ap (names_before start inner r) (if-true (nat_lt (length r) inner) (n ∷ later) later (is-lt (length r) inner i))

names-collected : (start inner : ℕ) (b : List (List ℕ)) (r : List Cell) (later : List (List ℕ)) → start ≤ length r → length (binder_back b r) ≤ inner
    → names_before start inner (binder_back b r) later ≡ names_before start inner r (b ++ later)
names-collected start inner [] r later h k = refl
names-collected start inner (n ∷ ns) r later h k =
    let m : start ≤ length (binder_cell n ∷ r) = omega arith in
    let l : length (binder_cell n ∷ r) ≤ length (binder_back ns (binder_cell n ∷ r)) = longer (binder_back ns (binder_cell n ∷ r)) (binder_cell n ∷ r) (binder-extends ns (binder_cell n ∷ r)) in
    let i : length r < inner = omega arith in
    names-collected start inner ns (binder_cell n ∷ r) later m k ∙ name-collected start inner n r (ns ++ later) h i

names-end : (inner : ℕ) (r : List Cell) (later : List (List ℕ)) → names_before (length r) inner r later ≡ later
names-end inner [] later = refl
names-end inner (c ∷ r) later = ended c
  where
    short : nat_lt (length r) (suc (length r)) ≡ true
    short = let m : length r < suc (length r) = omega arith in is-lt (length r) (suc (length r)) m

    ended : (c : Cell) → names_before (suc (length r)) inner (c ∷ r) later ≡ later
    ended (binder_cell n) = if-true (nat_lt (length r) (suc (length r))) later _ short
    ended _ = if-true (nat_lt (length r) (suc (length r))) later _ short

pub names-of : (b : List (List ℕ)) (r xs : List Cell) → Extends xs (binder_back b r) → names_between (length r) (length (binder_back b r)) xs ≡ b
unfolding Extends
names-of b r xs (ys, e) =
    let s = length r in
    let i = length (binder_back b r) in
    let h : length r ≤ length (binder_back b r) = longer (binder_back b r) r (binder-extends b r) in
    let k : length (binder_back b r) ≤ length (binder_back b r) = omega arith in
    let m : length r ≤ length r = omega arith in
    ap (λ x. names_before s i x []) e ∙ names-skip s i ys (binder_back b r) [] h k ∙ names-collected s i b r [] m k ∙ names-end i r (b ++ []) ∙ append-nil b

-- ---- from where a binder's names are collected
pub names-none : (start inner : ℕ) (r : List Cell) (later : List (List ℕ)) → length r ≤ start → names_before start inner r later ≡ later
names-none start inner [] later h = refl
names-none start inner (c ∷ r) later h = ended c
  where
    short : nat_lt (length r) start ≡ true
    short = let m : length r < start = omega arith in is-lt (length r) start m

    ended : (c : Cell) → names_before start inner (c ∷ r) later ≡ later
    ended (binder_cell n) = if-true (nat_lt (length r) start) later _ short
    ended _ = if-true (nat_lt (length r) start) later _ short

drop-nothing : (n : ℕ) → let none : List Cell = [] in drop n none ≡ none
drop-nothing zero = refl
drop-nothing (suc n) = refl

-- a cell that is in no binder that begins further before
names-past : (start inner : ℕ) (c : Cell) (r : List Cell) (later : List (List ℕ)) → inner ≤ length r → nat_lt (length r) start ≡ false → names_before start inner (c ∷ r) later ≡ names_before start inner r later
names-past start inner (binder_cell n) r later h e =
    if-false (nat_lt (length r) start) later _ e ∙ ap (names_before start inner r) (if-false (nat_lt (length r) inner) (n ∷ later) later (not-lt (length r) inner h))
names-past start inner _ r later h e = if-false (nat_lt (length r) start) later _ e

pub names-jump : (start inner : ℕ) (r : List Cell) (later : List (List ℕ)) → names_before start inner r later ≡ names_before start inner (down_to inner r) later
names-jump start inner [] later = ap (λ x. names_before start inner x later) (sym (drop-nothing (0 - inner)))
names-jump start inner (c ∷ r) later = elim (leb_tells (suc (length r)) inner) [
  | inl h ↦ let small : suc (length r) ≤ inner = h.1 in let e : suc (length r) - inner ≡ 0 = omega arith in ap (λ n. names_before start inner (drop n (c ∷ r)) later) (sym e)
  | inr h ↦
      let great : inner < suc (length r) = h.1 in
      let k : inner ≤ length r = omega arith in
      let e : suc (length r) - inner ≡ suc (length r - inner) = omega arith in
      first start inner c r later k (names-jump start inner r later) ∙ ap (λ n. names_before start inner (drop n (c ∷ r)) later) (sym e)
]
  where
    first : (start inner : ℕ) (c : Cell) (r : List Cell) (later : List (List ℕ)) → inner ≤ length r → names_before start inner r later ≡ names_before start inner (down_to inner r) later
        → names_before start inner (c ∷ r) later ≡ names_before start inner (down_to inner r) later
    first start inner c r later k ih = elim (leb_tells (suc (length r)) start) [
      | inl h ↦ let l : length (c ∷ r) ≤ start = h.1 in let m : length r ≤ start = omega arith in names-none start inner (c ∷ r) later l ∙ sym (names-none start inner r later m) ∙ ih
      | inr h ↦ names-past start inner c r later k h.0 ∙ ih
    ]

pub length-down-to : (start : ℕ) (r : List Cell) → length (down_to start r) ≤ start
length-down-to start r = let e : length (down_to start r) ≡ length r - (length r - start) = length-drop (length r - start) r in omega arith
