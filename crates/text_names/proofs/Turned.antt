-- The cells that were read, turned round.
use Rattle.std.proofs.Common.{◌≡◌, ℕ, List, [], ◌∷◌, ◌++◌, length, reverse, refl, sym, ap, ◌∙◌}
use Rattle.std.proofs.lemmas.List.{reverse-append, length-reverse}
use Rattle.text_language.specs.Promised.Syntax.{TypeTree, of_primitive, never_type, variable_type, named, reference_to, pointer_to, slice_of, array_of, tuple_of, fn_of, fn_to, dyn_of, Types, no_types, and_type, Args, no_args, and_arg, Arg, lifetime_arg, number_arg, type_arg, Item, bound_item, lifetime_item, DynBounds, no_items, and_item}
use Rattle.text_lines.specs.Cells.{Cell, primitive_cell, never_cell, slice_cell, variable_cell, lifetime_cell, binder_cell, number_cell, named_cell, reference_cell, pointer_cell, array_cell, tuple_cell, dyn_cell, fn_cell, fn_to_cell, bound_cell, binder_onto, type_onto, types_onto, args_onto, arg_onto, item_onto, items_onto}
use Rattle.text_lines.specs.Back.{binder_back, type_back, types_back, args_back, arg_back, item_back, items_back}

-- one cell more
put : (xs ys : List Cell) (c : Cell) → reverse xs ≡ ys → reverse (xs ++ c ∷ []) ≡ c ∷ ys
put xs ys c e = reverse-append xs (c ∷ []) ∙ ap (λ z. c ∷ z) e

-- one cell more, which says where it begins
put-at : (xs ys o : List Cell) (c : ℕ → Cell) → reverse xs ≡ ys → reverse (xs ++ c (length o) ∷ []) ≡ c (length (reverse o)) ∷ ys
put-at xs ys o c e = put xs ys (c (length o)) e ∙ ap (λ n. c n ∷ ys) (sym (length-reverse o))

binder-turned : (b : List (List ℕ)) (o : List Cell) → reverse (binder_onto b o) ≡ binder_back b (reverse o)
binder-turned [] o = refl
binder-turned (n ∷ ns) o = binder-turned ns (o ++ binder_cell n ∷ []) ∙ ap (binder_back ns) (put o (reverse o) (binder_cell n) refl)

inner-turned : (b : List (List ℕ)) (o : List Cell) → length (binder_onto b o) ≡ length (binder_back b (reverse o))
inner-turned b o = sym (length-reverse (binder_onto b o)) ∙ ap length (binder-turned b o)

mutual
  pub type-turned : (t : TypeTree) (o : List Cell) → reverse (type_onto t o) ≡ type_back t (reverse o)
  type-turned (of_primitive p) o = put o (reverse o) (primitive_cell p) refl
  type-turned never_type o = put o (reverse o) never_cell refl
  type-turned (variable_type n) o = put o (reverse o) (variable_cell n) refl
  type-turned (named n args) o = put-at (args_onto args o) (args_back args (reverse o)) o (named_cell n) (args-turned args o)
  type-turned (reference_to l m t) o = put (type_onto t o) (type_back t (reverse o)) (reference_cell l m) (type-turned t o)
  type-turned (pointer_to m t) o = put (type_onto t o) (type_back t (reverse o)) (pointer_cell m) (type-turned t o)
  type-turned (slice_of t) o = put (type_onto t o) (type_back t (reverse o)) slice_cell (type-turned t o)
  type-turned (array_of t n) o = put (type_onto t o) (type_back t (reverse o)) (array_cell n) (type-turned t o)
  type-turned (tuple_of ts) o = put-at (types_onto ts o) (types_back ts (reverse o)) o tuple_cell (types-turned ts o)
  type-turned (fn_of b ts) o =
      let q = binder_onto b o in
      let e = types-turned ts q ∙ ap (types_back ts) (binder-turned b o) in
      put-at (types_onto ts q) (types_back ts (binder_back b (reverse o))) o (λ k. fn_cell k (length q)) e
      ∙ ap (λ i. fn_cell (length (reverse o)) i ∷ types_back ts (binder_back b (reverse o))) (inner-turned b o)
  type-turned (fn_to b ts u) o =
      let q = binder_onto b o in
      let e = type-turned u (types_onto ts q) ∙ ap (type_back u) (types-turned ts q ∙ ap (types_back ts) (binder-turned b o)) in
      put-at (type_onto u (types_onto ts q)) (type_back u (types_back ts (binder_back b (reverse o)))) o (λ k. fn_to_cell k (length q)) e
      ∙ ap (λ i. fn_to_cell (length (reverse o)) i ∷ type_back u (types_back ts (binder_back b (reverse o)))) (inner-turned b o)
  type-turned (dyn_of i is) o =
      put-at (items_onto is (item_onto i o)) (items_back is (item_back i (reverse o))) o dyn_cell (items-turned is (item_onto i o) ∙ ap (items_back is) (item-turned i o))

  pub types-turned : (ts : Types) (o : List Cell) → reverse (types_onto ts o) ≡ types_back ts (reverse o)
  types-turned no_types o = refl
  types-turned (and_type t ts) o = types-turned ts (type_onto t o) ∙ ap (types_back ts) (type-turned t o)

  pub args-turned : (args : Args) (o : List Cell) → reverse (args_onto args o) ≡ args_back args (reverse o)
  args-turned no_args o = refl
  args-turned (and_arg a args) o = args-turned args (arg_onto a o) ∙ ap (args_back args) (arg-turned a o)

  arg-turned : (a : Arg) (o : List Cell) → reverse (arg_onto a o) ≡ arg_back a (reverse o)
  arg-turned (lifetime_arg n) o = put o (reverse o) (lifetime_cell n) refl
  arg-turned (number_arg n) o = put o (reverse o) (number_cell n) refl
  arg-turned (type_arg t) o = type-turned t o

  item-turned : (i : Item) (o : List Cell) → reverse (item_onto i o) ≡ item_back i (reverse o)
  item-turned (bound_item b n args) o =
      let q = binder_onto b o in
      let e = args-turned args q ∙ ap (args_back args) (binder-turned b o) in
      put-at (args_onto args q) (args_back args (binder_back b (reverse o))) o (λ k. bound_cell n k (length q)) e
      ∙ ap (λ i. bound_cell n (length (reverse o)) i ∷ args_back args (binder_back b (reverse o))) (inner-turned b o)
  item-turned (lifetime_item n) o = put o (reverse o) (lifetime_cell n) refl

  items-turned : (is : DynBounds) (o : List Cell) → reverse (items_onto is o) ≡ items_back is (reverse o)
  items-turned no_items o = refl
  items-turned (and_item i is) o = items-turned is (item_onto i o) ∙ ap (items_back is) (item-turned i o)
