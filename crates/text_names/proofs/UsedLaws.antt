-- The names in the cells of a type are those that it uses where a type or a const has to stand.
use Rattle.std.proofs.Common.{◌≡◌, ℕ, suc, Bool, true, false, List, [], ◌∷◌, ◌++◌, length, take, drop, get_or, refl, sym, ap, ◌∙◌, arith, append_assoc, take-suc, Option, Some, None}
use Rattle.std.specs.Prelude.{◌||◌, ◌+◌, ◌<◌}
use Rattle.std.specs.List.{list_any}
use Rattle.std.specs.Str.{bytes_eq}
use Rattle.std.proofs.lemmas.List.{append-nil}
use Rattle.std.proofs.Math.Seq.{drop-append_seam}
use Rattle.type_terms.specs.Promised.Label.{Sort, of_type, of_const, of_lifetime}
use Rattle.text_language.specs.Promised.Syntax.{TypeTree, of_primitive, never_type, variable_type, named, reference_to, pointer_to, slice_of, array_of, tuple_of, fn_of, fn_to, dyn_of, Types, no_types, and_type, Args, no_args, and_arg, Arg, lifetime_arg, number_arg, type_arg, Item, bound_item, lifetime_item, DynBounds, no_items, and_item, number_length, name_length, variable_length}
use Rattle.text_language.specs.Promised.Declarations.{Declarations, known}
use Rattle.text_language.specs.Promised.Faults.{is_among}
use Rattle.text_language.specs.Faults.{is_name_use}
use Rattle.text_language.specs.Uses.{Use, name_use, trait_use, items_use, dyn_use, binder_uses, lifetime_uses, lifetime_arg_uses, number_arg_uses, length_uses, type_misfits, types_count, args_count, next_kind, other_kinds, kinds_of_struct, kinds_of_trait, item_shape, item_shapes, type_uses, types_uses, args_uses, arg_uses, item_uses, items_uses}
use Rattle.text_lines.specs.Cells.{Cell, primitive_cell, never_cell, slice_cell, variable_cell, lifetime_cell, binder_cell, number_cell, named_cell, reference_cell, pointer_cell, array_cell, tuple_cell, dyn_cell, fn_cell, fn_to_cell, bound_cell, binder_onto, type_onto, types_onto, args_onto, arg_onto, item_onto, items_onto}
use Rattle.text_lines.specs.TypeViews.{cell_of, cells_in}
use Rattle.text_lines.specs.declared.cell.Cell as code
use Rattle.text_lines.proofs.PartsOfCells.{get-map, length-cells}
use Rattle.text_names.specs.UsedNames.{name_of, names_with, TypesUseNames, ArgsUseNames}
use Rattle.type_terms.proofs.BooleanBasics.{either-deep as or-turn}

abbrev any-of : List ℕ → List Use → Bool
any-of n us = list_any (is_name_use n) us

-- ---- tests
or-front : (a b c : Bool) → a || (b || c) ≡ (a || b) || c
or-front true b c = refl
or-front false b c = refl

or-back : (a b c : Bool) → a || (b || c) ≡ (b || (a || false)) || c
or-back true true c = refl
or-back true false c = refl
or-back false true c = refl
or-back false false c = refl

any-append : (n : List ℕ) (us ws : List Use) → any-of n (us ++ ws) ≡ any-of n us || any-of n ws
any-append n [] ws = refl
any-append n (u ∷ us) ws = ap (λ b. is_name_use n u || b) (any-append n us ws) ∙ or-front (is_name_use n u) (any-of n us) (any-of n ws)

-- ---- names one behind the other
names-append : (xs ys : List Cell) (ns : List (List ℕ)) → names_with (xs ++ ys) ns ≡ names_with ys (names_with xs ns)
names-append [] ys ns = refl
names-append (c ∷ xs) ys ns = names-append xs ys (name_of c ++ ns)

names-last : (xs : List Cell) (c : Cell) (ns : List (List ℕ)) → names_with (xs ++ c ∷ []) ns ≡ name_of c ++ names_with xs ns
names-last xs c ns = names-append xs (c ∷ []) ns

-- one cell more
pub names-step : (cs : List code.Cell) (i : ℕ) (d : code.Cell) (ns : List (List ℕ)) → i < length cs → names_with (take (i + 1) (cells_in cs)) ns ≡ name_of (cell_of (get_or cs i d)) ++ names_with (take i (cells_in cs)) ns
names-step cs i d ns h =
    let m : length (cells_in cs) ≡ length cs = length-cells cs in
    let l : i < length (cells_in cs) = omega arith in
    let e : i + 1 ≡ suc i = omega arith in
    ap (λ k. names_with (take k (cells_in cs)) ns) e ∙ ap (λ xs. names_with xs ns) (take-suc (cells_in cs) i (cell_of d) l) ∙ names-last (take i (cells_in cs)) (get_or (cells_in cs) i (cell_of d)) ns
    ∙ ap (λ c. name_of c ++ names_with (take i (cells_in cs)) ns) (get-map cs i d)

-- ---- what is put behind cells o, with what it uses
record Used (o x : List Cell) (us : List Use) : Type 0 where
  own : List Cell
  is : x ≡ o ++ own
  law : (n : List ℕ) (ns : List (List ℕ)) → is_among n (names_with own ns) ≡ any-of n us || is_among n ns

used-none : (o : List Cell) → Used o o []
used-none o = record { own = []; is = sym (append-nil o); law = λ n ns. refl }

behind : (o x own : List Cell) (c : Cell) → x ≡ o ++ own → x ++ c ∷ [] ≡ o ++ (own ++ c ∷ [])
behind o x own c e = ap (λ z. z ++ c ∷ []) e ∙ append_assoc o own (c ∷ [])

-- a cell without a name
used-cell : (o x : List Cell) (us : List Use) (c : Cell) → name_of c ≡ [] → Used o x us → Used o (x ++ c ∷ []) us
used-cell o x us c e u = record {
  own = u.own ++ c ∷ [];
  is = behind o x u.own c u.is;
  law = λ n ns. ap (is_among n) (names-last u.own c ns ∙ ap (λ z. z ++ names_with u.own ns) e) ∙ u.law n ns;
}

-- a name before what stands inside it, and one behind
used-name : (o x : List Cell) (us : List Use) (c : Cell) (m : List ℕ) (p : Sort) (k : ℕ) → name_of c ≡ m ∷ [] → Used o x us → Used o (x ++ c ∷ []) (name_use p m k ∷ us)
used-name o x us c m p k e u = record {
  own = u.own ++ c ∷ [];
  is = behind o x u.own c u.is;
  law = λ n ns. ap (is_among n) (names-last u.own c ns ∙ ap (λ z. z ++ names_with u.own ns) e) ∙ ap (λ b. bytes_eq m n || b) (u.law n ns) ∙ or-front (bytes_eq m n) (any-of n us) (is_among n ns);
}

used-length : (o x : List Cell) (us : List Use) (m : List ℕ) → Used o x us → Used o (x ++ array_cell (name_length m) ∷ []) (us ++ name_use of_const m 0 ∷ [])
used-length o x us m u = record {
  own = u.own ++ array_cell (name_length m) ∷ [];
  is = behind o x u.own (array_cell (name_length m)) u.is;
  law = λ n ns. ap (is_among n) (names-last u.own (array_cell (name_length m)) ns) ∙ ap (λ b. bytes_eq m n || b) (u.law n ns) ∙ or-back (bytes_eq m n) (any-of n us) (is_among n ns)
      ∙ ap (λ b. b || is_among n ns) (sym (any-append n us (name_use of_const m 0 ∷ [])));
}

used-then : (o x y : List Cell) (us ws : List Use) → Used o x us → Used x y ws → Used o y (us ++ ws)
used-then o x y us ws u w = record {
  own = u.own ++ w.own;
  is = w.is ∙ ap (λ z. z ++ w.own) u.is ∙ append_assoc o u.own w.own;
  law = λ n ns. ap (is_among n) (names-append u.own w.own ns) ∙ w.law n (names_with u.own ns) ∙ ap (λ b. any-of n ws || b) (u.law n ns) ∙ or-turn (any-of n us) (any-of n ws) (is_among n ns)
      ∙ ap (λ b. b || is_among n ns) (sym (any-append n us ws));
}

-- uses without a name, before and behind
used-first : (o x : List Cell) (us ws : List Use) → ((n : List ℕ) → any-of n ws ≡ false) → Used o x us → Used o x (ws ++ us)
used-first o x us ws h u = record {
  own = u.own;
  is = u.is;
  law = λ n ns. u.law n ns ∙ ap (λ b. (b || any-of n us) || is_among n ns) (sym (h n)) ∙ ap (λ b. b || is_among n ns) (sym (any-append n ws us));
}

used-alone : (o : List Cell) (c : Cell) (ws : List Use) → name_of c ≡ [] → ((n : List ℕ) → any-of n ws ≡ false) → Used o (o ++ c ∷ []) ws
used-alone o c ws e h = record { own = c ∷ []; is = refl; law = λ n ns. ap (λ z. is_among n (z ++ ns)) e ∙ ap (λ b. b || is_among n ns) (sym (h n)) }

used-last : (o x : List Cell) (us ws : List Use) → ((n : List ℕ) → any-of n ws ≡ false) → Used o x us → Used o x (us ++ ws)
used-last o x us ws h u = record {
  own = u.own;
  is = u.is;
  law = λ n ns. u.law n ns ∙ ap (λ b. b || is_among n ns) (sym (any-append n us ws ∙ ap (λ b. any-of n us || b) (h n) ∙ or-false (any-of n us)));
}
  where
    or-false : (b : Bool) → b || false ≡ b
    or-false true = refl
    or-false false = refl

-- ---- uses without names
binder-none : (s : List (List (List ℕ))) (b : List (List ℕ)) (n : List ℕ) → any-of n (binder_uses s b) ≡ false
binder-none s [] n = refl
binder-none s (m ∷ ms) n = refl

lifetimes-none : (s : List (List (List ℕ))) (l : Option (List ℕ)) (n : List ℕ) → any-of n (lifetime_uses s l) ≡ false
lifetimes-none s None n = refl
lifetimes-none s (Some m) n = refl

lifetime-none : (s : List (List (List ℕ))) (p : Sort) (m n : List ℕ) → any-of n (lifetime_arg_uses s p m) ≡ false
lifetime-none s of_type m n = refl
lifetime-none s of_const m n = refl
lifetime-none s of_lifetime m n = refl

number-none : (p : Sort) (k : ℕ) (n : List ℕ) → any-of n (number_arg_uses p k) ≡ false
number-none of_type k n = refl
number-none of_const k n = refl
number-none of_lifetime k n = refl

misfits-none : (p : Sort) (t : TypeTree) (n : List ℕ) → any-of n (type_misfits p t) ≡ false
misfits-none of_type t n = refl
misfits-none of_lifetime t n = refl
misfits-none of_const (named m args) n = refl
misfits-none of_const (variable_type m) n = refl
misfits-none of_const (of_primitive l) n = refl
misfits-none of_const never_type n = refl
misfits-none of_const (reference_to l m t) n = refl
misfits-none of_const (pointer_to m t) n = refl
misfits-none of_const (slice_of t) n = refl
misfits-none of_const (array_of t l) n = refl
misfits-none of_const (tuple_of ts) n = refl
misfits-none of_const (fn_of b ts) n = refl
misfits-none of_const (fn_to b ts r) n = refl
misfits-none of_const (dyn_of i is) n = refl

used-binder : (b : List (List ℕ)) (o : List Cell) → Used o (binder_onto b o) []
used-binder [] o = used-none o
used-binder (n ∷ ns) o = used-then o (o ++ binder_cell n ∷ []) (binder_onto ns (o ++ binder_cell n ∷ [])) [] [] (used-alone o (binder_cell n) [] refl (λ m. refl)) (used-binder ns (o ++ binder_cell n ∷ []))

-- ---- types
mutual
  of-type : (t : TypeTree) (d : Declarations) (s : List (List (List ℕ))) (p : Sort) (o : List Cell) → Used o (type_onto t o) (type_uses d s p t)
  of-type (of_primitive l) d s p o = used-alone o (primitive_cell l) [] refl (λ n. refl)
  of-type never_type d s p o = used-alone o never_cell [] refl (λ n. refl)
  of-type (variable_type m) d s p o = used-alone o (variable_cell m) (type_uses d s p (variable_type m)) refl (λ n. refl)
  of-type (named m args) d s p o = used-name o (args_onto args o) (args_uses d s (kinds_of_struct (known d m)) args) (named_cell m (length o)) m p (args_count args) refl (of-args args d s (kinds_of_struct (known d m)) o)
  of-type (reference_to l m t) d s p o =
      used-cell o (type_onto t o) (lifetime_uses s l ++ type_uses d s of_type t) (reference_cell l m) refl (used-first o (type_onto t o) (type_uses d s of_type t) (lifetime_uses s l) (lifetimes-none s l) (of-type t d s of_type o))
  of-type (pointer_to m t) d s p o = used-cell o (type_onto t o) (type_uses d s of_type t) (pointer_cell m) refl (of-type t d s of_type o)
  of-type (slice_of t) d s p o = used-cell o (type_onto t o) (type_uses d s of_type t) slice_cell refl (of-type t d s of_type o)
  of-type (array_of t (number_length k)) d s p o =
      used-cell o (type_onto t o) (type_uses d s of_type t ++ length_uses (number_length k)) (array_cell (number_length k)) refl (used-last o (type_onto t o) (type_uses d s of_type t) (length_uses (number_length k)) (λ n. refl) (of-type t d s of_type o))
  of-type (array_of t (name_length m)) d s p o = used-length o (type_onto t o) (type_uses d s of_type t) m (of-type t d s of_type o)
  of-type (array_of t (variable_length m)) d s p o =
      used-cell o (type_onto t o) (type_uses d s of_type t ++ length_uses (variable_length m)) (array_cell (variable_length m)) refl (used-last o (type_onto t o) (type_uses d s of_type t) (length_uses (variable_length m)) (λ n. refl) (of-type t d s of_type o))
  of-type (tuple_of ts) d s p o =
      used-cell o (types_onto ts o) (items_use (types_count ts) ∷ types_uses d s ts) (tuple_cell (length o)) refl (used-first o (types_onto ts o) (types_uses d s ts) (items_use (types_count ts) ∷ []) (λ n. refl) (of-types ts d s o))
  of-type (fn_of b ts) d s p o =
      let q = binder_onto b o in
      let us = types_uses d (b ∷ s) ts in
      used-cell o (types_onto ts q) (binder_uses s b ++ items_use (types_count ts) ∷ us) (fn_cell (length o) (length q)) refl
      (used-first o (types_onto ts q) (items_use (types_count ts) ∷ us) (binder_uses s b) (binder-none s b)
      (used-first o (types_onto ts q) us (items_use (types_count ts) ∷ []) (λ n. refl) (used-then o q (types_onto ts q) [] us (used-binder b o) (of-types ts d (b ∷ s) q))))
  of-type (fn_to b ts r) d s p o =
      let q = binder_onto b o in
      let us = types_uses d (b ∷ s) ts in
      let ws = type_uses d (b ∷ s) of_type r in
      let y = type_onto r (types_onto ts q) in
      used-cell o y (binder_uses s b ++ items_use (types_count ts) ∷ (us ++ ws)) (fn_to_cell (length o) (length q)) refl
      (used-first o y (items_use (types_count ts) ∷ (us ++ ws)) (binder_uses s b) (binder-none s b)
      (used-first o y (us ++ ws) (items_use (types_count ts) ∷ []) (λ n. refl)
      (used-then o (types_onto ts q) y us ws (used-then o q (types_onto ts q) [] us (used-binder b o) (of-types ts d (b ∷ s) q)) (of-type r d (b ∷ s) of_type (types_onto ts q)))))
  of-type (dyn_of i is) d s p o =
      let q = item_onto i o in
      let us = item_uses d s i ++ items_uses d s is in
      used-cell o (items_onto is q) (dyn_use (item_shape i ∷ item_shapes is) ∷ us) (dyn_cell (length o)) refl
      (used-first o (items_onto is q) us (dyn_use (item_shape i ∷ item_shapes is) ∷ []) (λ n. refl) (used-then o q (items_onto is q) (item_uses d s i) (items_uses d s is) (of-item i d s o) (of-items is d s q)))

  of-types : (ts : Types) (d : Declarations) (s : List (List (List ℕ))) (o : List Cell) → Used o (types_onto ts o) (types_uses d s ts)
  of-types no_types d s o = used-none o
  of-types (and_type t ts) d s o = used-then o (type_onto t o) (types_onto ts (type_onto t o)) (type_uses d s of_type t) (types_uses d s ts) (of-type t d s of_type o) (of-types ts d s (type_onto t o))

  of-args : (args : Args) (d : Declarations) (s : List (List (List ℕ))) (ks : List Sort) (o : List Cell) → Used o (args_onto args o) (args_uses d s ks args)
  of-args no_args d s ks o = used-none o
  of-args (and_arg a args) d s ks o =
      used-then o (arg_onto a o) (args_onto args (arg_onto a o)) (arg_uses d s (next_kind ks) a) (args_uses d s (other_kinds ks) args) (of-arg a d s (next_kind ks) o) (of-args args d s (other_kinds ks) (arg_onto a o))

  of-arg : (a : Arg) (d : Declarations) (s : List (List (List ℕ))) (p : Sort) (o : List Cell) → Used o (arg_onto a o) (arg_uses d s p a)
  of-arg (lifetime_arg m) d s p o = used-alone o (lifetime_cell m) (lifetime_arg_uses s p m) refl (lifetime-none s p m)
  of-arg (number_arg k) d s p o = used-alone o (number_cell k) (number_arg_uses p k) refl (number-none p k)
  of-arg (type_arg t) d s p o = used-first o (type_onto t o) (type_uses d s p t) (type_misfits p t) (misfits-none p t) (of-type t d s p o)

  of-item : (i : Item) (d : Declarations) (s : List (List (List ℕ))) (o : List Cell) → Used o (item_onto i o) (item_uses d s i)
  of-item (bound_item b m args) d s o =
      let q = binder_onto b o in
      let us = args_uses d (b ∷ s) (kinds_of_trait (known d m)) args in
      used-cell o (args_onto args q) (binder_uses s b ++ trait_use m (args_count args) ∷ us) (bound_cell m (length o) (length q)) refl
      (used-first o (args_onto args q) (trait_use m (args_count args) ∷ us) (binder_uses s b) (binder-none s b)
      (used-first o (args_onto args q) us (trait_use m (args_count args) ∷ []) (λ n. refl) (used-then o q (args_onto args q) [] us (used-binder b o) (of-args args d (b ∷ s) (kinds_of_trait (known d m)) q))))
  of-item (lifetime_item m) d s o = used-alone o (lifetime_cell m) (item_uses d s (lifetime_item m)) refl (λ n. refl)

  of-items : (is : DynBounds) (d : Declarations) (s : List (List (List ℕ))) (o : List Cell) → Used o (items_onto is o) (items_uses d s is)
  of-items no_items d s o = used-none o
  of-items (and_item i is) d s o = used-then o (item_onto i o) (items_onto is (item_onto i o)) (item_uses d s i) (items_uses d s is) (of-item i d s o) (of-items is d s (item_onto i o))

by-used : (o x : List Cell) (us : List Use) (n : List ℕ) (ns : List (List ℕ)) → Used o x us → is_among n (names_with (drop (length o) x) ns) ≡ any-of n us || is_among n ns
by-used o x us n ns u = ap (λ z. is_among n (names_with (drop (length o) z) ns)) u.is ∙ ap (λ z. is_among n (names_with z ns)) (drop-append_seam o u.own) ∙ u.law n ns

-- ---- the laws
pub types_use_names : TypesUseNames
types_use_names d s p t o n ns = by-used o (type_onto t o) (type_uses d s p t) n ns (of-type t d s p o)

pub args_use_names : ArgsUseNames
args_use_names d s ks args o n ns = by-used o (args_onto args o) (args_uses d s ks args) n ns (of-args args d s ks o)
