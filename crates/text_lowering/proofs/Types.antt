-- The types of a line without a fault are made as declarations are to be, once they are plain.
use Rattle.std.proofs.Common.{◌≡◌, ℕ, suc, ◌+◌, Bool, true, false, ◌&&◌, ◌||◌, List, [], ◌∷◌, ◌++◌, length, Option, Some, None, refl, sym, ap, ◌∙◌, subst}
use Rattle.std.specs.Prelude.{not, if◌then◌else◌, ◌==◌}
use Rattle.std.specs.List.{list_any}
use Rattle.std.specs.Option.{option_map_or}
use Rattle.std.specs.Str.{bytes_eq}
use Rattle.type_terms.specs.Promised.Label.{Label, Sort, of_lifetime, of_type, of_const, bool, char, str, never, array, slice, tuple, dynamic, static, int, uint, adt, fn_ptr, auto_trait, value, ref, raw_pointer, principal, param, placeholder, infer, canonical, bound, predicate}
use Rattle.type_terms.specs.Promised.Trees.{Trees, none, tree, leaf, ◌+++◌}
use Rattle.text_language.specs.Promised.Syntax.{TypeTree, of_primitive, never_type, variable_type, named, reference_to, pointer_to, slice_of, array_of, tuple_of, fn_of, fn_to, dyn_of, Types, no_types, and_type, Args, no_args, and_arg, Arg, lifetime_arg, number_arg, type_arg, Item, bound_item, lifetime_item, DynBounds, no_items, and_item, Length, number_length, name_length, variable_length, Params, Line}
use Rattle.text_language.specs.Promised.Declarations.{Declarations, Known, a_crate, a_struct, a_trait, known}
use Rattle.text_language.specs.Uses.{Use, name_use, trait_use, variable_use, dyn_use, items_use, item_shape, item_shapes, args_count, types_count, kinds_of_struct, kinds_of_trait, next_kind, other_kinds, length_uses, lifetime_uses, binder_uses, type_uses, types_uses, args_uses, arg_uses, item_uses, items_uses, params_of}
use Rattle.text_language.specs.Promised.Faults.{with_own, is_among, is_auto_name}
use Rattle.text_language.specs.Faults.{is_line_param, is_param_of, is_type_of, is_in_scope, static_name, is_late}
use Rattle.text_language.specs.Lowering.{Meanings, place_among, type_label, const_label, lifetime_under, lifetime_label, optional_lifetime, length_label, struct_label, trait_number, auto_leaves, autos, with_auto, item_lifetime, last_lifetime, type_tree, types_trees, args_trees, arg_tree, item_tree, items_trees}
use Rattle.text_language.specs.Adding.{item_meanings}
use Rattle.text_lines.specs.Faultless.{UseFits}
use Rattle.text_lowering.proofs.Sorts.{has_sort}
use Rattle.text_lowering.proofs.Scalars.{is_scalar, Scalars, ScalarTypes, ScalarArgs, ScalarArg, ScalarItem}
use Rattle.text_lowering.proofs.Trees.{Good, Ends, good-none, good-append, good-node, good-value, good-static, good-param, good-bound, ends-static, ends-bound, ends-param, ends-auto, good-dyn, good-bare-dyn, and-left, and-right, or-left, or-right}
use Rattle.text_language.proofs.Basics.{among-first, no-count}

-- ---- uses, each of which fits, and none a variable
abbrev pub IsFixed : Use → Type 0
IsFixed (variable_use p n) = ⊥
IsFixed u = Unit {0}

abbrev pub AllFit : Declarations → Line → List Use → Type 0
AllFit d l [] = Unit {0}
AllFit d l (u ∷ us) = (UseFits d l u × IsFixed u) × AllFit d l us

pub first-fit : (d : Declarations) (l : Line) (us vs : List Use) → AllFit d l (us ++ vs) → AllFit d l us
first-fit d l [] vs h = tt
first-fit d l (u ∷ us) vs h = (h.0, first-fit d l us vs h.1)

pub rest-fit : (d : Declarations) (l : Line) (us vs : List Use) → AllFit d l (us ++ vs) → AllFit d l vs
rest-fit d l [] vs h = h
rest-fit d l (u ∷ us) vs h = rest-fit d l us vs h.1

-- which sorts the parameters have, the first of which has this number
pub record NumberedBy (p : Params) (first : ℕ) (sorts : List Sort) : Type 0 where
  pub lifetimes : (n : List ℕ) → is_among n p.lifetimes ≡ true → has_sort sorts (param of_lifetime (first + place_among n p.lifetimes)) ≡ true
  pub types : (n : List ℕ) → is_among n p.types ≡ true → has_sort sorts (param of_type (first + length p.lifetimes + place_among n p.types)) ≡ true
  pub consts : (n : List ℕ) → is_among n p.consts ≡ true → has_sort sorts (param of_const (first + length p.lifetimes + length p.types + place_among n p.consts)) ≡ true

abbrev pub Numbered : Line → ℕ → List Sort → Type 0
Numbered l first sorts = NumberedBy (params_of l) first sorts

module _ (kept : ℕ → Bool) (sorts : List Sort) (d : Declarations) (l : Line) (first : ℕ) (numbered : Numbered l first sorts) where
  abbrev pub means : Meanings
  means = item_meanings d l first

  -- ---- lifetimes
  under : (P : Trees → Type 0) → ((j i : ℕ) → P (leaf (bound of_lifetime j i))) → ((i : ℕ) → has_sort sorts (param of_lifetime i) ≡ true → P (leaf (param of_lifetime i))) → (j : ℕ) (s : List (List (List ℕ))) (n : List ℕ)
      → is_in_scope l s n ≡ true → P (leaf (lifetime_under means j s n))
  under P b p j [] n h = p _ (numbered.lifetimes n (drop-false (is_among n (params_of l).lifetimes) h))
    where
      drop-false : (a : Bool) → a || false ≡ true → a ≡ true
      drop-false true h = refl
      drop-false false h = absurd cc
  under P b p j (ns ∷ s) n h = by (is_among n ns) h (λ g. under P b p (suc j) s n g)
    where
      by : (c : Bool) → is_among n (params_of l).lifetimes || (c || list_any (is_among n) s) ≡ true → (is_in_scope l s n ≡ true → P (leaf (lifetime_under means (suc j) s n)))
          → P (leaf (if c then bound of_lifetime j (place_among n ns) else lifetime_under means (suc j) s n))
      by true g r = b j (place_among n ns)
      by false g r = r g

  each-lifetime : (P : Trees → Type 0) → P (leaf static) → ((j i : ℕ) → P (leaf (bound of_lifetime j i))) → ((i : ℕ) → has_sort sorts (param of_lifetime i) ≡ true → P (leaf (param of_lifetime i))) → (s : List (List (List ℕ))) (n : List ℕ)
      → bytes_eq n static_name || is_in_scope l s n ≡ true → P (leaf (lifetime_label means s n))
  each-lifetime P c b p s n h = by (bytes_eq n static_name) h
    where
      by : (a : Bool) → a || is_in_scope l s n ≡ true → P (leaf (if a then static else lifetime_under means 0 s n))
      by true g = c
      by false g = under P b p 0 s n g

  good-lifetime : (s : List (List (List ℕ))) (n : List ℕ) → bytes_eq n static_name || is_in_scope l s n ≡ true → Good kept sorts (leaf (lifetime_label means s n))
  good-lifetime s n h = each-lifetime (Good kept sorts) (good-static kept sorts) (good-bound kept sorts) (good-param kept sorts of_lifetime) s n h

  ends-lifetime : (s : List (List (List ℕ))) (n : List ℕ) → bytes_eq n static_name || is_in_scope l s n ≡ true → Ends kept sorts (leaf (lifetime_label means s n))
  ends-lifetime s n h = each-lifetime (Ends kept sorts) (ends-static kept sorts) (ends-bound kept sorts) (ends-param kept sorts) s n h

  good-optional : (s : List (List (List ℕ))) (o : Option (List ℕ)) → AllFit d l (lifetime_uses s o) → Good kept sorts (optional_lifetime means s o)
  good-optional s None h = good-static kept sorts
  good-optional s (Some n) h = good-lifetime s n h.0.0

  -- ---- names
  good-never : (c : Trees) → Good kept sorts c → Good kept sorts (tree never c none)
  good-never c g = record { made = never-made _ g.made; fits = never-fits _ g.fits }
    where
      never-made : (b : Bool) → b ≡ true → b && true ≡ true
      never-made true h = refl
      never-made false h = absurd cc

      never-fits : (b : Bool) → b ≡ false → b || false ≡ false
      never-fits false h = refl
      never-fits true h = absurd cc

  good-struct : (k : Option Known) (c : Trees) → Good kept sorts c → Good kept sorts (tree (struct_label k) c none)
  good-struct (Some (a_struct i h ks)) c g = good-node kept sorts (adt i) c refl g
  good-struct None c g = good-never c g
  good-struct (Some (a_crate i)) c g = good-never c g
  good-struct (Some (a_trait i h a ks)) c g = good-never c g

  param-bare : (n : List ℕ) (args : Args) → is_among n (params_of l).types ≡ true → UseFits d l (name_use of_type n (args_count args)) → args ≡ no_args
  param-bare n args h f = no-count args (by (is_line_param l n) (among-first n (params_of l).types (params_of l).consts h) f)
    where
      by : (b : Bool) → b ≡ true → (if b then is_param_of l of_type n (args_count args) else option_map_or (is_type_of of_type (args_count args)) (known (with_own d l) n) false) ≡ true → (args_count args == 0) ≡ true
      by true e g = and-right (is_among n (params_of l).types) _ g
      by false e g = absurd cc

  good-named : (s : List (List (List ℕ))) (n : List ℕ) (args : Args) → UseFits d l (name_use of_type n (args_count args)) → Good kept sorts (args_trees means s (kinds_of_struct (known (with_own d l) n)) args)
      → Good kept sorts (tree (type_label means n) (args_trees means s (kinds_of_struct (known (with_own d l) n)) args) none)
  good-named s n args f g = by (is_among n (params_of l).types) refl
    where
      by : (b : Bool) → is_among n (params_of l).types ≡ b
          → Good kept sorts (tree (if b then param of_type (first + length (params_of l).lifetimes + place_among n (params_of l).types) else struct_label (known (with_own d l) n)) (args_trees means s (kinds_of_struct (known (with_own d l) n)) args) none)
      by true e =
          subst (λ x. Good kept sorts (tree (param of_type (first + length (params_of l).lifetimes + place_among n (params_of l).types)) (args_trees means s (kinds_of_struct (known (with_own d l) n)) x) none)) (sym (param-bare n args e f))
          (good-param kept sorts of_type _ (numbered.types n e))
      by false e = good-struct (known (with_own d l) n) _ g

  const-named : (n : List ℕ) (k : ℕ) → UseFits d l (name_use of_const n k) → is_among n (params_of l).consts ≡ true
  const-named n k f = by (is_line_param l n) (known (with_own d l) n) f
    where
      by : (b : Bool) (o : Option Known) → (if b then is_param_of l of_const n k else option_map_or (is_type_of of_const k) o false) ≡ true → is_among n (params_of l).consts ≡ true
      by true o g = and-left _ _ g
      by false None g = absurd cc
      by false (Some (a_crate i)) g = absurd cc
      by false (Some (a_struct i h ks)) g = absurd cc
      by false (Some (a_trait i h a ks)) g = absurd cc

  good-const : (n : List ℕ) (k : ℕ) → UseFits d l (name_use of_const n k) → Good kept sorts (leaf (const_label means n))
  good-const n k f = good-param kept sorts of_const _ (numbered.consts n (const-named n k f))

  good-length : (n : Length) → AllFit d l (length_uses n) → Good kept sorts (leaf (length_label means n))
  good-length (number_length n) h = good-value kept sorts n
  good-length (name_length n) h = good-const n 0 h.0.0
  good-length (variable_length n) h = absurd h.0.1

  -- ---- the end of a `dyn`
  ends-autos : (ns : List ℕ) (o : Trees) → Ends kept sorts o → Ends kept sorts (auto_leaves ns +++ o)
  ends-autos [] o e = e
  ends-autos (n ∷ ns) o e = ends-auto kept sorts n (auto_leaves ns +++ o) (ends-autos ns o e)

  ends-item : (s : List (List (List ℕ))) (i : Item) → AllFit d l (item_uses (with_own d l) s i) → Ends kept sorts (item_lifetime means s i)
  ends-item s (bound_item b n args) h = ends-static kept sorts
  ends-item s (lifetime_item n) h = ends-lifetime s n h.0.0

  ends-last : (s : List (List (List ℕ))) (i : Item) (is : DynBounds) → AllFit d l (item_uses (with_own d l) s i) → AllFit d l (items_uses (with_own d l) s is) → Ends kept sorts (last_lifetime means s i is)
  ends-last s i no_items h g = ends-item s i h
  ends-last s i (and_item j is) h g =
      ends-last s j is (first-fit d l (item_uses (with_own d l) s j) (items_uses (with_own d l) s is) g) (rest-fit d l (item_uses (with_own d l) s j) (items_uses (with_own d l) s is) g)

  -- no bound but the first is a principal
  bare-item : (s : List (List (List ℕ))) (i : Item) → is_late (with_own d l) (item_shape i) ≡ false → item_tree means s i ≡ none
  bare-item s (bound_item b n args) h = by (is_auto_name (with_own d l) n) h
    where
      by : (a : Bool) → not a ≡ false
          → (if a then none else tree (principal (length b) (trait_number (known (with_own d l) n))) (args_trees means (b ∷ s) (kinds_of_trait (known (with_own d l) n)) args) none) ≡ none
      by true g = refl
      by false g = absurd cc
  bare-item s (lifetime_item n) h = refl

  bare-items : (s : List (List (List ℕ))) (is : DynBounds) → list_any (is_late (with_own d l)) (item_shapes is) ≡ false → items_trees means s is ≡ none
  bare-items s no_items h = refl
  bare-items s (and_item i is) h =
      ap (λ t. t +++ items_trees means s is) (bare-item s i (or-left (is_late (with_own d l) (item_shape i)) _ h)) ∙ bare-items s is (or-right (is_late (with_own d l) (item_shape i)) _ h)

  late-none : (i : Item) (is : DynBounds) → UseFits d l (dyn_use (item_shape i ∷ item_shapes is)) → list_any (is_late (with_own d l)) (item_shapes is) ≡ false
  late-none i is f = or-left _ _ (or-right _ _ f.0)

  -- the types
  mutual
    pub good-type : (s : List (List (List ℕ))) (t : TypeTree) → Scalars t → AllFit d l (type_uses (with_own d l) s of_type t) → Good kept sorts (type_tree means s of_type t)
    good-type s (of_primitive p) f h = good-scalar p f
      where
        good-scalar : (p : Label) → is_scalar p ≡ true → Good kept sorts (leaf p)
        good-scalar bool g = record { made = refl; fits = refl }
        good-scalar char g = record { made = refl; fits = refl }
        good-scalar str g = record { made = refl; fits = refl }
        good-scalar (int n) g = record { made = refl; fits = refl }
        good-scalar (uint n) g = record { made = refl; fits = refl }
        good-scalar never g = absurd cc
        good-scalar array g = absurd cc
        good-scalar slice g = absurd cc
        good-scalar tuple g = absurd cc
        good-scalar dynamic g = absurd cc
        good-scalar static g = absurd cc
        good-scalar (adt n) g = absurd cc
        good-scalar (fn_ptr n) g = absurd cc
        good-scalar (auto_trait n) g = absurd cc
        good-scalar (value n) g = absurd cc
        good-scalar (ref b) g = absurd cc
        good-scalar (raw_pointer b) g = absurd cc
        good-scalar (principal n k) g = absurd cc
        good-scalar (param x i) g = absurd cc
        good-scalar (placeholder x i) g = absurd cc
        good-scalar (infer x i) g = absurd cc
        good-scalar (canonical x i) g = absurd cc
        good-scalar (bound x j i) g = absurd cc
        good-scalar (predicate k) g = absurd cc
    good-type s never_type f h = record { made = refl; fits = refl }
    good-type s (variable_type n) f h = absurd h.0.1
    good-type s (named n args) f h = good-named s n args h.0.0 (good-args s (kinds_of_struct (known (with_own d l) n)) args f h.1)
    good-type s (reference_to o m t) f h =
        good-node kept sorts (ref m) _ refl
        (good-append kept sorts (optional_lifetime means s o) (type_tree means s of_type t) (good-optional s o (first-fit d l (lifetime_uses s o) (type_uses (with_own d l) s of_type t) h)) (good-type s t f (rest-fit d l (lifetime_uses s o) (type_uses (with_own d l) s of_type t) h)))
    good-type s (pointer_to m t) f h = good-node kept sorts (raw_pointer m) _ refl (good-type s t f h)
    good-type s (slice_of t) f h = good-node kept sorts slice _ refl (good-type s t f h)
    good-type s (array_of t n) f h =
        good-node kept sorts array _ refl
        (good-append kept sorts (type_tree means s of_type t) (leaf (length_label means n)) (good-type s t f (first-fit d l (type_uses (with_own d l) s of_type t) (length_uses n) h))
        (good-length n (rest-fit d l (type_uses (with_own d l) s of_type t) (length_uses n) h)))
    good-type s (tuple_of ts) f h = good-node kept sorts tuple _ refl (good-types s ts f h.1)
    good-type s (fn_of b ts) f h =
        good-node kept sorts (fn_ptr (length b)) _ refl
        (good-append kept sorts (types_trees means (b ∷ s) ts) (leaf tuple) (good-types (b ∷ s) ts f (rest-fit d l (binder_uses s b) (items_use (types_count ts) ∷ types_uses (with_own d l) (b ∷ s) ts) h).1)
        (good-node kept sorts tuple none refl (good-none kept sorts)))
    good-type s (fn_to b ts r) f h =
        let g = (rest-fit d l (binder_uses s b) (items_use (types_count ts) ∷ (types_uses (with_own d l) (b ∷ s) ts ++ type_uses (with_own d l) (b ∷ s) of_type r)) h).1 in
        good-node kept sorts (fn_ptr (length b)) _ refl
        (good-append kept sorts (types_trees means (b ∷ s) ts) (type_tree means (b ∷ s) of_type r)
        (good-types (b ∷ s) ts f.0 (first-fit d l (types_uses (with_own d l) (b ∷ s) ts) (type_uses (with_own d l) (b ∷ s) of_type r) g))
        (good-type (b ∷ s) r f.1 (rest-fit d l (types_uses (with_own d l) (b ∷ s) ts) (type_uses (with_own d l) (b ∷ s) of_type r) g)))
    good-type s (dyn_of i is) f h =
        let one = first-fit d l (item_uses (with_own d l) s i) (items_uses (with_own d l) s is) h.1 in
        let more = rest-fit d l (item_uses (with_own d l) s i) (items_uses (with_own d l) s is) h.1 in
        let end = ends-autos (with_auto (with_own d l) i (autos (with_own d l) is)) (last_lifetime means s i is) (ends-last s i is one more) in
        subst (λ t. Good kept sorts (tree dynamic (item_tree means s i +++ t +++ auto_leaves (with_auto (with_own d l) i (autos (with_own d l) is)) +++ last_lifetime means s i is) none))
        (sym (bare-items s is (late-none i is h.0.0)))
        (good-item s i f.0 one (auto_leaves (with_auto (with_own d l) i (autos (with_own d l) is)) +++ last_lifetime means s i is) end)

    good-item : (s : List (List (List ℕ))) (i : Item) → ScalarItem i → AllFit d l (item_uses (with_own d l) s i) → (o : Trees) → Ends kept sorts o → Good kept sorts (tree dynamic (item_tree means s i +++ o) none)
    good-item s (lifetime_item n) f h o e = good-bare-dyn kept sorts o e
    good-item s (bound_item b n args) f h o e =
        by (is_auto_name (with_own d l) n) (good-args (b ∷ s) (kinds_of_trait (known (with_own d l) n)) args f (rest-fit d l (binder_uses s b) (trait_use n (args_count args) ∷ args_uses (with_own d l) (b ∷ s) (kinds_of_trait (known (with_own d l) n)) args) h).1)
      where
        by : (a : Bool) → Good kept sorts (args_trees means (b ∷ s) (kinds_of_trait (known (with_own d l) n)) args)
            → Good kept sorts
            (tree dynamic ((if a then none else tree (principal (length b) (trait_number (known (with_own d l) n))) (args_trees means (b ∷ s) (kinds_of_trait (known (with_own d l) n)) args) none) +++ o) none)
        by true g = good-bare-dyn kept sorts o e
        by false g = good-dyn kept sorts (length b) (trait_number (known (with_own d l) n)) _ o g e

    good-types : (s : List (List (List ℕ))) (ts : Types) → ScalarTypes ts → AllFit d l (types_uses (with_own d l) s ts) → Good kept sorts (types_trees means s ts)
    good-types s no_types f h = good-none kept sorts
    good-types s (and_type t ts) f h =
        good-append kept sorts (type_tree means s of_type t) (types_trees means s ts) (good-type s t f.0 (first-fit d l (type_uses (with_own d l) s of_type t) (types_uses (with_own d l) s ts) h))
        (good-types s ts f.1 (rest-fit d l (type_uses (with_own d l) s of_type t) (types_uses (with_own d l) s ts) h))

    pub good-args : (s : List (List (List ℕ))) (ks : List Sort) (args : Args) → ScalarArgs args → AllFit d l (args_uses (with_own d l) s ks args) → Good kept sorts (args_trees means s ks args)
    good-args s ks no_args f h = good-none kept sorts
    good-args s ks (and_arg a args) f h =
        good-append kept sorts (arg_tree means s (next_kind ks) a) (args_trees means s (other_kinds ks) args)
        (good-arg s (next_kind ks) a f.0 (first-fit d l (arg_uses (with_own d l) s (next_kind ks) a) (args_uses (with_own d l) s (other_kinds ks) args) h))
        (good-args s (other_kinds ks) args f.1 (rest-fit d l (arg_uses (with_own d l) s (next_kind ks) a) (args_uses (with_own d l) s (other_kinds ks) args) h))

    good-arg : (s : List (List (List ℕ))) (p : Sort) (a : Arg) → ScalarArg a → AllFit d l (arg_uses (with_own d l) s p a) → Good kept sorts (arg_tree means s p a)
    good-arg s of_lifetime (lifetime_arg n) f h = good-lifetime s n h.0.0
    good-arg s of_type (lifetime_arg n) f h = good-lifetime s n h.0.0
    good-arg s of_const (lifetime_arg n) f h = good-lifetime s n h.0.0
    good-arg s p (number_arg n) f h = good-value kept sorts n
    good-arg s of_type (type_arg t) f h = good-type s t f h
    good-arg s of_lifetime (type_arg t) f h = absurd h.0.0
    good-arg s of_const (type_arg (named n args)) f h = good-const n (args_count args) h.0.0
    good-arg s of_const (type_arg (variable_type n)) f h = absurd h.0.1
    good-arg s of_const (type_arg (of_primitive x)) f h = absurd h.0.0
    good-arg s of_const (type_arg never_type) f h = absurd h.0.0
    good-arg s of_const (type_arg (reference_to x y z)) f h = absurd h.0.0
    good-arg s of_const (type_arg (pointer_to x y)) f h = absurd h.0.0
    good-arg s of_const (type_arg (slice_of x)) f h = absurd h.0.0
    good-arg s of_const (type_arg (array_of x y)) f h = absurd h.0.0
    good-arg s of_const (type_arg (tuple_of x)) f h = absurd h.0.0
    good-arg s of_const (type_arg (fn_of x y)) f h = absurd h.0.0
    good-arg s of_const (type_arg (fn_to x y z)) f h = absurd h.0.0
    good-arg s of_const (type_arg (dyn_of x y)) f h = absurd h.0.0
