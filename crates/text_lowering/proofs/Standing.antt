-- A parameter that the types of a line use stands in their trees.
use Rattle.std.proofs.Common.{◌≡◌, ℕ, suc, ◌+◌, Bool, true, false, ◌&&◌, ◌||◌, List, [], ◌∷◌, ◌++◌, length, Option, Some, None, refl, sym, subst, arith}
use Rattle.std.proofs.lemmas.Bool.{eqb-true, eq-eqb}
use Rattle.std.specs.Prelude.{not, if◌then◌else◌, ◌==◌}
use Rattle.std.specs.List.{list_any}
use Rattle.std.specs.Option.{option_map_or}
use Rattle.std.specs.Str.{bytes_eq}
use Rattle.type_terms.specs.Promised.Label.{Label, Sort, of_lifetime, of_type, of_const, tuple, dynamic, fn_ptr, ref, raw_pointer, slice, array, principal, param}
use Rattle.type_terms.specs.Promised.Trees.{Trees, none, tree, leaf, some_node, is_sort, ◌+++◌}
use Rattle.text_language.specs.Promised.Syntax.{TypeTree, of_primitive, never_type, variable_type, named, reference_to, pointer_to, slice_of, array_of, tuple_of, fn_of, fn_to, dyn_of, Types, no_types, and_type, Args, no_args, and_arg, Arg, lifetime_arg, number_arg, type_arg, Item, bound_item, lifetime_item, DynBounds, no_items, and_item, Length, number_length, name_length, variable_length, Line}
use Rattle.text_language.specs.Promised.Declarations.{Declarations, Known, a_crate, a_struct, a_trait, known}
use Rattle.text_language.specs.Uses.{Use, name_use, trait_use, dyn_use, items_use, item_shape, item_shapes, args_count, types_count, kinds_of_struct, kinds_of_trait, next_kind, other_kinds, length_uses, lifetime_uses, binder_uses, type_uses, types_uses, args_uses, arg_uses, item_uses, items_uses, params_of}
use Rattle.text_language.specs.Promised.Faults.{with_own, is_among, is_auto_name}
use Rattle.text_language.specs.Faults.{is_line_param, is_param_of, is_type_of, is_trait_of, is_late}
use Rattle.text_language.specs.Lowering.{Meanings, place_among, type_label, const_label, optional_lifetime, length_label, struct_label, trait_number, auto_leaves, autos, with_auto, last_lifetime, type_tree, types_trees, args_trees, arg_tree, item_tree, items_trees}
use Rattle.text_language.specs.Adding.{item_meanings}
use Rattle.text_lines.specs.Faultless.{UseFits}
use Rattle.candidate_model.specs.Candidates.{is_this_param as is_label_of}
use Rattle.text_lowering.proofs.Trees.{or-left, or-right}
use Rattle.text_lowering.proofs.Types.{AllFit, first-fit, rest-fit}

-- ---- tests of lists and of trees
pub data Either (a b : Bool) : Type 0 where
  this : a ≡ true → Either a b
  that : b ≡ true → Either a b

pub either : (a b : Bool) → a || b ≡ true → Either a b
either true b h = this refl
either false b h = that h

pub any-split : {A : Type 0} (q : A → Bool) (xs ys : List A) → list_any q (xs ++ ys) ≡ true → Either (list_any q xs) (list_any q ys)
any-split q [] ys h = that h
any-split q (x ∷ xs) ys h = by (q x) h (any-split q xs ys)
  where
    by : (b : Bool) → b || list_any q (xs ++ ys) ≡ true → (list_any q (xs ++ ys) ≡ true → Either (list_any q xs) (list_any q ys)) → Either (b || list_any q xs) (list_any q ys)
    by true g r = this refl
    by false g r = r g

pub some-append : (q : Label → Bool) (x y : Trees) → Either (some_node q x) (some_node q y) → some_node q (x +++ y) ≡ true
some-append q none y (this h) = absurd cc
some-append q none y (that h) = h
some-append q (tree l c o) y e = by (q l || some_node q c) e (some-append q o y)
  where
    by : (b : Bool) → Either (b || some_node q o) (some_node q y) → (Either (some_node q o) (some_node q y) → some_node q (o +++ y) ≡ true) → b || some_node q (o +++ y) ≡ true
    by true d r = refl
    by false (this h) r = r (this h)
    by false (that h) r = r (that h)

some-child : (q : Label → Bool) (l : Label) (c : Trees) → some_node q c ≡ true → some_node q (tree l c none) ≡ true
some-child q l c h = by (q l) (some_node q c) h
  where
    by : (a b : Bool) → b ≡ true → a || b || false ≡ true
    by true b g = refl
    by false true g = refl
    by false false g = absurd cc

some-label : (q : Label → Bool) (l : Label) (c : Trees) → q l ≡ true → some_node q (tree l c none) ≡ true
some-label q l c h = by (q l) (some_node q c) h
  where
    by : (a b : Bool) → a ≡ true → a || b || false ≡ true
    by true b g = refl
    by false b g = absurd cc

-- a use of the name where a type or a const of this sort has to stand
abbrev pub is_use_as : Sort → List ℕ → Use → Bool
is_use_as p n (name_use s m k) = is_sort p s && bytes_eq m n
is_use_as p n u = false

-- auto traits have no parameters
abbrev pub AutosAreBare : Declarations → Type 0
AutosAreBare d = (n : List ℕ) (k h : ℕ) (ks : List Sort) → known d n ≡ Some (a_trait k h true ks) → ks ≡ []

abbrev pub number_as : Line → ℕ → Sort → List ℕ → ℕ
number_as l first of_type n = first + length (params_of l).lifetimes + place_among n (params_of l).types
number_as l first of_const n = first + length (params_of l).lifetimes + length (params_of l).types + place_among n (params_of l).consts
number_as l first of_lifetime n = 0

-- the name is that of a parameter of the sort
abbrev pub IsNamed : Line → Sort → List ℕ → Type 0
IsNamed l of_type n = is_among n (params_of l).types ≡ true
IsNamed l of_const n = Unit {0}
IsNamed l of_lifetime n = ⊥

false-true : {A : Type 0} → false ≡ true → A
false-true h = absurd cc

module _ (d : Declarations) (l : Line) (first : ℕ) (bare : AutosAreBare (with_own d l)) (p : Sort) (n : List ℕ) (same : (m : List ℕ) → bytes_eq m n ≡ true → m ≡ n) (is_named : IsNamed l p n) where
  abbrev means : Meanings
  means = item_meanings d l first

  abbrev q : Label → Bool
  q = is_label_of p (number_as l first p n)

  abbrev used : List Use → Bool
  used us = list_any (is_use_as p n) us

  -- a name used as a type
  type-named : (m : List ℕ) (k : ℕ) (c : Trees) → is_use_as p n (name_use of_type m k) ≡ true → some_node q (tree (type_label means m) c none) ≡ true
  type-named m k c h = by p (number_as l first p n) is_named h refl
    where
      by : (s : Sort) (i : ℕ) → IsNamed l s n → is_sort s of_type && bytes_eq m n ≡ true → number_as l first s n ≡ i → some_node (is_label_of s i) (tree (type_label means m) c none) ≡ true
      by of_const i g e t = absurd cc
      by of_lifetime i g e t = absurd cc
      by of_type i g e t =
          subst (λ x. some_node (is_label_of of_type i) (tree (type_label means x) c none) ≡ true) (sym (same m e))
          (chosen (is_among n (params_of l).types) g)
        where
          chosen : (b : Bool) → b ≡ true → some_node (is_label_of of_type i) (tree (if b then param of_type (first + length (params_of l).lifetimes + place_among n (params_of l).types) else struct_label (known (with_own d l) n)) c none) ≡ true
          chosen true w = some-label (is_label_of of_type i) (param of_type (first + length (params_of l).lifetimes + place_among n (params_of l).types)) c (eq-eqb i (first + length (params_of l).lifetimes + place_among n (params_of l).types) (sym t))
          chosen false w = absurd cc

  const-named : (m : List ℕ) (k : ℕ) → is_use_as p n (name_use of_const m k) ≡ true → some_node q (leaf (const_label means m)) ≡ true
  const-named m k h = by p h
    where
      by : (s : Sort) → is_sort s of_const && bytes_eq m n ≡ true → some_node (is_label_of s (number_as l first s n)) (leaf (const_label means m)) ≡ true
      by of_type e = absurd cc
      by of_lifetime e = absurd cc
      by of_const e =
          subst (λ x. some_node (is_label_of of_const (number_as l first of_const n)) (leaf (const_label means x)) ≡ true) (sym (same m e))
          (some-label (is_label_of of_const (number_as l first of_const n)) (const_label means n) none (eq-eqb (number_as l first of_const n) (number_as l first of_const n) refl))

  length-stands : (k : Length) → used (length_uses k) ≡ true → some_node q (leaf (length_label means k)) ≡ true
  length-stands (number_length i) h = absurd cc
  length-stands (name_length m) h = const-named m 0 (drop-false _ h)
    where
      drop-false : (b : Bool) → b || false ≡ true → b ≡ true
      drop-false true g = refl
      drop-false false g = absurd cc
  length-stands (variable_length i) h = absurd cc

  no-lifetime : (s : List (List (List ℕ))) (o : Option (List ℕ)) → used (lifetime_uses s o) ≡ true → ⊥
  no-lifetime s None h = absurd cc
  no-lifetime s (Some m) h = absurd cc

  no-binder : (s : List (List (List ℕ))) (b : List (List ℕ)) → used (binder_uses s b) ≡ true → ⊥
  no-binder s [] h = absurd cc
  no-binder s (m ∷ ms) h = absurd cc

  -- an auto trait has no arguments
  auto-bare : (m : List ℕ) (args : Args) → is_auto_name (with_own d l) m ≡ true → UseFits d l (trait_use m (args_count args)) → args ≡ no_args
  auto-bare m args a f = by (known (with_own d l) m) refl a f.1
    where
      none-counted : (xs : Args) → (0 == args_count xs) ≡ true → xs ≡ no_args
      none-counted no_args g = refl
      none-counted (and_arg x xs) g = absurd (omega (arith, eqb-true 0 (suc (args_count xs)) g))

      by : (o : Option Known) → known (with_own d l) m ≡ o → option_map_or (λ k. elim k [ a_crate i ↦ false | a_struct i h kinds ↦ false | a_trait i h b kinds ↦ b ]) o false ≡ true
          → option_map_or (is_trait_of (args_count args)) o false ≡ true → args ≡ no_args
      by None e g t = absurd cc
      by (Some (a_crate i)) e g t = absurd cc
      by (Some (a_struct i h ks)) e g t = absurd cc
      by (Some (a_trait i h false ks)) e g t = absurd cc
      by (Some (a_trait i h true ks)) e g t = none-counted args (subst (λ x. (length x == args_count args) ≡ true) (bare m i h ks e) t)

  -- late items of a `dyn` use no name: they are auto traits
  late-unused : (s : List (List (List ℕ))) (i : Item) → AllFit d l (item_uses (with_own d l) s i) → is_late (with_own d l) (item_shape i) ≡ false → used (item_uses (with_own d l) s i) ≡ true → ⊥
  late-unused s (lifetime_item m) f e h = absurd cc
  late-unused s (bound_item b m args) f e h =
      by (any-split (is_use_as p n) (binder_uses s b) (trait_use m (args_count args) ∷ args_uses (with_own d l) (b ∷ s) (kinds_of_trait (known (with_own d l) m)) args) h)
    where
      not-not : (c : Bool) → not c ≡ false → c ≡ true
      not-not true g = refl
      not-not false g = absurd cc

      bare-args : args ≡ no_args
      bare-args = auto-bare m args (not-not _ e) (rest-fit d l (binder_uses s b) (trait_use m (args_count args) ∷ args_uses (with_own d l) (b ∷ s) (kinds_of_trait (known (with_own d l) m)) args) f).0.0

      by : Either (used (binder_uses s b)) (used (trait_use m (args_count args) ∷ args_uses (with_own d l) (b ∷ s) (kinds_of_trait (known (with_own d l) m)) args)) → ⊥
      by (this g) = no-binder s b g
      by (that g) = false-true (subst (λ x. used (args_uses (with_own d l) (b ∷ s) (kinds_of_trait (known (with_own d l) m)) x) ≡ true) bare-args g)

  late-items-unused : (s : List (List (List ℕ))) (is : DynBounds) → AllFit d l (items_uses (with_own d l) s is) → list_any (is_late (with_own d l)) (item_shapes is) ≡ false → used (items_uses (with_own d l) s is) ≡ true → ⊥
  late-items-unused s no_items f e h = absurd cc
  late-items-unused s (and_item i is) f e h = by (any-split (is_use_as p n) (item_uses (with_own d l) s i) (items_uses (with_own d l) s is) h) (late-items-unused s is (rest-fit d l (item_uses (with_own d l) s i) (items_uses (with_own d l) s is) f) (second (is_late (with_own d l) (item_shape i)) _ e))
    where
      one : (a b : Bool) → a || b ≡ false → a ≡ false
      one false b g = refl
      one true b g = absurd cc

      second : (a b : Bool) → a || b ≡ false → b ≡ false
      second false b g = g
      second true b g = absurd cc

      by : Either (used (item_uses (with_own d l) s i)) (used (items_uses (with_own d l) s is)) → (used (items_uses (with_own d l) s is) ≡ true → ⊥) → ⊥
      by (this g) r = late-unused s i (first-fit d l (item_uses (with_own d l) s i) (items_uses (with_own d l) s is) f) (one (is_late (with_own d l) (item_shape i)) _ e) g
      by (that g) r = r g

  late-none : (i : Item) (is : DynBounds) → UseFits d l (dyn_use (item_shape i ∷ item_shapes is)) → list_any (is_late (with_own d l)) (item_shapes is) ≡ false
  late-none i is f = or-left _ _ (or-right _ _ f.0)

  -- a const parameter has no arguments
  const-bare : (s : List (List (List ℕ))) (ks : List Sort) (m : List ℕ) (args : Args) → UseFits d l (name_use of_const m (args_count args)) → used (args_uses (with_own d l) s ks args) ≡ true → ⊥
  const-bare s ks m args f h = false-true (subst (λ x. used (args_uses (with_own d l) s ks x) ≡ true) (none-counted args (by (is_line_param l m) (known (with_own d l) m) f)) h)
    where
      none-counted : (xs : Args) → (args_count xs == 0) ≡ true → xs ≡ no_args
      none-counted no_args g = refl
      none-counted (and_arg x xs) g = absurd (omega (arith, eqb-true (suc (args_count xs)) 0 g))

      second : (a b : Bool) → a && b ≡ true → b ≡ true
      second true b g = g
      second false b g = absurd cc

      by : (b : Bool) (o : Option Known) → (if b then is_param_of l of_const m (args_count args) else option_map_or (is_type_of of_const (args_count args)) o false) ≡ true → (args_count args == 0) ≡ true
      by true o g = second _ _ g
      by false None g = absurd cc
      by false (Some (a_crate i)) g = absurd cc
      by false (Some (a_struct i x y)) g = absurd cc
      by false (Some (a_trait i x a y)) g = absurd cc

  mutual
    pub type-stands : (s : List (List (List ℕ))) (t : TypeTree) → AllFit d l (type_uses (with_own d l) s of_type t) → used (type_uses (with_own d l) s of_type t) ≡ true → some_node q (type_tree means s of_type t) ≡ true
    type-stands s (of_primitive x) f h = absurd cc
    type-stands s never_type f h = absurd cc
    type-stands s (variable_type m) f h = absurd cc
    type-stands s (named m args) f h =
        elim (either (is_use_as p n (name_use of_type m (args_count args))) (used (args_uses (with_own d l) s (kinds_of_struct (known (with_own d l) m)) args)) h) [
          | this g ↦ type-named m (args_count args) (args_trees means s (kinds_of_struct (known (with_own d l) m)) args) g
          | that g ↦ some-child q (type_label means m) (args_trees means s (kinds_of_struct (known (with_own d l) m)) args) (args-stand s (kinds_of_struct (known (with_own d l) m)) args f.1 g)
        ]
    type-stands s (reference_to o m t) f h =
        some-child q (ref m) (optional_lifetime means s o +++ type_tree means s of_type t)
        (some-append q (optional_lifetime means s o) (type_tree means s of_type t)
        (elim (any-split (is_use_as p n) (lifetime_uses s o) (type_uses (with_own d l) s of_type t) h) [
          | this g ↦ absurd (no-lifetime s o g)
          | that g ↦ that (type-stands s t (rest-fit d l (lifetime_uses s o) (type_uses (with_own d l) s of_type t) f) g)
        ]))
    type-stands s (pointer_to m t) f h = some-child q (raw_pointer m) (type_tree means s of_type t) (type-stands s t f h)
    type-stands s (slice_of t) f h = some-child q slice (type_tree means s of_type t) (type-stands s t f h)
    type-stands s (array_of t k) f h =
        some-child q array (type_tree means s of_type t +++ leaf (length_label means k))
        (some-append q (type_tree means s of_type t) (leaf (length_label means k))
        (elim (any-split (is_use_as p n) (type_uses (with_own d l) s of_type t) (length_uses k) h) [
          | this g ↦ this (type-stands s t (first-fit d l (type_uses (with_own d l) s of_type t) (length_uses k) f) g)
          | that g ↦ that (length-stands k g)
        ]))
    type-stands s (tuple_of ts) f h = some-child q tuple (types_trees means s ts) (types-stand s ts f.1 h)
    type-stands s (fn_of b ts) f h =
        some-child q (fn_ptr (length b)) (types_trees means (b ∷ s) ts +++ leaf tuple)
        (some-append q (types_trees means (b ∷ s) ts) (leaf tuple)
        (elim (any-split (is_use_as p n) (binder_uses s b) (items_use (types_count ts) ∷ types_uses (with_own d l) (b ∷ s) ts) h) [
          | this g ↦ absurd (no-binder s b g)
          | that g ↦ this (types-stand (b ∷ s) ts (rest-fit d l (binder_uses s b) (items_use (types_count ts) ∷ types_uses (with_own d l) (b ∷ s) ts) f).1 g)
        ]))
    type-stands s (fn_to b ts r) f h =
        let u = rest-fit d l (binder_uses s b) (items_use (types_count ts) ∷ (types_uses (with_own d l) (b ∷ s) ts ++ type_uses (with_own d l) (b ∷ s) of_type r)) f in
        some-child q (fn_ptr (length b)) (types_trees means (b ∷ s) ts +++ type_tree means (b ∷ s) of_type r)
        (some-append q (types_trees means (b ∷ s) ts) (type_tree means (b ∷ s) of_type r)
        (elim (any-split (is_use_as p n) (binder_uses s b) (items_use (types_count ts) ∷ (types_uses (with_own d l) (b ∷ s) ts ++ type_uses (with_own d l) (b ∷ s) of_type r)) h) [
          | this g ↦ absurd (no-binder s b g)
          | that g ↦ elim (any-split (is_use_as p n) (types_uses (with_own d l) (b ∷ s) ts) (type_uses (with_own d l) (b ∷ s) of_type r) g) [
            | this k ↦ this (types-stand (b ∷ s) ts (first-fit d l (types_uses (with_own d l) (b ∷ s) ts) (type_uses (with_own d l) (b ∷ s) of_type r) u.1) k)
            | that k ↦ that (type-stands (b ∷ s) r (rest-fit d l (types_uses (with_own d l) (b ∷ s) ts) (type_uses (with_own d l) (b ∷ s) of_type r) u.1) k)
          ]
        ]))
    type-stands s (dyn_of i is) f h =
        let one = first-fit d l (item_uses (with_own d l) s i) (items_uses (with_own d l) s is) f.1 in
        let more = rest-fit d l (item_uses (with_own d l) s i) (items_uses (with_own d l) s is) f.1 in
        some-child q dynamic (item_tree means s i +++ items_trees means s is +++ auto_leaves (with_auto (with_own d l) i (autos (with_own d l) is)) +++ last_lifetime means s i is)
        (some-append q (item_tree means s i) (items_trees means s is +++ auto_leaves (with_auto (with_own d l) i (autos (with_own d l) is)) +++ last_lifetime means s i is)
        (elim (any-split (is_use_as p n) (item_uses (with_own d l) s i) (items_uses (with_own d l) s is) h) [
          | this g ↦ this (item-stands s i one g)
          | that g ↦ absurd (late-items-unused s is more (late-none i is f.0.0) g)
        ]))

    item-stands : (s : List (List (List ℕ))) (i : Item) → AllFit d l (item_uses (with_own d l) s i) → used (item_uses (with_own d l) s i) ≡ true → some_node q (item_tree means s i) ≡ true
    item-stands s (lifetime_item m) f h = absurd cc
    item-stands s (bound_item b m args) f h =
        by (is_auto_name (with_own d l) m) refl
        (elim (any-split (is_use_as p n) (binder_uses s b) (trait_use m (args_count args) ∷ args_uses (with_own d l) (b ∷ s) (kinds_of_trait (known (with_own d l) m)) args) h) [ this g ↦ absurd (no-binder s b g) | that g ↦ g ])
        (λ g. args-stand (b ∷ s) (kinds_of_trait (known (with_own d l) m)) args (rest-fit d l (binder_uses s b) (trait_use m (args_count args) ∷ args_uses (with_own d l) (b ∷ s) (kinds_of_trait (known (with_own d l) m)) args) f).1 g)
      where
        fits : UseFits d l (trait_use m (args_count args))
        fits = (rest-fit d l (binder_uses s b) (trait_use m (args_count args) ∷ args_uses (with_own d l) (b ∷ s) (kinds_of_trait (known (with_own d l) m)) args) f).0.0

        by : (a : Bool) → is_auto_name (with_own d l) m ≡ a → used (args_uses (with_own d l) (b ∷ s) (kinds_of_trait (known (with_own d l) m)) args) ≡ true
            → (used (args_uses (with_own d l) (b ∷ s) (kinds_of_trait (known (with_own d l) m)) args) ≡ true → some_node q (args_trees means (b ∷ s) (kinds_of_trait (known (with_own d l) m)) args) ≡ true)
            → some_node q (if a then none else tree (principal (length b) (trait_number (known (with_own d l) m))) (args_trees means (b ∷ s) (kinds_of_trait (known (with_own d l) m)) args) none) ≡ true
        by true e g r = false-true (subst (λ x. used (args_uses (with_own d l) (b ∷ s) (kinds_of_trait (known (with_own d l) m)) x) ≡ true) (auto-bare m args e fits) g)
        by false e g r = some-child q (principal (length b) (trait_number (known (with_own d l) m))) (args_trees means (b ∷ s) (kinds_of_trait (known (with_own d l) m)) args) (r g)

    types-stand : (s : List (List (List ℕ))) (ts : Types) → AllFit d l (types_uses (with_own d l) s ts) → used (types_uses (with_own d l) s ts) ≡ true → some_node q (types_trees means s ts) ≡ true
    types-stand s no_types f h = absurd cc
    types-stand s (and_type t ts) f h =
        some-append q (type_tree means s of_type t) (types_trees means s ts)
        (elim (any-split (is_use_as p n) (type_uses (with_own d l) s of_type t) (types_uses (with_own d l) s ts) h) [
          | this g ↦ this (type-stands s t (first-fit d l (type_uses (with_own d l) s of_type t) (types_uses (with_own d l) s ts) f) g)
          | that g ↦ that (types-stand s ts (rest-fit d l (type_uses (with_own d l) s of_type t) (types_uses (with_own d l) s ts) f) g)
        ])

    pub args-stand : (s : List (List (List ℕ))) (ks : List Sort) (args : Args) → AllFit d l (args_uses (with_own d l) s ks args) → used (args_uses (with_own d l) s ks args) ≡ true → some_node q (args_trees means s ks args) ≡ true
    args-stand s ks no_args f h = absurd cc
    args-stand s ks (and_arg a args) f h =
        some-append q (arg_tree means s (next_kind ks) a) (args_trees means s (other_kinds ks) args)
        (elim (any-split (is_use_as p n) (arg_uses (with_own d l) s (next_kind ks) a) (args_uses (with_own d l) s (other_kinds ks) args) h) [
          | this g ↦ this (arg-stands s (next_kind ks) a (first-fit d l (arg_uses (with_own d l) s (next_kind ks) a) (args_uses (with_own d l) s (other_kinds ks) args) f) g)
          | that g ↦ that (args-stand s (other_kinds ks) args (rest-fit d l (arg_uses (with_own d l) s (next_kind ks) a) (args_uses (with_own d l) s (other_kinds ks) args) f) g)
        ])

    arg-stands : (s : List (List (List ℕ))) (k : Sort) (a : Arg) → AllFit d l (arg_uses (with_own d l) s k a) → used (arg_uses (with_own d l) s k a) ≡ true → some_node q (arg_tree means s k a) ≡ true
    arg-stands s of_lifetime (lifetime_arg m) f h = absurd cc
    arg-stands s of_type (lifetime_arg m) f h = absurd cc
    arg-stands s of_const (lifetime_arg m) f h = absurd cc
    arg-stands s of_lifetime (number_arg m) f h = absurd cc
    arg-stands s of_type (number_arg m) f h = absurd cc
    arg-stands s of_const (number_arg m) f h = absurd cc
    arg-stands s of_type (type_arg t) f h = type-stands s t f h
    arg-stands s of_lifetime (type_arg t) f h = absurd f.0.0
    arg-stands s of_const (type_arg (named m args)) f h =
        elim (either (is_use_as p n (name_use of_const m (args_count args))) (used (args_uses (with_own d l) s (kinds_of_struct (known (with_own d l) m)) args)) h) [
          | this g ↦ const-named m (args_count args) g
          | that g ↦ absurd (const-bare s (kinds_of_struct (known (with_own d l) m)) m args f.0.0 g)
        ]
    arg-stands s of_const (type_arg (variable_type m)) f h = absurd f.0.1
    arg-stands s of_const (type_arg (of_primitive x)) f h = absurd f.0.0
    arg-stands s of_const (type_arg never_type) f h = absurd f.0.0
    arg-stands s of_const (type_arg (reference_to x y z)) f h = absurd f.0.0
    arg-stands s of_const (type_arg (pointer_to x y)) f h = absurd f.0.0
    arg-stands s of_const (type_arg (slice_of x)) f h = absurd f.0.0
    arg-stands s of_const (type_arg (array_of x y)) f h = absurd f.0.0
    arg-stands s of_const (type_arg (tuple_of x)) f h = absurd f.0.0
    arg-stands s of_const (type_arg (fn_of x y)) f h = absurd f.0.0
    arg-stands s of_const (type_arg (fn_to x y z)) f h = absurd f.0.0
    arg-stands s of_const (type_arg (dyn_of x y)) f h = absurd f.0.0
