-- What a line without a fault mentions is of the kind that its position needs, so its types mean the terms that the
-- long definition gives.
use Rattle.std.proofs.Common.{◌≡◌, ℕ, suc, ◌+◌, Bool, true, false, not, ◌||◌, ◌&&◌, List, [], ◌∷◌, ◌++◌, map, length, Option, Some, None, refl, sym, ap, ◌∙◌, arith}
use Rattle.std.proofs.lemmas.Bool.{eqb-true, eq-eqb}
use Rattle.std.specs.Prelude.{if◌then◌else◌, unwrap_or, ◌==◌}
use Rattle.std.specs.List.{list_any, flat_map}
use Rattle.std.specs.Option.{option_map_or}
use Rattle.std.specs.Str.{bytes_eq}
use Rattle.type_terms.specs.Promised.Label.{Label, Sort, of_type, of_const, of_lifetime, never, array, slice, tuple, dynamic, static, adt, fn_ptr, auto_trait, value, ref, raw_pointer, principal, infer, bound}
use Rattle.type_terms.specs.Promised.Trees.{Trees, none, tree, leaf, ◌+++◌}
use Rattle.type_terms.specs.Promised.Rules.{together}
use Rattle.text_language.specs.Promised.Syntax.{TypeTree, of_primitive, never_type, variable_type, named, reference_to, pointer_to, slice_of, array_of, tuple_of, fn_of, fn_to, dyn_of, Types, no_types, and_type, Args, no_args, and_arg, lifetime_arg, number_arg, type_arg, Item, bound_item, lifetime_item, DynBounds, no_items, and_item, number_length, name_length, variable_length, Bound, Clause, Line}
use Rattle.text_language.specs.Promised.Declarations.{Declarations, Variable, Known, a_crate, a_struct, a_trait, known}
use Rattle.text_language.specs.Uses.{Use, crate_use, name_use, trait_use, lifetime_use, binder_use, variable_use, misfit_use, dyn_use, items_use, number_use, item_shape, item_shapes, args_count, types_count, kinds_of_struct, kinds_of_trait, length_uses, lifetime_uses, lifetime_arg_uses, binder_uses, type_misfits, type_uses, types_uses, args_uses, arg_uses, item_uses, items_uses, bound_uses, clause_uses, params_of}
use Rattle.text_language.specs.Promised.Faults.{with_own, is_among, is_auto_name}
use Rattle.text_language.specs.Faults.{is_in_scope, static_name, is_line_param, is_param_of, is_crate, is_type_of, is_trait_of, is_bound, is_late, binds_auto, has_early_lifetime, is_bad_dyn}
use Rattle.text_language.specs.Lowering.{Meanings, place_among, crate_number, trait_number, struct_label, type_label, const_label, variable_label, lifetime_under, lifetime_label, optional_lifetime, inserted, with_auto, autos, auto_leaves, item_lifetime, last_lifetime, type_tree, types_trees, args_trees, items_trees, field_trees, bound_with_self, clause_reference}
use Rattle.text_language.specs.Promised.LineMeanings.{means, own_param, life_label, variable_meaning, dyn_end, as_tree, as_trees, as_args, bound_meaning, clause_meaning}
use Rattle.text_language.proofs.SameMeaningsNames.{and-first, and-second, not-false, name-position, own-life, own-type, own-const}
use Rattle.text_language.proofs.SameMeaningsVariables.{as-variables, variable-placed}
use Rattle.text_language.proofs.SameMeaningsAutos.{either-order, Rises, put-rises, between, between-is}
use Rattle.type_terms.proofs.BooleanBasics.{left-false as or-first, right-false as or-second}
use Rattle.type_terms.proofs.ListBasics.{same-name}

-- ---- a use that fits
abbrev pub UseFits : Declarations → Line → Use → Type 0
UseFits d l (crate_use n) = option_map_or is_crate (known d n) false ≡ true
UseFits d l (name_use p n k) = (if is_line_param l n then is_param_of l p n k else option_map_or (is_type_of p k) (known (with_own d l) n) false) ≡ true
UseFits d l (trait_use n k) = option_map_or (is_trait_of k) (known (with_own d l) n) false ≡ true
UseFits d l (lifetime_use s n) = bytes_eq n static_name || is_in_scope l s n ≡ true
UseFits d l (binder_use s ns) = is_among static_name ns ≡ false
UseFits d l (dyn_use is) = is_bad_dyn (with_own d l) (dyn_use is) ≡ false
UseFits d l misfit_use = ⊥
UseFits d l (variable_use p n) = Unit {0}
UseFits d l (items_use k) = Unit {0}
UseFits d l (number_use n) = Unit {0}

abbrev pub AllFit : Declarations → Line → List Use → Type 0
AllFit d l [] = Unit {0}
AllFit d l (u ∷ us) = UseFits d l u × AllFit d l us

pub first-fit : (d : Declarations) (l : Line) (us vs : List Use) → AllFit d l (us ++ vs) → AllFit d l us
first-fit d l [] vs f = tt
first-fit d l (u ∷ us) vs f = (f.0, first-fit d l us vs f.1)

pub rest-fit : (d : Declarations) (l : Line) (us vs : List Use) → AllFit d l (us ++ vs) → AllFit d l vs
rest-fit d l [] vs f = f
rest-fit d l (u ∷ us) vs f = rest-fit d l us vs f.1

-- ---- what is known by a name
abbrev known-pair : Option Known → ℕ × List Sort
known-pair o = option_map_or (λ k. elim k [ a_crate i ↦ (i, []) | a_struct i h kinds ↦ (i, kinds) | a_trait i h a kinds ↦ (i, kinds) ]) o (0, [])

-- a known struct with so many parameters
pub struct-known : (o : Option Known) (k : ℕ) (f : List Sort → Trees) (g : List Sort → Trees) → option_map_or (is_type_of of_type k) o false ≡ true
    → ((length (kinds_of_struct o) == k) ≡ true → f (kinds_of_struct o) ≡ g (kinds_of_struct o))
    → tree (adt (known-pair o).0) (f (known-pair o).1) none
    ≡ tree (struct_label o) (g (kinds_of_struct o)) none
struct-known None k f g h e = absurd cc
struct-known (Some (a_crate i)) k f g h e = absurd cc
struct-known (Some (a_struct i c ks)) k f g h e = ap (λ x. tree (adt i) x none) (e h)
struct-known (Some (a_trait i c a ks)) k f g h e = absurd cc

module _ (d : Declarations) (n : List ℕ) where
  pub crate-numbered : option_map_or is_crate (known d n) false ≡ true → (means d n).0 ≡ crate_number (known d n)
  crate-numbered h = by (known d n) h
    where
      by : (o : Option Known) → option_map_or is_crate o false ≡ true → (known-pair o).0 ≡ crate_number o
      by None g = refl
      by (Some (a_crate i)) g = refl
      by (Some (a_struct i c ks)) g = absurd cc
      by (Some (a_trait i c a ks)) g = absurd cc

  module _ (k : ℕ) (h : option_map_or (is_trait_of k) (known d n) false ≡ true) where
    pub trait-numbered : (means d n).0 ≡ trait_number (known d n)
    trait-numbered = by (known d n) h
      where
        by : (o : Option Known) → option_map_or (is_trait_of k) o false ≡ true → (known-pair o).0 ≡ trait_number o
        by None g = refl
        by (Some (a_crate i)) g = absurd cc
        by (Some (a_struct i c ks)) g = absurd cc
        by (Some (a_trait i c a ks)) g = refl

    pub trait-kinds : (means d n).1 ≡ kinds_of_trait (known d n)
    trait-kinds = by (known d n) h
      where
        by : (o : Option Known) → option_map_or (is_trait_of k) o false ≡ true → (known-pair o).1 ≡ kinds_of_trait o
        by None g = refl
        by (Some (a_crate i)) g = absurd cc
        by (Some (a_struct i c ks)) g = absurd cc
        by (Some (a_trait i c a ks)) g = refl

    pub trait-counted : (length (kinds_of_trait (known d n)) == k) ≡ true
    trait-counted = by (known d n) h
      where
        by : (o : Option Known) → option_map_or (is_trait_of k) o false ≡ true → (length (kinds_of_trait o) == k) ≡ true
        by None g = absurd cc
        by (Some (a_crate i)) g = absurd cc
        by (Some (a_struct i c ks)) g = absurd cc
        by (Some (a_trait i c a ks)) g = g

no-true : {A : Type 0} (a b c : Bool) → a || (b || (c || true)) ≡ false → A
no-true false false false h = absurd cc
no-true false false true h = absurd cc
no-true false true c h = absurd cc
no-true true b c h = absurd cc

-- ---- trees
pub autos-are : (ns : List ℕ) → together (map (λ i. leaf (auto_trait i)) ns) ≡ auto_leaves ns
autos-are [] = refl
autos-are (n ∷ ns) = ap (tree (auto_trait n) none) (autos-are ns)

none-counted : (xs : Args) → (args_count xs == 0) ≡ true → xs ≡ no_args
none-counted no_args g = refl
none-counted (and_arg x xs) g = absurd (omega (arith, eqb-true (suc (args_count xs)) 0 g))

abbrev pub Binders : Type 0
Binders = List (List (List ℕ))

-- no binder binds `'static`
abbrev pub NoStatic : Binders → Type 0
NoStatic s = list_any (is_among static_name) s ≡ false

-- ---- a line whose parameters have these labels
module _ (d : Declarations) (l : Line) (first : ℕ) (parameter label : Sort → ℕ → Label) (labels : (p : Sort) (i : ℕ) → label p i ≡ parameter p (first + i)) (pairs : List (List ℕ × Sort)) (no_static : is_among static_name (params_of l).lifetimes ≡ false) where
  abbrev pub D : Declarations
  D = with_own d l

  abbrev pub own : Sort → List ℕ → Option Label
  own = own_param (params_of l) label

  abbrev pub vs : List Variable
  vs = as-variables pairs

  abbrev pub old : Meanings
  old = record { items = D; params = params_of l; first = first; parameter = parameter; variables = pairs }

  abbrev ls : List (List ℕ)
  ls = (params_of l).lifetimes

  abbrev ts : List (List ℕ)
  ts = (params_of l).types

  abbrev cs : List (List ℕ)
  cs = (params_of l).consts

  -- ---- lifetimes
  life-under : (s : Binders) (k : ℕ) (n : List ℕ) → is_in_scope l s n ≡ true → life_label own k s n ≡ lifetime_under old k s n
  life-under [] k n h = ap (λ o. unwrap_or o static) (own-life (params_of l) label n) ∙ by (is_among n ls) h
    where
      by : (b : Bool) → b || false ≡ true → unwrap_or (if b then Some (label of_lifetime (place_among n ls)) else None) static ≡ parameter of_lifetime (first + place_among n ls)
      by true g = labels of_lifetime (place_among n ls)
      by false g = absurd cc
  life-under (b ∷ s) k n h = ap (λ o. option_map_or (bound of_lifetime k) o (life_label own (suc k) s n)) (name-position n b) ∙ by (is_among n b) (is_among n ls) refl h (life-under s (suc k) n)
    where
      by : (x y : Bool) → is_among n ls ≡ y → y || (x || list_any (is_among n) s) ≡ true → (is_in_scope l s n ≡ true → life_label own (suc k) s n ≡ lifetime_under old (suc k) s n)
          → option_map_or (bound of_lifetime k) (if x then Some (place_among n b) else None) (life_label own (suc k) s n) ≡ (if x then bound of_lifetime k (place_among n b) else lifetime_under old (suc k) s n)
      by true y e g r = refl
      by false true e g r = r (ap (λ z. z || list_any (is_among n) s) e)
      by false false e g r = r (ap (λ z. z || list_any (is_among n) s) e ∙ g)

  life-static : (s : Binders) (k : ℕ) → NoStatic s → life_label own k s static_name ≡ static
  life-static [] k h = ap (λ o. unwrap_or o static) (own-life (params_of l) label static_name) ∙ ap (λ b. unwrap_or (if b then Some (label of_lifetime (place_among static_name ls)) else None) static) no_static
  life-static (b ∷ s) k h =
      ap (λ o. option_map_or (bound of_lifetime k) o (life_label own (suc k) s static_name)) (name-position static_name b)
      ∙ ap (λ x. option_map_or (bound of_lifetime k) (if x then Some (place_among static_name b) else None) (life_label own (suc k) s static_name)) (or-first _ _ h)
      ∙ life-static s (suc k) (or-second (is_among static_name b) _ h)

  life-is : (s : Binders) (n : List ℕ) → NoStatic s → bytes_eq n static_name || is_in_scope l s n ≡ true → life_label own 0 s n ≡ lifetime_label old s n
  life-is s n h g = by (bytes_eq n static_name) refl g
    where
      by : (b : Bool) → bytes_eq n static_name ≡ b → b || is_in_scope l s n ≡ true → life_label own 0 s n ≡ (if b then static else lifetime_under old 0 s n)
      by true e f = ap (life_label own 0 s) (same-name n static_name e) ∙ life-static s 0 h
      by false e f = life-under s 0 n f

  optional-is : (s : Binders) (o : Option (List ℕ)) → NoStatic s → AllFit d l (lifetime_uses s o) → leaf (option_map_or (life_label own 0 s) o static) ≡ optional_lifetime old s o
  optional-is s None h f = refl
  optional-is s (Some n) h f = ap leaf (life-is s n h f.0)

  -- ---- variables
  variable-is : (p : Sort) (n : List ℕ) → variable_meaning vs p n ≡ variable_label old p n
  variable-is p n = ap (infer p) (variable-placed p n pairs)

  -- ---- names
  const-named : (n : List ℕ) → is_among n cs ≡ true → own of_const n ≡ Some (const_label old n)
  const-named n h =
      own-const (params_of l) label n ∙ ap (λ b. if b then Some (label of_const (length ls + length ts + place_among n cs)) else None) h
      ∙ ap Some (labels of_const (length ls + length ts + place_among n cs) ∙ ap (parameter of_const) (omega arith))

  const-use : (n : List ℕ) (k : ℕ) → UseFits d l (name_use of_const n k) → (is_among n cs ≡ true) × ((k == 0) ≡ true)
  const-use n k h = by (is_line_param l n) (known D n) h
    where
      by : (b : Bool) (o : Option Known) → (if b then is_among n cs && (k == 0) else option_map_or (is_type_of of_const k) o false) ≡ true → (is_among n cs ≡ true) × ((k == 0) ≡ true)
      by true o g = (and-first _ _ g, and-second (is_among n cs) _ g)
      by false None g = absurd cc
      by false (Some (a_crate i)) g = absurd cc
      by false (Some (a_struct i c ks)) g = absurd cc
      by false (Some (a_trait i c a ks)) g = absurd cc

  no-lifetime : {A : Type 0} (n : List ℕ) (k : ℕ) → UseFits d l (name_use of_lifetime n k) → A
  no-lifetime n k h = by (is_line_param l n) (known D n) h
    where
      by : {A : Type 0} (b : Bool) (o : Option Known) → (if b then false else option_map_or (is_type_of of_lifetime k) o false) ≡ true → A
      by true o g = absurd cc
      by false None g = absurd cc
      by false (Some (a_crate i)) g = absurd cc
      by false (Some (a_struct i c ks)) g = absurd cc
      by false (Some (a_trait i c a ks)) g = absurd cc

  -- the types come before the consts
  not-type : (xs : List (List ℕ)) (n : List ℕ) → is_among n (xs ++ cs) ≡ false → is_among n xs ≡ false
  not-type [] n h = refl
  not-type (x ∷ xs) n h = by (bytes_eq x n) h (not-type xs n)
    where
      by : (b : Bool) → b || is_among n (xs ++ cs) ≡ false → (is_among n (xs ++ cs) ≡ false → is_among n xs ≡ false) → b || is_among n xs ≡ false
      by true g r = absurd cc
      by false g r = r g

  named-is : (s : Binders) (p : Sort) (n : List ℕ) (args : Args) → UseFits d l (name_use p n (args_count args))
      → ((length (kinds_of_struct (known D n)) == args_count args) ≡ true → as_args D own vs s (kinds_of_struct (known D n)) args ≡ args_trees old s (kinds_of_struct (known D n)) args)
      → as_tree D own vs s p (named n args) ≡ type_tree old s p (named n args)
  named-is s of_lifetime n args h r = no-lifetime n (args_count args) h
  named-is s of_const n args h r = ap (λ o. option_map_or leaf o (tree (adt (means D n).0) (as_args D own vs s (means D n).1 args) none)) (const-named n (const-use n (args_count args) h).0)
  named-is s of_type n args h r = by (is_line_param l n) refl h
    where
      in-head : (b : Bool) → is_among n ts ≡ b → type_label old n ≡ (if b then parameter of_type (first + length ls + place_among n ts) else struct_label (known D n))
      in-head b e = ap (λ x. if x then parameter of_type (first + length ls + place_among n ts) else struct_label (known D n)) e

      by : (b : Bool) → is_line_param l n ≡ b → (if b then is_among n ts && (args_count args == 0) else option_map_or (is_type_of of_type (args_count args)) (known D n) false) ≡ true
          → as_tree D own vs s of_type (named n args) ≡ type_tree old s of_type (named n args)
      by true e g =
          let there = and-first _ _ g in
          ap (λ o. option_map_or leaf o (tree (adt (means D n).0) (as_args D own vs s (means D n).1 args) none))
          (own-type (params_of l) label n ∙ ap (λ b. if b then Some (label of_type (length ls + place_among n ts)) else None) there)
          ∙ ap leaf (labels of_type (length ls + place_among n ts) ∙ ap (parameter of_type) (omega arith))
          ∙ ap leaf (sym (in-head true there))
          ∙ ap (λ x. tree (type_label old n) (args_trees old s (kinds_of_struct (known D n)) x) none) (sym (none-counted args (and-second (is_among n ts) _ g)))
      by false e g =
          let there = not-type ts n e in
          ap (λ o. option_map_or leaf o (tree (adt (means D n).0) (as_args D own vs s (means D n).1 args) none))
          (own-type (params_of l) label n ∙ ap (λ b. if b then Some (label of_type (length ls + place_among n ts)) else None) there)
          ∙ struct-known (known D n) (args_count args) (λ ks. as_args D own vs s ks args) (λ ks. args_trees old s ks args) g r
          ∙ ap (λ x. tree x (args_trees old s (kinds_of_struct (known D n)) args) none) (sym (in-head false there))

  length-named : (n : List ℕ) → UseFits d l (name_use of_const n 0) → unwrap_or (own of_const n) never ≡ const_label old n
  length-named n f = ap (λ o. unwrap_or o never) (const-named n (const-use n 0 f).0)

  binder-free : (s : Binders) (b : List (List ℕ)) → AllFit d l (binder_uses s b) → is_among static_name b ≡ false
  binder-free s [] f = refl
  binder-free s (n ∷ ns) f = f.0

  inner : (s : Binders) (b : List (List ℕ)) → AllFit d l (binder_uses s b) → NoStatic s → NoStatic (b ∷ s)
  inner s b f h = ap (λ x. x || list_any (is_among static_name) s) (binder-free s b f) ∙ h

  -- ---- the items of a `dyn`
  -- what is behind the first bound: auto traits, and a lifetime at the end
  abbrev IsLate : DynBounds → Type 0
  IsLate is = list_any (is_late D) (item_shapes is) ≡ false

  abbrev EndsWell : DynBounds → Type 0
  EndsWell is = has_early_lifetime (item_shapes is) ≡ false

  late-auto : (b : List (List ℕ)) (n : List ℕ) (args : Args) (is : DynBounds) → IsLate (and_item (bound_item b n args) is) → is_auto_name D n ≡ true
  late-auto b n args is h = not-false (is_auto_name D n) (or-first _ _ h)

  late-rest : (i : Item) (is : DynBounds) → IsLate (and_item i is) → IsLate is
  late-rest i is h = or-second (is_late D (item_shape i)) _ h

  ends-rest : (b : List (List ℕ)) (n : List ℕ) (args : Args) (is : DynBounds) → EndsWell (and_item (bound_item b n args) is) → EndsWell is
  ends-rest b n args no_items h = refl
  ends-rest b n args (and_item i is) h = h

  no-principal : (s : Binders) (is : DynBounds) → IsLate is → items_trees old s is ≡ none
  no-principal s no_items h = refl
  no-principal s (and_item (lifetime_item n) is) h = no-principal s is (late-rest (lifetime_item n) is h)
  no-principal s (and_item (bound_item b n args) is) h =
      ap (λ x. (if x then none else tree (principal (length b) (trait_number (known D n))) (args_trees old (b ∷ s) (kinds_of_trait (known D n)) args) none) +++ items_trees old s is) (late-auto b n args is h)
      ∙ no-principal s is (late-rest (bound_item b n args) is h)

  -- the auto traits on top of these
  onto : List ℕ → DynBounds → List ℕ
  onto ns no_items = ns
  onto ns (and_item i is) = with_auto D i (onto ns is)

  onto-none : (is : DynBounds) → onto [] is ≡ autos D is
  unfolding onto
  onto-none no_items = refl
  onto-none (and_item i is) = ap (with_auto D i) (onto-none is)

  onto-more : (k : ℕ) (ns : List ℕ) (is : DynBounds) → onto (inserted k ns) is ≡ inserted k (onto ns is)
  unfolding onto
  onto-more k ns no_items = refl
  onto-more k ns (and_item (lifetime_item n) is) = onto-more k ns is
  onto-more k ns (and_item (bound_item b n args) is) = by (is_auto_name D n) (onto-more k ns is)
    where
      by : (x : Bool) → onto (inserted k ns) is ≡ inserted k (onto ns is)
          → (if x then inserted (trait_number (known D n)) (onto (inserted k ns) is) else onto (inserted k ns) is) ≡ inserted k (if x then inserted (trait_number (known D n)) (onto ns is) else onto ns is)
      by true e = ap (inserted (trait_number (known D n))) e ∙ either-order (trait_number (known D n)) k (onto ns is)
      by false e = e

  leaves-on : (ns : List ℕ) (t u : Trees) → t ≡ u → together (map (λ i. leaf (auto_trait i)) ns) +++ t ≡ auto_leaves ns +++ u
  leaves-on ns t u e = ap (λ x. x +++ t) (autos-are ns) ∙ ap (λ x. auto_leaves ns +++ x) e

  dyn-end-is : (s : Binders) (ns : List ℕ) (i : Item) (is : DynBounds) → Rises 0 ns → NoStatic s → AllFit d l (items_uses D s is) → IsLate is → EndsWell is
      → item_lifetime old s i ≡ leaf static → dyn_end D own s ns is ≡ auto_leaves (onto ns is) +++ last_lifetime old s i is
  unfolding onto
  dyn-end-is s ns i no_items r h f a b e = leaves-on ns (leaf static) (item_lifetime old s i) (sym e)
  dyn-end-is s ns i (and_item (lifetime_item n) no_items) r h f a b e = leaves-on ns (leaf (life_label own 0 s n)) (leaf (lifetime_label old s n)) (ap leaf (life-is s n h f.0))
  dyn-end-is s ns i (and_item (lifetime_item n) (and_item j is)) r h f a b e = absurd cc
  dyn-end-is s ns i (and_item (bound_item c n args) is) r h f a b e =
      let fits = (rest-fit d l (binder_uses s c) (trait_use n (args_count args) ∷ args_uses D (c ∷ s) (kinds_of_trait (known D n)) args) (first-fit d l (item_uses D s (bound_item c n args)) (items_uses D s is) f)).0 in
      let k = trait_number (known D n) in
      ap (λ x. dyn_end D own s (between x ns) is) (trait-numbered D n (args_count args) fits)
      ∙ ap (λ x. dyn_end D own s x is) (between-is k 0 ns r)
      ∙ dyn-end-is s (inserted k ns) (bound_item c n args) is (put-rises k 0 ns (omega arith) r) h (rest-fit d l (item_uses D s (bound_item c n args)) (items_uses D s is) f)
      (late-rest (bound_item c n args) is a) (ends-rest c n args is b) refl
      ∙ ap (λ x. auto_leaves x +++ last_lifetime old s (bound_item c n args) is)
      (onto-more k ns is ∙ ap (λ x. if x then inserted k (onto ns is) else onto ns is) (sym (late-auto c n args is a)))

  module _ (s : Binders) (p : Sort) (b : List (List ℕ)) (n : List ℕ) (args : Args) (is : DynBounds) (h : NoStatic s) (f : AllFit d l (type_uses D s p (dyn_of (bound_item b n args) is))) where
    abbrev i : Item
    i = bound_item b n args

    abbrev k : ℕ
    k = trait_number (known D n)

    abbrev life : Trees
    life = last_lifetime old s i is

    late : IsLate is
    late = or-first _ _ (or-second (not (list_any is_bound (item_shape i ∷ item_shapes is))) _ f.0)

    ends : EndsWell is
    ends = ends-rest b n args is (or-second (list_any (binds_auto D) (item_shape i ∷ item_shapes is)) _ (or-second (list_any (is_late D) (item_shapes is)) _ (or-second (not (list_any is_bound (item_shape i ∷ item_shapes is))) _ f.0)))

    items-fit : AllFit d l (items_uses D s is)
    items-fit = rest-fit d l (item_uses D s i) (items_uses D s is) f.1

    fits : UseFits d l (trait_use n (args_count args))
    fits = (rest-fit d l (binder_uses s b) (trait_use n (args_count args) ∷ args_uses D (b ∷ s) (kinds_of_trait (known D n)) args) (first-fit d l (item_uses D s i) (items_uses D s is) f.1)).0

    tail : (ns : List ℕ) → Rises 0 ns → (t : Trees) → t +++ dyn_end D own s ns is ≡ t +++ (items_trees old s is +++ (auto_leaves (onto ns is) +++ life))
    tail ns r t = ap (λ x. t +++ x) (dyn-end-is s ns i is r h items-fit late ends refl ∙ ap (λ x. x +++ (auto_leaves (onto ns is) +++ life)) (sym (no-principal s is late)))

    dyn-is : as_args D own vs (b ∷ s) (kinds_of_trait (known D n)) args ≡ args_trees old (b ∷ s) (kinds_of_trait (known D n)) args
        → as_tree D own vs s p (dyn_of (bound_item b n args) is) ≡ type_tree old s p (dyn_of (bound_item b n args) is)
    dyn-is same = by (is_auto_name D n)
      where
        by : (x : Bool) → tree dynamic (if x then dyn_end D own s ((means D n).0 ∷ []) is else tree (principal (length b) (means D n).0) (as_args D own vs (b ∷ s) (means D n).1 args) none +++ dyn_end D own s [] is) none
            ≡ tree dynamic ((if x then none else tree (principal (length b) k) (args_trees old (b ∷ s) (kinds_of_trait (known D n)) args) none)
            +++ (items_trees old s is +++ (auto_leaves (if x then inserted k (autos D is) else autos D is) +++ life))) none
        by true =
            ap (λ x. tree dynamic (dyn_end D own s (x ∷ []) is) none) (trait-numbered D n (args_count args) fits)
            ∙ ap (λ x. tree dynamic x none) (tail (k ∷ []) (omega arith, tt) none)
            ∙ ap (λ x. tree dynamic (items_trees old s is +++ (auto_leaves x +++ life)) none) (onto-more k [] is ∙ ap (inserted k) (onto-none is))
        by false =
            ap (λ x. tree dynamic (tree (principal (length b) x) (as_args D own vs (b ∷ s) (means D n).1 args) none +++ dyn_end D own s [] is) none) (trait-numbered D n (args_count args) fits)
            ∙ ap (λ x. tree dynamic (tree (principal (length b) k) (as_args D own vs (b ∷ s) x args) none +++ dyn_end D own s [] is) none) (trait-kinds D n (args_count args) fits)
            ∙ ap (λ x. tree dynamic (tree (principal (length b) k) x none +++ dyn_end D own s [] is) none) same
            ∙ ap (λ x. tree dynamic x none) (tail [] tt (tree (principal (length b) k) (args_trees old (b ∷ s) (kinds_of_trait (known D n)) args) none))
            ∙ ap (λ x. tree dynamic (tree (principal (length b) k) (args_trees old (b ∷ s) (kinds_of_trait (known D n)) args) none +++ (items_trees old s is +++ (auto_leaves x +++ life))) none) (onto-none is)

  one-less : (i j : ℕ) → (suc i == suc j) ≡ true → (i == j) ≡ true
  one-less i j h = eq-eqb i j (omega (arith, eqb-true (suc i) (suc j) h))

  life-arg-fits : (s : Binders) (k : Sort) (n : List ℕ) → AllFit d l (lifetime_arg_uses s k n) → UseFits d l (lifetime_use s n)
  life-arg-fits s of_lifetime n f = f.0
  life-arg-fits s of_type n f = f.0
  life-arg-fits s of_const n f = f.0

  mutual
    pub type-is : (s : Binders) (p : Sort) (t : TypeTree) → NoStatic s → AllFit d l (type_uses D s p t) → as_tree D own vs s p t ≡ type_tree old s p t
    type-is s p (of_primitive x) h f = refl
    type-is s p never_type h f = refl
    type-is s p (variable_type n) h f = ap leaf (variable-is p n)
    type-is s p (named n args) h f = named-is s p n args f.0 (λ c. args-are s (kinds_of_struct (known D n)) args h f.1 c)
    type-is s p (reference_to o m t) h f =
        ap (λ x. tree (ref m) (x +++ as_tree D own vs s of_type t) none) (optional-is s o h (first-fit d l (lifetime_uses s o) (type_uses D s of_type t) f))
        ∙ ap (λ x. tree (ref m) (optional_lifetime old s o +++ x) none) (type-is s of_type t h (rest-fit d l (lifetime_uses s o) (type_uses D s of_type t) f))
    type-is s p (pointer_to m t) h f = ap (λ x. tree (raw_pointer m) x none) (type-is s of_type t h f)
    type-is s p (slice_of t) h f = ap (λ x. tree slice x none) (type-is s of_type t h f)
    type-is s p (array_of t (number_length i)) h f =
        ap (λ x. tree array (x +++ leaf (value i)) none) (type-is s of_type t h (first-fit d l (type_uses D s of_type t) (length_uses (number_length i)) f))
    type-is s p (array_of t (name_length n)) h f =
        ap (λ x. tree array (x +++ leaf (unwrap_or (own of_const n) never)) none) (type-is s of_type t h (first-fit d l (type_uses D s of_type t) (length_uses (name_length n)) f))
        ∙ ap (λ x. tree array (type_tree old s of_type t +++ leaf x) none) (length-named n (rest-fit d l (type_uses D s of_type t) (length_uses (name_length n)) f).0)
    type-is s p (array_of t (variable_length n)) h f =
        ap (λ x. tree array (x +++ leaf (variable_meaning vs of_const n)) none) (type-is s of_type t h (first-fit d l (type_uses D s of_type t) (length_uses (variable_length n)) f))
        ∙ ap (λ x. tree array (type_tree old s of_type t +++ leaf x) none) (variable-is of_const n)
    type-is s p (tuple_of ts) h f = ap (λ x. tree tuple x none) (types-are s ts h f.1)
    type-is s p (fn_of b ts) h f =
        let u = items_use (types_count ts) ∷ types_uses D (b ∷ s) ts in
        ap (λ x. tree (fn_ptr (length b)) (x +++ leaf tuple) none) (types-are (b ∷ s) ts (inner s b (first-fit d l (binder_uses s b) u f) h) (rest-fit d l (binder_uses s b) u f).1)
    type-is s p (fn_to b ts t) h f =
        let u = items_use (types_count ts) ∷ (types_uses D (b ∷ s) ts ++ type_uses D (b ∷ s) of_type t) in
        let g = inner s b (first-fit d l (binder_uses s b) u f) h in
        let v = (rest-fit d l (binder_uses s b) u f).1 in
        ap (λ x. tree (fn_ptr (length b)) (x +++ as_tree D own vs (b ∷ s) of_type t) none) (types-are (b ∷ s) ts g (first-fit d l (types_uses D (b ∷ s) ts) (type_uses D (b ∷ s) of_type t) v))
        ∙ ap (λ x. tree (fn_ptr (length b)) (types_trees old (b ∷ s) ts +++ x) none) (type-is (b ∷ s) of_type t g (rest-fit d l (types_uses D (b ∷ s) ts) (type_uses D (b ∷ s) of_type t) v))
    type-is s p (dyn_of (lifetime_item n) no_items) h f = absurd cc
    type-is s p (dyn_of (lifetime_item n) (and_item j is)) h f =
        no-true (not (list_any is_bound (item_shape (lifetime_item n) ∷ item_shapes (and_item j is)))) (list_any (is_late D) (item_shapes (and_item j is)))
        (list_any (binds_auto D) (item_shape (lifetime_item n) ∷ item_shapes (and_item j is))) f.0
    type-is s p (dyn_of (bound_item b n args) is) h f =
        let u = trait_use n (args_count args) ∷ args_uses D (b ∷ s) (kinds_of_trait (known D n)) args in
        let v = first-fit d l (binder_uses s b ++ u) (items_uses D s is) f.1 in
        let w = rest-fit d l (binder_uses s b) u v in
        dyn-is s p b n args is h f
        (args-are (b ∷ s) (kinds_of_trait (known D n)) args (inner s b (first-fit d l (binder_uses s b) u v) h) w.1 (trait-counted D n (args_count args) w.0))

    pub types-are : (s : Binders) (ts : Types) → NoStatic s → AllFit d l (types_uses D s ts) → together (as_trees D own vs s ts) ≡ types_trees old s ts
    types-are s no_types h f = refl
    types-are s (and_type t ts) h f =
        ap (λ x. x +++ together (as_trees D own vs s ts)) (type-is s of_type t h (first-fit d l (type_uses D s of_type t) (types_uses D s ts) f))
        ∙ ap (λ x. type_tree old s of_type t +++ x) (types-are s ts h (rest-fit d l (type_uses D s of_type t) (types_uses D s ts) f))

    pub args-are : (s : Binders) (ks : List Sort) (args : Args) → NoStatic s → AllFit d l (args_uses D s ks args) → (length ks == args_count args) ≡ true → as_args D own vs s ks args ≡ args_trees old s ks args
    args-are s [] no_args h f c = refl
    args-are s (k ∷ ks) no_args h f c = refl
    args-are s [] (and_arg a args) h f c = absurd (omega (arith, eqb-true 0 (suc (args_count args)) c))
    args-are s (k ∷ ks) (and_arg (type_arg t) args) h f c =
        ap (λ x. x +++ as_args D own vs s ks args) (type-is s k t h (rest-fit d l (type_misfits k t) (type_uses D s k t) (first-fit d l (arg_uses D s k (type_arg t)) (args_uses D s ks args) f)))
        ∙ ap (λ x. type_tree old s k t +++ x) (args-are s ks args h (rest-fit d l (arg_uses D s k (type_arg t)) (args_uses D s ks args) f) (one-less _ _ c))
    args-are s (k ∷ ks) (and_arg (lifetime_arg n) args) h f c =
        ap (λ x. tree x none (as_args D own vs s ks args)) (life-is s n h (life-arg-fits s k n (first-fit d l (arg_uses D s k (lifetime_arg n)) (args_uses D s ks args) f)))
        ∙ ap (λ x. tree (lifetime_label old s n) none x) (args-are s ks args h (rest-fit d l (arg_uses D s k (lifetime_arg n)) (args_uses D s ks args) f) (one-less _ _ c))
    args-are s (k ∷ ks) (and_arg (number_arg n) args) h f c =
        ap (λ x. tree (value n) none x) (args-are s ks args h (rest-fit d l (arg_uses D s k (number_arg n)) (args_uses D s ks args) f) (one-less _ _ c))

  pub fields-are : (fs : Types) → AllFit d l (types_uses D [] fs) → as_trees D own vs [] fs ≡ field_trees old fs
  fields-are no_types f = refl
  fields-are (and_type t ts) f =
      ap (λ x. x ∷ as_trees D own vs [] ts) (type-is [] of_type t refl (first-fit d l (type_uses D [] of_type t) (types_uses D [] ts) f))
      ∙ ap (λ x. type_tree old [] of_type t ∷ x) (fields-are ts (rest-fit d l (type_uses D [] of_type t) (types_uses D [] ts) f))

  pub bound-is : (self : Trees) (b : Bound) → AllFit d l (bound_uses D b) → bound_meaning D own vs self b ≡ bound_with_self old self b
  bound-is self b f =
      ap (λ i. record { trait = i; args = self +++ as_args D own vs [] ((means D b.trait).1) b.args }) (trait-numbered D b.trait (args_count b.args) f.0)
      ∙ ap (λ ks. record { trait = trait_number (known D b.trait); args = self +++ as_args D own vs [] ks b.args }) (trait-kinds D b.trait (args_count b.args) f.0)
      ∙ ap (λ x. record { trait = trait_number (known D b.trait); args = self +++ x }) (args-are [] (kinds_of_trait (known D b.trait)) b.args refl f.1 (trait-counted D b.trait (args_count b.args) f.0))

  pub clause-from : (k : Clause) → AllFit d l (type_uses D [] of_type k.subject) → AllFit d l (bound_uses D k.bound) → clause_meaning D own vs k ≡ clause_reference old k
  clause-from k f g = ap (λ x. bound_meaning D own vs x k.bound) (type-is [] of_type k.subject refl f) ∙ bound-is (type_tree old [] of_type k.subject) k.bound g

  pub clause-is : (k : Clause) → AllFit d l (clause_uses D k) → clause_meaning D own vs k ≡ clause_reference old k
  clause-is k f = clause-from k (first-fit d l (type_uses D [] of_type k.subject) (bound_uses D k.bound) f) (rest-fit d l (type_uses D [] of_type k.subject) (bound_uses D k.bound) f)

  pub clauses-are : (ks : List Clause) → AllFit d l (flat_map (clause_uses D) ks) → map (clause_meaning D own vs) ks ≡ map (clause_reference old) ks
  clauses-are [] f = refl
  clauses-are (k ∷ ks) f =
      ap (λ x. x ∷ map (clause_meaning D own vs) ks) (clause-is k (first-fit d l (clause_uses D k) (flat_map (clause_uses D) ks) f))
      ∙ ap (λ x. clause_reference old k ∷ x) (clauses-are ks (rest-fit d l (clause_uses D k) (flat_map (clause_uses D) ks) f))

  pub bounds-are : (self : Trees) (bs : List Bound) → AllFit d l (flat_map (bound_uses D) bs) → map (bound_meaning D own vs self) bs ≡ map (bound_with_self old self) bs
  bounds-are self [] f = refl
  bounds-are self (b ∷ bs) f =
      ap (λ x. x ∷ map (bound_meaning D own vs self) bs) (bound-is self b (first-fit d l (bound_uses D b) (flat_map (bound_uses D) bs) f))
      ∙ ap (λ x. bound_with_self old self b ∷ x) (bounds-are self bs (rest-fit d l (bound_uses D b) (flat_map (bound_uses D) bs) f))
