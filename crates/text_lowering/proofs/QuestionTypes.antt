-- The types of a `refute` line without a fault hold no open place but its variables.
use Rattle.std.proofs.Common.{◌≡◌, ℕ, suc, Bool, true, false, ◌||◌, List, [], ◌∷◌, ◌++◌, map, length, Option, Some, None, refl, if◌then◌else◌}
use Rattle.std.specs.List.{flat_map}
use Rattle.std.specs.Option.{option_map_or}
use Rattle.std.specs.Str.{bytes_eq}
use Rattle.type_terms.specs.Promised.Label.{Label, Sort, of_lifetime, of_type, of_const, bool, char, str, never, array, slice, tuple, dynamic, static, int, uint, adt, fn_ptr, auto_trait, value, ref, raw_pointer, principal, param, placeholder, infer, canonical, bound, predicate}
use Rattle.type_terms.specs.Promised.Trees.{Trees, none, tree, leaf, ◌+++◌, some_node}
use Rattle.type_terms.proofs.Fitting.{append-shut, or-no}
use Rattle.text_language.specs.Promised.Syntax.{TypeTree, of_primitive, never_type, variable_type, named, reference_to, pointer_to, slice_of, array_of, tuple_of, fn_of, fn_to, dyn_of, Types, no_types, and_type, Args, no_args, and_arg, Arg, lifetime_arg, number_arg, type_arg, Item, bound_item, lifetime_item, DynBounds, no_items, and_item, Length, number_length, name_length, variable_length, Params, Clause, Line, refute_line}
use Rattle.text_language.specs.Promised.Declarations.{Declarations, Known, a_crate, a_struct, a_trait, known}
use Rattle.text_language.specs.Uses.{Use, trait_use, variable_use, name_use, items_use, args_count, types_count, kinds_of_struct, kinds_of_trait, next_kind, other_kinds, length_uses, lifetime_uses, binder_uses, type_uses, types_uses, args_uses, arg_uses, item_uses, items_uses, bound_uses, clause_uses}
use Rattle.text_language.specs.Promised.Faults.{is_among, is_auto_name}
use Rattle.text_language.specs.Faults.{is_type_of, static_name}
use Rattle.text_language.specs.Lowering.{Meanings, place_among, variable_label, lifetime_under, lifetime_label, optional_lifetime, length_label, struct_label, trait_number, auto_leaves, autos, with_auto, item_lifetime, last_lifetime, type_tree, types_trees, args_trees, arg_tree, item_tree, items_trees, clause_reference}
use Rattle.declarations.specs.Promised.Elaboration.{Each}
use Rattle.text_lines.specs.Faultless.{UseFits}
use Rattle.text_lowering.specs.QuestionVariables.{is_undeclared_variable}
use Rattle.text_lowering.proofs.Scalars.{is_scalar, Scalars, ScalarTypes, ScalarArgs, ScalarArg, ScalarItem, ScalarItems}
use Rattle.text_lowering.proofs.ScalarTokens.{ScalarClause, ScalarClauses}

-- no parameters
abbrev pub bare : Params
bare = record { lifetimes = []; types = []; consts = [] }

module _ (d : Declarations) (c : List ℕ) (a : Clause) (bs : List Clause) (vars : List (List ℕ × Sort)) where
  abbrev pub line : Line
  line = refute_line c bare a bs

  abbrev pub means : Meanings
  means = record { items = d; params = bare; first = 0; parameter = placeholder; variables = vars }

  abbrev pub kinds : List Sort
  kinds = map (λ v. v.1) vars

  abbrev pub Good : Trees → Type 0
  Good t = some_node (is_undeclared_variable kinds) t ≡ false

  -- a variable that is a type or a constant has its place
  abbrev pub HasPlace : Use → Type 0
  HasPlace (variable_use of_type n) = is_undeclared_variable kinds (variable_label means of_type n) ≡ false
  HasPlace (variable_use of_const n) = is_undeclared_variable kinds (variable_label means of_const n) ≡ false
  HasPlace u = Unit {0}

  abbrev pub AllIn : List Use → Type 0
  AllIn [] = Unit {0}
  AllIn (u ∷ us) = (UseFits d line u × HasPlace u) × AllIn us

  first-in : (us vs : List Use) → AllIn (us ++ vs) → AllIn us
  first-in [] vs h = tt
  first-in (u ∷ us) vs h = (h.0, first-in us vs h.1)

  rest-in : (us vs : List Use) → AllIn (us ++ vs) → AllIn vs
  rest-in [] vs h = h
  rest-in (u ∷ us) vs h = rest-in us vs h.1

  node : (l : Label) (t : Trees) → is_undeclared_variable kinds l ≡ false → Good t → Good (tree l t none)
  node l t h g = or-no (is_undeclared_variable kinds l || some_node (is_undeclared_variable kinds) t) false (or-no (is_undeclared_variable kinds l) (some_node (is_undeclared_variable kinds) t) h g) refl

  both : (x y : Trees) → Good x → Good y → Good (x +++ y)
  both x y h g = append-shut (is_undeclared_variable kinds) x y h g

  -- ---- names
  under : (j : ℕ) (s : List (List (List ℕ))) (n : List ℕ) → is_undeclared_variable kinds (lifetime_under means j s n) ≡ false
  under j [] n = refl
  under j (ns ∷ s) n = by (is_among n ns) (under (suc j) s n)
    where
      by : (b : Bool) → is_undeclared_variable kinds (lifetime_under means (suc j) s n) ≡ false → is_undeclared_variable kinds (if b then bound of_lifetime j (place_among n ns) else lifetime_under means (suc j) s n) ≡ false
      by true e = refl
      by false e = e

  good-lifetime : (s : List (List (List ℕ))) (n : List ℕ) → Good (leaf (lifetime_label means s n))
  good-lifetime s n = node (lifetime_label means s n) none (by (bytes_eq n static_name)) refl
    where
      by : (b : Bool) → is_undeclared_variable kinds (if b then static else lifetime_under means 0 s n) ≡ false
      by true = refl
      by false = under 0 s n

  good-optional : (s : List (List (List ℕ))) (o : Option (List ℕ)) → Good (optional_lifetime means s o)
  good-optional s None = refl
  good-optional s (Some n) = good-lifetime s n

  good-struct : (k : Option Known) (t : Trees) → Good t → Good (tree (struct_label k) t none)
  good-struct (Some (a_struct i h ks)) t g = node (adt i) t refl g
  good-struct None t g = node never t refl g
  good-struct (Some (a_crate i)) t g = node never t refl g
  good-struct (Some (a_trait i h b ks)) t g = node never t refl g

  no-const : (n : List ℕ) (k : ℕ) → UseFits d line (name_use of_const n k) → ⊥
  no-const n k f = by (known d n) f
    where
      by : (o : Option Known) → option_map_or (is_type_of of_const k) o false ≡ true → ⊥
      by None g = absurd cc
      by (Some (a_crate i)) g = absurd cc
      by (Some (a_struct i h ks)) g = absurd cc
      by (Some (a_trait i h b ks)) g = absurd cc

  good-length : (n : Length) → AllIn (length_uses n) → Good (leaf (length_label means n))
  good-length (number_length n) h = refl
  good-length (name_length n) h = absurd (no-const n 0 h.0.0)
  good-length (variable_length n) h = node (variable_label means of_const n) none h.0.1 refl

  good-autos : (ns : List ℕ) → Good (auto_leaves ns)
  good-autos [] = refl
  good-autos (n ∷ ns) = or-no false (some_node (is_undeclared_variable kinds) (auto_leaves ns)) refl (good-autos ns)

  good-end : (s : List (List (List ℕ))) (i : Item) → Good (item_lifetime means s i)
  good-end s (bound_item b n args) = refl
  good-end s (lifetime_item n) = good-lifetime s n

  good-last : (s : List (List (List ℕ))) (i : Item) (is : DynBounds) → Good (last_lifetime means s i is)
  good-last s i no_items = good-end s i
  good-last s i (and_item j is) = good-last s j is

  good-scalar : (p : Label) → is_scalar p ≡ true → Good (leaf p)
  good-scalar bool g = refl
  good-scalar char g = refl
  good-scalar str g = refl
  good-scalar (int n) g = refl
  good-scalar (uint n) g = refl
  good-scalar never g = refl
  good-scalar array g = refl
  good-scalar slice g = refl
  good-scalar tuple g = refl
  good-scalar dynamic g = refl
  good-scalar static g = refl
  good-scalar (adt n) g = refl
  good-scalar (fn_ptr n) g = refl
  good-scalar (auto_trait n) g = refl
  good-scalar (value n) g = refl
  good-scalar (ref b) g = refl
  good-scalar (raw_pointer b) g = refl
  good-scalar (principal n k) g = refl
  good-scalar (param x i) g = absurd cc
  good-scalar (placeholder x i) g = absurd cc
  good-scalar (infer x i) g = absurd cc
  good-scalar (canonical x i) g = absurd cc
  good-scalar (bound x j i) g = absurd cc
  good-scalar (predicate k) g = refl

  mutual
    pub good-type : (s : List (List (List ℕ))) (t : TypeTree) → Scalars t → AllIn (type_uses d s of_type t) → Good (type_tree means s of_type t)
    good-type s (of_primitive p) f h = good-scalar p f
    good-type s never_type f h = refl
    good-type s (variable_type n) f h = node (variable_label means of_type n) none h.0.1 refl
    good-type s (named n args) f h = good-struct (known d n) (args_trees means s (kinds_of_struct (known d n)) args) (good-args s (kinds_of_struct (known d n)) args f h.1)
    good-type s (reference_to o m t) f h =
        node (ref m) (optional_lifetime means s o +++ type_tree means s of_type t) refl
        (both (optional_lifetime means s o) (type_tree means s of_type t) (good-optional s o) (good-type s t f (rest-in (lifetime_uses s o) (type_uses d s of_type t) h)))
    good-type s (pointer_to m t) f h = node (raw_pointer m) (type_tree means s of_type t) refl (good-type s t f h)
    good-type s (slice_of t) f h = node slice (type_tree means s of_type t) refl (good-type s t f h)
    good-type s (array_of t n) f h =
        node array (type_tree means s of_type t +++ leaf (length_label means n)) refl
        (both (type_tree means s of_type t) (leaf (length_label means n)) (good-type s t f (first-in (type_uses d s of_type t) (length_uses n) h)) (good-length n (rest-in (type_uses d s of_type t) (length_uses n) h)))
    good-type s (tuple_of ts) f h = node tuple (types_trees means s ts) refl (good-types s ts f h.1)
    good-type s (fn_of b ts) f h =
        node (fn_ptr (length b)) (types_trees means (b ∷ s) ts +++ leaf tuple) refl
        (both (types_trees means (b ∷ s) ts) (leaf tuple) (good-types (b ∷ s) ts f (rest-in (binder_uses s b) (items_use (types_count ts) ∷ types_uses d (b ∷ s) ts) h).1) refl)
    good-type s (fn_to b ts r) f h =
        let g = (rest-in (binder_uses s b) (items_use (types_count ts) ∷ (types_uses d (b ∷ s) ts ++ type_uses d (b ∷ s) of_type r)) h).1 in
        node (fn_ptr (length b)) (types_trees means (b ∷ s) ts +++ type_tree means (b ∷ s) of_type r) refl
        (both (types_trees means (b ∷ s) ts) (type_tree means (b ∷ s) of_type r) (good-types (b ∷ s) ts f.0 (first-in (types_uses d (b ∷ s) ts) (type_uses d (b ∷ s) of_type r) g))
        (good-type (b ∷ s) r f.1 (rest-in (types_uses d (b ∷ s) ts) (type_uses d (b ∷ s) of_type r) g)))
    good-type s (dyn_of i is) f h =
        node dynamic (item_tree means s i +++ items_trees means s is +++ auto_leaves (with_auto d i (autos d is)) +++ last_lifetime means s i is) refl
        (both (item_tree means s i) (items_trees means s is +++ auto_leaves (with_auto d i (autos d is)) +++ last_lifetime means s i is) (good-item s i f.0 (first-in (item_uses d s i) (items_uses d s is) h.1))
        (both (items_trees means s is) (auto_leaves (with_auto d i (autos d is)) +++ last_lifetime means s i is) (good-items s is f.1 (rest-in (item_uses d s i) (items_uses d s is) h.1))
        (both (auto_leaves (with_auto d i (autos d is))) (last_lifetime means s i is) (good-autos (with_auto d i (autos d is))) (good-last s i is))))

    good-item : (s : List (List (List ℕ))) (i : Item) → ScalarItem i → AllIn (item_uses d s i) → Good (item_tree means s i)
    good-item s (lifetime_item n) f h = refl
    good-item s (bound_item b n args) f h =
        by (is_auto_name d n) (good-args (b ∷ s) (kinds_of_trait (known d n)) args f (rest-in (binder_uses s b) (trait_use n (args_count args) ∷ args_uses d (b ∷ s) (kinds_of_trait (known d n)) args) h).1)
      where
        by : (x : Bool) → Good (args_trees means (b ∷ s) (kinds_of_trait (known d n)) args)
            → Good (if x then none else tree (principal (length b) (trait_number (known d n))) (args_trees means (b ∷ s) (kinds_of_trait (known d n)) args) none)
        by true g = refl
        by false g = node (principal (length b) (trait_number (known d n))) (args_trees means (b ∷ s) (kinds_of_trait (known d n)) args) refl g

    good-items : (s : List (List (List ℕ))) (is : DynBounds) → ScalarItems is → AllIn (items_uses d s is) → Good (items_trees means s is)
    good-items s no_items f h = refl
    good-items s (and_item i is) f h =
        both (item_tree means s i) (items_trees means s is) (good-item s i f.0 (first-in (item_uses d s i) (items_uses d s is) h)) (good-items s is f.1 (rest-in (item_uses d s i) (items_uses d s is) h))

    good-types : (s : List (List (List ℕ))) (ts : Types) → ScalarTypes ts → AllIn (types_uses d s ts) → Good (types_trees means s ts)
    good-types s no_types f h = refl
    good-types s (and_type t ts) f h =
        both (type_tree means s of_type t) (types_trees means s ts) (good-type s t f.0 (first-in (type_uses d s of_type t) (types_uses d s ts) h)) (good-types s ts f.1 (rest-in (type_uses d s of_type t) (types_uses d s ts) h))

    good-args : (s : List (List (List ℕ))) (ks : List Sort) (args : Args) → ScalarArgs args → AllIn (args_uses d s ks args) → Good (args_trees means s ks args)
    good-args s ks no_args f h = refl
    good-args s ks (and_arg x args) f h =
        both (arg_tree means s (next_kind ks) x) (args_trees means s (other_kinds ks) args) (good-arg s (next_kind ks) x f.0 (first-in (arg_uses d s (next_kind ks) x) (args_uses d s (other_kinds ks) args) h))
        (good-args s (other_kinds ks) args f.1 (rest-in (arg_uses d s (next_kind ks) x) (args_uses d s (other_kinds ks) args) h))

    good-arg : (s : List (List (List ℕ))) (p : Sort) (x : Arg) → ScalarArg x → AllIn (arg_uses d s p x) → Good (arg_tree means s p x)
    good-arg s p (lifetime_arg n) f h = good-lifetime s n
    good-arg s p (number_arg n) f h = refl
    good-arg s of_type (type_arg t) f h = good-type s t f h
    good-arg s of_lifetime (type_arg t) f h = absurd h.0.0
    good-arg s of_const (type_arg (named n args)) f h = absurd (no-const n (args_count args) h.0.0)
    good-arg s of_const (type_arg (variable_type n)) f h = node (variable_label means of_const n) none h.0.1 refl
    good-arg s of_const (type_arg (of_primitive x)) f h = absurd h.0.0
    good-arg s of_const (type_arg never_type) f h = absurd h.0.0
    good-arg s of_const (type_arg (reference_to x y z)) f h = absurd h.0.0
    good-arg s of_const (type_arg (pointer_to x y)) f h = absurd h.0.0
    good-arg s of_const (type_arg (slice_of x)) f h = absurd h.0.0
    good-arg s of_const (type_arg (array_of x y)) f h = absurd h.0.0
    good-arg s of_const (type_arg (tuple_of x)) f h = absurd h.0.0
    good-arg s of_const (type_arg (fn_of x y)) f h = absurd h.0.0
    good-arg s of_const (type_arg (fn_to x y z)) f h = absurd h.0.0
    good-arg s of_const (type_arg (dyn_of x y)) f h = absurd h.0.0

  -- what is asked
  good-clause : (k : Clause) → ScalarClause k → AllIn (clause_uses d k) → Good (clause_reference means k).args
  good-clause k f h =
      both (type_tree means [] of_type k.subject) (args_trees means [] (kinds_of_trait (known d k.bound.trait)) k.bound.args) (good-type [] k.subject f.0 (first-in (type_uses d [] of_type k.subject) (bound_uses d k.bound) h))
      (good-args [] (kinds_of_trait (known d k.bound.trait)) k.bound.args f.1 (rest-in (type_uses d [] of_type k.subject) (bound_uses d k.bound) h).1)

  pub good-clauses : (ks : List Clause) → ScalarClauses ks → AllIn (flat_map (clause_uses d) ks) → Each (λ r. Good r.args) (map (clause_reference means) ks)
  good-clauses [] f h = tt
  good-clauses (k ∷ ks) f h =
      (good-clause k f.0 (first-in (clause_uses d k) (flat_map (clause_uses d) ks) h), good-clauses ks f.1 (rest-in (clause_uses d k) (flat_map (clause_uses d) ks) h))
