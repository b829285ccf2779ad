-- The types of a question are made as terms are, of placeholders and its own unknowns and no other open places, once they are plain.
use Rattle.std.proofs.Common.{◌≡◌, ℕ, suc, Bool, true, false, ◌&&◌, List, [], ◌∷◌, ◌++◌, map, length, Option, Some, None, Ok, refl, sym, ap, ◌∙◌, subst, arith}
use Rattle.std.proofs.lemmas.Bool.Decides.{nat_tests}
use Rattle.std.specs.Prelude.{not, ltb, ◌<◌, if◌then◌else◌, ◌==◌, ◌+◌}
use Rattle.std.specs.List.{list_any, list_all, flat_map}
use Rattle.std.specs.Option.{option_map_or}
use Rattle.std.specs.Str.{bytes_eq}
use Rattle.type_terms.specs.Promised.Label.{Label, Sort, of_lifetime, of_type, of_const, bool, char, str, never, array, slice, tuple, dynamic, static, int, uint, adt, fn_ptr, auto_trait, value, ref, raw_pointer, principal, param, placeholder, infer, canonical, bound, predicate}
use Rattle.type_terms.specs.Promised.Trees.{Trees, none, tree, leaf, ◌+++◌}
use Rattle.type_terms.specs.Trees.{is_no_tree}
use Rattle.type_terms.specs.Promised.Proofs.{Every}
use Rattle.type_terms.specs.Promised.Worlds.{Reference}
use Rattle.type_terms.specs.Made.{terms, bounds, traits, is_made}
use Rattle.type_terms.proofs.Made.{false-true, made-weaker}
use Rattle.declarations.specs.Promised.Elaboration.{Each}
use Rattle.text_language.specs.Promised.Syntax.{TypeTree, of_primitive, never_type, variable_type, named, reference_to, pointer_to, slice_of, array_of, tuple_of, fn_of, fn_to, dyn_of, Types, no_types, and_type, Args, no_args, and_arg, Arg, lifetime_arg, number_arg, type_arg, Item, bound_item, lifetime_item, DynBounds, no_items, and_item, Length, number_length, name_length, variable_length, Params, Clause, Line, prove_line, refute_line}
use Rattle.text_language.specs.Promised.Declarations.{Declarations, Question, Variable, Known, a_crate, a_struct, a_trait, known}
use Rattle.text_language.specs.Uses.{Use, name_use, trait_use, variable_use, dyn_use, items_use, item_shape, item_shapes, args_count, types_count, kinds_of_struct, kinds_of_trait, next_kind, other_kinds, length_uses, lifetime_uses, binder_uses, type_uses, types_uses, args_uses, arg_uses, item_uses, items_uses, bound_uses, clause_uses, params_of}
use Rattle.text_language.specs.Faults.{fault_of, is_line_param, is_param_of, is_type_of, static_name, is_late, is_any, variables_in, once, is_of_other_kind}
use Rattle.text_language.specs.Promised.Faults.{with_own, is_among, is_auto_name}
use Rattle.text_language.specs.Lowering.{Meanings, place_among, variable_label, type_label, lifetime_under, lifetime_label, optional_lifetime, length_label, struct_label, trait_number, auto_leaves, autos, with_auto, item_lifetime, last_lifetime, type_tree, types_trees, args_trees, arg_tree, item_tree, items_trees, clause_reference}
use Rattle.text_language.specs.Adding.{question_of, question_meanings}
use Rattle.text_language.specs.Syntax.{spelling}
use Rattle.text_language.specs.Text.{TextGives}
use Rattle.text_lines.specs.Faultless.{UseFits, UsesFit}
use Rattle.text_lines.proofs.NoFault.{passes-tests}
use Rattle.text_lines.proofs.FittingUses.{faultless-uses}
use Rattle.text_lowering.specs.Promised.SeenWorlds.{plain, plain_label, all_kept, unbound_reference}
use Rattle.text_lowering.specs.Plain.{unbound_references}
use Rattle.text_lowering.specs.QuestionVariables.{number_of}
use Rattle.text_lowering.specs.Promised.Questions.{variable_kinds}
use Rattle.text_lowering.proofs.Variables.{ArePlaced, are-placed}
use Rattle.text_lowering.proofs.Scalars.{is_scalar, Scalars, ScalarTypes, ScalarArgs, ScalarArg, ScalarItem}
use Rattle.text_lowering.proofs.EachLine.{questions-keep}
use Rattle.text_lowering.proofs.ScalarTokens.{AllFine, ScalarClause, ScalarClauses, prove-scalars, refute-scalars}
use Rattle.text_lowering.proofs.Trees.{and, and-left, and-right, or-left, or-right}
use Rattle.sessions.specs.Goals.{is_fixed, are_fixed}
use Rattle.text_language.proofs.Basics.{among-first, no-count}
use Rattle.type_terms.proofs.BooleanBasics.{and-end}

-- ---- which unknowns may stand
module _ (w : Sort → ℕ → Bool) where
  abbrev is_good : Label → Bool
  is_good (infer s i) = w s i
  is_good l = is_fixed l

  abbrev are_good : Trees → Bool
  are_good t = is_made is_good terms t

  -- ---- trees
  abbrev Good : Trees → Type 0
  Good t = are_good (plain all_kept t) ≡ true

  good-append : (x y : Trees) → Good x → Good y → Good (x +++ y)
  good-append none y h g = g
  good-append (tree l c o) y h g = by (plain_label all_kept l) h (λ q. good-append o y q g)
    where
      last : (a b d : Bool) → (Good o → Good (o +++ y)) → a && (b && (d && are_good (plain all_kept o))) ≡ true → a && (b && (d && are_good (plain all_kept (o +++ y)))) ≡ true
      last true true true r q = r q
      last true true false r q = absurd cc
      last true false d r q = absurd cc
      last false b d r q = absurd cc

      by : (m : Label) → are_good (tree m (plain all_kept c) (plain all_kept o)) ≡ true → (Good o → Good (o +++ y)) → are_good (tree m (plain all_kept c) (plain all_kept (o +++ y))) ≡ true
      by dynamic q r = last true true (is_made is_good bounds (plain all_kept c)) r q
      by (principal n t) q r = absurd cc
      by (auto_trait i) q r = absurd cc
      by (predicate k) q r = absurd cc
      by bool q r = last true true (are_good (plain all_kept c)) r q
      by char q r = last true true (are_good (plain all_kept c)) r q
      by str q r = last true true (are_good (plain all_kept c)) r q
      by never q r = last true true (are_good (plain all_kept c)) r q
      by array q r = last true true (are_good (plain all_kept c)) r q
      by slice q r = last true true (are_good (plain all_kept c)) r q
      by tuple q r = last true true (are_good (plain all_kept c)) r q
      by static q r = last true (is_no_tree (plain all_kept c)) (are_good (plain all_kept c)) r q
      by (int n) q r = last true true (are_good (plain all_kept c)) r q
      by (uint n) q r = last true true (are_good (plain all_kept c)) r q
      by (adt n) q r = last true true (are_good (plain all_kept c)) r q
      by (fn_ptr n) q r = last true true (are_good (plain all_kept c)) r q
      by (value n) q r = last true (is_no_tree (plain all_kept c)) (are_good (plain all_kept c)) r q
      by (ref n) q r = last true true (are_good (plain all_kept c)) r q
      by (raw_pointer n) q r = last true true (are_good (plain all_kept c)) r q
      by (placeholder s i) q r = last true (is_no_tree (plain all_kept c)) (are_good (plain all_kept c)) r q
      by (param of_lifetime i) q r = last true (is_no_tree (plain all_kept c)) (are_good (plain all_kept c)) r q
      by (param of_type i) q r = absurd cc
      by (param of_const i) q r = absurd cc
      by (infer s i) q r = last (w s i) (is_no_tree (plain all_kept c)) (are_good (plain all_kept c)) r q
      by (canonical s i) q r = absurd cc
      by (bound s j i) q r = absurd cc

  -- a lifetime is one too where the bounds of a `dyn` end
  record Ends (t : Trees) : Type 0 where
    after_none : is_made is_good bounds (plain all_kept t) ≡ true
    after_some : is_made is_good traits (plain all_kept t) ≡ true

  ends-auto : (n : ℕ) (o : Trees) → Ends o → Ends (tree (auto_trait n) none o)
  ends-auto n o e = record { after_none = e.after_some; after_some = e.after_some }

  ends-autos : (ns : List ℕ) (o : Trees) → Ends o → Ends (auto_leaves ns +++ o)
  ends-autos [] o e = e
  ends-autos (n ∷ ns) o e = ends-auto n (auto_leaves ns +++ o) (ends-autos ns o e)

  good-dyn : (n t : ℕ) (c o : Trees) → Good c → Ends o → Good (tree dynamic (tree (principal n t) c o) none)
  good-dyn n t c o g e = and-end _ (and (are_good (plain all_kept c)) (is_made is_good traits (plain all_kept o)) g e.after_some)

  good-bare-dyn : (o : Trees) → Ends o → Good (tree dynamic o none)
  good-bare-dyn o e = and-end (is_made is_good bounds (plain all_kept o)) e.after_none

  good-struct : (k : Option Known) (c : Trees) → Good c → Good (tree (struct_label k) c none)
  good-struct (Some (a_struct i h ks)) c g = and-end (are_good (plain all_kept c)) g
  good-struct None c g = and-end (are_good (plain all_kept c)) g
  good-struct (Some (a_crate i)) c g = and-end (are_good (plain all_kept c)) g
  good-struct (Some (a_trait i h a ks)) c g = and-end (are_good (plain all_kept c)) g

  good-scalar : (p : Label) → is_scalar p ≡ true → Good (leaf p)
  good-scalar bool g = refl
  good-scalar char g = refl
  good-scalar str g = refl
  good-scalar (int n) g = refl
  good-scalar (uint n) g = refl
  good-scalar never g = absurd cc
  good-scalar array g = absurd cc
  good-scalar slice g = absurd cc
  good-scalar tuple g = absurd cc
  good-scalar dynamic g = absurd cc
  good-scalar static g = absurd cc
  good-scalar (adt n) g = absurd cc
  good-scalar (fn_ptr n) g = absurd cc
  good-scalar (auto_trait n) g = absurd cc
  good-scalar (value n) g = absurd cc
  good-scalar (ref b) g = absurd cc
  good-scalar (raw_pointer b) g = absurd cc
  good-scalar (principal n k) g = absurd cc
  good-scalar (param x i) g = absurd cc
  good-scalar (placeholder x i) g = absurd cc
  good-scalar (infer x i) g = absurd cc
  good-scalar (canonical x i) g = absurd cc
  good-scalar (bound x j i) g = absurd cc
  good-scalar (predicate k) g = absurd cc

  -- ---- lists of names

  -- ---- uses, each of which fits, and is a variable only where it may stand
  module _ (d : Declarations) (l : Line) (variables : List (List ℕ × Sort)) where
    abbrev D : Declarations
    D = with_own d l

    abbrev means : Meanings
    means = record { items = D; params = params_of l; first = 0; parameter = placeholder; variables = variables }

    abbrev MayStand : Use → Type 0
    MayStand (variable_use p n) = is_good (variable_label means p n) ≡ true
    MayStand u = Unit {0}

    abbrev AllFit : List Use → Type 0
    AllFit [] = Unit {0}
    AllFit (u ∷ us) = (UseFits d l u × MayStand u) × AllFit us

    abbrev AllMayStand : List (List ℕ × Sort) → Type 0
    AllMayStand [] = Unit {0}
    AllMayStand (v ∷ vs) = (is_good (variable_label means v.1 v.0) ≡ true) × AllMayStand vs

    none-there : (vs : List (List ℕ × Sort)) → is_any vs ≡ false → AllMayStand vs
    none-there [] h = tt
    none-there (v ∷ vs) h = absurd cc

    first-fit : (us vs : List Use) → AllFit (us ++ vs) → AllFit us
    first-fit [] vs h = tt
    first-fit (u ∷ us) vs h = (h.0, first-fit us vs h.1)

    rest-fit : (us vs : List Use) → AllFit (us ++ vs) → AllFit vs
    rest-fit [] vs h = h
    rest-fit (u ∷ us) vs h = rest-fit us vs h.1

    all-fit : (us : List Use) → UsesFit d l us → AllMayStand (variables_in us) → AllFit us
    all-fit [] f h = tt
    all-fit (variable_use p n ∷ us) f h = ((f.0, h.0), all-fit us f.1 h.1)
    all-fit (u ∷ us) f h = ((f.0, tt), all-fit us f.1 h)

    -- ---- lifetimes
    under : (P : Trees → Type 0) → ((j i : ℕ) → P (leaf (bound of_lifetime j i))) → ((i : ℕ) → P (leaf (placeholder of_lifetime i))) → (j : ℕ) (s : List (List (List ℕ))) (n : List ℕ) → P (leaf (lifetime_under means j s n))
    under P b p j [] n = p _
    under P b p j (ns ∷ s) n = by (is_among n ns) (under P b p (suc j) s n)
      where
        by : (c : Bool) → P (leaf (lifetime_under means (suc j) s n)) → P (leaf (if c then bound of_lifetime j (place_among n ns) else lifetime_under means (suc j) s n))
        by true r = b j (place_among n ns)
        by false r = r

    each-lifetime : (P : Trees → Type 0) → P (leaf static) → ((j i : ℕ) → P (leaf (bound of_lifetime j i))) → ((i : ℕ) → P (leaf (placeholder of_lifetime i))) → (s : List (List (List ℕ))) (n : List ℕ) → P (leaf (lifetime_label means s n))
    each-lifetime P c b p s n = by (bytes_eq n static_name)
      where
        by : (a : Bool) → P (leaf (if a then static else lifetime_under means 0 s n))
        by true = c
        by false = under P b p 0 s n

    good-lifetime : (s : List (List (List ℕ))) (n : List ℕ) → Good (leaf (lifetime_label means s n))
    good-lifetime s n = each-lifetime Good refl (λ j i. refl) (λ i. refl) s n

    ends-lifetime : (s : List (List (List ℕ))) (n : List ℕ) → Ends (leaf (lifetime_label means s n))
    ends-lifetime s n = each-lifetime Ends (record { after_none = refl; after_some = refl }) (λ j i. record { after_none = refl; after_some = refl }) (λ i. record { after_none = refl; after_some = refl }) s n

    good-optional : (s : List (List (List ℕ))) (o : Option (List ℕ)) → Good (optional_lifetime means s o)
    good-optional s None = refl
    good-optional s (Some n) = good-lifetime s n

    -- ---- names
    param-bare : (n : List ℕ) (args : Args) → is_among n (params_of l).types ≡ true → UseFits d l (name_use of_type n (args_count args)) → args ≡ no_args
    param-bare n args h f = no-count args (by (is_line_param l n) (among-first n (params_of l).types (params_of l).consts h) f)
      where
        by : (b : Bool) → b ≡ true → (if b then is_param_of l of_type n (args_count args) else option_map_or (is_type_of of_type (args_count args)) (known D n) false) ≡ true → (args_count args == 0) ≡ true
        by true e g = and-right (is_among n (params_of l).types) _ g
        by false e g = absurd cc

    good-named : (s : List (List (List ℕ))) (n : List ℕ) (args : Args) → UseFits d l (name_use of_type n (args_count args)) → Good (args_trees means s (kinds_of_struct (known D n)) args)
        → Good (tree (type_label means n) (args_trees means s (kinds_of_struct (known D n)) args) none)
    good-named s n args f g = by (is_among n (params_of l).types) refl
      where
        by : (b : Bool) → is_among n (params_of l).types ≡ b
            → Good (tree (if b then placeholder of_type (0 + length (params_of l).lifetimes + place_among n (params_of l).types) else struct_label (known D n)) (args_trees means s (kinds_of_struct (known D n)) args) none)
        by true e =
            subst (λ x. Good (tree (placeholder of_type (0 + length (params_of l).lifetimes + place_among n (params_of l).types)) (args_trees means s (kinds_of_struct (known D n)) x) none)) (sym (param-bare n args e f)) refl
        by false e = good-struct (known D n) (args_trees means s (kinds_of_struct (known D n)) args) g

    good-length : (n : Length) → AllFit (length_uses n) → Good (leaf (length_label means n))
    good-length (number_length n) h = refl
    good-length (name_length n) h = refl
    good-length (variable_length n) h = and-end _ h.0.1

    -- ---- the end of a `dyn`
    ends-item : (s : List (List (List ℕ))) (i : Item) → Ends (item_lifetime means s i)
    ends-item s (bound_item b n args) = record { after_none = refl; after_some = refl }
    ends-item s (lifetime_item n) = ends-lifetime s n

    ends-last : (s : List (List (List ℕ))) (i : Item) (is : DynBounds) → Ends (last_lifetime means s i is)
    ends-last s i no_items = ends-item s i
    ends-last s i (and_item j is) = ends-last s j is

    -- no bound but the first is a principal
    bare-item : (s : List (List (List ℕ))) (i : Item) → is_late D (item_shape i) ≡ false → item_tree means s i ≡ none
    bare-item s (bound_item b n args) h = by (is_auto_name D n) h
      where
        by : (a : Bool) → not a ≡ false → (if a then none else tree (principal (length b) (trait_number (known D n))) (args_trees means (b ∷ s) (kinds_of_trait (known D n)) args) none) ≡ none
        by true g = refl
        by false g = absurd cc
    bare-item s (lifetime_item n) h = refl

    bare-items : (s : List (List (List ℕ))) (is : DynBounds) → list_any (is_late D) (item_shapes is) ≡ false → items_trees means s is ≡ none
    bare-items s no_items h = refl
    bare-items s (and_item i is) h = ap (λ t. t +++ items_trees means s is) (bare-item s i (or-left (is_late D (item_shape i)) _ h)) ∙ bare-items s is (or-right (is_late D (item_shape i)) _ h)

    late-none : (i : Item) (is : DynBounds) → UseFits d l (dyn_use (item_shape i ∷ item_shapes is)) → list_any (is_late D) (item_shapes is) ≡ false
    late-none i is f = or-left _ _ (or-right _ _ f.0)

    -- ---- types
    mutual
      good-type : (s : List (List (List ℕ))) (t : TypeTree) → Scalars t → AllFit (type_uses D s of_type t) → Good (type_tree means s of_type t)
      good-type s (of_primitive p) f h = good-scalar p f
      good-type s never_type f h = refl
      good-type s (variable_type n) f h = and-end _ h.0.1
      good-type s (named n args) f h = good-named s n args h.0.0 (good-args s (kinds_of_struct (known D n)) args f h.1)
      good-type s (reference_to o m t) f h =
          and-end _ (good-append (optional_lifetime means s o) (type_tree means s of_type t) (good-optional s o) (good-type s t f (rest-fit (lifetime_uses s o) (type_uses D s of_type t) h)))
      good-type s (pointer_to m t) f h = and-end _ (good-type s t f h)
      good-type s (slice_of t) f h = and-end _ (good-type s t f h)
      good-type s (array_of t n) f h =
          and-end _
          (good-append (type_tree means s of_type t) (leaf (length_label means n)) (good-type s t f (first-fit (type_uses D s of_type t) (length_uses n) h)) (good-length n (rest-fit (type_uses D s of_type t) (length_uses n) h)))
      good-type s (tuple_of ts) f h = and-end _ (good-types s ts f h.1)
      good-type s (fn_of b ts) f h =
          and-end _ (good-append (types_trees means (b ∷ s) ts) (leaf tuple) (good-types (b ∷ s) ts f (rest-fit (binder_uses s b) (items_use (types_count ts) ∷ types_uses D (b ∷ s) ts) h).1) refl)
      good-type s (fn_to b ts r) f h =
          let g = (rest-fit (binder_uses s b) (items_use (types_count ts) ∷ (types_uses D (b ∷ s) ts ++ type_uses D (b ∷ s) of_type r)) h).1 in
          and-end _
          (good-append (types_trees means (b ∷ s) ts) (type_tree means (b ∷ s) of_type r) (good-types (b ∷ s) ts f.0 (first-fit (types_uses D (b ∷ s) ts) (type_uses D (b ∷ s) of_type r) g))
          (good-type (b ∷ s) r f.1 (rest-fit (types_uses D (b ∷ s) ts) (type_uses D (b ∷ s) of_type r) g)))
      good-type s (dyn_of i is) f h =
          let A = with_auto D i (autos D is) in
          let end = ends-autos A (last_lifetime means s i is) (ends-last s i is) in
          subst (λ t. Good (tree dynamic (item_tree means s i +++ t +++ auto_leaves A +++ last_lifetime means s i is) none)) (sym (bare-items s is (late-none i is h.0.0)))
          (good-item s i f.0 (first-fit (item_uses D s i) (items_uses D s is) h.1) (auto_leaves A +++ last_lifetime means s i is) end)

      good-item : (s : List (List (List ℕ))) (i : Item) → ScalarItem i → AllFit (item_uses D s i) → (o : Trees) → Ends o → Good (tree dynamic (item_tree means s i +++ o) none)
      good-item s (lifetime_item n) f h o e = good-bare-dyn o e
      good-item s (bound_item b n args) f h o e =
          let ks = kinds_of_trait (known D n) in
          by (is_auto_name D n) (good-args (b ∷ s) ks args f (rest-fit (binder_uses s b) (trait_use n (args_count args) ∷ args_uses D (b ∷ s) ks args) h).1)
        where
          by : (a : Bool) → Good (args_trees means (b ∷ s) (kinds_of_trait (known D n)) args)
              → Good (tree dynamic ((if a then none else tree (principal (length b) (trait_number (known D n))) (args_trees means (b ∷ s) (kinds_of_trait (known D n)) args) none) +++ o) none)
          by true g = good-bare-dyn o e
          by false g = good-dyn (length b) (trait_number (known D n)) (args_trees means (b ∷ s) (kinds_of_trait (known D n)) args) o g e

      good-types : (s : List (List (List ℕ))) (ts : Types) → ScalarTypes ts → AllFit (types_uses D s ts) → Good (types_trees means s ts)
      good-types s no_types f h = refl
      good-types s (and_type t ts) f h =
          good-append (type_tree means s of_type t) (types_trees means s ts) (good-type s t f.0 (first-fit (type_uses D s of_type t) (types_uses D s ts) h)) (good-types s ts f.1 (rest-fit (type_uses D s of_type t) (types_uses D s ts) h))

      good-args : (s : List (List (List ℕ))) (ks : List Sort) (args : Args) → ScalarArgs args → AllFit (args_uses D s ks args) → Good (args_trees means s ks args)
      good-args s ks no_args f h = refl
      good-args s ks (and_arg a args) f h =
          good-append (arg_tree means s (next_kind ks) a) (args_trees means s (other_kinds ks) args) (good-arg s (next_kind ks) a f.0 (first-fit (arg_uses D s (next_kind ks) a) (args_uses D s (other_kinds ks) args) h))
          (good-args s (other_kinds ks) args f.1 (rest-fit (arg_uses D s (next_kind ks) a) (args_uses D s (other_kinds ks) args) h))

      good-arg : (s : List (List (List ℕ))) (p : Sort) (a : Arg) → ScalarArg a → AllFit (arg_uses D s p a) → Good (arg_tree means s p a)
      good-arg s p (lifetime_arg n) f h = good-lifetime s n
      good-arg s p (number_arg n) f h = refl
      good-arg s of_type (type_arg t) f h = good-type s t f h
      good-arg s of_lifetime (type_arg t) f h = absurd h.0.0
      good-arg s of_const (type_arg (named n args)) f h = refl
      good-arg s of_const (type_arg (variable_type n)) f h = and-end _ h.0.1
      good-arg s of_const (type_arg (of_primitive x)) f h = absurd h.0.0
      good-arg s of_const (type_arg never_type) f h = absurd h.0.0
      good-arg s of_const (type_arg (reference_to x y z)) f h = absurd h.0.0
      good-arg s of_const (type_arg (pointer_to x y)) f h = absurd h.0.0
      good-arg s of_const (type_arg (slice_of x)) f h = absurd h.0.0
      good-arg s of_const (type_arg (array_of x y)) f h = absurd h.0.0
      good-arg s of_const (type_arg (tuple_of x)) f h = absurd h.0.0
      good-arg s of_const (type_arg (fn_of x y)) f h = absurd h.0.0
      good-arg s of_const (type_arg (fn_to x y z)) f h = absurd h.0.0
      good-arg s of_const (type_arg (dyn_of x y)) f h = absurd h.0.0

    -- ---- references
    good-clause : (k : Clause) → ScalarClause k → AllFit (clause_uses D k) → Good (clause_reference means k).args
    good-clause k f h =
        let ks = kinds_of_trait (known D k.bound.trait) in
        good-append (type_tree means [] of_type k.subject) (args_trees means [] ks k.bound.args) (good-type [] k.subject f.0 (first-fit (type_uses D [] of_type k.subject) (bound_uses D k.bound) h))
        (good-args [] ks k.bound.args f.1 (rest-fit (type_uses D [] of_type k.subject) (bound_uses D k.bound) h).1)

    good-clauses : (ks : List Clause) → ScalarClauses ks → AllFit (flat_map (clause_uses D) ks) → list_all (λ (r : Reference). are_good r.args) (unbound_references (map (clause_reference means) ks)) ≡ true
    good-clauses [] f h = refl
    good-clauses (k ∷ ks) f h =
        and (are_good (plain all_kept (clause_reference means k).args)) _ (good-clause k f.0 (first-fit (clause_uses D k) (flat_map (clause_uses D) ks) h)) (good-clauses ks f.1 (rest-fit (clause_uses D k) (flat_map (clause_uses D) ks) h))

-- ---- no unknowns
none_stand : Sort → ℕ → Bool
none_stand s i = false

abbrev are_bare : Trees → Bool
are_bare t = is_made (is_good none_stand) terms t

fixed-label : (l : Label) → is_good none_stand l ≡ true → is_fixed l ≡ true
unfolding none_stand
fixed-label (infer s i) h = absurd (false-true h)
fixed-label l h = h

fixed-references : (rs : List Reference) → list_all (λ (r : Reference). are_bare r.args) rs ≡ true → list_all (λ (r : Reference). are_fixed r.args) rs ≡ true
fixed-references [] h = refl
fixed-references (r ∷ rs) h = and (are_fixed r.args) _ (made-weaker (is_good none_stand) is_fixed fixed-label terms r.args (and-left (are_bare r.args) _ h)) (fixed-references rs (and-right (are_bare r.args) _ h))

-- ---- unknowns of these kinds
abbrev pub is_own : List Sort → Label → Bool
is_own ks l = is_good (λ s i. ltb i (number_of s ks)) l

below-so : (i n : ℕ) → i < n → ltb i n ≡ true
below-so i n h = by (ltb i n) refl
  where
    by : (b : Bool) → ltb i n ≡ b → b ≡ true
    by true e = refl
    by false e = absurd (grind (arith, nat_tests))

pub so-below : (i n : ℕ) → ltb i n ≡ true → i < n
so-below i n h = grind (arith, nat_tests)

-- where there are none, what is made of them is fixed
own-fixed : (l : Label) → is_own [] l ≡ true → is_fixed l ≡ true
own-fixed (infer s i) h = let g : i < 0 = so-below i 0 h in absurd (omega (arith, g))
own-fixed l h = h

abbrev kinds_of_all : List (List ℕ × Sort) → List Sort
kinds_of_all vs = map (λ v. v.1) vs

placed-stand : (d : Declarations) (l : Line) (all vs : List (List ℕ × Sort)) → ArePlaced all vs → AllMayStand (λ s i. ltb i (number_of s (kinds_of_all (once all)))) d l (once all) vs
placed-stand d l all [] h = tt
placed-stand d l all (v ∷ vs) h = (below-so _ _ h.0, placed-stand d l all vs h.1)

map-twice : (vs : List (List ℕ × Sort)) → kinds_of_all vs ≡ map (λ v. v.kind) (map (λ v. (let x : Variable = record { text = v.0; kind = v.1 } in x)) vs)
map-twice [] = refl
map-twice (v ∷ vs) = ap (λ ks. v.1 ∷ ks) (map-twice vs)

-- ---- questions: what they ask for, and their where-clauses
-- the trait reference has unknowns of these kinds alone
abbrev pub IsOwnReference : List Sort → Reference → Type 0
IsOwnReference ks r = is_made (is_own ks) terms (unbound_reference r).args ≡ true

pub record AreFixedTerms (q : Question) : Type 0 where
  pub own : IsOwnReference (variable_kinds q) q.asked
  pub further : Every (IsOwnReference (variable_kinds q)) q.further
  pub clauses : list_all (λ (r : Reference). are_fixed r.args) (unbound_references q.clauses) ≡ true

-- without variables what is asked for is fixed too
pub asked-fixed : (q : Question) → AreFixedTerms q → q.variables ≡ [] → are_fixed (unbound_reference q.asked).args ≡ true
asked-fixed q h e =
    made-weaker (is_own []) is_fixed own-fixed terms (unbound_reference q.asked).args (subst (λ (vs : List Variable). is_made (is_own (map (λ v. v.kind) vs)) terms (unbound_reference q.asked).args ≡ true) e h.own)

fits-first : (d : Declarations) (l : Line) (us vs : List Use) → UsesFit d l (us ++ vs) → UsesFit d l us
fits-first d l [] vs h = tt
fits-first d l (u ∷ us) vs h = (h.0, fits-first d l us vs h.1)

fits-rest : (d : Declarations) (l : Line) (us vs : List Use) → UsesFit d l (us ++ vs) → UsesFit d l vs
fits-rest d l [] vs h = h
fits-rest d l (u ∷ us) vs h = fits-rest d l us vs h.1

each-own : (ks : List Sort) (rs : List Reference) → list_all (λ (r : Reference). is_made (is_own ks) terms r.args) (unbound_references rs) ≡ true → Every (IsOwnReference ks) rs
each-own ks [] h = tt
each-own ks (r ∷ rs) h = (and-left (is_made (is_own ks) terms (unbound_reference r).args) _ h, each-own ks rs (and-right (is_made (is_own ks) terms (unbound_reference r).args) _ h))

-- the variables of what is asked for are the question's, each of one kind
asked-own : (d : Declarations) (l : Line) (ks : List Clause) → ScalarClauses ks → UsesFit d l (flat_map (clause_uses (with_own d l)) ks)
    → list_any (λ v. list_any (is_of_other_kind v) (variables_in (flat_map (clause_uses (with_own d l)) ks))) (variables_in (flat_map (clause_uses (with_own d l)) ks)) ≡ false
    → (let vs = once (variables_in (flat_map (clause_uses (with_own d l)) ks)) in
    Every (IsOwnReference (map (λ v. v.kind) (map (λ v. (let x : Variable = record { text = v.0; kind = v.1 } in x)) vs)))
    (map (clause_reference (record { items = with_own d l; params = params_of l; first = 0; parameter = placeholder; variables = vs })) ks))
asked-own d l ks scalar uses one =
    let all = variables_in (flat_map (clause_uses (with_own d l)) ks) in
    let w = λ (s : Sort) (i : ℕ). ltb i (number_of s (kinds_of_all (once all))) in
    subst (λ js. Every (IsOwnReference js) (map (clause_reference (means w d l (once all))) ks)) (map-twice (once all))
    (each-own (kinds_of_all (once all)) (map (clause_reference (means w d l (once all))) ks)
    (good-clauses w d l (once all) ks scalar (all-fit w d l (once all) (flat_map (clause_uses (with_own d l)) ks) uses (placed-stand d l all all (are-placed all all (λ n p h. h) one)))))

-- the question of a `prove` line
proves-fixed : (d : Declarations) (c : List ℕ) (ps : Params) (a : Clause) (bs ks : List Clause) → AllFine (spelling (prove_line c ps a bs ks)) → fault_of d (prove_line c ps a bs ks) ≡ None
    → AreFixedTerms (question_of d (question_meanings d (prove_line c ps a bs ks)) false c ps a bs ks)
proves-fixed d c ps a bs ks w f =
    let l = prove_line c ps a bs ks in
    let us = flat_map (clause_uses d) (a ∷ bs) in
    let vs = variables_in us in
    let scalar = prove-scalars c ps a bs ks w in
    let p = passes-tests d l f in
    let uses = (faultless-uses d l f).1 in
    let others = all-fit none_stand d l (once vs) (flat_map (clause_uses d) ks) (fits-rest d l us (flat_map (clause_uses d) ks) uses) (none-there none_stand d l (once vs) _ (or-left _ _ p.has_asked_variables)) in
    let own = asked-own d l (a ∷ bs) scalar.0 (fits-first d l us (flat_map (clause_uses d) ks) uses) (or-right _ _ p.has_asked_variables) in
    record { own = own.0; further = own.1; clauses = fixed-references (unbound_references (map (clause_reference (question_meanings d l)) ks)) (good-clauses none_stand d l (once vs) ks scalar.1 others) }

-- the question of a `refute` line
refutes-fixed : (d : Declarations) (c : List ℕ) (ps : Params) (a : Clause) (bs : List Clause) → AllFine (spelling (refute_line c ps a bs)) → fault_of d (refute_line c ps a bs) ≡ None
    → AreFixedTerms (question_of d (question_meanings d (refute_line c ps a bs)) true c ps a bs [])
refutes-fixed d c ps a bs w f =
    let l = refute_line c ps a bs in
    let own = asked-own d l (a ∷ bs) (refute-scalars c ps a bs w) (faultless-uses d l f).1 (passes-tests d l f).has_asked_variables in
    record { own = own.0; further = own.1; clauses = refl }

-- ---- texts
pub questions-fixed : (bytes : List ℕ) (d : Declarations) → TextGives bytes (Ok d) → Each AreFixedTerms d.questions
questions-fixed bytes d t = questions-keep AreFixedTerms proves-fixed refutes-fixed bytes d t
