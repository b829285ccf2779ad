-- The arguments of a bound have the sorts of its trait's parameters, Self first.
use Rattle.std.proofs.Common.{◌≡◌, ℕ, zero, suc, ◌+◌, Bool, true, false, List, [], ◌∷◌, ◌++◌, map, length, Option, Some, None, refl, ap, ◌∙◌, arith}
use Rattle.std.proofs.lemmas.Bool.{eqb-true}
use Rattle.std.specs.Prelude.{if◌then◌else◌, slice_get}
use Rattle.std.specs.List.{list_any, flat_map}
use Rattle.std.specs.Option.{option_map_or}
use Rattle.std.specs.Str.{bytes_eq}
use Rattle.type_terms.specs.Promised.Label.{Label, Sort, of_lifetime, of_type, of_const, static, value, param, placeholder, infer, canonical, bound}
use Rattle.type_terms.specs.Promised.Trees.{leaf, sort_of}
use Rattle.type_terms.specs.Promised.Worlds.{Reference}
use Rattle.declarations.specs.Applied.{sorts_of}
use Rattle.declarations.specs.Promised.Elaboration.{Each}
use Rattle.text_language.specs.Promised.Syntax.{TypeTree, of_primitive, never_type, variable_type, named, reference_to, pointer_to, slice_of, array_of, tuple_of, fn_of, fn_to, dyn_of, Args, no_args, and_arg, Arg, lifetime_arg, number_arg, type_arg, Params, Bound, Line, trait_line}
use Rattle.text_language.specs.Promised.Declarations.{Declarations, NamedTrait, Known, a_crate, a_struct, a_trait, known}
use Rattle.text_language.specs.Uses.{Use, args_count, kinds_of_trait, type_uses, args_uses, arg_uses, bound_uses, params_of}
use Rattle.text_language.specs.Promised.Faults.{with_own, own_trait, is_among}
use Rattle.text_language.specs.Faults.{is_use_of, is_trait_of, static_name}
use Rattle.text_language.specs.Lowering.{Meanings, place_among, type_label, struct_label, lifetime_under, lifetime_label, type_tree, args_trees, arg_tree, bound_with_self}
use Rattle.text_language.specs.Adding.{item_meanings}
use Rattle.text_lowering.proofs.Trees.{or-left, or-right}
use Rattle.text_lowering.proofs.Types.{AllFit, first-fit, rest-fit}
use Rattle.text_lowering.proofs.Scalars.{is_scalar, Scalars, ScalarArg, ScalarArgs}
use Rattle.text_lowering.proofs.ScalarTokens.{ScalarBounds}
use Rattle.text_lowering.proofs.Params.{turned}
use Rattle.text_lowering.proofs.Spoken.{sorts-append}
use Rattle.text_lowering.proofs.DeclaredItems.{TraitsNumbered, known-at}
use Rattle.declarations.proofs.Growth.{each-kept as each-map}

-- ---- what is kept of bounds: the trait is there, and the arguments are as it takes them
abbrev pub BoundFits : List NamedTrait → Reference → Type 0
BoundFits ts b = (t : NamedTrait) × (slice_get ts b.trait ≡ Some t) × (sorts_of b.args ≡ of_type ∷ t.kinds)

abbrev pub BoundsFit : List NamedTrait → NamedTrait → Type 0
BoundsFit ts x = Each (BoundFits ts) x.item.bounds

-- ---- lists
pub each-more : {A : Type 0} (P : A → Type 0) (xs : List A) (x : A) → Each P xs → P x → Each P (xs ++ x ∷ [])
each-more P [] x h g = (g, tt)
each-more P (y ∷ ys) x h g = (h.0, each-more P ys x h.1 g)

pub still-there : {A : Type 0} (xs ys : List A) (k : ℕ) (x : A) → slice_get xs k ≡ Some x → slice_get (xs ++ ys) k ≡ Some x
still-there [] ys k x h = absurd cc
still-there (y ∷ xs) ys zero x h = h
still-there (y ∷ xs) ys (suc k) x h = still-there xs ys k x h

pub still-fit : (ts us : List NamedTrait) (bs : List Reference) → Each (BoundFits ts) bs → Each (BoundFits (ts ++ us)) bs
still-fit ts us bs h = each-map (BoundFits ts) (BoundFits (ts ++ us)) (λ b q. (q.0, still-there ts us b.trait q.0 q.1, q.2)) bs h

pub bounds-still-fit : (ts us : List NamedTrait) (xs : List NamedTrait) → Each (BoundsFit ts) xs → Each (BoundsFit (ts ++ us)) xs
bounds-still-fit ts us xs h = each-map (BoundsFit ts) (BoundsFit (ts ++ us)) (λ x. still-fit ts us x.item.bounds) xs h

-- ---- the sorts of arguments
module _ (d : Declarations) (l : Line) (first : ℕ) where
  abbrev means : Meanings
  means = item_meanings d l first

  under-sort : (j : ℕ) (s : List (List (List ℕ))) (n : List ℕ) → sort_of (lifetime_under means j s n) ≡ of_lifetime
  under-sort j [] n = refl
  under-sort j (b ∷ s) n = by (is_among n b) (under-sort (suc j) s n)
    where
      by : (c : Bool) → sort_of (lifetime_under means (suc j) s n) ≡ of_lifetime → sort_of (if c then bound of_lifetime j (place_among n b) else lifetime_under means (suc j) s n) ≡ of_lifetime
      by true g = refl
      by false g = g

  lifetime-sort : (s : List (List (List ℕ))) (n : List ℕ) → sort_of (lifetime_label means s n) ≡ of_lifetime
  lifetime-sort s n = by (bytes_eq n static_name)
    where
      by : (c : Bool) → sort_of (if c then static else lifetime_under means 0 s n) ≡ of_lifetime
      by true = refl
      by false = under-sort 0 s n

  struct-sort : (k : Option Known) → sort_of (struct_label k) ≡ of_type
  struct-sort (Some (a_struct i h ks)) = refl
  struct-sort (Some (a_crate i)) = refl
  struct-sort (Some (a_trait i h a ks)) = refl
  struct-sort None = refl

  name-sort : (n : List ℕ) → sort_of (type_label means n) ≡ of_type
  name-sort n = by (is_among n (params_of l).types)
    where
      by : (b : Bool) → sort_of (if b then param of_type (first + length (params_of l).lifetimes + place_among n (params_of l).types) else struct_label (known (with_own d l) n)) ≡ of_type
      by true = refl
      by false = struct-sort (known (with_own d l) n)

  scalar-sort : (p : Label) → is_scalar p ≡ true → sort_of p ≡ of_type
  scalar-sort (value n) g = absurd cc
  scalar-sort static g = absurd cc
  scalar-sort (param x i) g = absurd cc
  scalar-sort (placeholder x i) g = absurd cc
  scalar-sort (infer x i) g = absurd cc
  scalar-sort (canonical x i) g = absurd cc
  scalar-sort (bound x j i) g = absurd cc
  scalar-sort p g = refl

  alone : (s r : Sort) → s ≡ r → s ∷ [] ≡ r ∷ []
  alone s r e = ap (λ z. z ∷ []) e

  type-sorts : (s : List (List (List ℕ))) (t : TypeTree) → Scalars t → AllFit d l (type_uses (with_own d l) s of_type t) → sorts_of (type_tree means s of_type t) ≡ of_type ∷ []
  type-sorts s (of_primitive p) f h = alone (sort_of p) of_type (scalar-sort p f)
  type-sorts s never_type f h = refl
  type-sorts s (variable_type n) f h = absurd h.0.1
  type-sorts s (named n args) f h = alone (sort_of (type_label means n)) of_type (name-sort n)
  type-sorts s (reference_to o m t) f h = refl
  type-sorts s (pointer_to m t) f h = refl
  type-sorts s (slice_of t) f h = refl
  type-sorts s (array_of t n) f h = refl
  type-sorts s (tuple_of ts) f h = refl
  type-sorts s (fn_of b ts) f h = refl
  type-sorts s (fn_to b ts r) f h = refl
  type-sorts s (dyn_of i is) f h = refl

  arg-sorts : (s : List (List (List ℕ))) (p : Sort) (a : Arg) → ScalarArg a → AllFit d l (arg_uses (with_own d l) s p a) → sorts_of (arg_tree means s p a) ≡ p ∷ []
  arg-sorts s of_lifetime (lifetime_arg n) f h = alone (sort_of (lifetime_label means s n)) of_lifetime (lifetime-sort s n)
  arg-sorts s of_type (lifetime_arg n) f h = absurd h.1.0.0
  arg-sorts s of_const (lifetime_arg n) f h = absurd h.1.0.0
  arg-sorts s of_const (number_arg n) f h = refl
  arg-sorts s of_type (number_arg n) f h = absurd h.1.0.0
  arg-sorts s of_lifetime (number_arg n) f h = absurd h.1.0.0
  arg-sorts s of_type (type_arg t) f h = type-sorts s t f h
  arg-sorts s of_lifetime (type_arg t) f h = absurd h.0.0
  arg-sorts s of_const (type_arg (named n args)) f h = refl
  arg-sorts s of_const (type_arg (variable_type n)) f h = absurd h.0.1
  arg-sorts s of_const (type_arg (of_primitive x)) f h = absurd h.0.0
  arg-sorts s of_const (type_arg never_type) f h = absurd h.0.0
  arg-sorts s of_const (type_arg (reference_to x y z)) f h = absurd h.0.0
  arg-sorts s of_const (type_arg (pointer_to x y)) f h = absurd h.0.0
  arg-sorts s of_const (type_arg (slice_of x)) f h = absurd h.0.0
  arg-sorts s of_const (type_arg (array_of x y)) f h = absurd h.0.0
  arg-sorts s of_const (type_arg (tuple_of x)) f h = absurd h.0.0
  arg-sorts s of_const (type_arg (fn_of x y)) f h = absurd h.0.0
  arg-sorts s of_const (type_arg (fn_to x y z)) f h = absurd h.0.0
  arg-sorts s of_const (type_arg (dyn_of x y)) f h = absurd h.0.0

  args-sorts : (s : List (List (List ℕ))) (ks : List Sort) (args : Args) → ScalarArgs args → length ks ≡ args_count args → AllFit d l (args_uses (with_own d l) s ks args) → sorts_of (args_trees means s ks args) ≡ ks
  args-sorts s [] no_args f e h = refl
  args-sorts s [] (and_arg a args) f e h = absurd (omega (arith, e))
  args-sorts s (k ∷ ks) no_args f e h = absurd (omega (arith, e))
  args-sorts s (k ∷ ks) (and_arg a args) f e h =
      sorts-append (arg_tree means s k a) (args_trees means s ks args)
      ∙ ap (λ x. x ++ sorts_of (args_trees means s ks args)) (arg-sorts s k a f.0 (first-fit d l (arg_uses (with_own d l) s k a) (args_uses (with_own d l) s ks args) h))
      ∙ ap (λ x. k ∷ x) (args-sorts s ks args f.1 (omega (arith, e)) (rest-fit d l (arg_uses (with_own d l) s k a) (args_uses (with_own d l) s ks args) h))

-- ---- the bounds of a line
-- as many arguments as the trait takes
as-many : (o : Option Known) (k : ℕ) → option_map_or (is_trait_of k) o false ≡ true → length (kinds_of_trait o) ≡ k
as-many (Some (a_trait i h a ks)) k e = eqb-true (length ks) k e
as-many (Some (a_crate i)) k e = absurd cc
as-many (Some (a_struct i h ks)) k e = absurd cc
as-many None k e = absurd cc

pub bounds-fit : (d : Declarations) (f a : Bool) (n : List ℕ) (ps : Params) (all bs : List Bound) → let l = trait_line f a n ps all in TraitsNumbered d → ScalarBounds bs → AllFit d l (flat_map (bound_uses (with_own d l)) bs)
    → list_any (is_use_of n) (flat_map (bound_uses d) bs) ≡ false → Each (BoundFits d.traits) (map (bound_with_self (item_meanings d l 1) (leaf (param of_type 0))) bs)
bounds-fit d f a n ps all [] k s h u = tt
bounds-fit d f a n ps all (b ∷ bs) k s h u =
    let l = trait_line f a n ps all in
    let one = first-fit d l (bound_uses (with_own d l) b) (flat_map (bound_uses (with_own d l)) bs) h in
    let t = known-at d (own_trait d f a n ps) b.trait (args_count b.args) k (turned n b.trait (or-left _ _ u)) one.0.0.1 in
    let ks = kinds_of_trait (known (with_own d l) b.trait) in (
      (t.0, t.1, ap (λ x. of_type ∷ x) (args-sorts d l 1 [] ks b.args s.0 (as-many (known (with_own d l) b.trait) (args_count b.args) one.0.0.1) one.1 ∙ t.2)),
      bounds-fit d f a n ps all bs k s.1 (rest-fit d l (bound_uses (with_own d l) b) (flat_map (bound_uses (with_own d l)) bs) h) (later (bound_uses d b) (flat_map (bound_uses d) bs) u),
    )
  where
    later : (xs ys : List Use) → list_any (is_use_of n) (xs ++ ys) ≡ false → list_any (is_use_of n) ys ≡ false
    later [] ys e = e
    later (x ∷ xs) ys e = later xs ys (or-right (is_use_of n x) _ e)
