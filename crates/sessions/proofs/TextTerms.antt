-- The types of a line, node for node: names stand for what is declared and seen, and have the arguments that they take.
use Rattle.std.proofs.Common.{◌≡◌, ◌<◌, ◌==◌, ℕ, zero, suc, ◌+◌, Bool, true, false, ◌&&◌, ◌||◌, not, List, [], ◌∷◌, ◌++◌, map, length, Option, Some, None, refl, sym, ap, ◌∙◌, subst, arith}
use Rattle.std.proofs.lemmas.Bool.{eqb-true, ne_eqb}
use Rattle.std.proofs.lemmas.Bool.Decides.{Decides-ltb}
use Rattle.std.specs.Prelude.{if◌then◌else◌, slice_get, find, nat_lt, option_and_then}
use Rattle.std.specs.List.{list_any}
use Rattle.std.specs.Option.{option_map, option_map_or, option_or}
use Rattle.std.specs.Str.{bytes_eq}
use Rattle.type_terms.specs.Promised.Label.{Label, Sort, of_type, of_const, of_lifetime, adt, tuple, fn_ptr, raw_pointer, ref, array, slice, dynamic, static, principal, auto_trait, value, param, placeholder, infer, canonical, bound, predicate}
use Rattle.type_terms.specs.Promised.Trees.{Trees, none, tree, leaf, ◌+++◌, sort_of, is_sort}
use Rattle.type_terms.specs.Promised.Worlds.{Reference, sees}
use Rattle.type_terms.specs.Promised.Rules.{autos_with}
use Rattle.type_terms.proofs.Members.{self-number}
use Rattle.declarations.specs.Applied.{sorts_of}
use Rattle.text_language.specs.Promised.Syntax.{TypeTree, of_primitive, never_type, variable_type, named, reference_to, pointer_to, slice_of, array_of, tuple_of, fn_of, fn_to, dyn_of, Types, no_types, and_type, Args, no_args, and_arg, Arg, lifetime_arg, number_arg, type_arg, Item, bound_item, lifetime_item, DynBounds, no_items, and_item, Length, number_length, name_length, variable_length, Line}
use Rattle.text_language.specs.Promised.Declarations.{Declarations, NamedCrate, NamedStruct, NamedTrait, world_of, Known, a_crate, a_struct, a_trait, known}
use Rattle.text_language.specs.Uses.{Use, name_use, trait_use, items_use, dyn_use, item_shape, item_shapes, args_count, types_count, kinds_of_struct, kinds_of_trait, length_uses, lifetime_uses, binder_uses, type_uses, types_uses, args_uses, arg_uses, item_uses, items_uses, params_of}
use Rattle.text_language.specs.Promised.Faults.{with_own, is_among, is_auto_name}
use Rattle.text_language.specs.Faults.{is_line_param, is_param_of, is_type_of, is_trait_of, home_of, is_hidden_use, static_name}
use Rattle.text_language.specs.Lowering.{Meanings, place_among, trait_number, struct_label, type_label, const_label, lifetime_under, lifetime_label, optional_lifetime, length_label, inserted, with_auto, autos, auto_leaves, item_lifetime, last_lifetime, type_tree, types_trees, args_trees, arg_tree, item_tree, items_trees}
use Rattle.text_lines.specs.Faultless.{UsesFit}
use Rattle.text_lowering.proofs.Scalars.{is_scalar, Scalars, ScalarTypes, ScalarArgs, ScalarArg, ScalarItem, ScalarItems}
use Rattle.text_lowering.proofs.Spoken.{sorts-append}
use Rattle.text_lowering.proofs.Standing.{AutosAreBare}
use Rattle.text_lowering.proofs.Trees.{and-left, or-left, or-right}
use Rattle.candidate_model.specs.Asking.{next_of}
use Rattle.candidate_model.specs.DeclaredWell.{are_distinct}
use Rattle.solver_completeness.specs.GoalSets.{begins_typed}
use Rattle.solver_completeness.specs.RowWays.{autos_stand_once}
use Rattle.solver_completeness.specs.FormedFacts.{EachNode, AreTypeSorts}
use Rattle.solver_completeness.proofs.Basics.{are-types-append}
use Rattle.sessions.proofs.AskedGoals.{not-false, head-is}

-- ---- what is declared, and of which crates it is seen
pub record Scope : Type 0 where
  pub structs : List NamedStruct
  pub traits : List NamedTrait
  pub sees : ℕ → Bool

module _ (e : Scope) where
  -- a struct of this number that is seen, with parameters of these sorts
  abbrev pub IsStructAt : ℕ → List Sort → Type 0
  IsStructAt s ss = (n : NamedStruct) × (slice_get e.structs s ≡ Some n) × (ss ≡ n.kinds) × (e.sees n.item.home ≡ true)

  -- a trait, with Self first
  abbrev pub IsTraitAt : ℕ → List Sort → Type 0
  IsTraitAt t ss = (n : NamedTrait) × (slice_get e.traits t ≡ Some n) × (ss ≡ of_type ∷ n.kinds) × (e.sees n.item.home ≡ true)

  abbrev pub TextNode : Label → Trees → Type 0
  TextNode (adt s) c = IsStructAt s (sorts_of c)
  TextNode (principal n t) c = IsTraitAt t (of_type ∷ sorts_of c)
  TextNode (auto_trait t) c = IsTraitAt t (of_type ∷ [])
  TextNode (predicate k) c = ⊥
  TextNode tuple c = AreTypeSorts (sorts_of c)
  TextNode (fn_ptr n) c = AreTypeSorts (sorts_of c)
  TextNode (raw_pointer b) c = begins_typed c ≡ true
  TextNode array c = begins_typed c ≡ true
  TextNode slice c = begins_typed c ≡ true
  TextNode (ref b) c = begins_typed (next_of c) ≡ true
  TextNode dynamic c = autos_stand_once (tree dynamic c none) ≡ true
  TextNode l c = Unit {0}

  abbrev pub TextNodes : Trees → Type 0
  TextNodes t = EachNode TextNode t

-- ---- lists and trees
pub nodes-append : (P : Label → Trees → Type 0) (x y : Trees) → EachNode P x → EachNode P y → EachNode P (x +++ y)
nodes-append P none y h g = g
nodes-append P (tree l c o) y h g = (h.0, h.1, nodes-append P o y h.2 g)

begins-by : (x o : Trees) → sorts_of x ≡ of_type ∷ [] → begins_typed (x +++ o) ≡ true
begins-by none o e = absurd cc
begins-by (tree l c p) o e = ap (λ s. is_sort s of_type) (head-is (sort_of l) of_type (sorts_of p) [] e)

found-at : {A : Type 0} (f : A → Bool) (xs : List A) (x : A) → find f xs ≡ Some x → (i : ℕ) × (slice_get xs i ≡ Some x)
found-at f [] x h = absurd cc
found-at f (y ∷ ys) x h = by (f y) h (found-at f ys x)
  where
    by : (b : Bool) → (if b then Some y else find f ys) ≡ Some x → (find f ys ≡ Some x → (i : ℕ) × (slice_get ys i ≡ Some x)) → (i : ℕ) × (slice_get (y ∷ ys) i ≡ Some x)
    by true g r = (zero, g)
    by false g r = let q = r g in (suc q.0, q.1)

-- numbers are places
abbrev pub IsPlaced : {A : Type 0} → (A → ℕ) → List A → Type 0
IsPlaced {A = A} number xs = (k : ℕ) (x : A) → slice_get xs k ≡ Some x → number x ≡ k

pub found-placed : {A : Type 0} (number : A → ℕ) (f : A → Bool) (xs : List A) (x : A) → IsPlaced number xs → find f xs ≡ Some x → slice_get xs (number x) ≡ Some x
found-placed number f xs x p e = let q = found-at f xs x e in subst (λ k. slice_get xs k ≡ Some x) (sym (p q.0 x q.1)) q.1

true-false : (b : Bool) → b ≡ true → b ≡ false → ⊥
true-false true h g = absurd cc
true-false false h g = absurd cc

-- ---- numbers in order, each once
abbrev Below : ℕ → List ℕ → Type 0
Below n [] = Unit {0}
Below n (m ∷ ms) = (n < m) × Below n ms

abbrev Rising : List ℕ → Type 0
Rising [] = Unit {0}
Rising (n ∷ ns) = Below n ns × Rising ns

below-more : (n m : ℕ) (ms : List ℕ) → n < m → Below m ms → Below n ms
below-more n m [] l h = tt
below-more n m (k ∷ ks) l h = (omega (arith, l, h.0), below-more n m ks l h.1)

above : (n m : ℕ) → (n == m) ≡ false → nat_lt n m ≡ false → m < n
above n m e f = omega (arith, differ, not-less)
  where
    not-less : n < m → ⊥
    not-less l = true-false (nat_lt n m) ((Decides-ltb n m).1 l) f

    differ : n ≡ m → ⊥
    differ q = true-false (n == m) (subst (λ k. (n == k) ≡ true) q (self-number n)) e

below-inserted : (k n : ℕ) (ms : List ℕ) → k < n → Below k ms → Below k (inserted n ms)
below-inserted k n [] l h = (l, tt)
below-inserted k n (m ∷ ms) l h = by (n == m) (nat_lt n m) (below-inserted k n ms l h.1)
  where
    by : (a b : Bool) → Below k (inserted n ms) → Below k (if a then m ∷ ms else (if b then n ∷ m ∷ ms else m ∷ inserted n ms))
    by true b r = h
    by false true r = (l, h)
    by false false r = (h.0, r)

inserted-rises : (n : ℕ) (ms : List ℕ) → Rising ms → Rising (inserted n ms)
inserted-rises n [] h = (tt, tt)
inserted-rises n (m ∷ ms) h = by (n == m) (nat_lt n m) refl refl (inserted-rises n ms h.1)
  where
    by : (a b : Bool) → (n == m) ≡ a → nat_lt n m ≡ b → Rising (inserted n ms) → Rising (if a then m ∷ ms else (if b then n ∷ m ∷ ms else m ∷ inserted n ms))
    by true b e f r = h
    by false true e f r = let l = (Decides-ltb n m).0 f in ((l, below-more n m ms l h.0), h)
    by false false e f r = (below-inserted m n ms (above n m e f) h.0, r)

rising-apart : (ns : List ℕ) → Rising ns → are_distinct ns ≡ true
rising-apart [] h = refl
rising-apart (n ∷ ns) h = by (list_any (λ k. k == n) ns) (are_distinct ns) (none-same ns h.0) (rising-apart ns h.1)
  where
    none-same : (ms : List ℕ) → Below n ms → list_any (λ k. k == n) ms ≡ false
    none-same [] g = refl
    none-same (m ∷ ms) g = ap (λ b. b || list_any (λ k. k == n) ms) (ne_eqb m n (λ e. omega (arith, e, g.0))) ∙ none-same ms g.1

    by : (a b : Bool) → a ≡ false → b ≡ true → not a && b ≡ true
    by false true e f = refl
    by true b e f = absurd cc
    by false false e f = absurd cc

-- ---- a line
abbrev pub scope_of : Declarations → Line → ℕ → Scope
scope_of d l c = record { structs = (with_own d l).structs; traits = (with_own d l).traits; sees = sees (world_of d) c }

module _ (d : Declarations) (l : Line) (first c : ℕ) (parameter : Sort → ℕ → Label) (variables : List (List ℕ × Sort)) (sorted : (s : Sort) (i : ℕ) → sort_of (parameter s i) ≡ s)
    (free : (s : Sort) (i : ℕ) (x : Trees) → TextNode (scope_of d l c) (parameter s i) x)
    (struct_places : IsPlaced (λ (x : NamedStruct). x.item.name) (with_own d l).structs) (trait_places : IsPlaced (λ (x : NamedTrait). x.item.name) (with_own d l).traits) (bare : AutosAreBare (with_own d l)) where
  abbrev D : Declarations
  D = with_own d l

  abbrev E : Scope
  E = scope_of d l c

  abbrev pub means : Meanings
  means = record { items = D; params = params_of l; first = first; parameter = parameter; variables = variables }

  -- uses that fit, of what is seen
  abbrev pub FitSeen : List Use → Type 0
  FitSeen us = UsesFit d l us × (list_any (is_hidden_use d l c) us ≡ false)

  pub first-seen : (us vs : List Use) → FitSeen (us ++ vs) → FitSeen us
  first-seen [] vs h = (tt, refl)
  first-seen (u ∷ us) vs h =
      let r = first-seen us vs (h.0.1, or-right (is_hidden_use d l c u) _ h.1) in
      ((h.0.0, r.0), ap (λ b. b || list_any (is_hidden_use d l c) us) (or-left (is_hidden_use d l c u) _ h.1) ∙ r.1)

  pub rest-seen : (us vs : List Use) → FitSeen (us ++ vs) → FitSeen vs
  rest-seen [] vs h = h
  rest-seen (u ∷ us) vs h = rest-seen us vs (h.0.1, or-right (is_hidden_use d l c u) _ h.1)

  pub tail-seen : (u : Use) (us : List Use) → FitSeen (u ∷ us) → FitSeen us
  tail-seen u us h = (h.0.1, or-right (is_hidden_use d l c u) _ h.1)

  pub head-shown : (u : Use) (us : List Use) → FitSeen (u ∷ us) → is_hidden_use d l c u ≡ false
  head-shown u us h = or-left (is_hidden_use d l c u) _ h.1

  -- ---- names
  abbrev hides : Option Known → Bool
  hides o = option_map_or (λ h. not (sees (world_of d) c h)) (option_and_then home_of o) false

  abbrev StructKnown : ℕ → Option Known → Type 0
  StructKnown k o = (i : ℕ) × (struct_label o ≡ adt i) × IsStructAt E i (kinds_of_struct o) × (length (kinds_of_struct o) ≡ k)

  struct-known : (n : List ℕ) (k : ℕ) → option_map_or (is_type_of of_type k) (known D n) false ≡ true → hides (known D n) ≡ false → StructKnown k (known D n)
  struct-known n k t s = by (find (λ (x : NamedCrate). bytes_eq x.text n) D.crates) (find (λ (x : NamedStruct). bytes_eq x.text n) D.structs) (find (λ (x : NamedTrait). bytes_eq x.text n) D.traits) refl t s
    where
      all : Option NamedCrate → Option NamedStruct → Option NamedTrait → Option Known
      all co so to = option_or (option_map (λ (x : NamedCrate). a_crate x.item.name) co) (option_or (option_map (λ (x : NamedStruct). a_struct x.item.name x.item.home x.kinds) so) (option_map (λ (x : NamedTrait). a_trait x.item.name x.item.home x.item.is_auto x.kinds) to))

      by : (co : Option NamedCrate) (so : Option NamedStruct) (to : Option NamedTrait) → find (λ (x : NamedStruct). bytes_eq x.text n) D.structs ≡ so
          → option_map_or (is_type_of of_type k) (all co so to) false ≡ true → hides (all co so to) ≡ false → StructKnown k (all co so to)
      by (Some x) so to e g h = absurd cc
      by None (Some x) to e g h = (x.item.name, refl, (x, found-placed (λ (y : NamedStruct). y.item.name) (λ (y : NamedStruct). bytes_eq y.text n) D.structs x struct_places e, refl, not-false (sees (world_of d) c x.item.home) h), eqb-true (length x.kinds) k g)
      by None None (Some x) e g h = absurd cc
      by None None None e g h = absurd cc

  abbrev TraitKnown : ℕ → Option Known → Type 0
  TraitKnown k o = IsTraitAt E (trait_number o) (of_type ∷ kinds_of_trait o) × (length (kinds_of_trait o) ≡ k)

  trait-known : (n : List ℕ) (k : ℕ) → option_map_or (is_trait_of k) (known D n) false ≡ true → hides (known D n) ≡ false → TraitKnown k (known D n)
  trait-known n k t s = by (find (λ (x : NamedCrate). bytes_eq x.text n) D.crates) (find (λ (x : NamedStruct). bytes_eq x.text n) D.structs) (find (λ (x : NamedTrait). bytes_eq x.text n) D.traits) refl t s
    where
      all : Option NamedCrate → Option NamedStruct → Option NamedTrait → Option Known
      all co so to = option_or (option_map (λ (x : NamedCrate). a_crate x.item.name) co) (option_or (option_map (λ (x : NamedStruct). a_struct x.item.name x.item.home x.kinds) so) (option_map (λ (x : NamedTrait). a_trait x.item.name x.item.home x.item.is_auto x.kinds) to))

      by : (co : Option NamedCrate) (so : Option NamedStruct) (to : Option NamedTrait) → find (λ (x : NamedTrait). bytes_eq x.text n) D.traits ≡ to
          → option_map_or (is_trait_of k) (all co so to) false ≡ true → hides (all co so to) ≡ false → TraitKnown k (all co so to)
      by (Some x) so to e g h = absurd cc
      by None (Some x) to e g h = absurd cc
      by None None (Some x) e g h = ((x, found-placed (λ (y : NamedTrait). y.item.name) (λ (y : NamedTrait). bytes_eq y.text n) D.traits x trait_places e, refl, not-false (sees (world_of d) c x.item.home) h), eqb-true (length x.kinds) k g)
      by None None None e g h = absurd cc

  shown : (a b : Bool) → a ≡ false → not a && b ≡ false → b ≡ false
  shown false b e h = h
  shown true b e h = absurd cc

  pub trait-used : (n : List ℕ) (k : ℕ) (us : List Use) → FitSeen (trait_use n k ∷ us) → TraitKnown k (known D n)
  trait-used n k us h = trait-known n k h.0.0.1 (shown (is_line_param l n) (hides (known D n)) h.0.0.0 (head-shown (trait_use n k) us h))

  auto-bare : (n : List ℕ) → is_auto_name D n ≡ true → kinds_of_trait (known D n) ≡ []
  auto-bare n h = by (known D n) refl h
    where
      by : (o : Option Known) → known D n ≡ o → option_map_or (λ k. elim k [ a_crate i ↦ false | a_struct i h kinds ↦ false | a_trait i h a kinds ↦ a ]) o false ≡ true → kinds_of_trait o ≡ []
      by None e g = refl
      by (Some (a_crate i)) e g = refl
      by (Some (a_struct i x ks)) e g = refl
      by (Some (a_trait i x true ks)) e g = bare n i x ks e
      by (Some (a_trait i x false ks)) e g = absurd cc

  -- ---- sorts
  under-sort : (j : ℕ) (s : List (List (List ℕ))) (n : List ℕ) → sort_of (lifetime_under means j s n) ≡ of_lifetime
  under-sort j [] n = sorted of_lifetime _
  under-sort j (b ∷ s) n = by (is_among n b) (under-sort (suc j) s n)
    where
      by : (x : Bool) → sort_of (lifetime_under means (suc j) s n) ≡ of_lifetime → sort_of (if x then bound of_lifetime j (place_among n b) else lifetime_under means (suc j) s n) ≡ of_lifetime
      by true g = refl
      by false g = g

  lifetime-sort : (s : List (List (List ℕ))) (n : List ℕ) → sort_of (lifetime_label means s n) ≡ of_lifetime
  lifetime-sort s n = by (bytes_eq n static_name)
    where
      by : (x : Bool) → sort_of (if x then static else lifetime_under means 0 s n) ≡ of_lifetime
      by true = refl
      by false = under-sort 0 s n

  struct-sort : (k : Option Known) → sort_of (struct_label k) ≡ of_type
  struct-sort (Some (a_struct i h ks)) = refl
  struct-sort (Some (a_crate i)) = refl
  struct-sort (Some (a_trait i h a ks)) = refl
  struct-sort None = refl

  name-sort : (n : List ℕ) → sort_of (type_label means n) ≡ of_type
  name-sort n = by (is_among n (params_of l).types)
    where
      by : (b : Bool) → sort_of (if b then parameter of_type (first + length (params_of l).lifetimes + place_among n (params_of l).types) else struct_label (known D n)) ≡ of_type
      by true = sorted of_type _
      by false = struct-sort (known D n)

  scalar-sort : (p : Label) → is_scalar p ≡ true → sort_of p ≡ of_type
  scalar-sort (value n) g = absurd cc
  scalar-sort static g = absurd cc
  scalar-sort (param x i) g = absurd cc
  scalar-sort (placeholder x i) g = absurd cc
  scalar-sort (infer x i) g = absurd cc
  scalar-sort (canonical x i) g = absurd cc
  scalar-sort (bound x j i) g = absurd cc
  scalar-sort p g = refl

  alone : (s r : Sort) → s ≡ r → s ∷ [] ≡ r ∷ []
  alone s r e = ap (λ z. z ∷ []) e

  pub type-sorts : (s : List (List (List ℕ))) (t : TypeTree) → Scalars t → sorts_of (type_tree means s of_type t) ≡ of_type ∷ []
  type-sorts s (of_primitive p) f = alone (sort_of p) of_type (scalar-sort p f)
  type-sorts s never_type f = refl
  type-sorts s (variable_type n) f = refl
  type-sorts s (named n args) f = alone (sort_of (type_label means n)) of_type (name-sort n)
  type-sorts s (reference_to o m t) f = refl
  type-sorts s (pointer_to m t) f = refl
  type-sorts s (slice_of t) f = refl
  type-sorts s (array_of t n) f = refl
  type-sorts s (tuple_of ts) f = refl
  type-sorts s (fn_of b ts) f = refl
  type-sorts s (fn_to b ts r) f = refl
  type-sorts s (dyn_of i is) f = refl

  arg-sorts : (s : List (List (List ℕ))) (p : Sort) (a : Arg) → ScalarArg a → UsesFit d l (arg_uses D s p a) → sorts_of (arg_tree means s p a) ≡ p ∷ []
  arg-sorts s of_lifetime (lifetime_arg n) f h = alone (sort_of (lifetime_label means s n)) of_lifetime (lifetime-sort s n)
  arg-sorts s of_type (lifetime_arg n) f h = absurd h.1.0
  arg-sorts s of_const (lifetime_arg n) f h = absurd h.1.0
  arg-sorts s of_const (number_arg n) f h = refl
  arg-sorts s of_type (number_arg n) f h = absurd h.1.0
  arg-sorts s of_lifetime (number_arg n) f h = absurd h.1.0
  arg-sorts s of_type (type_arg t) f h = type-sorts s t f
  arg-sorts s of_lifetime (type_arg t) f h = absurd h.0
  arg-sorts s of_const (type_arg (named n args)) f h = alone (sort_of (const_label means n)) of_const (sorted of_const _)
  arg-sorts s of_const (type_arg (variable_type n)) f h = refl
  arg-sorts s of_const (type_arg (of_primitive x)) f h = absurd h.0
  arg-sorts s of_const (type_arg never_type) f h = absurd h.0
  arg-sorts s of_const (type_arg (reference_to x y z)) f h = absurd h.0
  arg-sorts s of_const (type_arg (pointer_to x y)) f h = absurd h.0
  arg-sorts s of_const (type_arg (slice_of x)) f h = absurd h.0
  arg-sorts s of_const (type_arg (array_of x y)) f h = absurd h.0
  arg-sorts s of_const (type_arg (tuple_of x)) f h = absurd h.0
  arg-sorts s of_const (type_arg (fn_of x y)) f h = absurd h.0
  arg-sorts s of_const (type_arg (fn_to x y z)) f h = absurd h.0
  arg-sorts s of_const (type_arg (dyn_of x y)) f h = absurd h.0

  pub args-sorts : (s : List (List (List ℕ))) (ks : List Sort) (args : Args) → ScalarArgs args → length ks ≡ args_count args → FitSeen (args_uses D s ks args) → sorts_of (args_trees means s ks args) ≡ ks
  args-sorts s [] no_args f e h = refl
  args-sorts s [] (and_arg a args) f e h = absurd (omega (arith, e))
  args-sorts s (k ∷ ks) no_args f e h = absurd (omega (arith, e))
  args-sorts s (k ∷ ks) (and_arg a args) f e h =
      sorts-append (arg_tree means s k a) (args_trees means s ks args)
      ∙ ap (λ x. x ++ sorts_of (args_trees means s ks args)) (arg-sorts s k a f.0 (first-seen (arg_uses D s k a) (args_uses D s ks args) h).0)
      ∙ ap (λ x. k ∷ x) (args-sorts s ks args f.1 (omega (arith, e)) (rest-seen (arg_uses D s k a) (args_uses D s ks args) h))

  types-sorts : (s : List (List (List ℕ))) (ts : Types) → ScalarTypes ts → AreTypeSorts (sorts_of (types_trees means s ts))
  types-sorts s no_types f = tt
  types-sorts s (and_type t ts) f =
      subst AreTypeSorts (sym (sorts-append (type_tree means s of_type t) (types_trees means s ts)))
      (are-types-append (sorts_of (type_tree means s of_type t)) (sorts_of (types_trees means s ts)) (subst AreTypeSorts (sym (type-sorts s t f.0)) (refl, tt)) (types-sorts s ts f.1))

  -- ---- nodes
  abbrev N : Trees → Type 0
  N t = TextNodes E t

  under-node : (j : ℕ) (s : List (List (List ℕ))) (n : List ℕ) → TextNode E (lifetime_under means j s n) none
  under-node j [] n = free of_lifetime _ none
  under-node j (b ∷ s) n = by (is_among n b) (under-node (suc j) s n)
    where
      by : (x : Bool) → TextNode E (lifetime_under means (suc j) s n) none → TextNode E (if x then bound of_lifetime j (place_among n b) else lifetime_under means (suc j) s n) none
      by true g = tt
      by false g = g

  lifetime-node : (s : List (List (List ℕ))) (n : List ℕ) → N (leaf (lifetime_label means s n))
  lifetime-node s n = (by (bytes_eq n static_name), tt, tt)
    where
      by : (x : Bool) → TextNode E (if x then static else lifetime_under means 0 s n) none
      by true = tt
      by false = under-node 0 s n

  optional-node : (s : List (List (List ℕ))) (o : Option (List ℕ)) → N (optional_lifetime means s o)
  optional-node s None = (tt, tt, tt)
  optional-node s (Some n) = lifetime-node s n

  behind-lifetime : (s : List (List (List ℕ))) (o : Option (List ℕ)) (t : Trees) → next_of (optional_lifetime means s o +++ t) ≡ t
  behind-lifetime s None t = refl
  behind-lifetime s (Some n) t = refl

  length-node : (n : Length) → N (leaf (length_label means n))
  length-node (number_length n) = (tt, tt, tt)
  length-node (name_length n) = (free of_const _ none, tt, tt)
  length-node (variable_length n) = (tt, tt, tt)

  scalar-node : (p : Label) → is_scalar p ≡ true → TextNode E p none
  scalar-node (adt n) g = absurd cc
  scalar-node (principal n t) g = absurd cc
  scalar-node (auto_trait n) g = absurd cc
  scalar-node (predicate k) g = absurd cc
  scalar-node tuple g = absurd cc
  scalar-node (fn_ptr n) g = absurd cc
  scalar-node (raw_pointer b) g = absurd cc
  scalar-node array g = absurd cc
  scalar-node slice g = absurd cc
  scalar-node (ref b) g = absurd cc
  scalar-node dynamic g = absurd cc
  scalar-node p g = tt

  named-node : (n : List ℕ) (k : ℕ) (us : List Use) (x : Trees) → FitSeen (name_use of_type n k ∷ us) → (length (kinds_of_struct (known D n)) ≡ k → sorts_of x ≡ kinds_of_struct (known D n)) → TextNode E (type_label means n) x
  named-node n k us x h g = by (is_among n (params_of l).types) refl
    where
      no-param : is_among n (params_of l).types ≡ false → is_line_param l n ≡ false
      no-param e = at (is_line_param l n) h.0.0
        where
          at : (b : Bool) → (if b then is_param_of l of_type n k else option_map_or (is_type_of of_type k) (known D n) false) ≡ true → b ≡ false
          at false q = refl
          at true q = absurd (true-false (is_among n (params_of l).types) (and-left (is_among n (params_of l).types) _ q) e)

      fitting : is_line_param l n ≡ false → option_map_or (is_type_of of_type k) (known D n) false ≡ true
      fitting e = ap (λ b. if b then is_param_of l of_type n k else option_map_or (is_type_of of_type k) (known D n) false) (sym e) ∙ h.0.0

      by : (b : Bool) → is_among n (params_of l).types ≡ b → TextNode E (if b then parameter of_type (first + length (params_of l).lifetimes + place_among n (params_of l).types) else struct_label (known D n)) x
      by true e = free of_type _ x
      by false e =
          let q = struct-known n k (fitting (no-param e)) (shown (is_line_param l n) (hides (known D n)) (no-param e) (head-shown (name_use of_type n k) us h)) in
          subst (λ z. TextNode E z x) (sym q.1) (subst (IsStructAt E q.0) (sym (g q.3)) q.2)

  -- ---- the auto traits of a `dyn`
  abbrev AutosFit : List ℕ → Type 0
  AutosFit [] = Unit {0}
  AutosFit (n ∷ ns) = IsTraitAt E n (of_type ∷ []) × AutosFit ns

  inserted-fit : (n : ℕ) (ms : List ℕ) → IsTraitAt E n (of_type ∷ []) → AutosFit ms → AutosFit (inserted n ms)
  inserted-fit n [] g h = (g, tt)
  inserted-fit n (m ∷ ms) g h = by (n == m) (nat_lt n m) (inserted-fit n ms g h.1)
    where
      by : (a b : Bool) → AutosFit (inserted n ms) → AutosFit (if a then m ∷ ms else (if b then n ∷ m ∷ ms else m ∷ inserted n ms))
      by true b r = h
      by false true r = (g, h)
      by false false r = (h.0, r)

  with-fit : (s : List (List (List ℕ))) (i : Item) (ns : List ℕ) → FitSeen (item_uses D s i) → AutosFit ns → AutosFit (with_auto D i ns)
  with-fit s (lifetime_item n) ns h g = g
  with-fit s (bound_item b n args) ns h g = by (is_auto_name D n) refl
    where
      by : (a : Bool) → is_auto_name D n ≡ a → AutosFit (if a then inserted (trait_number (known D n)) ns else ns)
      by true e =
          let q = trait-used n (args_count args) (args_uses D (b ∷ s) (kinds_of_trait (known D n)) args) (rest-seen (binder_uses s b) (trait_use n (args_count args) ∷ args_uses D (b ∷ s) (kinds_of_trait (known D n)) args) h) in
          inserted-fit (trait_number (known D n)) ns (subst (λ ks. IsTraitAt E (trait_number (known D n)) (of_type ∷ ks)) (auto-bare n e) q.0) g
      by false e = g

  autos-fit : (s : List (List (List ℕ))) (is : DynBounds) → FitSeen (items_uses D s is) → AutosFit (autos D is)
  autos-fit s no_items h = tt
  autos-fit s (and_item i is) h = with-fit s i (autos D is) (first-seen (item_uses D s i) (items_uses D s is) h) (autos-fit s is (rest-seen (item_uses D s i) (items_uses D s is) h))

  leaves-nodes : (ns : List ℕ) (o : Trees) → AutosFit ns → N o → N (auto_leaves ns +++ o)
  leaves-nodes [] o h g = g
  leaves-nodes (n ∷ ns) o h g = (h.0, tt, leaves-nodes ns o h.1 g)

  with-rises : (i : Item) (ns : List ℕ) → Rising ns → Rising (with_auto D i ns)
  with-rises (lifetime_item n) ns h = h
  with-rises (bound_item b n args) ns h = by (is_auto_name D n)
    where
      by : (a : Bool) → Rising (if a then inserted (trait_number (known D n)) ns else ns)
      by true = inserted-rises (trait_number (known D n)) ns h
      by false = h

  autos-rise : (is : DynBounds) → Rising (autos D is)
  autos-rise no_items = tt
  autos-rise (and_item i is) = with-rises i (autos D is) (autos-rise is)

  -- what stands among the bounds
  abbrev named_autos : Trees → List ℕ
  named_autos t = map (λ (r : Reference). r.trait) (autos_with none t)

  past-item : (s : List (List (List ℕ))) (i : Item) (o : Trees) → named_autos (item_tree means s i +++ o) ≡ named_autos o
  past-item s (lifetime_item n) o = refl
  past-item s (bound_item b n args) o = by (is_auto_name D n)
    where
      by : (a : Bool) → named_autos ((if a then none else tree (principal (length b) (trait_number (known D n))) (args_trees means (b ∷ s) (kinds_of_trait (known D n)) args) none) +++ o) ≡ named_autos o
      by true = refl
      by false = refl

  append-twice : (x y z : Trees) → (x +++ y) +++ z ≡ x +++ (y +++ z)
  append-twice none y z = refl
  append-twice (tree m k o) y z = ap (λ t. tree m k t) (append-twice o y z)

  past-items : (s : List (List (List ℕ))) (is : DynBounds) (o : Trees) → named_autos (items_trees means s is +++ o) ≡ named_autos o
  past-items s no_items o = refl
  past-items s (and_item i is) o = ap named_autos (append-twice (item_tree means s i) (items_trees means s is) o) ∙ past-item s i (items_trees means s is +++ o) ∙ past-items s is o

  no-auto : (m : Label) → sort_of m ≡ of_lifetime → named_autos (leaf m) ≡ []
  no-auto (auto_trait t) e = absurd cc
  no-auto m e = refl

  past-leaves : (ns : List ℕ) (m : Label) → sort_of m ≡ of_lifetime → named_autos (auto_leaves ns +++ leaf m) ≡ ns
  past-leaves [] m e = no-auto m e
  past-leaves (n ∷ ns) m e = ap (λ z. n ∷ z) (past-leaves ns m e)

  -- the lifetime at the end
  abbrev IsEnd : Trees → Type 0
  IsEnd t = (m : Label) × (t ≡ leaf m) × (sort_of m ≡ of_lifetime) × TextNode E m none

  ends-item : (s : List (List (List ℕ))) (i : Item) → IsEnd (item_lifetime means s i)
  ends-item s (bound_item b n args) = (static, refl, refl, tt)
  ends-item s (lifetime_item n) = (lifetime_label means s n, refl, lifetime-sort s n, (lifetime-node s n).0)

  ends-last : (s : List (List (List ℕ))) (i : Item) (is : DynBounds) → IsEnd (last_lifetime means s i is)
  ends-last s i no_items = ends-item s i
  ends-last s i (and_item j is) = ends-last s j is

  dyn-once : (s : List (List (List ℕ))) (i : Item) (is : DynBounds) → let A = with_auto D i (autos D is) in
      autos_stand_once (tree dynamic (item_tree means s i +++ items_trees means s is +++ auto_leaves A +++ last_lifetime means s i is) none) ≡ true
  dyn-once s i is =
      let A = with_auto D i (autos D is) in
      let m = ends-last s i is in
      ap are_distinct
      (past-item s i (items_trees means s is +++ (auto_leaves A +++ last_lifetime means s i is))
      ∙ past-items s is (auto_leaves A +++ last_lifetime means s i is)
      ∙ ap (λ t. named_autos (auto_leaves A +++ t)) m.1
      ∙ past-leaves A m.0 m.2) ∙ rising-apart A (with-rises i (autos D is) (autos-rise is))

  -- ---- types
  begins : (s : List (List (List ℕ))) (t : TypeTree) → Scalars t → begins_typed (type_tree means s of_type t) ≡ true
  begins s t f = ap begins_typed (sym (at-end (type_tree means s of_type t))) ∙ begins-by (type_tree means s of_type t) none (type-sorts s t f)
    where
      at-end : (x : Trees) → x +++ none ≡ x
      at-end none = refl
      at-end (tree m k o) = ap (λ z. tree m k z) (at-end o)

  inputs : (s : List (List (List ℕ))) (ts : Types) → ScalarTypes ts → (o : Trees) → AreTypeSorts (sorts_of o) → AreTypeSorts (sorts_of (types_trees means s ts +++ o))
  inputs s ts f o h = subst AreTypeSorts (sym (sorts-append (types_trees means s ts) o)) (are-types-append (sorts_of (types_trees means s ts)) (sorts_of o) (types-sorts s ts f) h)

  principal-nodes : (a : Bool) (n t : ℕ) (x : Trees) → IsTraitAt E t (of_type ∷ sorts_of x) → N x → N (if a then none else tree (principal n t) x none)
  principal-nodes true n t x h g = tt
  principal-nodes false n t x h g = (h, g, tt)

  mutual
    pub type-nodes : (s : List (List (List ℕ))) (t : TypeTree) → Scalars t → FitSeen (type_uses D s of_type t) → N (type_tree means s of_type t)
    type-nodes s (of_primitive p) f h = (scalar-node p f, tt, tt)
    type-nodes s never_type f h = (tt, tt, tt)
    type-nodes s (variable_type n) f h = (tt, tt, tt)
    type-nodes s (named n args) f h =
        let ks = kinds_of_struct (known D n) in
        let more = tail-seen (name_use of_type n (args_count args)) (args_uses D s ks args) h in
        (named-node n (args_count args) (args_uses D s ks args) (args_trees means s ks args) h (λ e. args-sorts s ks args f e more), args-nodes s ks args f more, tt)
    type-nodes s (reference_to o m t) f h = (
      ap begins_typed (behind-lifetime s o (type_tree means s of_type t)) ∙ begins s t f,
      nodes-append (TextNode E) (optional_lifetime means s o) (type_tree means s of_type t) (optional-node s o) (type-nodes s t f (rest-seen (lifetime_uses s o) (type_uses D s of_type t) h)),
      tt,
    )
    type-nodes s (pointer_to m t) f h = (begins s t f, type-nodes s t f h, tt)
    type-nodes s (slice_of t) f h = (begins s t f, type-nodes s t f h, tt)
    type-nodes s (array_of t n) f h = (
      begins-by (type_tree means s of_type t) (leaf (length_label means n)) (type-sorts s t f),
      nodes-append (TextNode E) (type_tree means s of_type t) (leaf (length_label means n)) (type-nodes s t f (first-seen (type_uses D s of_type t) (length_uses n) h)) (length-node n),
      tt,
    )
    type-nodes s (tuple_of ts) f h = (types-sorts s ts f, types-nodes s ts f (tail-seen (items_use (types_count ts)) (types_uses D s ts) h), tt)
    type-nodes s (fn_of b ts) f h =
        let more = tail-seen (items_use (types_count ts)) (types_uses D (b ∷ s) ts) (rest-seen (binder_uses s b) (items_use (types_count ts) ∷ types_uses D (b ∷ s) ts) h) in
        (inputs (b ∷ s) ts f (leaf tuple) (refl, tt), nodes-append (TextNode E) (types_trees means (b ∷ s) ts) (leaf tuple) (types-nodes (b ∷ s) ts f more) (tt, tt, tt), tt)
    type-nodes s (fn_to b ts r) f h =
        let more = tail-seen (items_use (types_count ts)) (types_uses D (b ∷ s) ts ++ type_uses D (b ∷ s) of_type r) (rest-seen (binder_uses s b) (items_use (types_count ts) ∷ (types_uses D (b ∷ s) ts ++ type_uses D (b ∷ s) of_type r)) h) in (
          inputs (b ∷ s) ts f.0 (type_tree means (b ∷ s) of_type r) (subst AreTypeSorts (sym (type-sorts (b ∷ s) r f.1)) (refl, tt)),
          nodes-append (TextNode E) (types_trees means (b ∷ s) ts) (type_tree means (b ∷ s) of_type r)
              (types-nodes (b ∷ s) ts f.0 (first-seen (types_uses D (b ∷ s) ts) (type_uses D (b ∷ s) of_type r) more))
              (type-nodes (b ∷ s) r f.1 (rest-seen (types_uses D (b ∷ s) ts) (type_uses D (b ∷ s) of_type r) more)),
          tt,
        )
    type-nodes s (dyn_of i is) f h =
        let both = tail-seen (dyn_use (item_shape i ∷ item_shapes is)) (item_uses D s i ++ items_uses D s is) h in
        let one = first-seen (item_uses D s i) (items_uses D s is) both in
        let more = rest-seen (item_uses D s i) (items_uses D s is) both in
        let A = with_auto D i (autos D is) in
        let m = ends-last s i is in
        let end = subst N (sym m.1) (m.3, tt, tt) in (
          dyn-once s i is,
          nodes-append (TextNode E) (item_tree means s i) (items_trees means s is +++ (auto_leaves A +++ last_lifetime means s i is)) (item-nodes s i f.0 one)
              (nodes-append (TextNode E) (items_trees means s is) (auto_leaves A +++ last_lifetime means s i is) (items-nodes s is f.1 more)
              (leaves-nodes A (last_lifetime means s i is) (with-fit s i (autos D is) one (autos-fit s is more)) end)),
          tt,
        )

    pub types-nodes : (s : List (List (List ℕ))) (ts : Types) → ScalarTypes ts → FitSeen (types_uses D s ts) → N (types_trees means s ts)
    types-nodes s no_types f h = tt
    types-nodes s (and_type t ts) f h =
        nodes-append (TextNode E) (type_tree means s of_type t) (types_trees means s ts) (type-nodes s t f.0 (first-seen (type_uses D s of_type t) (types_uses D s ts) h)) (types-nodes s ts f.1 (rest-seen (type_uses D s of_type t) (types_uses D s ts) h))

    pub args-nodes : (s : List (List (List ℕ))) (ks : List Sort) (args : Args) → ScalarArgs args → FitSeen (args_uses D s ks args) → N (args_trees means s ks args)
    args-nodes s ks no_args f h = tt
    args-nodes s [] (and_arg a args) f h =
        nodes-append (TextNode E) (arg_tree means s of_type a) (args_trees means s [] args) (arg-nodes s of_type a f.0 (first-seen (arg_uses D s of_type a) (args_uses D s [] args) h)) (args-nodes s [] args f.1 (rest-seen (arg_uses D s of_type a) (args_uses D s [] args) h))
    args-nodes s (k ∷ ks) (and_arg a args) f h =
        nodes-append (TextNode E) (arg_tree means s k a) (args_trees means s ks args) (arg-nodes s k a f.0 (first-seen (arg_uses D s k a) (args_uses D s ks args) h)) (args-nodes s ks args f.1 (rest-seen (arg_uses D s k a) (args_uses D s ks args) h))

    arg-nodes : (s : List (List (List ℕ))) (p : Sort) (a : Arg) → ScalarArg a → FitSeen (arg_uses D s p a) → N (arg_tree means s p a)
    arg-nodes s p (lifetime_arg n) f h = lifetime-node s n
    arg-nodes s p (number_arg n) f h = (tt, tt, tt)
    arg-nodes s of_type (type_arg t) f h = type-nodes s t f h
    arg-nodes s of_lifetime (type_arg t) f h = absurd h.0.0
    arg-nodes s of_const (type_arg (named n args)) f h = (free of_const _ none, tt, tt)
    arg-nodes s of_const (type_arg (variable_type n)) f h = (tt, tt, tt)
    arg-nodes s of_const (type_arg (of_primitive x)) f h = absurd h.0.0
    arg-nodes s of_const (type_arg never_type) f h = absurd h.0.0
    arg-nodes s of_const (type_arg (reference_to x y z)) f h = absurd h.0.0
    arg-nodes s of_const (type_arg (pointer_to x y)) f h = absurd h.0.0
    arg-nodes s of_const (type_arg (slice_of x)) f h = absurd h.0.0
    arg-nodes s of_const (type_arg (array_of x y)) f h = absurd h.0.0
    arg-nodes s of_const (type_arg (tuple_of x)) f h = absurd h.0.0
    arg-nodes s of_const (type_arg (fn_of x y)) f h = absurd h.0.0
    arg-nodes s of_const (type_arg (fn_to x y z)) f h = absurd h.0.0
    arg-nodes s of_const (type_arg (dyn_of x y)) f h = absurd h.0.0

    item-nodes : (s : List (List (List ℕ))) (i : Item) → ScalarItem i → FitSeen (item_uses D s i) → N (item_tree means s i)
    item-nodes s (lifetime_item n) f h = tt
    item-nodes s (bound_item b n args) f h =
        let ks = kinds_of_trait (known D n) in
        let uses = rest-seen (binder_uses s b) (trait_use n (args_count args) ∷ args_uses D (b ∷ s) ks args) h in
        let more = tail-seen (trait_use n (args_count args)) (args_uses D (b ∷ s) ks args) uses in
        let q = trait-used n (args_count args) (args_uses D (b ∷ s) ks args) uses in
        principal-nodes (is_auto_name D n) (length b) (trait_number (known D n)) (args_trees means (b ∷ s) ks args)
        (subst (λ z. IsTraitAt E (trait_number (known D n)) (of_type ∷ z)) (sym (args-sorts (b ∷ s) ks args f q.1 more)) q.0) (args-nodes (b ∷ s) ks args f more)

    items-nodes : (s : List (List (List ℕ))) (is : DynBounds) → ScalarItems is → FitSeen (items_uses D s is) → N (items_trees means s is)
    items-nodes s no_items f h = tt
    items-nodes s (and_item i is) f h =
        nodes-append (TextNode E) (item_tree means s i) (items_trees means s is) (item-nodes s i f.0 (first-seen (item_uses D s i) (items_uses D s is) h)) (items-nodes s is f.1 (rest-seen (item_uses D s i) (items_uses D s is) h))
