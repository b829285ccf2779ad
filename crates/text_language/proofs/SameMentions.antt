-- The mentions of a line are those of the long definition, in the same order.
use Rattle.std.proofs.Common.{◌≡◌, ℕ, suc, List, [], ◌∷◌, ◌++◌, map, length, drop, get_or, Option, Some, None, refl, ap, ◌∙◌, ◌+◌, arith}
use Rattle.std.specs.Prelude.{nat_lt}
use Rattle.std.specs.Option.{option_map_or}
use Rattle.std.proofs.lemmas.Bool.Decides.{nat_tests}
use Rattle.text_language.specs.Faults.{variables_in, is_any}
use Rattle.text_language.specs.Promised.Faults.{with_own}
use Rattle.std.specs.List.{flat_map}
use Rattle.std.proofs.lemmas.Grind.{flat_map-append}
use Rattle.type_terms.specs.Promised.Label.{Sort, of_type, of_const, of_lifetime}
use Rattle.text_language.specs.Promised.Syntax.{TypeTree, of_primitive, never_type, variable_type, named, reference_to, pointer_to, slice_of, array_of, tuple_of, fn_of, fn_to, dyn_of, Types, no_types, and_type, Args, no_args, and_arg, Arg, lifetime_arg, number_arg, type_arg, Item, bound_item, lifetime_item, DynBounds, no_items, and_item, number_length, name_length, variable_length, Bound, Clause, Line, crate_line, struct_line, trait_line, impl_line, prove_line, refute_line, later_line, supers_line}
use Rattle.text_language.specs.Promised.Declarations.{Declarations, Known, a_crate, a_struct, a_trait, known}
use Rattle.text_language.specs.Uses.{Use, crate_use, name_use, trait_use, lifetime_use, binder_use, misfit_use, variable_use, dyn_use, items_use, number_use, binder_uses, item_shape, item_shapes, types_count, args_count, next_kind, other_kinds, kinds_of_struct, kinds_of_trait, type_uses, types_uses, args_uses, arg_uses, item_uses, items_uses, bound_uses, clause_uses, header_uses, uses, asked_uses, other_uses, params_of}
use Rattle.text_language.specs.Promised.Mentions.{Mention, crate_mention, name_mention, trait_mention, lifetime_mention, binder_mention, variable_mention, misfit_mention, dyn_mention, list_mention, number_mention, type_mention, item_list, led_by, struct_kinds, trait_kinds, type_mentions, types_mentions, args_mentions, arg_mentions, item_mentions, items_mentions, bound_mentions, clause_mentions, header_mentions, line_mentions, asked_mentions, line_params}

-- what is used by what is mentioned; that a type stands so deep is no use, and an empty binder is none either
abbrev pub as_uses : Mention → List Use
as_uses (crate_mention n) = crate_use n ∷ []
as_uses (name_mention p n k) = name_use p n k ∷ []
as_uses (trait_mention n k) = trait_use n k ∷ []
as_uses (lifetime_mention s n) = lifetime_use s n ∷ []
as_uses (binder_mention s b) = binder_uses s b
as_uses (variable_mention p n) = variable_use p n ∷ []
as_uses misfit_mention = misfit_use ∷ []
as_uses (dyn_mention is) = dyn_use (map item_shape is) ∷ []
as_uses (list_mention n) = items_use n ∷ []
as_uses (number_mention n) = number_use n ∷ []
as_uses (type_mention k) = []

abbrev used : List Mention → List Use
used ms = flat_map as_uses ms

abbrev all_of : List (List Mention) → List Mention
all_of parts = flat_map (λ p. p) parts

both : (xs ys : List Mention) {us vs : List Use} → used xs ≡ us → used ys ≡ vs → used (xs ++ ys) ≡ us ++ vs
both xs ys {us} {vs} e f = flat_map-append as_uses xs ys ∙ (ap (λ u. u ++ used ys) e ∙ ap (λ v. us ++ v) f)

-- ---- kinds of places
pub first-kind : (ks : List Sort) → get_or ks 0 of_type ≡ next_kind ks
first-kind [] = refl
first-kind (k ∷ ks) = refl

pub later-kinds : (ks : List Sort) → drop 1 ks ≡ other_kinds ks
later-kinds [] = refl
later-kinds (k ∷ ks) = refl

pub struct-kinds : (d : Declarations) (n : List ℕ) → struct_kinds d n ≡ kinds_of_struct (known d n)
struct-kinds d n = of-known (known d n)
  where
    of-known : (k : Option Known) → option_map_or (λ w. elim w [ a_struct i h kinds ↦ kinds | _ ↦ [] ]) k [] ≡ kinds_of_struct k
    of-known None = refl
    of-known (Some (a_crate i)) = refl
    of-known (Some (a_struct i h kinds)) = refl
    of-known (Some (a_trait i h a kinds)) = refl

pub trait-kinds : (d : Declarations) (n : List ℕ) → trait_kinds d n ≡ kinds_of_trait (known d n)
trait-kinds d n = of-known (known d n)
  where
    of-known : (k : Option Known) → option_map_or (λ w. elim w [ a_trait i h a kinds ↦ kinds | _ ↦ [] ]) k [] ≡ kinds_of_trait k
    of-known None = refl
    of-known (Some (a_crate i)) = refl
    of-known (Some (a_struct i h kinds)) = refl
    of-known (Some (a_trait i h a kinds)) = refl

-- ---- counts
pub types-counted : (d : Declarations) (s : List (List (List ℕ))) (k : ℕ) (ts : Types) → length (types_mentions d s k ts) ≡ types_count ts
types-counted d s k no_types = refl
types-counted d s k (and_type t ts) = ap suc (types-counted d s k ts)

args-counted : (d : Declarations) (s : List (List (List ℕ))) (k : ℕ) (ks : List Sort) (args : Args) → length (args_mentions d s k ks args) ≡ args_count args
args-counted d s k ks no_args = refl
args-counted d s k ks (and_arg a args) = ap suc (args-counted d s k (drop 1 ks) args)

shapes : (is : DynBounds) → map item_shape (item_list is) ≡ item_shapes is
shapes no_items = refl
shapes (and_item i is) = ap (λ x. item_shape i ∷ x) (shapes is)

-- a head with its number of parts, and what is in these
led : (h : ℕ → Use) (parts : List (List Mention)) {n : ℕ} {us : List Use} → length parts ≡ n → used (all_of parts) ≡ us → h (length parts) ∷ used (all_of parts) ≡ h n ∷ us
led h parts {n} {us} e f = ap (λ k. h k ∷ used (all_of parts)) e ∙ ap (λ u. h n ∷ u) f

-- ---- types
abbrev Scope : Type 0
Scope = List (List (List ℕ))

-- what stands at a const's place
const-same : (d : Declarations) (s : Scope) (k : ℕ) (t : TypeTree) → used (type_mentions d s (suc k) of_const t) ≡ type_uses d s of_const t
    → used (arg_mentions d s k of_const (type_arg t)) ≡ arg_uses d s of_const (type_arg t)
const-same d s k (named n args) h = h
const-same d s k (variable_type n) h = h
const-same d s k t h = ap (λ u. misfit_use ∷ u) h

mutual
  type-same : (d : Declarations) (s : Scope) (k : ℕ) (p : Sort) (t : TypeTree) → used (type_mentions d s k p t) ≡ type_uses d s p t
  type-same d s k p (of_primitive l) = refl
  type-same d s k p never_type = refl
  type-same d s k p (variable_type n) = refl
  type-same d s k p (named n args) =
      let ks : List Sort = struct_kinds d n in
      led (name_use p n) (args_mentions d s k ks args) (args-counted d s k ks args) (args-same d s k ks args ∙ ap (λ q. args_uses d s q args) (struct-kinds d n))
  type-same d s k p (reference_to None m t) = type-same d s (suc k) of_type t
  type-same d s k p (reference_to (Some n) m t) = ap (λ u. lifetime_use s n ∷ u) (type-same d s (suc k) of_type t)
  type-same d s k p (pointer_to m t) = type-same d s (suc k) of_type t
  type-same d s k p (slice_of t) = type-same d s (suc k) of_type t
  type-same d s k p (array_of t (number_length n)) = both (type_mentions d s (suc k) of_type t) (number_mention n ∷ []) (type-same d s (suc k) of_type t) refl
  type-same d s k p (array_of t (name_length n)) = both (type_mentions d s (suc k) of_type t) (name_mention of_const n 0 ∷ []) (type-same d s (suc k) of_type t) refl
  type-same d s k p (array_of t (variable_length n)) = both (type_mentions d s (suc k) of_type t) (variable_mention of_const n ∷ []) (type-same d s (suc k) of_type t) refl
  type-same d s k p (tuple_of ts) = led items_use (types_mentions d s k ts) (types-counted d s k ts) (types-same d s k ts)
  type-same d s k p (fn_of b ts) =
      ap (λ u. binder_uses s b ++ u) (led items_use (types_mentions d (b ∷ s) k ts) (types-counted d (b ∷ s) k ts) (types-same d (b ∷ s) k ts))
  type-same d s k p (fn_to b ts r) =
      let ms : List (List Mention) = types_mentions d (b ∷ s) k ts in
      let e : used (led_by list_mention ms) ≡ items_use (types_count ts) ∷ types_uses d (b ∷ s) ts = led items_use ms (types-counted d (b ∷ s) k ts) (types-same d (b ∷ s) k ts) in
      ap (λ u. binder_uses s b ++ u) (both (led_by list_mention ms) (type_mention k ∷ type_mentions d (b ∷ s) (suc k) of_type r) e (type-same d (b ∷ s) (suc k) of_type r))
  type-same d s k p (dyn_of i is) =
      ap (λ x. dyn_use (item_shape i ∷ x) ∷ used (item_mentions d s k i ++ items_mentions d s k is)) (shapes is)
      ∙ ap (λ u. dyn_use (item_shape i ∷ item_shapes is) ∷ u) (both (item_mentions d s k i) (items_mentions d s k is) (item-same d s k i) (items-same d s k is))

  types-same : (d : Declarations) (s : Scope) (k : ℕ) (ts : Types) → used (all_of (types_mentions d s k ts)) ≡ types_uses d s ts
  types-same d s k no_types = refl
  types-same d s k (and_type t ts) =
      both (type_mention k ∷ type_mentions d s (suc k) of_type t) (all_of (types_mentions d s k ts)) (type-same d s (suc k) of_type t) (types-same d s k ts)

  args-same : (d : Declarations) (s : Scope) (k : ℕ) (ks : List Sort) (args : Args) → used (all_of (args_mentions d s k ks args)) ≡ args_uses d s ks args
  args-same d s k ks no_args = refl
  args-same d s k ks (and_arg a args) =
      both (arg_mentions d s k (get_or ks 0 of_type) a) (all_of (args_mentions d s k (drop 1 ks) args))
      (arg-same d s k (get_or ks 0 of_type) a ∙ ap (λ p. arg_uses d s p a) (first-kind ks))
      (args-same d s k (drop 1 ks) args ∙ ap (λ q. args_uses d s q args) (later-kinds ks))

  arg-same : (d : Declarations) (s : Scope) (k : ℕ) (p : Sort) (a : Arg) → used (arg_mentions d s k p a) ≡ arg_uses d s p a
  arg-same d s k of_lifetime (lifetime_arg n) = refl
  arg-same d s k of_type (lifetime_arg n) = refl
  arg-same d s k of_const (lifetime_arg n) = refl
  arg-same d s k of_lifetime (number_arg n) = refl
  arg-same d s k of_type (number_arg n) = refl
  arg-same d s k of_const (number_arg n) = refl
  arg-same d s k of_type (type_arg t) = type-same d s (suc k) of_type t
  arg-same d s k of_lifetime (type_arg t) = ap (λ u. misfit_use ∷ u) (type-same d s (suc k) of_lifetime t)
  arg-same d s k of_const (type_arg t) = const-same d s k t (type-same d s (suc k) of_const t)

  item-same : (d : Declarations) (s : Scope) (k : ℕ) (i : Item) → used (item_mentions d s k i) ≡ item_uses d s i
  item-same d s k (bound_item b n args) =
      let ks : List Sort = trait_kinds d n in
      ap (λ u. binder_uses s b ++ u) (led (trait_use n) (args_mentions d (b ∷ s) k ks args) (args-counted d (b ∷ s) k ks args) (args-same d (b ∷ s) k ks args ∙ ap (λ q. args_uses d (b ∷ s) q args) (trait-kinds d n)))
  item-same d s k (lifetime_item n) = refl

  items-same : (d : Declarations) (s : Scope) (k : ℕ) (is : DynBounds) → used (items_mentions d s k is) ≡ items_uses d s is
  items-same d s k no_items = refl
  items-same d s k (and_item i is) = both (item_mentions d s k i) (items_mentions d s k is) (item-same d s k i) (items-same d s k is)

-- ---- parts of lines
pub bound-mentions-are : (d : Declarations) (b : Bound) → used (bound_mentions d b) ≡ bound_uses d b
bound-mentions-are d b =
    let ks : List Sort = trait_kinds d b.trait in
    led (trait_use b.trait) (args_mentions d [] 1 ks b.args) (args-counted d [] 1 ks b.args) (args-same d [] 1 ks b.args ∙ ap (λ q. args_uses d [] q b.args) (trait-kinds d b.trait))

pub clause-mentions-are : (d : Declarations) (k : Clause) → used (clause_mentions d k) ≡ clause_uses d k
clause-mentions-are d k = both (type_mention 1 ∷ type_mentions d [] 2 of_type k.subject) (bound_mentions d k.bound) (type-same d [] 2 of_type k.subject) (bound-mentions-are d k.bound)

pub header-mentions-are : (d : Declarations) (h : Clause) → used (header_mentions d h) ≡ header_uses d h
header-mentions-are d h = both (bound_mentions d h.bound) (type_mention 1 ∷ type_mentions d [] 2 of_type h.subject) (bound-mentions-are d h.bound) (type-same d [] 2 of_type h.subject)

each-same : {X : Type 0} (f : X → List Mention) (g : X → List Use) → ((x : X) → used (f x) ≡ g x) → (xs : List X) → used (flat_map f xs) ≡ flat_map g xs
each-same f g h [] = refl
each-same f g h (x ∷ xs) = both (f x) (flat_map f xs) (h x) (each-same f g h xs)

crates-same : (ns : List (List ℕ)) → used (map crate_mention ns) ≡ map crate_use ns
crates-same [] = refl
crates-same (n ∷ ns) = ap (λ u. crate_use n ∷ u) (crates-same ns)

pub clauses-mentions-are : (d : Declarations) (ks : List Clause) → used (flat_map (clause_mentions d) ks) ≡ flat_map (clause_uses d) ks
clauses-mentions-are d ks = each-same (clause_mentions d) (clause_uses d) (clause-mentions-are d) ks

-- ---- lines
pub mentions-are : (d : Declarations) (l : Line) → flat_map as_uses (line_mentions d l) ≡ uses d l
mentions-are d (crate_line n us) = crates-same us
mentions-are d (struct_line f n ps fs) = types-same d [] 1 fs
mentions-are d (trait_line f a n ps bs) = each-same (bound_mentions d) (bound_uses d) (bound-mentions-are d) bs
mentions-are d (impl_line ps h ks) = both (header_mentions d h) (flat_map (clause_mentions d) ks) (header-mentions-are d h) (clauses-mentions-are d ks)
mentions-are d (prove_line c ps a bs ks) =
    ap (λ u. crate_use c ∷ u) (both (flat_map (clause_mentions d) (a ∷ bs)) (flat_map (clause_mentions d) ks) (clauses-mentions-are d (a ∷ bs)) (clauses-mentions-are d ks))
mentions-are d (refute_line c ps a bs) = ap (λ u. crate_use c ∷ u) (clauses-mentions-are d (a ∷ bs))
mentions-are d (later_line n) = refl
mentions-are d (supers_line n) = refl

pub asked-mentions-are : (d : Declarations) (l : Line) → flat_map as_uses (asked_mentions d l) ≡ asked_uses d l
asked-mentions-are d (prove_line c ps a bs ks) = clauses-mentions-are d (a ∷ bs)
asked-mentions-are d (refute_line c ps a bs) = clauses-mentions-are d (a ∷ bs)
asked-mentions-are d _ = refl

pub params-same : (l : Line) → line_params l ≡ params_of l
params-same (crate_line n us) = refl
params-same (struct_line f n ps fs) = refl
params-same (trait_line f a n ps bs) = refl
params-same (impl_line ps h ks) = refl
params-same (prove_line c ps a bs ks) = refl
params-same (refute_line c ps a bs) = refl
params-same (later_line n) = refl
params-same (supers_line n) = refl

-- ---- variables
variables-follow : (xs ys : List Use) → length (variables_in (xs ++ ys)) ≡ length (variables_in xs) + length (variables_in ys)
variables-follow [] ys = omega arith
variables-follow (variable_use p n ∷ xs) ys = let e : length (variables_in (xs ++ ys)) ≡ length (variables_in xs) + length (variables_in ys) = variables-follow xs ys in omega arith
variables-follow (crate_use n ∷ xs) ys = variables-follow xs ys
variables-follow (name_use p n k ∷ xs) ys = variables-follow xs ys
variables-follow (trait_use n k ∷ xs) ys = variables-follow xs ys
variables-follow (lifetime_use s n ∷ xs) ys = variables-follow xs ys
variables-follow (binder_use s ns ∷ xs) ys = variables-follow xs ys
variables-follow (misfit_use ∷ xs) ys = variables-follow xs ys
variables-follow (dyn_use is ∷ xs) ys = variables-follow xs ys
variables-follow (items_use k ∷ xs) ys = variables-follow xs ys
variables-follow (number_use n ∷ xs) ys = variables-follow xs ys

more-than : (m n : ℕ) (vs : List (List ℕ × Sort)) → n ≡ m + length vs → is_any vs ≡ nat_lt m n
more-than m n [] h = grind (arith, nat_tests)
more-than m n (v ∷ vs) h = let k : n ≡ m + suc (length vs) = h in grind (arith, nat_tests)

-- A variable stands outside the asked references if there are more in the line than in these.
pub other-variables : (d : Declarations) (l : Line)
    → is_any (variables_in (other_uses (with_own d l) l)) ≡ nat_lt (length (variables_in (asked_uses d l))) (length (variables_in (uses (with_own d l) l)))
other-variables d (prove_line c ps a bs ks) =
    let xs : List Use = flat_map (clause_uses d) (a ∷ bs) in
    let ys : List Use = flat_map (clause_uses d) ks in
    more-than (length (variables_in xs)) (length (variables_in (xs ++ ys))) (variables_in ys) (variables-follow xs ys)
other-variables d (refute_line c ps a bs) =
    let xs : List Use = flat_map (clause_uses d) (a ∷ bs) in more-than (length (variables_in xs)) (length (variables_in xs)) [] (omega arith)
other-variables d (crate_line n us) = let u : List Use = uses d (crate_line n us) in more-than 0 (length (variables_in u)) (variables_in u) (omega arith)
other-variables d (struct_line f n ps fs) =
    let u : List Use = uses (with_own d (struct_line f n ps fs)) (struct_line f n ps fs) in more-than 0 (length (variables_in u)) (variables_in u) (omega arith)
other-variables d (trait_line f a n ps bs) =
    let u : List Use = uses (with_own d (trait_line f a n ps bs)) (trait_line f a n ps bs) in more-than 0 (length (variables_in u)) (variables_in u) (omega arith)
other-variables d (impl_line ps h ks) = let u : List Use = uses d (impl_line ps h ks) in more-than 0 (length (variables_in u)) (variables_in u) (omega arith)
other-variables d (later_line n) = more-than 0 0 [] (omega arith)
other-variables d (supers_line n) = more-than 0 0 [] (omega arith)
