-- A name is at the position of a lifetime only together with a misfit_mention.
use Rattle.std.proofs.Common.{◌≡◌, ℕ, suc, Bool, true, false, List, [], ◌∷◌, ◌++◌, map, drop, get_or, Option, Some, None, refl, sym, ap, ◌∙◌}
use Rattle.std.specs.Prelude.{◌||◌}
use Rattle.std.specs.Option.{option_to_list}
use Rattle.std.specs.List.{list_any, flat_map}
use Rattle.std.proofs.lemmas.List.Folds.{list_any-append}
use Rattle.type_terms.specs.Promised.Label.{Sort, of_type, of_const, of_lifetime}
use Rattle.text_language.specs.Promised.Syntax.{TypeTree, of_primitive, never_type, variable_type, named, reference_to, pointer_to, slice_of, array_of, tuple_of, fn_of, fn_to, dyn_of, Types, no_types, and_type, Args, no_args, and_arg, Arg, lifetime_arg, number_arg, type_arg, Item, bound_item, lifetime_item, DynBounds, no_items, and_item, number_length, name_length, variable_length, Bound, Clause, Line, crate_line, struct_line, trait_line, impl_line, prove_line, refute_line, later_line, supers_line}
use Rattle.text_language.specs.Promised.Declarations.{Declarations}
use Rattle.text_language.specs.Promised.Mentions.{Mention, crate_mention, name_mention, lifetime_mention, variable_mention, misfit_mention, number_mention, type_mention, struct_kinds, trait_kinds, type_mentions, types_mentions, args_mentions, arg_mentions, item_mentions, items_mentions, bound_mentions, clause_mentions, header_mentions, line_mentions}

abbrev pub at_lifetime : Mention → Bool
at_lifetime (name_mention of_lifetime n k) = true
at_lifetime _ = false

abbrev pub is_misfit : Mention → Bool
is_misfit misfit_mention = true
is_misfit _ = false

abbrev pub Covered : List Mention → Type 0
Covered ms = list_any at_lifetime ms ≡ true → list_any is_misfit ms ≡ true

abbrev Scope : Type 0
Scope = List (List (List ℕ))

abbrev all_of : List (List Mention) → List Mention
all_of parts = flat_map (λ p. p) parts

either : (a b c e : Bool) → (a ≡ true → c ≡ true) → (b ≡ true → e ≡ true) → a || b ≡ true → c || e ≡ true
either true b c e f g h = ap (λ x. x || e) (f refl)
either false b true e f g h = refl
either false b false e f g h = g h

both : (xs ys : List Mention) → Covered xs → Covered ys → Covered (xs ++ ys)
both xs ys f g e =
    list_any-append is_misfit xs ys
    ∙ either (list_any at_lifetime xs) (list_any at_lifetime ys) (list_any is_misfit xs) (list_any is_misfit ys) f g (sym (list_any-append at_lifetime xs ys) ∙ e)

empty : Covered []
empty e = absurd cc

-- a mention that is no name at a lifetime's place
behind : (m : Mention) (ms : List Mention) → at_lifetime m ≡ false → Covered ms → Covered (m ∷ ms)
behind m ms h f e = either (at_lifetime m) (list_any at_lifetime ms) (is_misfit m) (list_any is_misfit ms) (λ g. absurd cc) f e

lifetimes : (s : Scope) (l : Option (List ℕ)) (ms : List Mention) → Covered ms → Covered (map (lifetime_mention s) (option_to_list l) ++ ms)
lifetimes s None ms f = f
lifetimes s (Some n) ms f = behind (lifetime_mention s n) ms refl f

const-covered : (d : Declarations) (s : Scope) (k : ℕ) (t : TypeTree) → Covered (type_mentions d s (suc k) of_const t) → Covered (arg_mentions d s k of_const (type_arg t))
const-covered d s k (named n args) h = h
const-covered d s k (variable_type n) h = empty
const-covered d s k _ h = λ e. refl

mutual
  type-covered : (d : Declarations) (s : Scope) (k : ℕ) (p : Sort) (t : TypeTree) → at_lifetime (name_mention p [] 0) ≡ false → Covered (type_mentions d s k p t)
  type-covered d s k p (of_primitive l) h = empty
  type-covered d s k p never_type h = empty
  type-covered d s k p (variable_type n) h = empty
  type-covered d s k of_type (named n args) h = args-covered d s k (struct_kinds d n) args
  type-covered d s k of_const (named n args) h = args-covered d s k (struct_kinds d n) args
  type-covered d s k of_lifetime (named n args) h = absurd cc
  type-covered d s k p (reference_to l m t) h = lifetimes s l (type_mention k ∷ type_mentions d s (suc k) of_type t) (type-covered d s (suc k) of_type t refl)
  type-covered d s k p (pointer_to m t) h = type-covered d s (suc k) of_type t refl
  type-covered d s k p (slice_of t) h = type-covered d s (suc k) of_type t refl
  type-covered d s k p (array_of t (number_length n)) h = both (type_mentions d s (suc k) of_type t) (number_mention n ∷ []) (type-covered d s (suc k) of_type t refl) empty
  type-covered d s k p (array_of t (name_length n)) h = both (type_mentions d s (suc k) of_type t) (name_mention of_const n 0 ∷ []) (type-covered d s (suc k) of_type t refl) empty
  type-covered d s k p (array_of t (variable_length n)) h = both (type_mentions d s (suc k) of_type t) (variable_mention of_const n ∷ []) (type-covered d s (suc k) of_type t refl) empty
  type-covered d s k p (tuple_of ts) h = types-covered d s k ts
  type-covered d s k p (fn_of b ts) h = types-covered d (b ∷ s) k ts
  type-covered d s k p (fn_to b ts r) h =
      both (all_of (types_mentions d (b ∷ s) k ts)) (type_mention k ∷ type_mentions d (b ∷ s) (suc k) of_type r) (types-covered d (b ∷ s) k ts) (type-covered d (b ∷ s) (suc k) of_type r refl)
  type-covered d s k p (dyn_of i is) h = both (item_mentions d s k i) (items_mentions d s k is) (item-covered d s k i) (items-covered d s k is)

  types-covered : (d : Declarations) (s : Scope) (k : ℕ) (ts : Types) → Covered (all_of (types_mentions d s k ts))
  types-covered d s k no_types = empty
  types-covered d s k (and_type t ts) = both (type_mention k ∷ type_mentions d s (suc k) of_type t) (all_of (types_mentions d s k ts)) (type-covered d s (suc k) of_type t refl) (types-covered d s k ts)

  args-covered : (d : Declarations) (s : Scope) (k : ℕ) (ks : List Sort) (args : Args) → Covered (all_of (args_mentions d s k ks args))
  args-covered d s k ks no_args = empty
  args-covered d s k ks (and_arg a args) =
      both (arg_mentions d s k (get_or ks 0 of_type) a) (all_of (args_mentions d s k (drop 1 ks) args)) (arg-covered d s k (get_or ks 0 of_type) a) (args-covered d s k (drop 1 ks) args)

  arg-covered : (d : Declarations) (s : Scope) (k : ℕ) (p : Sort) (a : Arg) → Covered (arg_mentions d s k p a)
  arg-covered d s k of_lifetime (lifetime_arg n) = empty
  arg-covered d s k of_type (lifetime_arg n) = λ e. refl
  arg-covered d s k of_const (lifetime_arg n) = λ e. refl
  arg-covered d s k of_lifetime (number_arg n) = λ e. refl
  arg-covered d s k of_type (number_arg n) = λ e. refl
  arg-covered d s k of_const (number_arg n) = empty
  arg-covered d s k of_type (type_arg t) = type-covered d s (suc k) of_type t refl
  arg-covered d s k of_lifetime (type_arg t) = λ e. refl
  arg-covered d s k of_const (type_arg t) = const-covered d s k t (type-covered d s (suc k) of_const t refl)

  item-covered : (d : Declarations) (s : Scope) (k : ℕ) (i : Item) → Covered (item_mentions d s k i)
  item-covered d s k (bound_item b n args) = args-covered d (b ∷ s) k (trait_kinds d n) args
  item-covered d s k (lifetime_item n) = empty

  items-covered : (d : Declarations) (s : Scope) (k : ℕ) (is : DynBounds) → Covered (items_mentions d s k is)
  items-covered d s k no_items = empty
  items-covered d s k (and_item i is) = both (item_mentions d s k i) (items_mentions d s k is) (item-covered d s k i) (items-covered d s k is)

bound-covered : (d : Declarations) (b : Bound) → Covered (bound_mentions d b)
bound-covered d b = args-covered d [] 1 (trait_kinds d b.trait) b.args

clause-covered : (d : Declarations) (k : Clause) → Covered (clause_mentions d k)
clause-covered d k = both (type_mentions d [] 2 of_type k.subject) (bound_mentions d k.bound) (type-covered d [] 2 of_type k.subject refl) (bound-covered d k.bound)

each : {X : Type 0} (f : X → List Mention) → ((x : X) → Covered (f x)) → (xs : List X) → Covered (flat_map f xs)
each f h [] = empty
each f h (x ∷ xs) = both (f x) (flat_map f xs) (h x) (each f h xs)

crates-covered : (ns : List (List ℕ)) → Covered (map crate_mention ns)
crates-covered [] = empty
crates-covered (n ∷ ns) = crates-covered ns

pub line-covered : (d : Declarations) (l : Line) → Covered (line_mentions d l)
line-covered d (crate_line n us) = crates-covered us
line-covered d (struct_line f n ps fs) = types-covered d [] 1 fs
line-covered d (trait_line f a n ps bs) = each (bound_mentions d) (bound-covered d) bs
line-covered d (impl_line ps h ks) =
    both (header_mentions d h) (flat_map (clause_mentions d) ks)
    (both (bound_mentions d h.bound) (type_mention 1 ∷ type_mentions d [] 2 of_type h.subject) (bound-covered d h.bound) (type-covered d [] 2 of_type h.subject refl))
    (each (clause_mentions d) (clause-covered d) ks)
line-covered d (prove_line c ps a bs ks) =
    both (flat_map (clause_mentions d) (a ∷ bs)) (flat_map (clause_mentions d) ks) (each (clause_mentions d) (clause-covered d) (a ∷ bs)) (each (clause_mentions d) (clause-covered d) ks)
line-covered d (refute_line c ps a bs) = each (clause_mentions d) (clause-covered d) (a ∷ bs)
line-covered d (later_line n) = empty
line-covered d (supers_line n) = empty
