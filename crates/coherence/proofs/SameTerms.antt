-- What a line means depends on the declared names, not on the impls before it.
use Rattle.std.proofs.Common.{◌≡◌, ℕ, suc, List, [], ◌∷◌, map, length, Option, Some, None, refl, ap, ◌∙◌, if◌then◌else◌}
use Rattle.std.specs.Str.{bytes_eq}
use Rattle.sessions.specs.TypeTerms.Promised.Label.{Sort, of_type, of_const, of_lifetime, static, bound, array, slice, tuple, dynamic, fn_ptr, ref, raw_pointer, principal}
use Rattle.sessions.specs.TypeTerms.Promised.Trees.{Trees, none, tree, leaf, ◌+++◌}
use Rattle.sessions.specs.TypeTerms.Promised.Worlds.{Reference}
use Rattle.sessions.specs.TextLanguage.Promised.Syntax.{TypeTree, of_primitive, never_type, variable_type, named, reference_to, pointer_to, slice_of, array_of, tuple_of, fn_of, fn_to, dyn_of, Types, no_types, and_type, Args, no_args, and_arg, Arg, lifetime_arg, number_arg, type_arg, Item, bound_item, lifetime_item, DynBounds, no_items, and_item, Length, number_length, name_length, variable_length, Clause}
use Rattle.sessions.specs.TextLanguage.Promised.Declarations.{NamedImpl, known}
use Rattle.sessions.specs.TextLanguage.Uses.{next_kind, other_kinds, kinds_of_struct, kinds_of_trait}
use Rattle.sessions.specs.TextLanguage.Promised.Faults.{is_among, is_auto_name}
use Rattle.sessions.specs.TextLanguage.Faults.{static_name}
use Rattle.sessions.specs.TextLanguage.Lowering.{Meanings, place_among, trait_number, type_label, lifetime_under, lifetime_label, optional_lifetime, length_label, with_auto, autos, auto_leaves, item_lifetime, last_lifetime, type_tree, types_trees, args_trees, arg_tree, item_tree, items_trees, clause_reference}

both : {x y z w : Trees} → x ≡ y → z ≡ w → x +++ z ≡ y +++ w
both p q = cc

four : {a b c d x y z w : Trees} → a ≡ x → b ≡ y → c ≡ z → d ≡ w → tree dynamic (a +++ b +++ c +++ d) none ≡ tree dynamic (x +++ y +++ z +++ w) none
four p q r s = cc

module _ (e : Meanings) (impls : List NamedImpl) where
  -- the same with other impls
  abbrev f : Meanings
  f = record e { items = record e.items { impls = impls } }

  under-same : (k : ℕ) (s : List (List (List ℕ))) (n : List ℕ) → lifetime_under f k s n ≡ lifetime_under e k s n
  under-same k [] n = refl
  under-same k (b ∷ s) n = ap (λ z. if is_among n b then bound of_lifetime k (place_among n b) else z) (under-same (suc k) s n)

  life-same : (s : List (List (List ℕ))) (n : List ℕ) → lifetime_label f s n ≡ lifetime_label e s n
  life-same s n = ap (λ z. if bytes_eq n static_name then static else z) (under-same 0 s n)

  optional-same : (s : List (List (List ℕ))) (l : Option (List ℕ)) → optional_lifetime f s l ≡ optional_lifetime e s l
  optional-same s None = refl
  optional-same s (Some n) = ap leaf (life-same s n)

  length-same : (n : Length) → length_label f n ≡ length_label e n
  length-same (number_length n) = refl
  length-same (name_length n) = refl
  length-same (variable_length n) = refl

  autos-same : (is : DynBounds) → autos f.items is ≡ autos e.items is
  autos-same no_items = refl
  autos-same (and_item (bound_item b n args) is) = ap (with_auto e.items (bound_item b n args)) (autos-same is)
  autos-same (and_item (lifetime_item n) is) = autos-same is

  auto-same : (i : Item) (ns : List ℕ) → with_auto f.items i ns ≡ with_auto e.items i ns
  auto-same (bound_item b n args) ns = refl
  auto-same (lifetime_item n) ns = refl

  of-item-same : (s : List (List (List ℕ))) (i : Item) → item_lifetime f s i ≡ item_lifetime e s i
  of-item-same s (bound_item b n args) = refl
  of-item-same s (lifetime_item n) = ap leaf (life-same s n)

  last-same : (s : List (List (List ℕ))) (i : Item) (is : DynBounds) → last_lifetime f s i is ≡ last_lifetime e s i is
  last-same s i no_items = of-item-same s i
  last-same s i (and_item j is) = last-same s j is

  mutual
    pub type-same : (s : List (List (List ℕ))) (p : Sort) (t : TypeTree) → type_tree f s p t ≡ type_tree e s p t
    type-same s p (of_primitive l) = refl
    type-same s p never_type = refl
    type-same s p (variable_type n) = refl
    type-same s of_const (named n args) = refl
    type-same s of_type (named n args) = ap (λ z. tree (type_label e n) z none) (args-same s (kinds_of_struct (known e.items n)) args)
    type-same s of_lifetime (named n args) = ap (λ z. tree (type_label e n) z none) (args-same s (kinds_of_struct (known e.items n)) args)
    type-same s p (reference_to l m t) = ap (λ z. tree (ref m) z none) (both (optional-same s l) (type-same s of_type t))
    type-same s p (pointer_to m t) = ap (λ z. tree (raw_pointer m) z none) (type-same s of_type t)
    type-same s p (slice_of t) = ap (λ z. tree slice z none) (type-same s of_type t)
    type-same s p (array_of t n) = ap (λ z. tree array z none) (both (type-same s of_type t) (ap leaf (length-same n)))
    type-same s p (tuple_of ts) = ap (λ z. tree tuple z none) (types-same s ts)
    type-same s p (fn_of b ts) = ap (λ z. tree (fn_ptr (length b)) (z +++ leaf tuple) none) (types-same (b ∷ s) ts)
    type-same s p (fn_to b ts r) = ap (λ z. tree (fn_ptr (length b)) z none) (both (types-same (b ∷ s) ts) (type-same (b ∷ s) of_type r))
    type-same s p (dyn_of i is) =
        four (item-same s i) (items-same s is) (ap auto_leaves (auto-same i (autos f.items is) ∙ ap (with_auto e.items i) (autos-same is))) (last-same s i is)

    types-same : (s : List (List (List ℕ))) (ts : Types) → types_trees f s ts ≡ types_trees e s ts
    types-same s no_types = refl
    types-same s (and_type t ts) = both (type-same s of_type t) (types-same s ts)

    pub args-same : (s : List (List (List ℕ))) (ks : List Sort) (args : Args) → args_trees f s ks args ≡ args_trees e s ks args
    args-same s ks no_args = refl
    args-same s ks (and_arg a args) = both (arg-same s (next_kind ks) a) (args-same s (other_kinds ks) args)

    arg-same : (s : List (List (List ℕ))) (p : Sort) (a : Arg) → arg_tree f s p a ≡ arg_tree e s p a
    arg-same s p (lifetime_arg n) = ap leaf (life-same s n)
    arg-same s p (number_arg n) = refl
    arg-same s p (type_arg t) = type-same s p t

    item-same : (s : List (List (List ℕ))) (i : Item) → item_tree f s i ≡ item_tree e s i
    item-same s (bound_item b n args) =
        ap (λ z. if is_auto_name e.items n then none else tree (principal (length b) (trait_number (known e.items n))) z none) (args-same (b ∷ s) (kinds_of_trait (known e.items n)) args)
    item-same s (lifetime_item n) = refl

    items-same : (s : List (List (List ℕ))) (is : DynBounds) → items_trees f s is ≡ items_trees e s is
    items-same s no_items = refl
    items-same s (and_item i is) = both (item-same s i) (items-same s is)

  pub clause-same : (k : Clause) → clause_reference f k ≡ clause_reference e k
  clause-same k =
      ap (λ z. (let r : Reference = record { trait = trait_number (known e.items k.bound.trait); args = z } in r))
      (both (type-same [] of_type k.subject) (args-same [] (kinds_of_trait (known e.items k.bound.trait)) k.bound.args))

  pub clauses-same : (ks : List Clause) → map (clause_reference f) ks ≡ map (clause_reference e) ks
  clauses-same [] = refl
  clauses-same (k ∷ ks) = two (clause-same k) (clauses-same ks)
    where
      two : {a b : Reference} {c d : List Reference} → a ≡ b → c ≡ d → a ∷ c ≡ b ∷ d
      two p q = cc
