-- Orphan walks skip lifetimes: their steps are those in the erased world, and so are the orphan rule and knowable trait
-- references.
use Rattle.std.proofs.Common.{◌≡◌, ℕ, Bool, true, false, List, [], ◌∷◌, refl, ap, ◌∙◌, ◌||◌, ◌==◌, if◌then◌else◌, Option, Some, None, length}
use Rattle.std.specs.List.{list_all, list_any}
use Rattle.type_terms.specs.Promised.Label.{of_type, of_const, of_lifetime, dynamic, static, adt, value, ref, fn_ptr, principal, param, placeholder, infer, canonical, bound}
use Rattle.type_terms.specs.Promised.Trees.{Trees, none, tree, erase}
use Rattle.type_terms.specs.Promised.Worlds.{World, Reference, StructDecl, TraitDecl, structs_named, traits_named, sees}
use Rattle.type_terms.specs.Promised.Erased.{erased_reference, erased_struct, erased_trait, erased_world}
use Rattle.type_terms.specs.Promised.Walks.{Met, local, struct_leaf, dyn_leaf, entered, struct_is, trait_is, is_home, dyn_met, visited, until_decisive, walk, open_walk, ends_local, keeps_orphan_rule, seen, item_in, is_known, is_known_in}
use Rattle.type_terms.proofs.RenumberedTrees.{and-same}
use Rattle.type_terms.proofs.RenumberedRules.{append-same, cons-same, or-same, any-over}
use Rattle.type_terms.proofs.TermRules.{filter-map, sees-same}

module _ (W : World) where
  abbrev V : World
  V = erased_world W

  struct-same : (p q : StructDecl → Bool) → ((x : StructDecl) → p (erased_struct x) ≡ q x) → (s : ℕ) → struct_is p V s ≡ struct_is q W s
  struct-same p q e s =
      ap (list_any p) (filter-map erased_struct (λ (x : StructDecl). x.name == s) (λ (x : StructDecl). x.name == s) (λ x. refl) W.structs)
      ∙ any-over erased_struct p q e (structs_named W s)

  trait-same : (p q : TraitDecl → Bool) → ((x : TraitDecl) → p (erased_trait x) ≡ q x) → (t : ℕ) → trait_is p V t ≡ trait_is q W t
  trait-same p q e t =
      ap (list_any p) (filter-map erased_trait (λ (x : TraitDecl). x.name == t) (λ (x : TraitDecl). x.name == t) (λ x. refl) W.traits)
      ∙ any-over erased_trait p q e (traits_named W t)

  if-same : (a b : Bool) (xs ys : List Met) (x y : List Met) → a ≡ b → xs ≡ ys → x ≡ y → (if a then xs else x) ≡ (if b then ys else y)
  if-same true true xs ys x y e f g = f
  if-same true false xs ys x y e f g = cc
  if-same false true xs ys x y e f g = cc
  if-same false false xs ys x y e f g = g

  dyn-erased : (d : Option ℕ) (c : Trees) → dyn_met V d (erase c) ≡ dyn_met W d c
  dyn-erased d none = refl
  dyn-erased d (tree (principal n t) c o) =
      ap (λ b. (if b then local else dyn_leaf t) ∷ []) (trait-same (λ x. is_home d x.home) (λ x. is_home d x.home) (λ x. refl) t)
  dyn-erased d (tree (fn_ptr n) c o) = refl
  dyn-erased d (tree (param of_type i) c o) = refl
  dyn-erased d (tree (param of_const i) c o) = refl
  dyn-erased d (tree (param of_lifetime i) c o) = refl
  dyn-erased d (tree (placeholder of_type i) c o) = refl
  dyn-erased d (tree (placeholder of_const i) c o) = refl
  dyn-erased d (tree (placeholder of_lifetime i) c o) = refl
  dyn-erased d (tree (infer of_type i) c o) = refl
  dyn-erased d (tree (infer of_const i) c o) = refl
  dyn-erased d (tree (infer of_lifetime i) c o) = refl
  dyn-erased d (tree (canonical of_type i) c o) = refl
  dyn-erased d (tree (canonical of_const i) c o) = refl
  dyn-erased d (tree (canonical of_lifetime i) c o) = refl
  dyn-erased d (tree (bound of_type k i) c o) = refl
  dyn-erased d (tree (bound of_const k i) c o) = refl
  dyn-erased d (tree (bound of_lifetime k i) c o) = refl
  dyn-erased d (tree l c o) = refl

  visited-erased : (d : Option ℕ) (t : Trees) → visited V d (erase t) ≡ visited W d t
  visited-erased d none = refl
  visited-erased d (tree (ref b) c o) = append-same (visited-erased d c) (visited-erased d o)
  visited-erased d (tree (adt s) c o) =
      append-same
      (if-same (struct_is (λ x. is_home d x.home) V s) (struct_is (λ x. is_home d x.home) W s) (local ∷ []) (local ∷ [])
      (if struct_is (λ x. x.is_fundamental) V s then entered s ∷ visited V d (erase c) else struct_leaf s ∷ []) (if struct_is (λ x. x.is_fundamental) W s then entered s ∷ visited W d c else struct_leaf s ∷ [])
      (struct-same (λ x. is_home d x.home) (λ x. is_home d x.home) (λ x. refl) s) refl
      (if-same (struct_is (λ x. x.is_fundamental) V s) (struct_is (λ x. x.is_fundamental) W s) (entered s ∷ visited V d (erase c)) (entered s ∷ visited W d c) (struct_leaf s ∷ []) (struct_leaf s ∷ [])
      (struct-same (λ x. x.is_fundamental) (λ x. x.is_fundamental) (λ x. refl) s) (cons-same refl (visited-erased d c)) refl))
      (visited-erased d o)
  visited-erased d (tree dynamic c o) = append-same (dyn-erased d c) (visited-erased d o)
  visited-erased d (tree (param of_type i) c o) = cons-same refl (visited-erased d o)
  visited-erased d (tree (param of_const i) c o) = visited-erased d o
  visited-erased d (tree (param of_lifetime i) c o) = visited-erased d o
  visited-erased d (tree (placeholder of_type i) c o) = cons-same refl (visited-erased d o)
  visited-erased d (tree (placeholder of_const i) c o) = visited-erased d o
  visited-erased d (tree (placeholder of_lifetime i) c o) = visited-erased d o
  visited-erased d (tree (infer of_type i) c o) = cons-same refl (visited-erased d o)
  visited-erased d (tree (infer of_const i) c o) = visited-erased d o
  visited-erased d (tree (infer of_lifetime i) c o) = visited-erased d o
  visited-erased d (tree (canonical of_type i) c o) = cons-same refl (visited-erased d o)
  visited-erased d (tree (canonical of_const i) c o) = visited-erased d o
  visited-erased d (tree (canonical of_lifetime i) c o) = visited-erased d o
  visited-erased d (tree (bound of_type k i) c o) = cons-same refl (visited-erased d o)
  visited-erased d (tree (bound of_const k i) c o) = visited-erased d o
  visited-erased d (tree (bound of_lifetime k i) c o) = visited-erased d o
  visited-erased d (tree (value n) c o) = visited-erased d o
  visited-erased d (tree static c o) = visited-erased d o
  visited-erased d (tree (fn_ptr n) c o) = cons-same refl (visited-erased d o)
  visited-erased d (tree (principal n t) c o) = cons-same refl (visited-erased d o)
  visited-erased d (tree l c o) = cons-same refl (visited-erased d o)

  pub walk-erased : (c : ℕ) (r : Reference) → walk V c (erased_reference r) ≡ walk W c r
  walk-erased c r = ap until_decisive (visited-erased (Some c) r.args)

  pub open-walk-erased : (r : Reference) → open_walk V (erased_reference r) ≡ open_walk W r
  open-walk-erased r = ap until_decisive (visited-erased None r.args)

  pub orphan-rule-erased : (c : ℕ) (r : Reference) → keeps_orphan_rule V c (erased_reference r) ≡ keeps_orphan_rule W c r
  orphan-rule-erased c r = or-same (trait-same (λ x. x.home == c) (λ x. x.home == c) (λ x. refl) r.trait) (ap ends_local (walk-erased c r))

  all-same : (p q : Met → Bool) → ((m : Met) → p m ≡ q m) → (ms : List Met) → list_all p ms ≡ list_all q ms
  all-same p q h [] = refl
  all-same p q h (m ∷ ms) = and-same (h m) (all-same p q h ms)

  item-erased : (m : Met) → item_in V m ≡ item_in W m
  item-erased (struct_leaf s) = struct-same (λ x. true) (λ x. true) (λ x. refl) s
  item-erased (entered s) = struct-same (λ x. true) (λ x. true) (λ x. refl) s
  item-erased (dyn_leaf t) = trait-same (λ x. true) (λ x. true) (λ x. refl) t
  item-erased m = refl

  seen-erased : (c : ℕ) (m : Met) → seen V c m ≡ seen W c m
  seen-erased c (struct_leaf s) = struct-same (λ x. sees V c x.home) (λ x. sees W c x.home) (λ x. sees-same (length W.crates) W c x.home) s
  seen-erased c (entered s) = struct-same (λ x. sees V c x.home) (λ x. sees W c x.home) (λ x. sees-same (length W.crates) W c x.home) s
  seen-erased c (dyn_leaf t) = trait-same (λ x. sees V c x.home) (λ x. sees W c x.home) (λ x. sees-same (length W.crates) W c x.home) t
  seen-erased c m = refl

  own-or-fundamental : (c : ℕ) (r : Reference) → trait_is (λ x. (x.home == c) || x.is_fundamental) V r.trait || ends_local (walk V c (erased_reference r))
      ≡ trait_is (λ x. (x.home == c) || x.is_fundamental) W r.trait || ends_local (walk W c r)
  own-or-fundamental c r = or-same (trait-same (λ x. (x.home == c) || x.is_fundamental) (λ x. (x.home == c) || x.is_fundamental) (λ x. refl) r.trait) (ap ends_local (walk-erased c r))

  pub known-in-erased : (c : ℕ) (r : Reference) → is_known_in V c (erased_reference r) ≡ is_known_in W c r
  known-in-erased c r =
      and-same (trait-same (λ x. true) (λ x. true) (λ x. refl) r.trait)
      (and-same (ap (list_all (item_in V)) (open-walk-erased r) ∙ all-same (item_in V) (item_in W) item-erased (open_walk W r)) (own-or-fundamental c r))

  pub known-erased : (c : ℕ) (r : Reference) → is_known V c (erased_reference r) ≡ is_known W c r
  known-erased c r =
      and-same (trait-same (λ x. sees V c x.home) (λ x. sees W c x.home) (λ x. sees-same (length W.crates) W c x.home) r.trait)
      (and-same (ap (list_all (seen V c)) (open-walk-erased r) ∙ all-same (seen V c) (seen W c) (seen-erased c) (open_walk W r)) (own-or-fundamental c r))
