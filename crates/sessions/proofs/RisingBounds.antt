-- Each `dyn` of a line lists its auto traits in their order, each once.
use Rattle.std.proofs.Common.{◌≡◌, ◌≤◌, ℕ, zero, suc, ◌+◌, Bool, true, false, ◌&&◌, ◌==◌, List, [], ◌∷◌, map, length, Option, Some, None, refl, ap, ◌∙◌, arith}
use Rattle.std.proofs.lemmas.Bool.Decides.{nat_tests}
use Rattle.std.specs.Prelude.{if◌then◌else◌, nat_lt, nat_le}
use Rattle.std.specs.Str.{bytes_eq}
use Rattle.type_terms.specs.Promised.Label.{Label, Sort, of_type, of_const, of_lifetime, dynamic, principal, static, param, bound, tuple, fn_ptr, array, slice, ref, raw_pointer}
use Rattle.type_terms.specs.Promised.Trees.{Trees, none, tree, leaf, ◌+++◌, erase, erase_label}
use Rattle.type_terms.specs.Promised.Worlds.{Reference}
use Rattle.type_terms.specs.Promised.LinkedSet.{autos_rise, dyns_rise}
use Rattle.declarations.specs.Promised.Elaboration.{Each}
use Rattle.text_language.specs.Promised.Syntax.{TypeTree, of_primitive, never_type, variable_type, named, reference_to, pointer_to, slice_of, array_of, tuple_of, fn_of, fn_to, dyn_of, Types, no_types, and_type, Args, no_args, and_arg, Arg, lifetime_arg, number_arg, type_arg, Item, bound_item, lifetime_item, DynBounds, no_items, and_item, Params, Bound, Clause}
use Rattle.text_language.specs.Promised.Declarations.{Declarations, Known, a_crate, a_struct, a_trait, known}
use Rattle.text_language.specs.Uses.{kinds_of_struct, kinds_of_trait, next_kind, other_kinds}
use Rattle.text_language.specs.Promised.Faults.{is_among, is_auto_name}
use Rattle.text_language.specs.Faults.{static_name}
use Rattle.text_language.specs.Lowering.{Meanings, place_among, trait_number, struct_label, type_label, const_label, lifetime_under, lifetime_label, optional_lifetime, length_label, inserted, with_auto, autos, auto_leaves, item_lifetime, last_lifetime, type_tree, types_trees, args_trees, arg_tree, item_tree, items_trees, field_trees, bound_with_self, clause_reference}
use Rattle.type_terms.proofs.TreeLaws.{append-assoc}
use Rattle.type_terms.proofs.Made.{left, right, both}

abbrev pub Rises : Trees → Type 0
Rises t = dyns_rise (erase t) ≡ true

-- ---- trees
leaf-rises : (m : Label) → dyns_rise (tree m none none) ≡ true
leaf-rises dynamic = refl
leaf-rises m = refl

rest-rises : (m : Label) (c o : Trees) → dyns_rise (tree m c o) ≡ true → dyns_rise o ≡ true
rest-rises dynamic c o h = right (dyns_rise c) (dyns_rise o) (right (autos_rise zero c) (dyns_rise c && dyns_rise o) h)
rest-rises m c o h = right (dyns_rise c) (dyns_rise o) h

with-rises : (m : Label) (c o p : Trees) → dyns_rise (tree m c o) ≡ true → dyns_rise p ≡ true → dyns_rise (tree m c p) ≡ true
with-rises dynamic c o p h g =
    both (autos_rise zero c) (dyns_rise c && dyns_rise p) (left (autos_rise zero c) (dyns_rise c && dyns_rise o) h)
    (both (dyns_rise c) (dyns_rise p) (left (dyns_rise c) (dyns_rise o) (right (autos_rise zero c) (dyns_rise c && dyns_rise o) h)) g)
with-rises m c o p h g = both (dyns_rise c) (dyns_rise p) (left (dyns_rise c) (dyns_rise o) h) g

node-rises : (m : Label) (c : Trees) → (m ≡ dynamic → autos_rise zero c ≡ true) → dyns_rise c ≡ true → dyns_rise (tree m c none) ≡ true
node-rises dynamic c f h = both (autos_rise zero c) (dyns_rise c && true) (f refl) (both (dyns_rise c) true h refl)
node-rises m c f h = both (dyns_rise c) true h refl

pub append-rises : (x y : Trees) → Rises x → Rises y → Rises (x +++ y)
append-rises none y h g = g
append-rises (tree l c o) y h g = with-rises (erase_label l) (erase c) (erase o) (erase (o +++ y)) h (append-rises o y (rest-rises (erase_label l) (erase c) (erase o) h) g)

-- ---- numbers that rise
abbrev FromOn : ℕ → List ℕ → Type 0
FromOn b [] = Unit {0}
FromOn b (m ∷ ms) = (b ≤ m) × FromOn (suc m) ms

not-less : (n m : ℕ) → (n == m) ≡ false → nat_lt n m ≡ false → suc m ≤ n
not-less n m e f = grind (arith, nat_tests)

is-less : (n m : ℕ) → nat_lt n m ≡ true → suc n ≤ m
is-less n m e = grind (arith, nat_tests)

at-most : (n m : ℕ) → n ≤ m → nat_le n m ≡ true
at-most n m e = grind (arith, nat_tests)

inserted-on : (b n : ℕ) (ms : List ℕ) → b ≤ n → FromOn b ms → FromOn b (inserted n ms)
inserted-on b n [] l h = (l, tt)
inserted-on b n (m ∷ ms) l h = by (n == m) (nat_lt n m) refl refl (λ g. inserted-on (suc m) n ms g h.1)
  where
    by : (x y : Bool) → (n == m) ≡ x → nat_lt n m ≡ y → (suc m ≤ n → FromOn (suc m) (inserted n ms)) → FromOn b (if x then m ∷ ms else (if y then n ∷ m ∷ ms else m ∷ inserted n ms))
    by true y e f r = h
    by false true e f r = (l, (is-less n m f, h.1))
    by false false e f r = (h.0, r (not-less n m e f))

leaves-rise : (b : ℕ) (ns : List ℕ) (o : Trees) → FromOn b ns → erase o ≡ leaf static → autos_rise b (erase (auto_leaves ns +++ o)) ≡ true
leaves-rise b [] o h e = ap (autos_rise b) e
leaves-rise b (n ∷ ns) o h e = both (nat_le b n) (autos_rise (suc n) (erase (auto_leaves ns +++ o))) (at-most b n h.0) (leaves-rise (suc n) ns o h.1 e)

module _ (D : Declarations) (ps : Params) (first : ℕ) (variables : List (List ℕ × Sort)) where
  abbrev pub M : Meanings
  M = record { items = D; params = ps; first = first; parameter = param; variables = variables }

  with-on : (i : Item) (ns : List ℕ) → FromOn zero ns → FromOn zero (with_auto D i ns)
  with-on (lifetime_item n) ns h = h
  with-on (bound_item b n args) ns h = by (is_auto_name D n)
    where
      any : (k : ℕ) → zero ≤ k
      any k = omega arith

      by : (a : Bool) → FromOn zero (if a then inserted (trait_number (known D n)) ns else ns)
      by true = inserted-on zero (trait_number (known D n)) ns (any (trait_number (known D n))) h
      by false = h

  autos-on : (is : DynBounds) → FromOn zero (autos D is)
  autos-on no_items = tt
  autos-on (and_item i is) = with-on i (autos D is) (autos-on is)

  -- ---- lifetimes
  under-static : (j : ℕ) (s : List (List (List ℕ))) (n : List ℕ) → erase_label (lifetime_under M j s n) ≡ static
  under-static j [] n = refl
  under-static j (b ∷ s) n = by (is_among n b) (under-static (suc j) s n)
    where
      by : (x : Bool) → erase_label (lifetime_under M (suc j) s n) ≡ static → erase_label (if x then bound of_lifetime j (place_among n b) else lifetime_under M (suc j) s n) ≡ static
      by true g = refl
      by false g = g

  lifetime-static : (s : List (List (List ℕ))) (n : List ℕ) → erase (leaf (lifetime_label M s n)) ≡ leaf static
  lifetime-static s n = ap leaf (by (bytes_eq n static_name))
    where
      by : (x : Bool) → erase_label (if x then static else lifetime_under M 0 s n) ≡ static
      by true = refl
      by false = under-static 0 s n

  item-ends : (s : List (List (List ℕ))) (i : Item) → erase (item_lifetime M s i) ≡ leaf static
  item-ends s (bound_item b n args) = refl
  item-ends s (lifetime_item n) = lifetime-static s n

  last-ends : (s : List (List (List ℕ))) (i : Item) (is : DynBounds) → erase (last_lifetime M s i is) ≡ leaf static
  last-ends s i no_items = item-ends s i
  last-ends s i (and_item j is) = last-ends s j is

  optional-rises : (s : List (List (List ℕ))) (o : Option (List ℕ)) → Rises (optional_lifetime M s o)
  optional-rises s None = refl
  optional-rises s (Some n) = leaf-rises (erase_label (lifetime_label M s n))

  -- ---- the bounds of a `dyn`
  past-item : (b : ℕ) (s : List (List (List ℕ))) (i : Item) (o : Trees) → autos_rise b (erase (item_tree M s i +++ o)) ≡ autos_rise b (erase o)
  past-item b s (lifetime_item n) o = refl
  past-item b s (bound_item x n args) o = by (is_auto_name D n)
    where
      by : (a : Bool) → autos_rise b (erase ((if a then none else tree (principal (length x) (trait_number (known D n))) (args_trees M (x ∷ s) (kinds_of_trait (known D n)) args) none) +++ o)) ≡ autos_rise b (erase o)
      by true = refl
      by false = refl

  past-items : (b : ℕ) (s : List (List (List ℕ))) (is : DynBounds) (o : Trees) → autos_rise b (erase (items_trees M s is +++ o)) ≡ autos_rise b (erase o)
  past-items b s no_items o = refl
  past-items b s (and_item i is) o = ap (λ t. autos_rise b (erase t)) (append-assoc (item_tree M s i) (items_trees M s is) o) ∙ past-item b s i (items_trees M s is +++ o) ∙ past-items b s is o

  auto-leaves-rise : (ns : List ℕ) → Rises (auto_leaves ns)
  auto-leaves-rise [] = refl
  auto-leaves-rise (n ∷ ns) = auto-leaves-rise ns

  struct-no-dyn : (k : Option Known) → erase_label (struct_label k) ≡ dynamic → ⊥
  struct-no-dyn None e = absurd cc
  struct-no-dyn (Some (a_crate i)) e = absurd cc
  struct-no-dyn (Some (a_struct i h ks)) e = absurd cc
  struct-no-dyn (Some (a_trait i h a ks)) e = absurd cc

  name-no-dyn : (n : List ℕ) → erase_label (type_label M n) ≡ dynamic → ⊥
  name-no-dyn n = by (is_among n ps.types)
    where
      by : (b : Bool) → erase_label (if b then param of_type (first + length ps.lifetimes + place_among n ps.types) else struct_label (known D n)) ≡ dynamic → ⊥
      by true e = absurd cc
      by false e = struct-no-dyn (known D n) e

  -- ---- types
  mutual
    pub type-rises : (s : List (List (List ℕ))) (p : Sort) (t : TypeTree) → Rises (type_tree M s p t)
    type-rises s p (of_primitive l) = leaf-rises (erase_label l)
    type-rises s p never_type = refl
    type-rises s of_type (variable_type n) = refl
    type-rises s of_const (variable_type n) = refl
    type-rises s of_lifetime (variable_type n) = refl
    type-rises s of_const (named n args) = leaf-rises (erase_label (const_label M n))
    type-rises s of_type (named n args) = node-rises (erase_label (type_label M n)) (erase (args_trees M s (kinds_of_struct (known D n)) args)) (λ e. absurd (name-no-dyn n e)) (args-rise s (kinds_of_struct (known D n)) args)
    type-rises s of_lifetime (named n args) = node-rises (erase_label (type_label M n)) (erase (args_trees M s (kinds_of_struct (known D n)) args)) (λ e. absurd (name-no-dyn n e)) (args-rise s (kinds_of_struct (known D n)) args)
    type-rises s p (reference_to o m t) = node-rises (ref m) (erase (optional_lifetime M s o +++ type_tree M s of_type t)) (λ e. absurd cc) (append-rises (optional_lifetime M s o) (type_tree M s of_type t) (optional-rises s o) (type-rises s of_type t))
    type-rises s p (pointer_to m t) = node-rises (raw_pointer m) (erase (type_tree M s of_type t)) (λ e. absurd cc) (type-rises s of_type t)
    type-rises s p (slice_of t) = node-rises slice (erase (type_tree M s of_type t)) (λ e. absurd cc) (type-rises s of_type t)
    type-rises s p (array_of t n) =
        node-rises array (erase (type_tree M s of_type t +++ leaf (length_label M n))) (λ e. absurd cc) (append-rises (type_tree M s of_type t) (leaf (length_label M n)) (type-rises s of_type t) (leaf-rises (erase_label (length_label M n))))
    type-rises s p (tuple_of ts) = node-rises tuple (erase (types_trees M s ts)) (λ e. absurd cc) (types-rise s ts)
    type-rises s p (fn_of b ts) = node-rises (fn_ptr zero) (erase (types_trees M (b ∷ s) ts +++ leaf tuple)) (λ e. absurd cc) (append-rises (types_trees M (b ∷ s) ts) (leaf tuple) (types-rise (b ∷ s) ts) refl)
    type-rises s p (fn_to b ts r) =
        node-rises (fn_ptr zero) (erase (types_trees M (b ∷ s) ts +++ type_tree M (b ∷ s) of_type r)) (λ e. absurd cc) (append-rises (types_trees M (b ∷ s) ts) (type_tree M (b ∷ s) of_type r) (types-rise (b ∷ s) ts) (type-rises (b ∷ s) of_type r))
    type-rises s p (dyn_of i is) =
        let A = with_auto D i (autos D is) in
        let e = last_lifetime M s i is in
        node-rises dynamic (erase (item_tree M s i +++ items_trees M s is +++ auto_leaves A +++ e))
        (λ _. past-item zero s i (items_trees M s is +++ auto_leaves A +++ e) ∙ past-items zero s is (auto_leaves A +++ e) ∙ leaves-rise zero A e (with-on i (autos D is) (autos-on is)) (last-ends s i is))
        (append-rises (item_tree M s i) (items_trees M s is +++ auto_leaves A +++ e) (item-rises s i)
        (append-rises (items_trees M s is) (auto_leaves A +++ e) (items-rise s is) (append-rises (auto_leaves A) e (auto-leaves-rise A) (ap dyns_rise (last-ends s i is)))))

    types-rise : (s : List (List (List ℕ))) (ts : Types) → Rises (types_trees M s ts)
    types-rise s no_types = refl
    types-rise s (and_type t ts) = append-rises (type_tree M s of_type t) (types_trees M s ts) (type-rises s of_type t) (types-rise s ts)

    pub args-rise : (s : List (List (List ℕ))) (ks : List Sort) (args : Args) → Rises (args_trees M s ks args)
    args-rise s ks no_args = refl
    args-rise s ks (and_arg a args) = append-rises (arg_tree M s (next_kind ks) a) (args_trees M s (other_kinds ks) args) (arg-rises s (next_kind ks) a) (args-rise s (other_kinds ks) args)

    arg-rises : (s : List (List (List ℕ))) (p : Sort) (a : Arg) → Rises (arg_tree M s p a)
    arg-rises s p (lifetime_arg n) = leaf-rises (erase_label (lifetime_label M s n))
    arg-rises s p (number_arg n) = refl
    arg-rises s p (type_arg t) = type-rises s p t

    item-rises : (s : List (List (List ℕ))) (i : Item) → Rises (item_tree M s i)
    item-rises s (lifetime_item n) = refl
    item-rises s (bound_item b n args) = by (is_auto_name D n) (args-rise (b ∷ s) (kinds_of_trait (known D n)) args)
      where
        by : (a : Bool) → Rises (args_trees M (b ∷ s) (kinds_of_trait (known D n)) args)
            → Rises (if a then none else tree (principal (length b) (trait_number (known D n))) (args_trees M (b ∷ s) (kinds_of_trait (known D n)) args) none)
        by true h = refl
        by false h = node-rises (principal zero (trait_number (known D n))) (erase (args_trees M (b ∷ s) (kinds_of_trait (known D n)) args)) (λ e. absurd cc) h

    items-rise : (s : List (List (List ℕ))) (is : DynBounds) → Rises (items_trees M s is)
    items-rise s no_items = refl
    items-rise s (and_item i is) = append-rises (item_tree M s i) (items_trees M s is) (item-rises s i) (items-rise s is)

  -- ---- parts of lines
  pub fields-rise : (fs : Types) → Each Rises (field_trees M fs)
  fields-rise no_types = tt
  fields-rise (and_type t ts) = (type-rises [] of_type t, fields-rise ts)

  pub with-self-rises : (self : Trees) → Rises self → (b : Bound) → Rises (bound_with_self M self b).args
  with-self-rises self h b = append-rises self (args_trees M [] (kinds_of_trait (known D b.trait)) b.args) h (args-rise [] (kinds_of_trait (known D b.trait)) b.args)

  pub clause-rises : (k : Clause) → Rises (clause_reference M k).args
  clause-rises k = with-self-rises (type_tree M [] of_type k.subject) (type-rises [] of_type k.subject) k.bound

  pub clauses-rise : (ks : List Clause) → Each (λ (r : Reference). Rises r.args) (map (clause_reference M) ks)
  clauses-rise [] = tt
  clauses-rise (k ∷ ks) = (clause-rises k, clauses-rise ks)

  pub bounds-rise : (self : Trees) → Rises self → (bs : List Bound) → Each (λ (r : Reference). Rises r.args) (map (bound_with_self M self) bs)
  bounds-rise self h [] = tt
  bounds-rise self h (b ∷ bs) = (with-self-rises self h b, bounds-rise self h bs)
