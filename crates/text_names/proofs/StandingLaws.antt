-- The cells of a type stand for its tree.
use Rattle.std.proofs.Common.{◌≡◌, ℕ, suc, ◌+◌, Bool, true, false, List, [], ◌∷◌, ◌++◌, length, Option, Some, None, refl, sym, ap, ◌∙◌, arith, length-append}
use Rattle.std.specs.Prelude.{if◌then◌else◌}
use Rattle.type_terms.specs.Promised.Label.{Label, Sort, of_type, of_const, of_lifetime, array, slice, tuple, dynamic, fn_ptr, auto_trait, ref, raw_pointer, principal}
use Rattle.type_terms.specs.Promised.Trees.{Trees, none, tree, leaf, ◌+++◌}
use Rattle.text_language.specs.Promised.Syntax.{TypeTree, of_primitive, never_type, variable_type, named, reference_to, pointer_to, slice_of, array_of, tuple_of, fn_of, fn_to, dyn_of, Types, no_types, and_type, Args, no_args, and_arg, Arg, lifetime_arg, number_arg, type_arg, Item, bound_item, lifetime_item, DynBounds, no_items, and_item, Length, number_length, name_length, variable_length}
use Rattle.text_language.specs.Promised.Declarations.{known}
use Rattle.text_language.specs.Uses.{next_kind, other_kinds, kinds_of_struct, kinds_of_trait, types_count, args_count}
use Rattle.text_language.specs.Promised.Faults.{is_among, is_auto_name}
use Rattle.text_language.specs.Faults.{static_name}
use Rattle.std.specs.Str.{bytes_eq}
use Rattle.text_language.specs.Lowering.{Meanings, place_among, trait_number, struct_label, with_auto, autos, type_label, lifetime_under, lifetime_label, optional_lifetime, length_label, auto_leaves, last_lifetime, item_lifetime, type_tree, types_trees, args_trees, arg_tree, item_tree, items_trees}
use Rattle.text_names.specs.Resolved.{Region, ResolvedCell, node_cell, param_cell, lifetime_cell, reference_cell, region_under, region_of, optional_region, named_cell, length_cell, autos_before, principals_count, principals, item_region, last_region, dyn_before, type_before, types_before, args_before, arg_before, item_before, items_before}
use Rattle.text_names.specs.Standing.{first_of_sort, written_region_label, gathered, below, over, trees_behind, standing, CellsStand}
use Rattle.type_terms.proofs.TermBasics.{and-none, assoc}

-- ---- lists of trees
joined : List Trees → Trees
joined [] = none
joined (t ∷ ts) = t +++ joined ts

push_all : List Trees → List Trees → List Trees
push_all [] S = S
push_all (t ∷ ts) S = push_all ts (t ∷ S)

gathered-push : (xs : List Trees) (j : ℕ) (S : List Trees) (o : Trees) → gathered (length xs + j) (push_all xs S) o ≡ gathered j S (joined xs +++ o)
unfolding push_all joined
gathered-push [] j S o = let e : 0 + j ≡ j = omega arith in ap (λ k. gathered k S o) e
gathered-push (t ∷ xs) j S o =
    let e : suc (length xs) + j ≡ length xs + suc j = omega arith in
    ap (λ k. gathered k (push_all xs (t ∷ S)) o) e ∙ gathered-push xs (suc j) (t ∷ S) o ∙ ap (gathered j S) (sym (assoc t (joined xs) o))

below-push : (xs : List Trees) (j : ℕ) (S : List Trees) → below (length xs + j) (push_all xs S) ≡ below j S
unfolding push_all
below-push [] j S = let e : 0 + j ≡ j = omega arith in ap (λ k. below k S) e
below-push (t ∷ xs) j S =
    let e : suc (length xs) + j ≡ length xs + suc j = omega arith in
    ap (λ k. below k (push_all xs (t ∷ S))) e ∙ below-push xs (suc j) (t ∷ S)

over-push : (l : Label) (xs : List Trees) (S : List Trees) (k : ℕ) (T : Trees) → length xs ≡ k → joined xs ≡ T → over l k (push_all xs S) ≡ tree l T none ∷ S
over-push l xs S k T e f =
    let z : k ≡ length xs + 0 = omega arith in
    ap (λ n. over l n (push_all xs S)) z
    ∙ ap (λ c. tree l c none ∷ below (length xs + 0) (push_all xs S)) (gathered-push xs 0 S none ∙ and-none (joined xs) ∙ f)
    ∙ ap (λ r. tree l T none ∷ r) (below-push xs 0 S)

push-append : (xs ys S : List Trees) → push_all (xs ++ ys) S ≡ push_all ys (push_all xs S)
unfolding push_all
push-append [] ys S = refl
push-append (x ∷ xs) ys S = push-append xs ys (x ∷ S)

joined-append : (xs ys : List Trees) → joined (xs ++ ys) ≡ joined xs +++ joined ys
unfolding joined
joined-append [] ys = refl
joined-append (x ∷ xs) ys = ap (λ o. x +++ o) (joined-append xs ys) ∙ sym (assoc x (joined xs) (joined ys))

gather-push : (xs : List Trees) (S : List Trees) (o : Trees) (k : ℕ) → length xs ≡ k → gathered k (push_all xs S) o ≡ joined xs +++ o
gather-push xs S o k e = let z : k ≡ length xs + 0 = omega arith in ap (λ n. gathered n (push_all xs S) o) z ∙ gathered-push xs 0 S o

below-all : (xs : List Trees) (S : List Trees) (k : ℕ) → length xs ≡ k → below k (push_all xs S) ≡ S
below-all xs S k e = let z : k ≡ length xs + 0 = omega arith in ap (λ n. below n (push_all xs S)) z ∙ below-push xs 0 S

-- with one more tree on top
over-last : (l : Label) (xs : List Trees) (y : Trees) (S : List Trees) (k : ℕ) (T : Trees) → length xs ≡ k → joined xs +++ y ≡ T → over l (suc k) (y ∷ push_all xs S) ≡ tree l T none ∷ S
over-last l xs y S k T e f =
    ap (λ c. tree l c none ∷ below k (push_all xs S)) (gather-push xs S (y +++ none) k e ∙ ap (λ o. joined xs +++ o) (and-none y) ∙ f)
    ∙ ap (λ r. tree l T none ∷ r) (below-all xs S k e)

-- ---- the trees of the parts
types_list : Meanings → List (List (List ℕ)) → Types → List Trees
types_list e s no_types = []
types_list e s (and_type t ts) = type_tree e s of_type t ∷ types_list e s ts

abbrev pub args_list : Meanings → List (List (List ℕ)) → List Sort → Args → List Trees
args_list e s ks no_args = []
args_list e s ks (and_arg a args) = arg_tree e s (next_kind ks) a ∷ args_list e s (other_kinds ks) args

principal_tree : Meanings → List (List (List ℕ)) → List (List ℕ) → List ℕ → Args → Trees
principal_tree e s b n args = tree (principal (length b) (trait_number (known e.items n))) (args_trees e (b ∷ s) (kinds_of_trait (known e.items n)) args) none

item_list : Meanings → List (List (List ℕ)) → Item → List Trees
item_list e s (bound_item b n args) = if is_auto_name e.items n then [] else principal_tree e s b n args ∷ []
item_list e s (lifetime_item n) = []

items_list : Meanings → List (List (List ℕ)) → DynBounds → List Trees
items_list e s no_items = []
items_list e s (and_item i is) = item_list e s i ++ items_list e s is

autos_list : List ℕ → List Trees
autos_list [] = []
autos_list (n ∷ ns) = leaf (auto_trait n) ∷ autos_list ns

types-joined : (e : Meanings) (s : List (List (List ℕ))) (ts : Types) → joined (types_list e s ts) ≡ types_trees e s ts
unfolding joined types_list
types-joined e s no_types = refl
types-joined e s (and_type t ts) = ap (λ o. type_tree e s of_type t +++ o) (types-joined e s ts)

types-length : (e : Meanings) (s : List (List (List ℕ))) (ts : Types) → length (types_list e s ts) ≡ types_count ts
unfolding types_list
types-length e s no_types = refl
types-length e s (and_type t ts) = ap suc (types-length e s ts)

args-joined : (e : Meanings) (s : List (List (List ℕ))) (ks : List Sort) (args : Args) → joined (args_list e s ks args) ≡ args_trees e s ks args
unfolding joined
args-joined e s ks no_args = refl
args-joined e s ks (and_arg a args) = ap (λ o. arg_tree e s (next_kind ks) a +++ o) (args-joined e s (other_kinds ks) args)

args-length : (e : Meanings) (s : List (List (List ℕ))) (ks : List Sort) (args : Args) → length (args_list e s ks args) ≡ args_count args
args-length e s ks no_args = refl
args-length e s ks (and_arg a args) = ap suc (args-length e s (other_kinds ks) args)

if-joined : (b : Bool) (t : Trees) → joined (if b then [] else t ∷ []) ≡ if b then none else t
unfolding joined
if-joined true t = refl
if-joined false t = and-none t

if-length : (b : Bool) (t : Trees) (k : ℕ) → length (if b then [] else t ∷ []) + k ≡ (if b then k else suc k)
if-length true t k = let e : 0 + k ≡ k = omega arith in e
if-length false t k = let e : suc 0 + k ≡ suc k = omega arith in e

item-joined : (e : Meanings) (s : List (List (List ℕ))) (i : Item) → joined (item_list e s i) ≡ item_tree e s i
unfolding joined item_list principal_tree
item-joined e s (bound_item b n args) = if-joined (is_auto_name e.items n) (principal_tree e s b n args)
item-joined e s (lifetime_item n) = refl

item-length : (e : Meanings) (s : List (List (List ℕ))) (i : Item) (k : ℕ) → length (item_list e s i) + k ≡ principals_count e.items i k
unfolding item_list principal_tree
item-length e s (bound_item b n args) k = if-length (is_auto_name e.items n) (principal_tree e s b n args) k
item-length e s (lifetime_item n) k = let e : 0 + k ≡ k = omega arith in e

items-joined : (e : Meanings) (s : List (List (List ℕ))) (is : DynBounds) → joined (items_list e s is) ≡ items_trees e s is
unfolding joined items_list
items-joined e s no_items = refl
items-joined e s (and_item i is) =
    joined-append (item_list e s i) (items_list e s is) ∙ ap (λ x. x +++ joined (items_list e s is)) (item-joined e s i) ∙ ap (λ o. item_tree e s i +++ o) (items-joined e s is)

items-length : (e : Meanings) (s : List (List (List ℕ))) (is : DynBounds) → length (items_list e s is) ≡ principals e.items is
unfolding items_list
items-length e s no_items = refl
items-length e s (and_item i is) =
    length-append (item_list e s i) (items_list e s is) ∙ ap (λ k. length (item_list e s i) + k) (items-length e s is) ∙ item-length e s i (principals e.items is)

autos-joined : (ns : List ℕ) → joined (autos_list ns) ≡ auto_leaves ns
unfolding joined autos_list
autos-joined [] = refl
autos-joined (n ∷ ns) = ap (tree (auto_trait n) none) (autos-joined ns)

autos-length : (ns : List ℕ) → length (autos_list ns) ≡ length ns
unfolding autos_list
autos-length [] = refl
autos-length (n ∷ ns) = ap suc (autos-length ns)

-- ---- lifetimes and names
if-region : (e : Meanings) (b : Bool) (x y : Region) (l m : Label) → written_region_label e x ≡ l → written_region_label e y ≡ m → written_region_label e (if b then x else y) ≡ (if b then l else m)
if-region e true x y l m g h = g
if-region e false x y l m g h = h

under : (e : Meanings) (k : ℕ) (s : List (List (List ℕ))) (n : List ℕ) → written_region_label e (region_under e.params k s n) ≡ lifetime_under e k s n
under e k [] n = refl
under e k (b ∷ s) n = if-region e (is_among n b) _ _ _ _ refl (under e (suc k) s n)

pub at-region : (e : Meanings) (s : List (List (List ℕ))) (n : List ℕ) → written_region_label e (region_of e.params s n) ≡ lifetime_label e s n
at-region e s n = if-region e (bytes_eq n static_name) _ _ _ _ refl (under e 0 s n)

pub at-optional : (e : Meanings) (s : List (List (List ℕ))) (l : Option (List ℕ)) → leaf (written_region_label e (optional_region e.params s l)) ≡ optional_lifetime e s l
at-optional e s None = refl
at-optional e s (Some n) = ap leaf (at-region e s n)

at-item-region : (e : Meanings) (s : List (List (List ℕ))) (i : Item) → leaf (written_region_label e (item_region e.params s i)) ≡ item_lifetime e s i
at-item-region e s (bound_item b n args) = refl
at-item-region e s (lifetime_item n) = ap leaf (at-region e s n)

at-last : (e : Meanings) (s : List (List (List ℕ))) (i : Item) (is : DynBounds) → leaf (written_region_label e (last_region e.params s i is)) ≡ last_lifetime e s i is
at-last e s i no_items = at-item-region e s i
at-last e s i (and_item j is) = at-last e s j is

if-named : (e : Meanings) (b : Bool) (i k : ℕ) (l : Label) (S : List Trees) → trees_behind e (if b then param_cell of_type i k else node_cell l k) S ≡ over (if b then e.parameter of_type (first_of_sort e of_type + i) else l) k S
if-named e true i k l S = refl
if-named e false i k l S = refl

at-named : (e : Meanings) (n : List ℕ) (k : ℕ) (S : List Trees) → trees_behind e (named_cell e.items e.params n k) S ≡ over (type_label e n) k S
at-named e n k S = if-named e (is_among n e.params.types) (place_among n e.params.types) k (struct_label (known e.items n)) S

at-length : (e : Meanings) (n : Length) (S : List Trees) → trees_behind e (length_cell e.params n) S ≡ leaf (length_label e n) ∷ S
at-length e (number_length n) S = refl
at-length e (name_length n) S = refl
at-length e (variable_length n) S = refl

-- ---- the stack behind the cells of each part
at-autos : (e : Meanings) (ns : List ℕ) (cs : List ResolvedCell) (S : List Trees) → standing e (autos_before ns cs) S ≡ standing e cs (push_all (autos_list ns) S)
unfolding push_all autos_list
at-autos e [] cs S = refl
at-autos e (n ∷ ns) cs S = at-autos e ns cs (leaf (auto_trait n) ∷ S)

dyn-list : Meanings → List (List (List ℕ)) → Item → DynBounds → List ℕ → List Trees
dyn-list e s i is ns = (item_list e s i ++ items_list e s is) ++ autos_list ns

dyn-joined : (e : Meanings) (s : List (List (List ℕ))) (i : Item) (is : DynBounds) (ns : List ℕ) (y z : Trees) → y ≡ z
    → joined (dyn-list e s i is ns) +++ y ≡ item_tree e s i +++ items_trees e s is +++ auto_leaves ns +++ z
unfolding dyn-list
dyn-joined e s i is ns y z h =
    let it = joined (item_list e s i) in
    let its = joined (items_list e s is) in
    let au = joined (autos_list ns) in
    ap (λ x. x +++ y) (joined-append (item_list e s i ++ items_list e s is) (autos_list ns) ∙ ap (λ x. x +++ au) (joined-append (item_list e s i) (items_list e s is)))
    ∙ assoc (it +++ its) au y ∙ assoc it its (au +++ y)
    ∙ ap (λ x. x +++ (its +++ (au +++ y))) (item-joined e s i) ∙ ap (λ x. item_tree e s i +++ (x +++ (au +++ y))) (items-joined e s is)
    ∙ ap (λ x. item_tree e s i +++ (items_trees e s is +++ (x +++ y))) (autos-joined ns) ∙ ap (λ x. item_tree e s i +++ (items_trees e s is +++ (auto_leaves ns +++ x))) h

dyn-length : (e : Meanings) (s : List (List (List ℕ))) (i : Item) (is : DynBounds) (ns : List ℕ) → length (dyn-list e s i is ns) ≡ principals_count e.items i (principals e.items is) + length ns
unfolding dyn-list
dyn-length e s i is ns =
    length-append (item_list e s i ++ items_list e s is) (autos_list ns)
    ∙ ap (λ k. k + length (autos_list ns)) (length-append (item_list e s i) (items_list e s is) ∙ ap (λ k. length (item_list e s i) + k) (items-length e s is) ∙ item-length e s i (principals e.items is))
    ∙ ap (λ k. principals_count e.items i (principals e.items is) + k) (autos-length ns)

at-dyn-over : (e : Meanings) (s : List (List (List ℕ))) (i : Item) (is : DynBounds) (ns : List ℕ) (r : Region) (z : Trees) (S : List Trees) → leaf (written_region_label e r) ≡ z
    → over dynamic (suc (principals_count e.items i (principals e.items is) + length ns)) (leaf (written_region_label e r) ∷ push_all ((item_list e s i ++ items_list e s is) ++ autos_list ns) S)
    ≡ tree dynamic (item_tree e s i +++ items_trees e s is +++ auto_leaves ns +++ z) none ∷ S
unfolding dyn-list
at-dyn-over e s i is ns r z S h =
    over-last dynamic (dyn-list e s i is ns) (leaf (written_region_label e r)) S (principals_count e.items i (principals e.items is) + length ns) (item_tree e s i +++ items_trees e s is +++ auto_leaves ns +++ z) (dyn-length e s i is ns) (dyn-joined e s i is ns (leaf (written_region_label e r)) z h)

-- behind a dyn's autos, its lifetime and itself
at-dyn : (e : Meanings) (s : List (List (List ℕ))) (i : Item) (is : DynBounds) (ns : List ℕ) (r : Region) (z : Trees) (cs : List ResolvedCell) (S : List Trees) → leaf (written_region_label e r) ≡ z
    → standing e (dyn_before r ns (principals_count e.items i (principals e.items is)) cs) (push_all (item_list e s i ++ items_list e s is) S)
    ≡ standing e cs (tree dynamic (item_tree e s i +++ items_trees e s is +++ auto_leaves ns +++ z) none ∷ S)
at-dyn e s i is ns r z cs S h =
    let k = principals_count e.items i (principals e.items is) in
    let m : k + (length ns + 1) ≡ suc (k + length ns) = omega arith in
    at-autos e ns (lifetime_cell r ∷ node_cell dynamic (k + (length ns + 1)) ∷ cs) (push_all (item_list e s i ++ items_list e s is) S)
    ∙ ap (λ j. standing e cs (over dynamic j (leaf (written_region_label e r) ∷ push_all (autos_list ns) (push_all (item_list e s i ++ items_list e s is) S)))) m
    ∙ ap (λ P. standing e cs (over dynamic (suc (k + length ns)) (leaf (written_region_label e r) ∷ P))) (sym (push-append (item_list e s i ++ items_list e s is) (autos_list ns) S))
    ∙ ap (standing e cs) (at-dyn-over e s i is ns r z S h)

at-head : (e : Meanings) (s : List (List (List ℕ))) (n : List ℕ) (args : Args) (cs : List ResolvedCell) (S : List Trees)
    → standing e (named_cell e.items e.params n (args_count args) ∷ cs) (push_all (args_list e s (kinds_of_struct (known e.items n)) args) S)
    ≡ standing e cs (tree (type_label e n) (args_trees e s (kinds_of_struct (known e.items n)) args) none ∷ S)
at-head e s n args cs S =
    let ks = kinds_of_struct (known e.items n) in
    ap (standing e cs) (at-named e n (args_count args) (push_all (args_list e s ks args) S)
    ∙ over-push (type_label e n) (args_list e s ks args) S (args_count args) (args_trees e s ks args) (args-length e s ks args) (args-joined e s ks args))

mutual
  unfolding push_all types_list item_list items_list principal_tree

  pub at-type : (e : Meanings) (s : List (List (List ℕ))) (p : Sort) (t : TypeTree) (cs : List ResolvedCell) (S : List Trees)
      → standing e (type_before e.items e.params s p t cs) S ≡ standing e cs (type_tree e s p t ∷ S)
  at-type e s p (of_primitive l) cs S = refl
  at-type e s p never_type cs S = refl
  at-type e s p (variable_type n) cs S = refl
  at-type e s of_const (named n args) cs S = refl
  at-type e s of_type (named n args) cs S = at-args e s (kinds_of_struct (known e.items n)) args (named_cell e.items e.params n (args_count args) ∷ cs) S ∙ at-head e s n args cs S
  at-type e s of_lifetime (named n args) cs S = at-args e s (kinds_of_struct (known e.items n)) args (named_cell e.items e.params n (args_count args) ∷ cs) S ∙ at-head e s n args cs S
  at-type e s p (reference_to l m t) cs S =
      at-type e s of_type t (reference_cell (optional_region e.params s l) m ∷ cs) S
      ∙ ap (λ r. standing e cs (tree (ref m) (r +++ type_tree e s of_type t) none ∷ S)) (at-optional e s l)
  at-type e s p (pointer_to m t) cs S = at-type e s of_type t (node_cell (raw_pointer m) 1 ∷ cs) S ∙ ap (λ c. standing e cs (tree (raw_pointer m) c none ∷ S)) (and-none (type_tree e s of_type t))
  at-type e s p (slice_of t) cs S = at-type e s of_type t (node_cell slice 1 ∷ cs) S ∙ ap (λ c. standing e cs (tree slice c none ∷ S)) (and-none (type_tree e s of_type t))
  at-type e s p (array_of t n) cs S =
      at-type e s of_type t (length_cell e.params n ∷ node_cell array 2 ∷ cs) S
      ∙ ap (λ R. standing e cs (over array 2 R)) (at-length e n (type_tree e s of_type t ∷ S))
  at-type e s p (tuple_of ts) cs S =
      at-types e s ts (node_cell tuple (types_count ts) ∷ cs) S
      ∙ ap (standing e cs) (over-push tuple (types_list e s ts) S (types_count ts) (types_trees e s ts) (types-length e s ts) (types-joined e s ts))
  at-type e s p (fn_of b ts) cs S =
      at-types e (b ∷ s) ts (node_cell tuple 0 ∷ node_cell (fn_ptr (length b)) (suc (types_count ts)) ∷ cs) S
      ∙ ap (standing e cs) (over-last (fn_ptr (length b)) (types_list e (b ∷ s) ts) (leaf tuple) S (types_count ts) (types_trees e (b ∷ s) ts +++ leaf tuple) (types-length e (b ∷ s) ts)
      (ap (λ x. x +++ leaf tuple) (types-joined e (b ∷ s) ts)))
  at-type e s p (fn_to b ts r) cs S =
      at-types e (b ∷ s) ts (type_before e.items e.params (b ∷ s) of_type r (node_cell (fn_ptr (length b)) (suc (types_count ts)) ∷ cs)) S
      ∙ at-type e (b ∷ s) of_type r (node_cell (fn_ptr (length b)) (suc (types_count ts)) ∷ cs) (push_all (types_list e (b ∷ s) ts) S)
      ∙ ap (standing e cs) (over-last (fn_ptr (length b)) (types_list e (b ∷ s) ts) (type_tree e (b ∷ s) of_type r) S (types_count ts) (types_trees e (b ∷ s) ts +++ type_tree e (b ∷ s) of_type r) (types-length e (b ∷ s) ts)
      (ap (λ x. x +++ type_tree e (b ∷ s) of_type r) (types-joined e (b ∷ s) ts)))
  at-type e s p (dyn_of i is) cs S =
      let k = principals_count e.items i (principals e.items is) in
      let ns = with_auto e.items i (autos e.items is) in
      let r = last_region e.params s i is in
      at-item e s i (items_before e.items e.params s is (dyn_before r ns k cs)) S
      ∙ at-items e s is (dyn_before r ns k cs) (push_all (item_list e s i) S)
      ∙ ap (standing e (dyn_before r ns k cs)) (sym (push-append (item_list e s i) (items_list e s is) S))
      ∙ at-dyn e s i is ns r (last_lifetime e s i is) cs S (at-last e s i is)

  at-types : (e : Meanings) (s : List (List (List ℕ))) (ts : Types) (cs : List ResolvedCell) (S : List Trees)
      → standing e (types_before e.items e.params s ts cs) S ≡ standing e cs (push_all (types_list e s ts) S)
  at-types e s no_types cs S = refl
  at-types e s (and_type t ts) cs S = at-type e s of_type t (types_before e.items e.params s ts cs) S ∙ at-types e s ts cs (type_tree e s of_type t ∷ S)

  at-args : (e : Meanings) (s : List (List (List ℕ))) (ks : List Sort) (args : Args) (cs : List ResolvedCell) (S : List Trees)
      → standing e (args_before e.items e.params s ks args cs) S ≡ standing e cs (push_all (args_list e s ks args) S)
  at-args e s ks no_args cs S = refl
  at-args e s ks (and_arg a args) cs S =
      at-arg e s (next_kind ks) a (args_before e.items e.params s (other_kinds ks) args cs) S ∙ at-args e s (other_kinds ks) args cs (arg_tree e s (next_kind ks) a ∷ S)

  pub at-arg : (e : Meanings) (s : List (List (List ℕ))) (p : Sort) (a : Arg) (cs : List ResolvedCell) (S : List Trees)
      → standing e (arg_before e.items e.params s p a cs) S ≡ standing e cs (arg_tree e s p a ∷ S)
  at-arg e s p (lifetime_arg n) cs S = ap (λ l. standing e cs (leaf l ∷ S)) (at-region e s n)
  at-arg e s p (number_arg n) cs S = refl
  at-arg e s p (type_arg t) cs S = at-type e s p t cs S

  at-item : (e : Meanings) (s : List (List (List ℕ))) (i : Item) (cs : List ResolvedCell) (S : List Trees)
      → standing e (item_before e.items e.params s i cs) S ≡ standing e cs (push_all (item_list e s i) S)
  at-item e s (bound_item b n args) cs S =
      let ks = kinds_of_trait (known e.items n) in
      let l = principal (length b) (trait_number (known e.items n)) in
      elim (is_auto_name e.items n) as (λ v.
      standing e (if v then cs else args_before e.items e.params (b ∷ s) ks args (node_cell l (args_count args) ∷ cs)) S
      ≡ standing e cs (push_all (if v then [] else tree l (args_trees e (b ∷ s) ks args) none ∷ []) S)) [
        | true ↦ refl
        | false ↦ at-args e (b ∷ s) ks args (node_cell l (args_count args) ∷ cs) S
            ∙ ap (standing e cs) (over-push l (args_list e (b ∷ s) ks args) S (args_count args) (args_trees e (b ∷ s) ks args) (args-length e (b ∷ s) ks args) (args-joined e (b ∷ s) ks args))
      ]
  at-item e s (lifetime_item n) cs S = refl

  at-items : (e : Meanings) (s : List (List (List ℕ))) (is : DynBounds) (cs : List ResolvedCell) (S : List Trees)
      → standing e (items_before e.items e.params s is cs) S ≡ standing e cs (push_all (items_list e s is) S)
  at-items e s no_items cs S = refl
  at-items e s (and_item i is) cs S =
      at-item e s i (items_before e.items e.params s is cs) S ∙ at-items e s is cs (push_all (item_list e s i) S)
      ∙ ap (standing e cs) (sym (push-append (item_list e s i) (items_list e s is) S))

pub cells_stand : CellsStand
cells_stand e s p t cs S = at-type e s p t cs S
