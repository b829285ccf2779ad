-- The error of a walk without lifetimes is the error of the walk, without lifetimes.
use Rattle.std.proofs.Common.{◌≡◌, ℕ, Bool, true, false, List, [], ◌∷◌, ◌++◌, map, Option, Some, None, refl, sym, ap, ◌∙◌}
use Rattle.std.proofs.lemmas.List.{map-append}
use Rattle.std.specs.Prelude.{if◌then◌else◌}
use Rattle.std.specs.Option.{option_map}
use Rattle.type_terms.specs.Promised.Label.{Label, of_type, of_const, of_lifetime, dynamic, param, placeholder, infer, canonical, bound}
use Rattle.type_terms.specs.Promised.Trees.{Trees, none, tree, erase, erase_label, is_sort, sort_of}
use Rattle.type_terms.specs.Promised.Worlds.{World}
use Rattle.type_terms.specs.Promised.Handles.{Entry, trees_at}
use Rattle.type_terms.specs.declared.kinds.Ty.{Ty}
use Rattle.infer_table.specs.Content.{Table, content}
use Rattle.infer_table.specs.Solutions.{resolved}
use Rattle.orphan_check.specs.Exact.{leaves_read, error_read}
use Rattle.orphan_check.specs.Promised.Errors.{is_first}
use Rattle.type_terms.specs.Promised.OrphanErrors.{WalkItem, local_item, open_item, foreign_item, item_of, items, decisive, first_local, foreign_leaves, error_at, OrphanError, nonlocal, uncovered, orphan_error}
use Rattle.type_terms.specs.Promised.OrphanErrors.{Look, local_type, open_type, leaf_type, passage, dyn_look, look}
use Rattle.orphan_check.specs.declared.errors.IsFirstInputType.{IsFirstInputType}
use Rattle.orphan_check.specs.declared.errors.OrphanCheckErr.{OrphanCheckErr}
use Rattle.orphan_check.specs.declared.errors.OrphanCheckErr.TheVariants.{NonLocalInputType, UncoveredTyParams}
use Rattle.overlap_check.specs.Promised.Errors.{type_in, error_in}

-- ---- what a walk meets without lifetimes
abbrev erased_item : WalkItem → WalkItem
erased_item (local_item t) = local_item (erase t)
erased_item (open_item t) = open_item (erase t)
erased_item (foreign_item t first) = foreign_item (erase t) first

abbrev erased_leaf : Trees × Bool → Trees × Bool
erased_leaf p = (erase p.0, p.1)

abbrev erased_error : OrphanError → OrphanError
erased_error (nonlocal ps) = nonlocal (map erased_leaf ps)
erased_error (uncovered t u) = uncovered (erase t) (option_map erase u)

label-sort : (l : Label) → sort_of (erase_label l) ≡ sort_of l
label-sort (param of_lifetime i) = refl
label-sort (param of_type i) = refl
label-sort (param of_const i) = refl
label-sort (placeholder of_lifetime i) = refl
label-sort (placeholder of_type i) = refl
label-sort (placeholder of_const i) = refl
label-sort (infer of_lifetime i) = refl
label-sort (infer of_type i) = refl
label-sort (infer of_const i) = refl
label-sort (canonical of_lifetime i) = refl
label-sort (canonical of_type i) = refl
label-sort (canonical of_const i) = refl
label-sort (bound of_lifetime k i) = refl
label-sort (bound of_type k i) = refl
label-sort (bound of_const k i) = refl
label-sort l = refl

dyn-same : (V : World) (d : Option ℕ) (c : Trees) → dyn_look V d (erase c) ≡ dyn_look V d c
dyn-same V d none = refl
dyn-same V d (tree (param of_lifetime i) c o) = refl
dyn-same V d (tree (placeholder of_lifetime i) c o) = refl
dyn-same V d (tree (infer of_lifetime i) c o) = refl
dyn-same V d (tree (canonical of_lifetime i) c o) = refl
dyn-same V d (tree (bound of_lifetime k i) c o) = refl
dyn-same V d (tree (param of_type i) c o) = refl
dyn-same V d (tree (placeholder of_type i) c o) = refl
dyn-same V d (tree (infer of_type i) c o) = refl
dyn-same V d (tree (canonical of_type i) c o) = refl
dyn-same V d (tree (bound of_type k i) c o) = refl
dyn-same V d (tree (param of_const i) c o) = refl
dyn-same V d (tree (placeholder of_const i) c o) = refl
dyn-same V d (tree (infer of_const i) c o) = refl
dyn-same V d (tree (canonical of_const i) c o) = refl
dyn-same V d (tree (bound of_const k i) c o) = refl
dyn-same V d (tree l c o) = refl

same-look : (V : World) (d : Option ℕ) (l : Label) (c : Trees) → is_sort (sort_of l) of_type ≡ true → look V d (erase_label l) (erase c) ≡ look V d l c
same-look V d dynamic c h = dyn-same V d c
same-look V d (param of_lifetime i) c h = cc
same-look V d (param of_type i) c h = refl
same-look V d (param of_const i) c h = refl
same-look V d (placeholder of_lifetime i) c h = cc
same-look V d (placeholder of_type i) c h = refl
same-look V d (placeholder of_const i) c h = refl
same-look V d (infer of_lifetime i) c h = cc
same-look V d (infer of_type i) c h = refl
same-look V d (infer of_const i) c h = refl
same-look V d (canonical of_lifetime i) c h = cc
same-look V d (canonical of_type i) c h = refl
same-look V d (canonical of_const i) c h = refl
same-look V d (bound of_lifetime k i) c h = cc
same-look V d (bound of_type k i) c h = refl
same-look V d (bound of_const k i) c h = refl
same-look V d l c h = refl

item-erased : (k : Look) (t : Trees) (first : Bool) (inner : List WalkItem) → map erased_item (item_of k t first inner) ≡ item_of k (erase t) first (map erased_item inner)
item-erased local_type t first inner = refl
item-erased open_type t first inner = refl
item-erased leaf_type t first inner = refl
item-erased passage t first inner = refl

items-erased : (V : World) (d : Option ℕ) (first : Bool) (t : Trees) → items V d first (erase t) ≡ map erased_item (items V d first t)
items-erased V d first none = refl
items-erased V d first (tree l c o) =
    ap (λ s. if is_sort s of_type then item_of (look V d (erase_label l) (erase c)) (tree (erase_label l) (erase c) none) first (items V d first (erase c)) ++ items V d false (erase o) else items V d first (erase o))
    (label-sort l)
    ∙ by (is_sort (sort_of l) of_type) refl (items-erased V d first c) (items-erased V d false o) (items-erased V d first o)
  where
    by : (b : Bool) → is_sort (sort_of l) of_type ≡ b → items V d first (erase c) ≡ map erased_item (items V d first c) → items V d false (erase o) ≡ map erased_item (items V d false o)
        → items V d first (erase o) ≡ map erased_item (items V d first o)
        → (if b then item_of (look V d (erase_label l) (erase c)) (tree (erase_label l) (erase c) none) first (items V d first (erase c)) ++ items V d false (erase o) else items V d first (erase o))
        ≡ map erased_item (if b then item_of (look V d l c) (tree l c none) first (items V d first c) ++ items V d false o else items V d first o)
    by true e inner rest others =
        ap (λ k. item_of k (tree (erase_label l) (erase c) none) first (items V d first (erase c)) ++ items V d false (erase o)) (same-look V d l c e)
        ∙ ap (λ z. item_of (look V d l c) (tree (erase_label l) (erase c) none) first z ++ items V d false (erase o)) inner
        ∙ ap (λ z. z ++ items V d false (erase o)) (sym (item-erased (look V d l c) (tree l c none) first (items V d first c)))
        ∙ ap (λ z. map erased_item (item_of (look V d l c) (tree l c none) first (items V d first c)) ++ z) rest
        ∙ sym (map-append erased_item (item_of (look V d l c) (tree l c none) first (items V d first c)) (items V d false o))
    by false e inner rest others = others

-- ---- the error
decisive-erased : (is : List WalkItem) → decisive (map erased_item is) ≡ option_map erased_item (decisive is)
decisive-erased [] = refl
decisive-erased (local_item t ∷ is) = refl
decisive-erased (open_item t ∷ is) = refl
decisive-erased (foreign_item t first ∷ is) = decisive-erased is

first-erased : (is : List WalkItem) → first_local (map erased_item is) ≡ option_map erase (first_local is)
first-erased [] = refl
first-erased (local_item t ∷ is) = refl
first-erased (open_item t ∷ is) = first-erased is
first-erased (foreign_item t first ∷ is) = first-erased is

leaves-erased : (is : List WalkItem) → foreign_leaves (map erased_item is) ≡ map erased_leaf (foreign_leaves is)
leaves-erased [] = refl
leaves-erased (local_item t ∷ is) = leaves-erased is
leaves-erased (open_item t ∷ is) = leaves-erased is
leaves-erased (foreign_item t first ∷ is) = ap (λ z. (erase t, first) ∷ z) (leaves-erased is)

error-erased : (x : Option WalkItem) (is : List WalkItem) → error_at (option_map erased_item x) (map erased_item is) ≡ option_map erased_error (error_at x is)
error-erased None is = ap (λ z. Some (nonlocal z)) (leaves-erased is)
error-erased (Some (local_item t)) is = refl
error-erased (Some (open_item t)) is = ap (λ z. Some (uncovered (erase t) z)) (first-erased is)
error-erased (Some (foreign_item t first)) is = ap (λ z. Some (nonlocal z)) (leaves-erased is)

orphan-erased : (V : World) (c : ℕ) (t : Trees) → orphan_error V c (erase t) ≡ option_map erased_error (orphan_error V c t)
orphan-erased V c t =
    ap (λ z. error_at (decisive z) z) (items-erased V (Some c) true t)
    ∙ ap (λ z. error_at z (map erased_item (items V (Some c) true t))) (decisive-erased (items V (Some c) true t))
    ∙ error-erased (decisive (items V (Some c) true t)) (items V (Some c) true t)

-- ---- as it is read in a table without values
leaves-in : (es : List Entry) (t : Table) → t.values ≡ [] → (ps : List (Ty × IsFirstInputType)) → map erased_leaf (leaves_read es t ps) ≡ map (λ p. (type_in es p.0, is_first p.1)) ps
leaves-in es t e [] = refl
leaves-in es t e (p ∷ ps) = cons (read p.0) (leaves-in es t e ps)
  where
    read : (x : Ty) → erase (resolved (content es t.values) (trees_at es x.0)) ≡ erase (trees_at es x.0)
    read x = ap (λ vs. erase (resolved (content es vs) (trees_at es x.0))) e

    cons : {a b : Trees} {xs ys : List (Trees × Bool)} → a ≡ b → xs ≡ ys → (a, is_first p.1) ∷ xs ≡ (b, is_first p.1) ∷ ys
    cons f g = cc

error-in : (es : List Entry) (t : Table) → t.values ≡ [] → (x : OrphanCheckErr Ty) → erased_error (error_read es t x) ≡ error_in es x
error-in es t e (NonLocalInputType v) = ap nonlocal (leaves-in es t e v.items)
error-in es t e (UncoveredTyParams u) =
    ap (λ vs. uncovered (erase (resolved (content es vs) (trees_at es u.uncovered.0))) (option_map erase (option_map (λ (x : Ty). resolved (content es vs) (trees_at es x.0)) u.local_ty))) e ∙ by u.local_ty
  where
    by : (x : Option Ty) → uncovered (type_in es u.uncovered) (option_map erase (option_map (λ (y : Ty). trees_at es y.0) x)) ≡ uncovered (type_in es u.uncovered) (option_map (type_in es) x)
    by None = refl
    by (Some y) = refl

-- the error that a walk in such a table answers is that of its arguments without lifetimes
pub walk-erased : (V : World) (c : ℕ) (args : Trees) (es : List Entry) (t : Table) → t.values ≡ [] → (x : OrphanCheckErr Ty) → orphan_error V c args ≡ Some (error_read es t x)
    → orphan_error V c (erase args) ≡ Some (error_in es x)
walk-erased V c args es t e x h = orphan-erased V c args ∙ ap (option_map erased_error) h ∙ ap Some (error-in es t e x)
