-- The items of a walk, and what the model's walk visits.
use Rattle.std.proofs.Common.{◌≡◌, ℕ, refl, sym, ap, ◌∙◌, Bool, true, false, ◌||◌, ◌↔◌, if◌then◌else◌, List, [], ◌∷◌, ◌++◌, Option, Some, None}
use Rattle.std.specs.List.{list_any}
use Rattle.type_terms.specs.Promised.Label.{of_type, of_const, of_lifetime, adt, ref, dynamic, principal, param, placeholder, infer, canonical, bound, value, static}
use Rattle.type_terms.specs.Promised.Trees.{Trees, none, tree, erase}
use Rattle.type_terms.specs.Promised.Worlds.{World, StructDecl, TraitDecl, structs_named, traits_named}
use Rattle.type_terms.specs.Promised.Walks.{Met, local, struct_leaf, dyn_leaf, entered, other_leaf, open_place, struct_is, trait_is, is_home, dyn_met, visited, until_decisive, ends_local}
use Rattle.type_terms.specs.Promised.Versions.{is_open_place}
use Rattle.type_terms.specs.Promised.OrphanErrors.{local_type, leaf_type, passage, dyn_look, struct_look}
use Rattle.type_terms.specs.Promised.OrphanErrors.{WalkItem, local_item, open_item, foreign_item, item_of, items, decisive, error_at, orphan_error}

-- ---- what decides: true for a local type, false for an open place
abbrev pub marks : List WalkItem → List Bool
marks [] = []
marks (local_item t ∷ is) = true ∷ marks is
marks (open_item t ∷ is) = false ∷ marks is
marks (foreign_item t f ∷ is) = marks is

abbrev pub decided : List Met → List Bool
decided [] = []
decided (local ∷ ms) = true ∷ decided ms
decided (open_place ∷ ms) = false ∷ decided ms
decided (m ∷ ms) = decided ms

abbrev pub starts : List Bool → Bool
starts [] = false
starts (b ∷ bs) = b

next : (b : Bool) (xs ys : List Bool) → xs ≡ ys → ◌≡◌ {A = List Bool} (b ∷ xs) (b ∷ ys)
next b xs ys e = ap (λ z. b ∷ z) e

pub marks-append : (xs ys : List WalkItem) → marks (xs ++ ys) ≡ marks xs ++ marks ys
marks-append [] ys = refl
marks-append (local_item t ∷ is) ys = next true _ _ (marks-append is ys)
marks-append (open_item t ∷ is) ys = next false _ _ (marks-append is ys)
marks-append (foreign_item t f ∷ is) ys = marks-append is ys

decided-append : (xs ys : List Met) → decided (xs ++ ys) ≡ decided xs ++ decided ys
decided-append [] ys = refl
decided-append (local ∷ ms) ys = next true _ _ (decided-append ms ys)
decided-append (open_place ∷ ms) ys = next false _ _ (decided-append ms ys)
decided-append (struct_leaf s ∷ ms) ys = decided-append ms ys
decided-append (dyn_leaf s ∷ ms) ys = decided-append ms ys
decided-append (entered s ∷ ms) ys = decided-append ms ys
decided-append (other_leaf ∷ ms) ys = decided-append ms ys

both : (is js : List WalkItem) (ms ns : List Met) → marks is ≡ decided ms → marks js ≡ decided ns → marks (is ++ js) ≡ decided (ms ++ ns)
both is js ms ns h k = marks-append is js ∙ ap (λ z. z ++ marks js) h ∙ ap (λ z. decided ms ++ z) k ∙ sym (decided-append ms ns)

struct-marks : (s : ℕ) (t : Trees) (first : Bool) (is : List WalkItem) (ms : List Met) → marks is ≡ decided ms → (a b : Bool)
    → marks (item_of (if a then local_type else if b then passage else leaf_type) t first is) ≡ decided (if a then local ∷ [] else if b then entered s ∷ ms else struct_leaf s ∷ [])
struct-marks s t first is ms h true b = refl
struct-marks s t first is ms h false true = h
struct-marks s t first is ms h false false = refl

dyn-marks : (V : World) (d : Option ℕ) (t : Trees) (first : Bool) (is : List WalkItem) (c : Trees) → marks (item_of (dyn_look V d c) t first is) ≡ decided (dyn_met V d c)
dyn-marks V d t first is none = refl
dyn-marks V d t first is (tree (principal n i) c o) = by (trait_is (λ x. is_home d x.home) V i)
  where
    by : (a : Bool) → marks (item_of (if a then local_type else leaf_type) t first is) ≡ decided ((if a then local else dyn_leaf i) ∷ [])
    by true = refl
    by false = refl
dyn-marks V d t first is (tree l c o) = refl

-- what stands at the node of a struct, and of a `dyn`
abbrev pub struct_items : World → Option ℕ → ℕ → Bool → Trees → List WalkItem
struct_items V d s first c = item_of (struct_look V d s) (tree (adt s) c none) first (items V d first c)

abbrev pub struct_mets : World → Option ℕ → ℕ → Trees → List Met
struct_mets V d s c = if struct_is (λ x. is_home d x.home) V s then local ∷ [] else if struct_is (λ x. x.is_fundamental) V s then entered s ∷ visited V d c else struct_leaf s ∷ []

abbrev pub dyn_items : World → Option ℕ → Bool → Trees → List WalkItem
dyn_items V d first c = item_of (dyn_look V d c) (tree dynamic c none) first (items V d first c)

-- a walk with its types decides as the model's
pub items-decide : (V : World) (d : Option ℕ) (first : Bool) (t : Trees) → marks (items V d first t) ≡ decided (visited V d t)
items-decide V d first none = refl
items-decide V d first (tree (ref b) c o) = both (items V d first c) (items V d false o) (visited V d c) (visited V d o) (items-decide V d first c) (items-decide V d false o)
items-decide V d first (tree (adt s) c o) =
    both (struct_items V d s first c) (items V d false o) (struct_mets V d s c) (visited V d o)
    (struct-marks s (tree (adt s) c none) first (items V d first c) (visited V d c) (items-decide V d first c) (struct_is (λ x. is_home d x.home) V s) (struct_is (λ x. x.is_fundamental) V s))
    (items-decide V d false o)
items-decide V d first (tree dynamic c o) = both (dyn_items V d first c) (items V d false o) (dyn_met V d c) (visited V d o) (dyn-marks V d (tree dynamic c none) first (items V d first c) c) (items-decide V d false o)
items-decide V d first (tree (param of_type i) c o) = next false _ _ (items-decide V d false o)
items-decide V d first (tree (placeholder of_type i) c o) = next false _ _ (items-decide V d false o)
items-decide V d first (tree (infer of_type i) c o) = next false _ _ (items-decide V d false o)
items-decide V d first (tree (canonical of_type i) c o) = next false _ _ (items-decide V d false o)
items-decide V d first (tree (bound of_type k i) c o) = next false _ _ (items-decide V d false o)
items-decide V d first (tree (param of_const i) c o) = items-decide V d first o
items-decide V d first (tree (placeholder of_const i) c o) = items-decide V d first o
items-decide V d first (tree (infer of_const i) c o) = items-decide V d first o
items-decide V d first (tree (canonical of_const i) c o) = items-decide V d first o
items-decide V d first (tree (bound of_const k i) c o) = items-decide V d first o
items-decide V d first (tree (param of_lifetime i) c o) = items-decide V d first o
items-decide V d first (tree (placeholder of_lifetime i) c o) = items-decide V d first o
items-decide V d first (tree (infer of_lifetime i) c o) = items-decide V d first o
items-decide V d first (tree (canonical of_lifetime i) c o) = items-decide V d first o
items-decide V d first (tree (bound of_lifetime k i) c o) = items-decide V d first o
items-decide V d first (tree (value n) c o) = items-decide V d first o
items-decide V d first (tree static c o) = items-decide V d first o
items-decide V d first (tree l c o) = items-decide V d false o

pub walk-starts : (ms : List Met) → ends_local (until_decisive ms) ≡ starts (decided ms)
walk-starts [] = refl
walk-starts (local ∷ ms) = refl
walk-starts (open_place ∷ ms) = refl
walk-starts (struct_leaf s ∷ ms) = walk-starts ms
walk-starts (dyn_leaf s ∷ ms) = walk-starts ms
walk-starts (entered s ∷ ms) = walk-starts ms
walk-starts (other_leaf ∷ ms) = walk-starts ms

abbrev pub is_none : {A : Type 0} → Option A → Bool
is_none None = true
is_none (Some x) = false

error-starts : (is js : List WalkItem) → is_none (error_at (decisive is) js) ≡ starts (marks is)
error-starts [] js = refl
error-starts (local_item t ∷ is) js = refl
error-starts (open_item t ∷ is) js = refl
error-starts (foreign_item t f ∷ is) js = error-starts is js

-- there is no error exactly if the model's walk ends at a local type
pub no-error-is : (V : World) (c : ℕ) (t : Trees) → is_none (orphan_error V c t) ≡ ends_local (until_decisive (visited V (Some c) t))
no-error-is V c t =
    let is = items V (Some c) true t in
    error-starts is is ∙ ap starts (items-decide V (Some c) true t) ∙ sym (walk-starts (visited V (Some c) t))

-- ---- the open walk
pub no-home : {A : Type 0} (f : A → ℕ) (xs : List A) → list_any (λ x. is_home None (f x)) xs ≡ false
no-home f [] = refl
no-home f (x ∷ xs) = no-home f xs

abbrev pub decides : Option WalkItem → Bool
decides None = false
decides (Some i) = true

decides-append : (is js : List WalkItem) → decides (decisive (is ++ js)) ≡ (decides (decisive is) || decides (decisive js))
decides-append [] js = refl
decides-append (local_item t ∷ is) js = refl
decides-append (open_item t ∷ is) js = refl
decides-append (foreign_item t f ∷ is) js = decides-append is js

any-append : (ms ns : List Met) → list_any is_open_place (ms ++ ns) ≡ (list_any is_open_place ms || list_any is_open_place ns)
any-append [] ns = refl
any-append (local ∷ ms) ns = any-append ms ns
any-append (open_place ∷ ms) ns = refl
any-append (struct_leaf s ∷ ms) ns = any-append ms ns
any-append (dyn_leaf s ∷ ms) ns = any-append ms ns
any-append (entered s ∷ ms) ns = any-append ms ns
any-append (other_leaf ∷ ms) ns = any-append ms ns

either : (is js : List WalkItem) (ms ns : List Met) → decides (decisive is) ≡ list_any is_open_place ms → decides (decisive js) ≡ list_any is_open_place ns
    → decides (decisive (is ++ js)) ≡ list_any is_open_place (ms ++ ns)
either is js ms ns h k = decides-append is js ∙ ap (λ z. z || decides (decisive js)) h ∙ ap (λ z. list_any is_open_place ms || z) k ∙ sym (any-append ms ns)

struct-open : (s : ℕ) (t : Trees) (first : Bool) (is : List WalkItem) (ms : List Met) → decides (decisive is) ≡ list_any is_open_place ms → (a b : Bool) → a ≡ false
    → decides (decisive (item_of (if a then local_type else if b then passage else leaf_type) t first is))
    ≡ list_any is_open_place (if a then local ∷ [] else if b then entered s ∷ ms else struct_leaf s ∷ [])
struct-open s t first is ms h true b e = cc
struct-open s t first is ms h false true e = h
struct-open s t first is ms h false false e = refl

dyn-open : (V : World) (t : Trees) (first : Bool) (is : List WalkItem) (c : Trees) → decides (decisive (item_of (dyn_look V None c) t first is)) ≡ list_any is_open_place (dyn_met V None c)
dyn-open V t first is none = refl
dyn-open V t first is (tree (principal n i) c o) = by (trait_is (λ x. is_home None x.home) V i) (no-home (λ (x : TraitDecl). x.home) (traits_named V i))
  where
    by : (a : Bool) → a ≡ false → decides (decisive (item_of (if a then local_type else leaf_type) t first is)) ≡ list_any is_open_place ((if a then local else dyn_leaf i) ∷ [])
    by true e = cc
    by false e = refl
dyn-open V t first is (tree l c o) = refl

-- where nothing is local, an item decides exactly if the open walk meets an open place
pub open-decides : (V : World) (first : Bool) (t : Trees) → decides (decisive (items V None first t)) ≡ list_any is_open_place (visited V None t)
open-decides V first none = refl
open-decides V first (tree (ref b) c o) = either (items V None first c) (items V None false o) (visited V None c) (visited V None o) (open-decides V first c) (open-decides V false o)
open-decides V first (tree (adt s) c o) =
    either (struct_items V None s first c) (items V None false o) (struct_mets V None s c) (visited V None o)
    (struct-open s (tree (adt s) c none) first (items V None first c) (visited V None c) (open-decides V first c) (struct_is (λ x. is_home None x.home) V s)
    (struct_is (λ x. x.is_fundamental) V s) (no-home (λ (x : StructDecl). x.home) (structs_named V s)))
    (open-decides V false o)
open-decides V first (tree dynamic c o) = either (dyn_items V None first c) (items V None false o) (dyn_met V None c) (visited V None o) (dyn-open V (tree dynamic c none) first (items V None first c) c) (open-decides V false o)
open-decides V first (tree (param of_type i) c o) = refl
open-decides V first (tree (placeholder of_type i) c o) = refl
open-decides V first (tree (infer of_type i) c o) = refl
open-decides V first (tree (canonical of_type i) c o) = refl
open-decides V first (tree (bound of_type k i) c o) = refl
open-decides V first (tree (param of_const i) c o) = open-decides V first o
open-decides V first (tree (placeholder of_const i) c o) = open-decides V first o
open-decides V first (tree (infer of_const i) c o) = open-decides V first o
open-decides V first (tree (canonical of_const i) c o) = open-decides V first o
open-decides V first (tree (bound of_const k i) c o) = open-decides V first o
open-decides V first (tree (param of_lifetime i) c o) = open-decides V first o
open-decides V first (tree (placeholder of_lifetime i) c o) = open-decides V first o
open-decides V first (tree (infer of_lifetime i) c o) = open-decides V first o
open-decides V first (tree (canonical of_lifetime i) c o) = open-decides V first o
open-decides V first (tree (bound of_lifetime k i) c o) = open-decides V first o
open-decides V first (tree (value n) c o) = open-decides V first o
open-decides V first (tree static c o) = open-decides V first o
open-decides V first (tree l c o) = open-decides V false o

none-is : {A : Type 0} (x : Option A) → is_none x ≡ true → x ≡ None
none-is None h = refl
none-is (Some x) h = cc

pub no-error-both : (V : World) (c : ℕ) (t : Trees) → orphan_error V c t ≡ None ↔ (ends_local (until_decisive (visited V (Some c) t)) ≡ true)
no-error-both V c t = (λ h. sym (no-error-is V c t) ∙ ap is_none h, λ h. none-is (orphan_error V c t) (no-error-is V c t ∙ h))

-- ---- lifetimes
dyn-erased : (V : World) (d : Option ℕ) (c : Trees) → dyn_met V d (erase c) ≡ dyn_met V d c
dyn-erased V d none = refl
dyn-erased V d (tree (param of_lifetime i) c o) = refl
dyn-erased V d (tree (placeholder of_lifetime i) c o) = refl
dyn-erased V d (tree (infer of_lifetime i) c o) = refl
dyn-erased V d (tree (canonical of_lifetime i) c o) = refl
dyn-erased V d (tree (bound of_lifetime k i) c o) = refl
dyn-erased V d (tree (param of_type i) c o) = refl
dyn-erased V d (tree (placeholder of_type i) c o) = refl
dyn-erased V d (tree (infer of_type i) c o) = refl
dyn-erased V d (tree (canonical of_type i) c o) = refl
dyn-erased V d (tree (bound of_type k i) c o) = refl
dyn-erased V d (tree (param of_const i) c o) = refl
dyn-erased V d (tree (placeholder of_const i) c o) = refl
dyn-erased V d (tree (infer of_const i) c o) = refl
dyn-erased V d (tree (canonical of_const i) c o) = refl
dyn-erased V d (tree (bound of_const k i) c o) = refl
dyn-erased V d (tree l c o) = refl

joins : (ks ms ls ns : List Met) → ks ≡ ls → ms ≡ ns → ks ++ ms ≡ ls ++ ns
joins ks ms ls ns h k = ap (λ z. z ++ ms) h ∙ ap (λ z. ls ++ z) k

pub erased-visits : (V : World) (d : Option ℕ) (t : Trees) → visited V d (erase t) ≡ visited V d t
erased-visits V d none = refl
erased-visits V d (tree (ref b) c o) = joins (visited V d (erase c)) (visited V d (erase o)) (visited V d c) (visited V d o) (erased-visits V d c) (erased-visits V d o)
erased-visits V d (tree (adt s) c o) = joins (struct_mets V d s (erase c)) (visited V d (erase o)) (struct_mets V d s c) (visited V d o)
    (ap (λ z. if struct_is (λ x. is_home d x.home) V s then local ∷ [] else if struct_is (λ x. x.is_fundamental) V s then entered s ∷ z else struct_leaf s ∷ []) (erased-visits V d c)) (erased-visits V d o)
erased-visits V d (tree dynamic c o) = joins (dyn_met V d (erase c)) (visited V d (erase o)) (dyn_met V d c) (visited V d o) (dyn-erased V d c) (erased-visits V d o)
erased-visits V d (tree (param of_type i) c o) = ap (λ z. open_place ∷ z) (erased-visits V d o)
erased-visits V d (tree (placeholder of_type i) c o) = ap (λ z. open_place ∷ z) (erased-visits V d o)
erased-visits V d (tree (infer of_type i) c o) = ap (λ z. open_place ∷ z) (erased-visits V d o)
erased-visits V d (tree (canonical of_type i) c o) = ap (λ z. open_place ∷ z) (erased-visits V d o)
erased-visits V d (tree (bound of_type k i) c o) = ap (λ z. open_place ∷ z) (erased-visits V d o)
erased-visits V d (tree (param of_const i) c o) = erased-visits V d o
erased-visits V d (tree (placeholder of_const i) c o) = erased-visits V d o
erased-visits V d (tree (infer of_const i) c o) = erased-visits V d o
erased-visits V d (tree (canonical of_const i) c o) = erased-visits V d o
erased-visits V d (tree (bound of_const k i) c o) = erased-visits V d o
erased-visits V d (tree (param of_lifetime i) c o) = erased-visits V d o
erased-visits V d (tree (placeholder of_lifetime i) c o) = erased-visits V d o
erased-visits V d (tree (infer of_lifetime i) c o) = erased-visits V d o
erased-visits V d (tree (canonical of_lifetime i) c o) = erased-visits V d o
erased-visits V d (tree (bound of_lifetime k i) c o) = erased-visits V d o
erased-visits V d (tree (value n) c o) = erased-visits V d o
erased-visits V d (tree static c o) = erased-visits V d o
erased-visits V d (tree l c o) = ap (λ z. other_leaf ∷ z) (erased-visits V d o)
