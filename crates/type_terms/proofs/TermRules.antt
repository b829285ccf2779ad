-- In a world without lifetimes, premises have no lifetimes. An erased world has none.
use Rattle.std.proofs.Common.{◌≡◌, ℕ, zero, suc, Bool, true, false, not, List, [], ◌∷◌, ◌++◌, refl, ap, sym, ◌∙◌, ◌&&◌, ◌||◌, ◌==◌, if◌then◌else◌, cond, subst, ◌⊎◌, inl, inr, map, filter, length}
use Rattle.std.specs.List.{flat_map, list_all, list_any}
use Rattle.type_terms.specs.Codes.{same}
use Rattle.type_terms.specs.Promised.Label.{Label, of_type, of_const, of_lifetime, param, placeholder, infer, canonical, bound, inside, shift_label, never, array, slice, tuple, adt, raw_pointer, ref, fn_ptr, dynamic, principal, auto_trait}
use Rattle.type_terms.specs.Promised.Trees.{Trees, none, tree, ◌+++◌, leaf, instantiate, shift, nth, some_node, erase, erase_label}
use Rattle.type_terms.specs.Trees.{arguments, arguments_from, standing_at, first_of}
use Rattle.type_terms.specs.Promised.Worlds.{World, Reference, CrateDecl, StructDecl, TraitDecl, ImplDecl, structs_named, traits_named, crates_named, sees, sees_within, view_of, with_args, all_with_args}
use Rattle.type_terms.specs.Erased.{IsErasedTerm, IsTerms}
use Rattle.type_terms.specs.Promised.Erased.{erased_reference, erased_struct, erased_trait, erased_impl, erased_world}
use Rattle.type_terms.specs.Promised.Rules.{BuiltIn, sized_tuple, sized_struct, copy_tuple, auto_element, auto_tuple, auto_struct, fn_ptr_call, object_auto, object_principal, equal_rows, upcasts_principal, upcasts_autos, are_declared, unsize_array, unsize_to_dyn, unsize_dyn, unsize_upcast, unsize_struct, Rule, rules, impl_rules, built_in_rules, plain_rules, sized_rules, copy_rules, tuple_rules, fn_ptr_rules, call_rules, but_last, auto_rules, auto_rules_plain, unsize_rules, unsize_array_rules, unsize_to_dyn_rules, unsize_upcast_rules, unsize_struct_rules, some_unsizing, with_unsizing, last_unsizes, object_rules, principal_with, autos_with, elaborated, is_declared, are_dyn_compatible, is_dyn, same_reference, is_auto, is_written, is_fn_trait, sized, copy, clone, tuple_trait, fn_ptr_trait, unsize, row, asked, last_asked, each_asked, together, fields_of, strict_supertraits, strict_supertraits_within, written_supertraits, clause_rules, super_rules, by_clause, by_super}
use Rattle.type_terms.specs.Promised.Proofs.{In, Every}
use Rattle.type_terms.proofs.Members.{here, there, in-cases, in-nothing, in-filter, in-append, in-flat}
use Rattle.type_terms.proofs.Walking.{left, right, both}
use Rattle.type_terms.proofs.Fitting.{impl-rule, not-true, or-no, append-shut, first-shut, head-shut, child-shut, next-shut, standing-shut}
use Rattle.type_terms.proofs.ProofEntries.{map-in}
use Rattle.type_terms.proofs.RuleLists.{equal-all}
use Rattle.type_terms.proofs.NoHolds.{member-each, each-member}
use Rattle.type_terms.proofs.Matching.{or-false-left as no-left}
use Rattle.type_terms.proofs.BooleanBasics.{or-cong}

-- the label is a lifetime other than `'static`, or counts its binder's lifetimes
abbrev lifetimes : Label → Bool
lifetimes (fn_ptr (suc n)) = true
lifetimes (principal (suc n) t) = true
lifetimes (param of_lifetime _) = true
lifetimes (placeholder of_lifetime _) = true
lifetimes (infer of_lifetime _) = true
lifetimes (canonical of_lifetime _) = true
lifetimes (bound of_lifetime _ _) = true
lifetimes _ = false

-- it holds none of these
abbrev free : Trees → Bool
free t = not (some_node lifetimes t)

label-free : (l : Label) → erase_label l ≡ l → lifetimes l ≡ false
label-free (fn_ptr (suc n)) e = cc
label-free (principal (suc n) t) e = cc
label-free (param of_lifetime _) e = cc
label-free (placeholder of_lifetime _) e = cc
label-free (infer of_lifetime _) e = cc
label-free (canonical of_lifetime _) e = cc
label-free (bound of_lifetime _ _) e = cc
label-free l e = refl

free-label : (l : Label) → lifetimes l ≡ false → erase_label l ≡ l
free-label (fn_ptr zero) e = refl
free-label (fn_ptr (suc n)) e = cc
free-label (principal zero t) e = refl
free-label (principal (suc n) t) e = cc
free-label (param of_lifetime _) e = cc
free-label (placeholder of_lifetime _) e = cc
free-label (infer of_lifetime _) e = cc
free-label (canonical of_lifetime _) e = cc
free-label (bound of_lifetime _ _) e = cc
free-label l e = refl

term-free : (t : Trees) → erase t ≡ t → some_node lifetimes t ≡ false
term-free none e = refl
term-free (tree l c o) e =
    or-no (lifetimes l || some_node lifetimes c) (some_node lifetimes o) (or-no (lifetimes l) (some_node lifetimes c) (label-free l label) (term-free c child)) (term-free o other)
  where
    label : erase_label l ≡ l
    label = cc

    child : erase c ≡ c
    child = cc

    other : erase o ≡ o
    other = cc

free-term : (t : Trees) → some_node lifetimes t ≡ false → erase t ≡ t
free-term none e = refl
free-term (tree l c o) e =
    node (free-label l (no-left (lifetimes l) (some_node lifetimes c) (no-left (lifetimes l || some_node lifetimes c) (some_node lifetimes o) e))) (free-term c (child-shut lifetimes l c o e)) (free-term o (next-shut lifetimes l c o e))
  where
    node : {l l' : Label} {c c' o o' : Trees} → l ≡ l' → c ≡ c' → o ≡ o' → tree l c o ≡ tree l' c' o'
    node p q r = cc

-- what is read off a term are terms
arguments-free : (k n : ℕ) (h t : Trees) → some_node lifetimes t ≡ false → some_node lifetimes (arguments_from k n h t) ≡ false
arguments-free k zero h t e = refl
arguments-free k (suc n) h t e =
    append-shut lifetimes (first_of (standing_at k h t) (leaf never)) (arguments_from (suc k) n h t)
    (first-shut lifetimes (standing_at k h t) (leaf never) (standing-shut lifetimes k h t e) refl) (arguments-free (suc k) n h t e)

-- What rules make of terms are terms
abbrev Shuts : Trees → Type 0
Shuts t = some_node lifetimes t ≡ false

label-kept : (d a : ℕ) (l : Label) → lifetimes (shift_label d a l) ≡ lifetimes l
label-kept d a (bound of_type k v) = refl
label-kept d a (bound of_const k v) = refl
label-kept d a (bound of_lifetime k v) = refl
label-kept d a l = refl

shift-keeps : (d a : ℕ) (t : Trees) → some_node lifetimes (shift d a t) ≡ some_node lifetimes t
shift-keeps d a none = refl
shift-keeps d a (tree l c o) = or-cong _ _ _ _ _ _ (label-kept d a l) (shift-keeps (inside l d) a c) (shift-keeps d a o)

nth-shut : (A : Trees) (i : ℕ) → Shuts A → Shuts (nth A i)
nth-shut none i h = refl
nth-shut (tree l c o) zero h = head-shut lifetimes l c o h
nth-shut (tree l c o) (suc i) h = nth-shut o i (next-shut lifetimes l c o h)

closed-node : (l : Label) (c o : Trees) → lifetimes l ≡ false → Shuts c → Shuts o → Shuts (tree l c o)
closed-node l c o e f g = or-no (lifetimes l || some_node lifetimes c) (some_node lifetimes o) (or-no (lifetimes l) (some_node lifetimes c) e f) g

plain-shut : (d : ℕ) (A t : Trees) → Shuts A → some_node lifetimes t ≡ false → Shuts (instantiate d A t)
plain-shut d A none h g = refl
plain-shut d A (tree (param s i) c o) h g =
    append-shut lifetimes (shift zero d (nth A i)) (instantiate d A o) (shift-keeps zero d (nth A i) ∙ nth-shut A i h)
    (plain-shut d A o h (next-shut lifetimes (param s i) c o g))
plain-shut d A (tree l c o) h g =
    closed-node l (instantiate (inside l d) A c) (instantiate d A o) (no-left (lifetimes l) (some_node lifetimes c) (no-left (lifetimes l || some_node lifetimes c) (some_node lifetimes o) g))
    (plain-shut (inside l d) A c h (child-shut lifetimes l c o g)) (plain-shut d A o h (next-shut lifetimes l c o g))

all-plain-shut : (A : Trees) (ks : List Reference) → Shuts A → ((k : Reference) → In k ks → some_node lifetimes k.args ≡ false)
    → (p : Reference) → In p (all_with_args A ks) → Shuts p.args
all-plain-shut A ks h f p g =
    let m = map-in (with_args A) ks p g in
    subst (λ (q : Reference). Shuts q.args) m.2 (plain-shut zero A m.0.args h (f m.0 m.1))

-- supertraits
module _ (W : World) (bounds : (x : TraitDecl) (b : Reference) → In x W.traits → In b x.bounds → some_node lifetimes b.args ≡ false) where
  written-shut : (r s : Reference) → Shuts r.args → In s (written_supertraits W r) → Shuts s.args
  written-shut r s h g =
      let m = in-flat (λ (t : TraitDecl). all_with_args r.args t.bounds) (traits_named W r.trait) s g in
      let a = in-filter (λ (y : TraitDecl). y.name == r.trait) W.traits m.0 m.1 in
      all-plain-shut r.args m.0.bounds h (λ k i. bounds m.0 k a.0 i) s m.2

  supers-shut : (n : ℕ) (r s : Reference) → Shuts r.args → In s (strict_supertraits_within n W r) → Shuts s.args
  supers-shut zero r s h g = absurd (in-nothing s g)
  supers-shut (suc n) r s h g = by (in-cases s m.0 (strict_supertraits_within n W m.0) m.2) (supers-shut n m.0 s here-shut)
    where
      m : (x : Reference) × In x (written_supertraits W r) × In s (x ∷ strict_supertraits_within n W x)
      m = in-flat (λ x. x ∷ strict_supertraits_within n W x) (written_supertraits W r) s g

      here-shut : Shuts m.0.args
      here-shut = written-shut r m.0 h m.1

      by : (m.0 ≡ s) ⊎ In s (strict_supertraits_within n W m.0) → (In s (strict_supertraits_within n W m.0) → Shuts s.args) → Shuts s.args
      by (inl q) f = subst (λ (z : Reference). Shuts z.args) q here-shut
      by (inr q) f = f q

-- premises, as tests
abbrev premises-closed : List Rule → Bool
premises-closed us = list_all (λ u. list_all (λ p. free p.args) u.premises) us

closed-by : (t : Trees) → Shuts t → free t ≡ true
closed-by t h = ap not h

one-asked : (t : ℕ) (l : Label) (c o : Trees) → Shuts (tree l c o) → premises-closed (row auto_element (asked t (tree l c none) ∷ [])) ≡ true
one-asked t l c o h = both _ true (both (free (tree l c none)) true (closed-by (tree l c none) (head-shut lifetimes l c o h)) refl) refl

last-closed : (t : ℕ) (a : Trees) → Shuts a → list_all (λ (p : Reference). free p.args) (last_asked t a) ≡ true
last-closed t none h = refl
last-closed t (tree l c none) h = both (free (tree l c none)) true (closed-by (tree l c none) h) refl
last-closed t (tree l c (tree m d o)) h = last-closed t (tree m d o) (next-shut lifetimes l c (tree m d o) h)

each-closed : (t : ℕ) (a : Trees) → Shuts a → list_all (λ (p : Reference). free p.args) (each_asked t a) ≡ true
each-closed t none h = refl
each-closed t (tree l c o) h = both (free (tree l c none)) _ (closed-by (tree l c none) (head-shut lifetimes l c o h)) (each-closed t o (next-shut lifetimes l c o h))

a-row : (n : BuiltIn) (ps : List Reference) → list_all (λ (p : Reference). free p.args) ps ≡ true → premises-closed (row n ps) ≡ true
a-row n ps h = both _ true h refl

together-shut : (A : Trees) (fs : List Trees) → Shuts A → ((t : Trees) → In t fs → some_node lifetimes t ≡ false) → Shuts (together (map (instantiate zero A) fs))
together-shut A [] h f = refl
together-shut A (t ∷ fs) h f =
    append-shut lifetimes (instantiate zero A t) (together (map (instantiate zero A) fs)) (plain-shut zero A t h (f t (here t fs)))
    (together-shut A fs h (λ x g. f x (there x t fs g)))

flat-closed : {A : Type 0} (f : A → List Rule) (xs : List A) → ((x : A) → In x xs → premises-closed (f x) ≡ true) → premises-closed (flat_map f xs) ≡ true
flat-closed f [] h = refl
flat-closed f (x ∷ xs) h = joined (f x) (flat_map f xs) (h x (here x xs)) (flat-closed f xs (λ y g. h y (there y x xs g)))
  where
    joined : (us vs : List Rule) → premises-closed us ≡ true → premises-closed vs ≡ true → premises-closed (us ++ vs) ≡ true
    joined [] vs e g = g
    joined (u ∷ us) vs e g =
        both (list_all (λ p. free p.args) u.premises) _ (left (list_all (λ p. free p.args) u.premises) _ e)
        (joined us vs (right (list_all (λ p. free p.args) u.premises) _ e) g)

module _ (V : World) (fields : (x : StructDecl) (t : Trees) → In x V.structs → In t x.fields → some_node lifetimes t ≡ false) where
  fields-shut : (s : ℕ) (k : Trees) → Shuts k → (x : StructDecl) → In x (structs_named V s) → Shuts (fields_of x k)
  fields-shut s k h x g = together-shut k x.fields h (λ t i. fields x t (in-filter (λ (y : StructDecl). y.name == s) V.structs x g).0 i)

  sized-closed : (a : Trees) → Shuts a → premises-closed (sized_rules V a) ≡ true
  sized-closed none h = refl
  sized-closed (tree tuple k o) h = a-row sized_tuple (last_asked sized k) (last-closed sized k (child-shut lifetimes tuple k o h))
  sized-closed (tree (adt s) k o) h =
      flat-closed (λ x. row sized_struct (last_asked sized (fields_of x k))) (structs_named V s)
      (λ x g. a-row sized_struct (last_asked sized (fields_of x k)) (last-closed sized (fields_of x k) (fields-shut s k (child-shut lifetimes (adt s) k o h) x g)))
  sized-closed (tree l k o) h = refl

  auto-closed : (t : ℕ) (a : Trees) → Shuts a → premises-closed (auto_rules_plain V t a) ≡ true
  auto-closed t none h = refl
  auto-closed t (tree tuple k o) h = a-row auto_tuple (each_asked t k) (each-closed t k (child-shut lifetimes tuple k o h))
  auto-closed t (tree (adt s) k o) h =
      flat-closed (λ x. row auto_struct (each_asked t (fields_of x k))) (structs_named V s)
      (λ x g. a-row auto_struct (each_asked t (fields_of x k)) (each-closed t (fields_of x k) (fields-shut s k (child-shut lifetimes (adt s) k o h) x g)))
  auto-closed t (tree (raw_pointer b) none p) h = refl
  auto-closed t (tree (raw_pointer b) (tree l k o) p) h = one-asked t l k o (child-shut lifetimes (raw_pointer b) (tree l k o) p h)
  auto-closed t (tree array none p) h = refl
  auto-closed t (tree array (tree l k o) p) h = one-asked t l k o (child-shut lifetimes array (tree l k o) p h)
  auto-closed t (tree slice none p) h = refl
  auto-closed t (tree slice (tree l k o) p) h = one-asked t l k o (child-shut lifetimes slice (tree l k o) p h)
  auto-closed t (tree (ref b) none p) h = refl
  auto-closed t (tree (ref b) (tree r rc none) p) h = refl
  auto-closed t (tree (ref b) (tree r rc (tree l k o)) p) h =
      one-asked t l k o (next-shut lifetimes r rc (tree l k o) (child-shut lifetimes (ref b) (tree r rc (tree l k o)) p h))
  auto-closed t (tree l k o) h = refl

  auto-all-closed : (t : ℕ) (a : Trees) → Shuts a → premises-closed (auto_rules V t a) ≡ true
  auto-all-closed t none h = refl
  auto-all-closed t (tree l k o) h = by (is_written V t l) (auto-closed t (tree l k o) h)
    where
      by : (b : Bool) → premises-closed (auto_rules_plain V t (tree l k o)) ≡ true → premises-closed (if b then [] else auto_rules_plain V t (tree l k o)) ≡ true
      by true g = refl
      by false g = g

copy-closed : (t : ℕ) (a : Trees) → Shuts a → premises-closed (copy_rules t a) ≡ true
copy-closed t none h = refl
copy-closed t (tree (fn_ptr n) k o) h = refl
copy-closed t (tree tuple k o) h = a-row copy_tuple (each_asked t k) (each-closed t k (child-shut lifetimes tuple k o h))
copy-closed t (tree l k o) h = refl

-- what a list of rules asks, where the list is there only if b is true
if-closed : (b : Bool) (us : List Rule) → premises-closed us ≡ true → premises-closed (if b then us else []) ≡ true
if-closed true us h = h
if-closed false us h = refl

join-closed : (us vs : List Rule) → premises-closed us ≡ true → premises-closed vs ≡ true → premises-closed (us ++ vs) ≡ true
join-closed [] vs e g = g
join-closed (u ∷ us) vs e g =
    both (list_all (λ p. free p.args) u.premises) _ (left (list_all (λ p. free p.args) u.premises) _ e)
    (join-closed us vs (right (list_all (λ p. free p.args) u.premises) _ e) g)

tuple-closed : (a : Trees) → premises-closed (tuple_rules a) ≡ true
tuple-closed none = refl
tuple-closed (tree tuple k o) = refl
tuple-closed (tree l k o) = refl

fn-ptr-closed : (a : Trees) → premises-closed (fn_ptr_rules a) ≡ true
fn-ptr-closed none = refl
fn-ptr-closed (tree (fn_ptr n) k o) = refl
fn-ptr-closed (tree l k o) = refl

call-closed : (a : Trees) → Shuts a → premises-closed (call_rules a) ≡ true
call-closed (tree (fn_ptr n) types (tree tuple inputs o)) h =
    if-closed (same (but_last types) inputs) (row fn_ptr_call (last_asked sized types))
    (a-row fn_ptr_call (last_asked sized types) (last-closed sized types (child-shut lifetimes (fn_ptr n) types (tree tuple inputs o) h)))
call-closed a h = refl

plain-closed : (r : Reference) → Shuts r.args → premises-closed (plain_rules r) ≡ true
plain-closed r h =
    join-closed (if (r.trait == copy) || (r.trait == clone) then copy_rules r.trait r.args else []) _
    (if-closed ((r.trait == copy) || (r.trait == clone)) (copy_rules r.trait r.args) (copy-closed r.trait r.args h))
    (join-closed (if r.trait == tuple_trait then tuple_rules r.args else []) _ (if-closed (r.trait == tuple_trait) (tuple_rules r.args) (tuple-closed r.args))
    (join-closed (if r.trait == fn_ptr_trait then fn_ptr_rules r.args else []) _ (if-closed (r.trait == fn_ptr_trait) (fn_ptr_rules r.args) (fn-ptr-closed r.args))
    (if-closed (is_fn_trait r.trait) (call_rules r.args) (call-closed r.args h))))

unsize-array-closed : (a : Trees) → premises-closed (unsize_array_rules a) ≡ true
unsize-array-closed (tree array (tree l c n) (tree slice (tree m d p) o)) = if-closed (same (tree l c none) (tree m d none)) (row unsize_array []) refl
unsize-array-closed a = refl

-- each of the rows for equal references asks the same
equal-closed : (b : ℕ → BuiltIn) (ps : List Reference) (r : Reference) (k : ℕ) (ss : List Reference)
    → list_all (λ (p : Reference). free p.args) ps ≡ true → premises-closed (equal_rows b ps r k ss) ≡ true
equal-closed b ps r k ss h = equal-all (λ (u : Rule). list_all (λ (p : Reference). free p.args) u.premises) b ps r k ss (λ n. h)

upcasts-closed : (V : World) (ps qs : List Reference) → premises-closed (upcasts_principal V ps qs) ≡ true
upcasts-closed V ps [] = refl
upcasts-closed V [] (q ∷ qs) = refl
upcasts-closed V (p ∷ ps) (q ∷ qs) = by (p.trait == q.trait)
  where
    by : (b : Bool) → premises-closed (if b then (if same_reference p q then row unsize_dyn [] else []) else equal_rows unsize_upcast [] q 1 (strict_supertraits V p)) ≡ true
    by true = if-closed (same_reference p q) (row unsize_dyn []) refl
    by false = equal-closed unsize_upcast [] q 1 (strict_supertraits V p) refl

unsize-upcast-closed : (V : World) (a : Trees) → premises-closed (unsize_upcast_rules V a) ≡ true
unsize-upcast-closed V (tree dynamic k (tree dynamic b o)) =
    let self = tree dynamic k none in
    let p = principal_with self k in
    let q = principal_with self b in
    if-closed (are_declared V p && upcasts_autos V p (autos_with self k) (autos_with self b)) (upcasts_principal V p q) (upcasts-closed V p q)
unsize-upcast-closed V a = refl

-- lists of references, all closed
abbrev all-closed : List Reference → Bool
all-closed ps = list_all (λ (p : Reference). free p.args) ps

append-closed : (ps qs : List Reference) → all-closed ps ≡ true → all-closed qs ≡ true → all-closed (ps ++ qs) ≡ true
append-closed [] qs h g = g
append-closed (p ∷ ps) qs h g = both (free p.args) _ (left (free p.args) _ h) (append-closed ps qs (right (free p.args) _ h) g)

principal-closed : (self b : Trees) → Shuts self → Shuts b → all-closed (principal_with self b) ≡ true
principal-closed self none h g = refl
principal-closed self (tree (principal n t) k o) h g =
    both (free (self +++ k)) true (closed-by (self +++ k) (append-shut lifetimes self k h (child-shut lifetimes (principal n t) k o g))) refl
principal-closed self (tree l k o) h g = refl

autos-closed : (self b : Trees) → Shuts self → all-closed (autos_with self b) ≡ true
autos-closed self none h = refl
autos-closed self (tree (auto_trait t) k o) h = both (free self) _ (closed-by self h) (autos-closed self o h)
autos-closed self (tree l k o) h = autos-closed self o h

unsize-to-dyn-closed : (V : World) (a : Trees) → Shuts a → premises-closed (unsize_to_dyn_rules V a) ≡ true
unsize-to-dyn-closed V (tree l k (tree dynamic b o)) h =
    if-closed (not (is_dyn l) && are_dyn_compatible V (principal_with self b)) (row unsize_to_dyn (principal_with self b ++ (autos_with self b ++ asked sized self ∷ [])))
    (a-row unsize_to_dyn (principal_with self b ++ (autos_with self b ++ asked sized self ∷ []))
    (append-closed (principal_with self b) (autos_with self b ++ asked sized self ∷ []) (principal-closed self b self-shut bounds-shut)
    (append-closed (autos_with self b) (asked sized self ∷ []) (autos-closed self b self-shut) (both (free self) true (closed-by self self-shut) refl))))
  where
    self : Trees
    self = tree l k none

    self-shut : Shuts self
    self-shut = head-shut lifetimes l k (tree dynamic b o) h

    bounds-shut : Shuts b
    bounds-shut = child-shut lifetimes dynamic b o (next-shut lifetimes l k (tree dynamic b o) h)
unsize-to-dyn-closed V a h = refl

last-unsizes-closed : (fs : List Trees) (a b : Trees) → Shuts a → Shuts b → ((t : Trees) → In t fs → some_node lifetimes t ≡ false) → all-closed (last_unsizes fs a b) ≡ true
last-unsizes-closed [] a b h g f = refl
last-unsizes-closed (t ∷ []) a b h g f =
    both _ true
    (closed-by (instantiate zero a t +++ instantiate zero b t)
    (append-shut lifetimes (instantiate zero a t) (instantiate zero b t) (plain-shut zero a t h (f t (here t []))) (plain-shut zero b t g (f t (here t []))))) refl
last-unsizes-closed (t ∷ v ∷ fs) a b h g f = last-unsizes-closed (v ∷ fs) a b h g (λ x k. f x (there x t (v ∷ fs) k))

module _ (V : World) (fields : (x : StructDecl) (t : Trees) → In x V.structs → In t x.fields → some_node lifetimes t ≡ false) where
  unsize-struct-closed : (a : Trees) → Shuts a → premises-closed (unsize_struct_rules V a) ≡ true
  unsize-struct-closed (tree (adt s) x (tree (adt v) y o)) h =
      if-closed (s == v) (flat_map f (structs_named V s))
      (flat-closed f (structs_named V s)
      (λ d g. if-closed (some_unsizing d.fields 0 x && same (with_unsizing d.fields 0 x y) y) (row unsize_struct (last_unsizes d.fields x y))
      (a-row unsize_struct (last_unsizes d.fields x y)
      (last-unsizes-closed d.fields x y (child-shut lifetimes (adt s) x (tree (adt v) y o) h) (child-shut lifetimes (adt v) y o (next-shut lifetimes (adt s) x (tree (adt v) y o) h))
      (λ t i. fields d t (in-filter (λ (z : StructDecl). z.name == s) V.structs d g).0 i)))))
    where
      f : StructDecl → List Rule
      f d = if some_unsizing d.fields 0 x && same (with_unsizing d.fields 0 x y) y then row unsize_struct (last_unsizes d.fields x y) else []
  unsize-struct-closed a h = refl

  unsize-closed : (a : Trees) → Shuts a → premises-closed (unsize_rules V a) ≡ true
  unsize-closed a h =
      join-closed (unsize_array_rules a) _ (unsize-array-closed a)
      (join-closed (unsize_to_dyn_rules V a) _ (unsize-to-dyn-closed V a h)
      (join-closed (unsize_upcast_rules V a) _ (unsize-upcast-closed V a) (unsize-struct-closed a h)))

object-closed : (V : World) (r : Reference) (a : Trees) → all-closed (strict_supertraits V r) ≡ true → premises-closed (object_rules V r a) ≡ true
object-closed V r none h = refl
object-closed V r (tree dynamic k o) h =
    if-closed (is_declared V r.trait && are_dyn_compatible V p) (autos ++ principal)
    (join-closed autos principal
    (if-closed (not (r.trait == sized) && list_any (same_reference r) q) (row object_auto (strict_supertraits V r)) (a-row object_auto (strict_supertraits V r) h))
    (if-closed (not (r.trait == sized)) (equal_rows object_principal (strict_supertraits V r) r 0 (elaborated V p)) (equal-closed object_principal (strict_supertraits V r) r 0 (elaborated V p) h)))
  where
    p : List Reference
    p = principal_with (tree dynamic k none) k

    q : List Reference
    q = autos_with (tree dynamic k none) k

    autos : List Rule
    autos = if not (r.trait == sized) && list_any (same_reference r) q then row object_auto (strict_supertraits V r) else []

    principal : List Rule
    principal = if not (r.trait == sized) then equal_rows object_principal (strict_supertraits V r) r 0 (elaborated V p) else []
object-closed V r (tree l k o) h = refl

member-closed : (us : List Rule) → premises-closed us ≡ true → (u : Rule) → In u us → (p : Reference) → In p u.premises → free p.args ≡ true
member-closed us h u g p k =
    member-each (λ (q : Reference). free q.args) u.premises p (member-each (λ (v : Rule). list_all (λ q. free q.args) v.premises) us u h g) k

-- rules by where-clauses ask nothing
super-closed : (r : Reference) (k n : ℕ) (ss : List Reference) → premises-closed (super_rules r k n ss) ≡ true
super-closed r k n [] = refl
super-closed r k n (s ∷ ss) =
    join-closed (if same_reference s r then record { way = by_super k n; premises = [] } ∷ [] else []) (super_rules r k (suc n) ss)
    (if-closed (same_reference s r) (record { way = by_super k n; premises = [] } ∷ []) refl) (super-closed r k (suc n) ss)

clause-closed : (W : World) (r : Reference) (k : ℕ) (E : List Reference) → premises-closed (clause_rules W r k E) ≡ true
clause-closed W r k [] = refl
clause-closed W r k (s ∷ ss) =
    join-closed (if same_reference s r then record { way = by_clause k; premises = [] } ∷ [] else []) (super_rules r k 0 (strict_supertraits W s) ++ clause_rules W r (suc k) ss)
    (if-closed (same_reference s r) (record { way = by_clause k; premises = [] } ∷ []) refl)
    (join-closed (super_rules r k 0 (strict_supertraits W s)) (clause_rules W r (suc k) ss) (super-closed r k 0 (strict_supertraits W s)) (clause-closed W r (suc k) ss))

-- each member stays, where all do
same-at : {A : Type 0} (f : A → A) (xs : List A) → map f xs ≡ xs → (x : A) → In x xs → f x ≡ x
same-at f [] e x h = absurd (in-nothing x h)
same-at {A = A} f (y ∷ xs) e x h = by (in-cases x y xs h) (same-at f xs tail x)
  where
    head : f y ≡ y
    head = cc

    tail : map f xs ≡ xs
    tail = cc

    by : (y ≡ x) ⊎ In x xs → (In x xs → f x ≡ x) → f x ≡ x
    by (inl q) g = subst (λ z. f z ≡ z) q head
    by (inr q) g = g q

reference-free : (r : Reference) → erased_reference r ≡ r → some_node lifetimes r.args ≡ false
reference-free r e = term-free r.args (ap (λ (x : Reference). x.args) e)

module _ (W : World) (t : IsTerms W) where
  fields-free : (x : StructDecl) (y : Trees) → In x W.structs → In y x.fields → some_node lifetimes y ≡ false
  fields-free x y h g = term-free y (same-at erase x.fields (ap (λ (z : StructDecl). z.fields) (same-at erased_struct W.structs (ap (λ (z : World). z.structs) t) x h)) y g)

  bounds-free : (x : TraitDecl) (b : Reference) → In x W.traits → In b x.bounds → some_node lifetimes b.args ≡ false
  bounds-free x b h g = reference-free b (same-at erased_reference x.bounds (ap (λ (z : TraitDecl). z.bounds) (same-at erased_trait W.traits (ap (λ (z : World). z.traits) t) x h)) b g)

  clauses-free : (i : ImplDecl) (k : Reference) → In i W.impls → In k i.clauses → some_node lifetimes k.args ≡ false
  clauses-free i k h g = reference-free k (same-at erased_reference i.clauses (ap (λ (z : ImplDecl). z.clauses) (same-at erased_impl W.impls (ap (λ (z : World). z.impls) t) i h)) k g)

  pub terms-of-terms : (E : List Reference) (r : Reference) → IsErasedTerm r.args → (u : Rule) → In u (rules W E r) → (p : Reference) → In p u.premises → IsErasedTerm p.args
  terms-of-terms E r z u h p g = free-term p.args (not-true (some_node lifetimes p.args) (by (in-append u (flat_map (impl_rules r) W.impls) (built_in_rules W r ++ clause_rules W r 0 E) h)))
    where
      rs : Shuts r.args
      rs = term-free r.args z

      supers-free : list_all (λ (q : Reference). free q.args) (strict_supertraits W r) ≡ true
      supers-free = each-member (λ (q : Reference). free q.args) (strict_supertraits W r) (λ x m. closed-by x.args (supers-shut W bounds-free (length W.traits) r x rs m))

      built-in-free : premises-closed (built_in_rules W r) ≡ true
      built-in-free =
          join-closed (plain_rules r) _ (plain-closed r rs)
          (join-closed (if r.trait == sized then sized_rules W r.args else []) _ (if-closed (r.trait == sized) (sized_rules W r.args) (sized-closed W fields-free r.args rs))
          (join-closed (if is_auto W r.trait then auto_rules W r.trait r.args else []) _ (if-closed (is_auto W r.trait) (auto_rules W r.trait r.args) (auto-all-closed W fields-free r.trait r.args rs))
          (join-closed (if r.trait == unsize then unsize_rules W r.args else []) _ (if-closed (r.trait == unsize) (unsize_rules W r.args) (unsize-closed W fields-free r.args rs))
          (object-closed W r r.args supers-free))))

      rest : In u (built_in_rules W r) ⊎ In u (clause_rules W r 0 E) → free p.args ≡ true
      rest (inl m) = member-closed (built_in_rules W r) built-in-free u m p g
      rest (inr m) = member-closed (clause_rules W r 0 E) (clause-closed W r 0 E) u m p g

      by : In u (flat_map (impl_rules r) W.impls) ⊎ In u (built_in_rules W r ++ clause_rules W r 0 E) → free p.args ≡ true
      by (inl m) =
          let i = in-flat (impl_rules r) W.impls u m in
          let b = impl-rule r i.0 u i.2 in
          closed-by p.args
          (all-plain-shut (arguments i.0.params i.0.header.args r.args) i.0.clauses (arguments-free 0 i.0.params i.0.header.args r.args rs) (λ k j. clauses-free i.0 k i.1 j) p
          (subst (λ (v : Rule). In p v.premises) (sym b.is-rule) g))
      by (inr m) = rest (in-append u (built_in_rules W r) (clause_rules W r 0 E) m)

pub every-of : (P : Reference → Type 0) (ps : List Reference) → ((p : Reference) → In p ps → P p) → Every P ps
every-of P [] f = tt
every-of P (p ∷ ps) f = (f p (here p ps), every-of P ps (λ q h. f q (there q p ps h)))

pub rules-ask-terms : (W : World) → IsTerms W → (E : List Reference) (r : Reference) → IsErasedTerm r.args → (u : Rule) → In u (rules W E r) → Every (λ (p : Reference). IsErasedTerm p.args) u.premises
rules-ask-terms W t E r z u h = every-of (λ (p : Reference). IsErasedTerm p.args) u.premises (terms-of-terms W t E r z u h)

-- An erased world is one of terms, and its views are those of the world, erased
label-twice : (l : Label) → erase_label (erase_label l) ≡ erase_label l
label-twice (fn_ptr _) = refl
label-twice (principal _ i) = refl
label-twice (param of_lifetime _) = refl
label-twice (placeholder of_lifetime _) = refl
label-twice (infer of_lifetime _) = refl
label-twice (canonical of_lifetime _) = refl
label-twice (bound of_lifetime _ _) = refl
label-twice (param of_type _) = refl
label-twice (placeholder of_type _) = refl
label-twice (infer of_type _) = refl
label-twice (canonical of_type _) = refl
label-twice (bound of_type _ _) = refl
label-twice (param of_const _) = refl
label-twice (placeholder of_const _) = refl
label-twice (infer of_const _) = refl
label-twice (canonical of_const _) = refl
label-twice (bound of_const _ _) = refl
label-twice l = refl

erase-twice : (t : Trees) → erase (erase t) ≡ erase t
erase-twice none = refl
erase-twice (tree l c o) = node (label-twice l) (erase-twice c) (erase-twice o)
  where
    node : {l l' : Label} {c c' o o' : Trees} → l ≡ l' → c ≡ c' → o ≡ o' → tree l c o ≡ tree l' c' o'
    node p q r = cc

map-twice : {A : Type 0} (f : A → A) → ((x : A) → f (f x) ≡ f x) → (xs : List A) → map f (map f xs) ≡ map f xs
map-twice f h [] = refl
map-twice {A = A} f h (x ∷ xs) = join (h x) (map-twice f h xs)
  where
    join : {a b : A} {c d : List A} → a ≡ b → c ≡ d → a ∷ c ≡ b ∷ d
    join p q = cc

reference-twice : (r : Reference) → erased_reference (erased_reference r) ≡ erased_reference r
reference-twice r = ap (λ z. (let x : Reference = record { trait = r.trait; args = z } in x)) (erase-twice r.args)

struct-twice : (x : StructDecl) → erased_struct (erased_struct x) ≡ erased_struct x
struct-twice x = ap (λ z. (let y : StructDecl = record { name = x.name; home = x.home; is_fundamental = x.is_fundamental; fields = z } in y)) (map-twice erase erase-twice x.fields)

trait-twice : (x : TraitDecl) → erased_trait (erased_trait x) ≡ erased_trait x
trait-twice x =
    ap (λ z. (let y : TraitDecl = record { name = x.name; home = x.home; is_fundamental = x.is_fundamental; is_auto = x.is_auto; bounds = z } in y)) (map-twice erased_reference reference-twice x.bounds)

impl-twice : (x : ImplDecl) → erased_impl (erased_impl x) ≡ erased_impl x
impl-twice x = join _ _ _ _ (reference-twice x.header) (map-twice erased_reference reference-twice x.clauses)
  where
    join : (r r' : Reference) (ks ks' : List Reference) → r ≡ r' → ks ≡ ks'
        → (let y : ImplDecl = record { name = x.name; home = x.home; params = x.params; header = r; clauses = ks } in y) ≡ record { name = x.name; home = x.home; params = x.params; header = r'; clauses = ks' }
    join r r' ks ks' p q = cc

worlds-same : (cs : List CrateDecl) (ss ss' : List StructDecl) (ts ts' : List TraitDecl) (is is' : List ImplDecl) → ss ≡ ss' → ts ≡ ts' → is ≡ is'
    → (let W : World = record { crates = cs; structs = ss; traits = ts; impls = is } in W) ≡ record { crates = cs; structs = ss'; traits = ts'; impls = is' }
worlds-same cs ss ss' ts ts' is is' p q r = cc

pub erased-is-terms : (W : World) → IsTerms (erased_world W)
erased-is-terms W = worlds-same W.crates _ _ _ _ _ _ (map-twice erased_struct struct-twice W.structs) (map-twice erased_trait trait-twice W.traits) (map-twice erased_impl impl-twice W.impls)

any-same : {A : Type 0} (p q : A → Bool) → ((x : A) → p x ≡ q x) → (xs : List A) → list_any p xs ≡ list_any q xs
any-same p q h [] = refl
any-same p q h (x ∷ xs) = join (h x) (any-same p q h xs)
  where
    join : {a b c d : Bool} → a ≡ b → c ≡ d → a || c ≡ b || d
    join e f = cc

pub sees-same : (n : ℕ) (W : World) (c d : ℕ) → sees_within n (erased_world W) c d ≡ sees_within n W c d
sees-same zero W c d = refl
sees-same (suc n) W c d =
    join refl
    (any-same (λ (x : CrateDecl). list_any (λ u. sees_within n (erased_world W) u d) x.uses) (λ (x : CrateDecl). list_any (λ u. sees_within n W u d) x.uses)
    (λ x. any-same (λ u. sees_within n (erased_world W) u d) (λ u. sees_within n W u d) (λ u. sees-same n W u d) x.uses) (crates_named W c))
  where
    join : {a b c d : Bool} → a ≡ b → c ≡ d → a || c ≡ b || d
    join e f = cc

pub filter-map : {A : Type 0} (f : A → A) (p q : A → Bool) → ((x : A) → p (f x) ≡ q x) → (xs : List A) → filter p (map f xs) ≡ map f (filter q xs)
filter-map f p q h [] = refl
filter-map {A = A} f p q h (x ∷ xs) = by (p (f x)) (q x) (h x) (filter-map f p q h xs)
  where
    by : (a b : Bool) → a ≡ b → filter p (map f xs) ≡ map f (filter q xs) → cond a (f x ∷ filter p (map f xs)) (filter p (map f xs)) ≡ map f (cond b (x ∷ filter q xs) (filter q xs))
    by true true e g = ap (λ z. f x ∷ z) g
    by true false e g = cc
    by false true e g = cc
    by false false e g = g

filter-same : {A : Type 0} (p q : A → Bool) → ((x : A) → p x ≡ q x) → (xs : List A) → filter p xs ≡ filter q xs
filter-same p q h [] = refl
filter-same {A = A} p q h (x ∷ xs) = by (p x) (q x) (h x) (filter-same p q h xs)
  where
    by : (a b : Bool) → a ≡ b → filter p xs ≡ filter q xs → cond a (x ∷ filter p xs) (filter p xs) ≡ cond b (x ∷ filter q xs) (filter q xs)
    by true true e g = ap (λ z. x ∷ z) g
    by true false e g = cc
    by false true e g = cc
    by false false e g = g

pub erased-views : (W : World) (c : ℕ) → view_of (erased_world W) c ≡ erased_world (view_of W c)
erased-views W c =
    all-same (filter-same (λ (x : CrateDecl). sees (erased_world W) c x.name) (λ (x : CrateDecl). sees W c x.name) (λ x. sees-same (length W.crates) W c x.name) W.crates)
    (filter-map erased_struct (λ (x : StructDecl). sees (erased_world W) c x.home) (λ (x : StructDecl). sees W c x.home) (λ x. sees-same (length W.crates) W c x.home) W.structs)
    (filter-map erased_trait (λ (x : TraitDecl). sees (erased_world W) c x.home) (λ (x : TraitDecl). sees W c x.home) (λ x. sees-same (length W.crates) W c x.home) W.traits)
    (filter-map erased_impl (λ (x : ImplDecl). sees (erased_world W) c x.home) (λ (x : ImplDecl). sees W c x.home) (λ x. sees-same (length W.crates) W c x.home) W.impls)
  where
    all-same : {cs cs' : List CrateDecl} {ss ss' : List StructDecl} {ts ts' : List TraitDecl} {is is' : List ImplDecl} → cs ≡ cs' → ss ≡ ss' → ts ≡ ts' → is ≡ is'
        → (let V : World = record { crates = cs; structs = ss; traits = ts; impls = is } in V) ≡ record { crates = cs'; structs = ss'; traits = ts'; impls = is' }
    all-same p q r s = cc
