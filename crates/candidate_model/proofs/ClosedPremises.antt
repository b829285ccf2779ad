-- By a view that is declared well what closed references lead to is closed.
use Rattle.std.proofs.Common.{◌≡◌, ℕ, zero, suc, ◌==◌, Bool, true, false, not, ◌&&◌, ◌||◌, if◌then◌else◌, List, [], ◌∷◌, ◌++◌, map, length, ◌⊎◌, inl, inr, refl, sym, subst}
use Rattle.std.specs.List.{flat_map, list_all}
use Rattle.type_terms.specs.Promised.Label.{Label, array, slice, str, tuple, dynamic, adt, fn_ptr, raw_pointer, ref, auto_trait, principal, placeholder, infer, canonical, bound, predicate, bool, char, never, int, uint}
use Rattle.type_terms.specs.Promised.Trees.{Trees, none, tree, leaf, ◌+++◌, instantiate, is_sort, sort_of, some_node}
use Rattle.type_terms.specs.Trees.{is_no_tree, arguments}
use Rattle.type_terms.specs.Promised.Label.{of_lifetime}
use Rattle.type_terms.specs.Codes.{same}
use Rattle.type_terms.specs.Promised.Worlds.{World, Reference, StructDecl, TraitDecl, structs_named, traits_named, with_args, all_with_args}
use Rattle.type_terms.specs.Promised.Rules.{BuiltIn, Rule, row, rules, impl_rules, built_in_rules, plain_rules, sized, copy, clone, tuple_trait, fn_ptr_trait, is_fn_trait, unsize, is_auto, sized_rules, copy_rules, auto_rules, auto_rules_plain, tuple_rules, fn_ptr_rules, call_rules, but_last, unsize_rules, unsize_array_rules, unsize_to_dyn_rules, unsize_upcast_rules, unsize_struct_rules, upcasts_principal, upcasts_autos, equal_rows, same_reference, some_unsizing, with_unsizing, last_unsizes, object_rules, principal_with, autos_with, are_declared, are_dyn_compatible, is_dyn, is_written, strict_supertraits, strict_supertraits_within, written_supertraits, fields_of, together, each_asked, last_asked, asked}
use Rattle.type_terms.specs.Promised.Rules as Model
use Rattle.type_terms.specs.Promised.Proofs.{In}
use Rattle.type_terms.specs.Promised.Answers.{is_closed, is_open, children}
use Rattle.type_terms.specs.Promised.Walks.{is_known_in}
use Rattle.type_terms.specs.Promised.LinkedSet.{is_stray}
use Rattle.type_terms.proofs.Members.{in-nothing, in-cases, in-append, in-flat, in-filter}
use Rattle.type_terms.proofs.ProofEntries.{map-in}
use Rattle.type_terms.proofs.Fitting.{impl-rule, closed-arguments, append-shut, head-shut, child-shut, next-shut, or-no}
use Rattle.type_terms.proofs.NoHolds.{member-each}
use Rattle.type_terms.proofs.OpenWorld.{object-premises}
use Rattle.type_terms.proofs.Walking.{left, right}
use Rattle.type_terms.specs.Made.{terms, is_made, is_leaf_label}
use Rattle.type_terms.specs.Made.{bounds}
use Rattle.type_terms.specs.Made.{traits}
use Rattle.candidate_model.specs.Declared.{is_declared_leaf, is_counted, are_terms, is_declared_view}
use Rattle.candidate_model.proofs.Instances.{Shut}
use Rattle.candidate_model.proofs.Supers.{plain-shut, open-none, none-open}
use Rattle.candidate_model.proofs.DeclaredParts.{clause-declared, bound-declared}
use Rattle.type_terms.proofs.BooleanBasics.{true-false}

-- what a closed reference leads to is closed
abbrev pub LeadsToClosed : World → ℕ → Type 0
LeadsToClosed V crate = (r s : Reference) → is_closed r.args ≡ true → In s (children V crate r) → is_closed s.args ≡ true

-- ---- what is declared holds no open place but parameters
pub node-none : (p : Label → Bool) (l : Label) (c o : Trees) → p l ≡ false → some_node p c ≡ false → some_node p o ≡ false → some_node p (tree l c o) ≡ false
node-none p l c o e f g = or-no (p l || some_node p c) (some_node p o) (or-no (p l) (some_node p c) e f) g

no-tree : (t : Trees) → is_no_tree t ≡ true → some_node is_stray t ≡ false
no-tree none e = refl
no-tree (tree l c o) e = absurd (true-false (sym e))

last-so : (l : Label) (c o : Trees) → is_stray l ≡ false → is_declared_leaf l && (is_sort (sort_of l) of_lifetime && (is_no_tree c && is_no_tree o)) ≡ true → some_node is_stray (tree l c o) ≡ false
last-so l c o e m =
    let x = right (is_sort (sort_of l) of_lifetime) (is_no_tree c && is_no_tree o) (right (is_declared_leaf l) (is_sort (sort_of l) of_lifetime && (is_no_tree c && is_no_tree o)) m) in
    node-none is_stray l c o e (no-tree c (left (is_no_tree c) (is_no_tree o) x)) (no-tree o (right (is_no_tree c) (is_no_tree o) x))

parts : (x y z w : Bool) → x && (y && (z && w)) ≡ true → (z ≡ true) × (w ≡ true)
parts x y z w m = let q = right y (z && w) (right x (y && (z && w)) m) in (left z w q, right z w q)

mutual
  plain-terms : (t : Trees) → is_made is_declared_leaf terms t ≡ true → some_node is_stray t ≡ false
  plain-terms none m = refl
  plain-terms (tree dynamic c o) m = node-none is_stray dynamic c o refl (plain-bounds c (left (is_made is_declared_leaf bounds c) (is_made is_declared_leaf terms o) m)) (plain-terms o (right (is_made is_declared_leaf bounds c) (is_made is_declared_leaf terms o) m))
  plain-terms (tree (principal n i) c o) m = absurd (true-false (sym m))
  plain-terms (tree (auto_trait i) c o) m = absurd (true-false (sym m))
  plain-terms (tree (predicate k) c o) m = absurd (true-false (sym m))
  plain-terms (tree (placeholder k i) c o) m = absurd (true-false (sym m))
  plain-terms (tree (infer k i) c o) m = absurd (true-false (sym m))
  plain-terms (tree (canonical k i) c o) m = absurd (true-false (sym m))
  plain-terms (tree (bound k j i) c o) m = absurd (true-false (sym m))
  plain-terms (tree l c o) m = let x = parts (is_declared_leaf l) (not (is_leaf_label l) || is_no_tree c) (is_made is_declared_leaf terms c) (is_made is_declared_leaf terms o) m in node-none is_stray l c o refl (plain-terms c x.0) (plain-terms o x.1)

  plain-bounds : (t : Trees) → is_made is_declared_leaf bounds t ≡ true → some_node is_stray t ≡ false
  plain-bounds none m = refl
  plain-bounds (tree (principal n i) c o) m =
      node-none is_stray (principal n i) c o refl (plain-terms c (left (is_made is_declared_leaf terms c) (is_made is_declared_leaf traits o) m)) (plain-traits o (right (is_made is_declared_leaf terms c) (is_made is_declared_leaf traits o) m))
  plain-bounds (tree (auto_trait i) c o) m = node-none is_stray (auto_trait i) c o refl (no-tree c (left (is_no_tree c) (is_made is_declared_leaf traits o) m)) (plain-traits o (right (is_no_tree c) (is_made is_declared_leaf traits o) m))
  plain-bounds (tree (predicate k) c o) m = absurd (true-false (sym m))
  plain-bounds (tree (placeholder k i) c o) m = absurd (true-false (sym m))
  plain-bounds (tree (infer k i) c o) m = absurd (true-false (sym m))
  plain-bounds (tree (canonical k i) c o) m = absurd (true-false (sym m))
  plain-bounds (tree (bound k j i) c o) m = absurd (true-false (sym m))
  plain-bounds (tree l c o) m = last-so l c o refl m

  plain-traits : (t : Trees) → is_made is_declared_leaf traits t ≡ true → some_node is_stray t ≡ false
  plain-traits none m = refl
  plain-traits (tree (auto_trait i) c o) m = node-none is_stray (auto_trait i) c o refl (no-tree c (left (is_no_tree c) (is_made is_declared_leaf traits o) m)) (plain-traits o (right (is_no_tree c) (is_made is_declared_leaf traits o) m))
  plain-traits (tree (predicate k) c o) m = absurd (true-false (sym m))
  plain-traits (tree (placeholder k i) c o) m = absurd (true-false (sym m))
  plain-traits (tree (infer k i) c o) m = absurd (true-false (sym m))
  plain-traits (tree (canonical k i) c o) m = absurd (true-false (sym m))
  plain-traits (tree (bound k j i) c o) m = absurd (true-false (sym m))
  plain-traits (tree l c o) m = last-so l c o refl m

pub plain : (t : Trees) → are_terms t ≡ true → some_node is_stray t ≡ false
plain t e = plain-terms t (left (is_made is_declared_leaf terms t) (not (some_node is_counted t)) e)

-- ---- lists of references and of rules
abbrev AreShut : List Reference → Type 0
AreShut ps = (p : Reference) → In p ps → Shut p.args

abbrev Rows : List Rule → Type 0
Rows us = (u : Rule) → In u us → AreShut u.premises

no-references : AreShut []
no-references p i = absurd (in-nothing p i)

one-more : (r : Reference) (ps : List Reference) → Shut r.args → AreShut ps → AreShut (r ∷ ps)
one-more r ps h g p i = by (in-cases p r ps i)
  where
    by : (r ≡ p) ⊎ In p ps → Shut p.args
    by (inl q) = subst (λ (z : Reference). Shut z.args) q h
    by (inr j) = g p j

both-lists : (ps qs : List Reference) → AreShut ps → AreShut qs → AreShut (ps ++ qs)
both-lists ps qs h g p i = by (in-append p ps qs i)
  where
    by : In p ps ⊎ In p qs → Shut p.args
    by (inl j) = h p j
    by (inr j) = g p j

no-rows : Rows []
no-rows u i = absurd (in-nothing u i)

one-row : (b : BuiltIn) (ps : List Reference) → AreShut ps → Rows (row b ps)
one-row b ps h u i = by (in-cases u (record { way = Model.built_in b; premises = ps }) [] i)
  where
    by : (record { way = Model.built_in b; premises = ps } ≡ u) ⊎ In u [] → AreShut u.premises
    by (inl q) = subst (λ (z : Rule). AreShut z.premises) q h
    by (inr j) = absurd (in-nothing u j)

both-rows : (us ws : List Rule) → Rows us → Rows ws → Rows (us ++ ws)
both-rows us ws h g u i = by (in-append u us ws i)
  where
    by : In u us ⊎ In u ws → AreShut u.premises
    by (inl j) = h u j
    by (inr j) = g u j

if-rows : (b : Bool) (us : List Rule) → Rows us → Rows (if b then us else [])
if-rows true us h = h
if-rows false us h = no-rows

flat-rows : {A : Type 0} (f : A → List Rule) (xs : List A) → ((x : A) → In x xs → Rows (f x)) → Rows (flat_map f xs)
flat-rows f xs h u i = let m = in-flat f xs u i in h m.0 m.1 u m.2

each-so : (t : ℕ) (a : Trees) → Shut a → AreShut (each_asked t a)
each-so t none h = no-references
each-so t (tree l c o) h = one-more (asked t (tree l c none)) (each_asked t o) (head-shut is_open l c o h) (each-so t o (next-shut is_open l c o h))

last-asked-so : (t : ℕ) (a : Trees) → Shut a → AreShut (last_asked t a)
last-asked-so t none h = no-references
last-asked-so t (tree l c none) h = one-more (asked t (tree l c none)) [] h no-references
last-asked-so t (tree l c (tree m d o)) h = last-asked-so t (tree m d o) (next-shut is_open l c (tree m d o) h)

equal-so : (b : ℕ → BuiltIn) (ps : List Reference) (r : Reference) (k : ℕ) (ss : List Reference) → AreShut ps → Rows (equal_rows b ps r k ss)
equal-so b ps r k [] h = no-rows
equal-so b ps r k (s ∷ ss) h = both-rows (if same_reference r s then row (b k) ps else []) (equal_rows b ps r (suc k) ss) (if-rows (same_reference r s) (row (b k) ps) (one-row (b k) ps h)) (equal-so b ps r (suc k) ss h)

-- ---- rules that read no view
copy-so : (t : ℕ) (a : Trees) → Shut a → Rows (copy_rules t a)
copy-so t none h = no-rows
copy-so t (tree (fn_ptr n) c o) h = one-row Model.copy_fn_ptr [] no-references
copy-so t (tree tuple c o) h = one-row Model.copy_tuple (each_asked t c) (each-so t c (child-shut is_open tuple c o h))
copy-so t (tree l c o) h = no-rows

tuple-so : (a : Trees) → Rows (tuple_rules a)
tuple-so none = no-rows
tuple-so (tree tuple c o) = one-row Model.tuple_of_tuple [] no-references
tuple-so (tree l c o) = no-rows

fn-ptr-so : (a : Trees) → Rows (fn_ptr_rules a)
fn-ptr-so none = no-rows
fn-ptr-so (tree (fn_ptr n) c o) = one-row Model.fn_ptr_of_fn_ptr [] no-references
fn-ptr-so (tree l c o) = no-rows

call-so : (a : Trees) → Shut a → Rows (call_rules a)
call-so (tree (fn_ptr n) types (tree tuple inputs o)) h =
    if-rows (same (but_last types) inputs) (row Model.fn_ptr_call (last_asked sized types)) (one-row Model.fn_ptr_call (last_asked sized types) (last-asked-so sized types (child-shut is_open (fn_ptr n) types (tree tuple inputs o) h)))
call-so a h = no-rows

array-so : (a : Trees) → Rows (unsize_array_rules a)
array-so (tree array (tree l c n) (tree slice (tree m d p) o)) = if-rows (same (tree l c none) (tree m d none)) (row Model.unsize_array []) (one-row Model.unsize_array [] no-references)
array-so a = no-rows

principal-so : (self bounds : Trees) → Shut self → Shut bounds → AreShut (principal_with self bounds)
principal-so self (tree (principal n t) args o) h g = one-more (record { trait = t; args = self +++ args }) [] (append-shut is_open self args h (child-shut is_open (principal n t) args o g)) no-references
principal-so self none h g = no-references
principal-so self (tree l c o) h g = no-references

autos-so : (self bounds : Trees) → Shut self → AreShut (autos_with self bounds)
autos-so self none h = no-references
autos-so self (tree (auto_trait t) c o) h = one-more (asked t self) (autos_with self o) h (autos-so self o h)
autos-so self (tree l c o) h = autos-so self o h

upcast-principal-so : (V : World) (ps qs : List Reference) → Rows (upcasts_principal V ps qs)
upcast-principal-so V ps [] = one-row Model.unsize_dyn [] no-references
upcast-principal-so V [] (q ∷ qs) = no-rows
upcast-principal-so V (p ∷ ps) (q ∷ qs) = by (p.trait == q.trait)
  where
    by : (b : Bool) → Rows (if b then (if same_reference p q then row Model.unsize_dyn [] else []) else equal_rows Model.unsize_upcast [] q 1 (strict_supertraits V p))
    by true = if-rows (same_reference p q) (row Model.unsize_dyn []) (one-row Model.unsize_dyn [] no-references)
    by false = equal-so Model.unsize_upcast [] q 1 (strict_supertraits V p) no-references

module _ (V : World) (declared : is_declared_view V ≡ true) where
  -- ---- fields
  field-declared : (x : StructDecl) → In x V.structs → list_all are_terms x.fields ≡ true
  field-declared x i = member-each (λ (y : StructDecl). list_all are_terms y.fields) V.structs x (left (list_all (λ (y : StructDecl). list_all are_terms y.fields) V.structs) _ declared) i

  together-so : (A : Trees) → Shut A → (fs : List Trees) → list_all are_terms fs ≡ true → Shut (together (map (instantiate zero A) fs))
  together-so A h [] e = refl
  together-so A h (f ∷ fs) e =
      append-shut is_open (instantiate zero A f) (together (map (instantiate zero A) fs)) (plain-shut zero A f h (plain f (left (are_terms f) (list_all are_terms fs) e))) (together-so A h fs (right (are_terms f) (list_all are_terms fs) e))

  fields-so : (s : ℕ) (x : StructDecl) → In x (structs_named V s) → (A : Trees) → Shut A → Shut (fields_of x A)
  fields-so s x i A h = together-so A h x.fields (field-declared x (in-filter (λ (y : StructDecl). y.name == s) V.structs x i).0)

  -- ---- rows
  leaf-row : (b : BuiltIn) → Rows (row b [])
  leaf-row b = one-row b [] no-references

  sized-so : (t : Trees) → Shut t → Rows (sized_rules V t)
  sized-so none h = no-rows
  sized-so (tree tuple c o) h = one-row Model.sized_tuple (last_asked sized c) (last-asked-so sized c (child-shut is_open tuple c o h))
  sized-so (tree (adt s) A o) h =
      flat-rows (λ x. row Model.sized_struct (last_asked sized (fields_of x A))) (structs_named V s)
      (λ x i. one-row Model.sized_struct (last_asked sized (fields_of x A)) (last-asked-so sized (fields_of x A) (fields-so s x i A (child-shut is_open (adt s) A o h))))
  sized-so (tree bool c o) h = leaf-row Model.sized_leaf
  sized-so (tree char c o) h = leaf-row Model.sized_leaf
  sized-so (tree never c o) h = leaf-row Model.sized_leaf
  sized-so (tree (int n) c o) h = leaf-row Model.sized_leaf
  sized-so (tree (uint n) c o) h = leaf-row Model.sized_leaf
  sized-so (tree (fn_ptr n) c o) h = leaf-row Model.sized_leaf
  sized-so (tree (raw_pointer b) c o) h = leaf-row Model.sized_leaf
  sized-so (tree (ref b) c o) h = leaf-row Model.sized_leaf
  sized-so (tree array c o) h = leaf-row Model.sized_leaf
  sized-so (tree l c o) h = no-rows

  element-so : (t : ℕ) (l : Label) (c o : Trees) → Shut (tree l c o) → Rows (row Model.auto_element (asked t (tree l c none) ∷ []))
  element-so t l c o h = one-row Model.auto_element (asked t (tree l c none) ∷ []) (one-more (asked t (tree l c none)) [] (head-shut is_open l c o h) no-references)

  auto-plain-so : (t : ℕ) (x : Trees) → Shut x → Rows (auto_rules_plain V t x)
  auto-plain-so t none h = no-rows
  auto-plain-so t (tree tuple c o) h = one-row Model.auto_tuple (each_asked t c) (each-so t c (child-shut is_open tuple c o h))
  auto-plain-so t (tree (adt s) A o) h =
      flat-rows (λ x. row Model.auto_struct (each_asked t (fields_of x A))) (structs_named V s)
      (λ x i. one-row Model.auto_struct (each_asked t (fields_of x A)) (each-so t (fields_of x A) (fields-so s x i A (child-shut is_open (adt s) A o h))))
  auto-plain-so t (tree bool c o) h = leaf-row Model.auto_leaf
  auto-plain-so t (tree char c o) h = leaf-row Model.auto_leaf
  auto-plain-so t (tree never c o) h = leaf-row Model.auto_leaf
  auto-plain-so t (tree (int n) c o) h = leaf-row Model.auto_leaf
  auto-plain-so t (tree (uint n) c o) h = leaf-row Model.auto_leaf
  auto-plain-so t (tree (fn_ptr n) c o) h = leaf-row Model.auto_leaf
  auto-plain-so t (tree str c o) h = one-row Model.auto_str (asked t (tree slice (leaf (uint 0)) none) ∷ []) (one-more (asked t (tree slice (leaf (uint 0)) none)) [] refl no-references)
  auto-plain-so t (tree (raw_pointer b) none o) h = no-rows
  auto-plain-so t (tree (raw_pointer b) (tree l c q) o) h = element-so t l c q (child-shut is_open (raw_pointer b) (tree l c q) o h)
  auto-plain-so t (tree array none o) h = no-rows
  auto-plain-so t (tree array (tree l c q) o) h = element-so t l c q (child-shut is_open array (tree l c q) o h)
  auto-plain-so t (tree slice none o) h = no-rows
  auto-plain-so t (tree slice (tree l c q) o) h = element-so t l c q (child-shut is_open slice (tree l c q) o h)
  auto-plain-so t (tree (ref b) none o) h = no-rows
  auto-plain-so t (tree (ref b) (tree r d none) o) h = no-rows
  auto-plain-so t (tree (ref b) (tree r d (tree l c q)) o) h = element-so t l c q (next-shut is_open r d (tree l c q) (child-shut is_open (ref b) (tree r d (tree l c q)) o h))
  auto-plain-so t (tree l c o) h = no-rows

  auto-so : (t : ℕ) (x : Trees) → Shut x → Rows (auto_rules V t x)
  auto-so t none h = no-rows
  auto-so t (tree l c o) h = by (is_written V t l)
    where
      by : (b : Bool) → Rows (if b then [] else auto_rules_plain V t (tree l c o))
      by true = no-rows
      by false = auto-plain-so t (tree l c o) h

  to-dyn-so : (a : Trees) → Shut a → Rows (unsize_to_dyn_rules V a)
  to-dyn-so (tree l c (tree dynamic k o)) h =
      let self = head-shut is_open l c (tree dynamic k o) h in
      let inner = child-shut is_open dynamic k o (next-shut is_open l c (tree dynamic k o) h) in
      if-rows (not (is_dyn l) && are_dyn_compatible V (principal_with (tree l c none) k)) (row Model.unsize_to_dyn (principal_with (tree l c none) k ++ (autos_with (tree l c none) k ++ asked sized (tree l c none) ∷ [])))
      (one-row Model.unsize_to_dyn (principal_with (tree l c none) k ++ (autos_with (tree l c none) k ++ asked sized (tree l c none) ∷ []))
      (both-lists (principal_with (tree l c none) k) (autos_with (tree l c none) k ++ asked sized (tree l c none) ∷ []) (principal-so (tree l c none) k self inner)
      (both-lists (autos_with (tree l c none) k) (asked sized (tree l c none) ∷ []) (autos-so (tree l c none) k self) (one-more (asked sized (tree l c none)) [] self no-references))))
  to-dyn-so none h = no-rows
  to-dyn-so (tree l c none) h = no-rows
  to-dyn-so (tree l c (tree m d o)) h = no-rows

  upcast-so : (a : Trees) → Rows (unsize_upcast_rules V a)
  upcast-so (tree dynamic b (tree dynamic d o)) =
      let self = tree dynamic b none in
      if-rows (are_declared V (principal_with self b) && upcasts_autos V (principal_with self b) (autos_with self b) (autos_with self d)) (upcasts_principal V (principal_with self b) (principal_with self d))
      (upcast-principal-so V (principal_with self b) (principal_with self d))
  upcast-so a = no-rows

  last-unsizes-so : (fs : List Trees) (a b : Trees) → Shut a → Shut b → list_all are_terms fs ≡ true → AreShut (last_unsizes fs a b)
  last-unsizes-so [] a b h g e = no-references
  last-unsizes-so (f ∷ []) a b h g e =
      let p = plain f (left (are_terms f) true e) in
      one-more (record { trait = unsize; args = instantiate zero a f +++ instantiate zero b f }) [] (append-shut is_open (instantiate zero a f) (instantiate zero b f) (plain-shut zero a f h p) (plain-shut zero b f g p)) no-references
  last-unsizes-so (f ∷ k ∷ fs) a b h g e = last-unsizes-so (k ∷ fs) a b h g (right (are_terms f) (list_all are_terms (k ∷ fs)) e)

  struct-so : (a : Trees) → Shut a → Rows (unsize_struct_rules V a)
  struct-so (tree (adt s) b (tree (adt u) d o)) h =
      if-rows (s == u) (flat_map (λ x. if some_unsizing x.fields 0 b && same (with_unsizing x.fields 0 b d) d then row Model.unsize_struct (last_unsizes x.fields b d) else []) (structs_named V s))
      (flat-rows (λ (x : StructDecl). if some_unsizing x.fields 0 b && same (with_unsizing x.fields 0 b d) d then row Model.unsize_struct (last_unsizes x.fields b d) else []) (structs_named V s)
      (λ x i. if-rows (some_unsizing x.fields 0 b && same (with_unsizing x.fields 0 b d) d) (row Model.unsize_struct (last_unsizes x.fields b d))
      (one-row Model.unsize_struct (last_unsizes x.fields b d)
      (last-unsizes-so x.fields b d (child-shut is_open (adt s) b (tree (adt u) d o) h) (child-shut is_open (adt u) d o (next-shut is_open (adt s) b (tree (adt u) d o) h))
      (field-declared x (in-filter (λ (y : StructDecl). y.name == s) V.structs x i).0)))))
  struct-so a h = no-rows

  -- ---- supertraits
  written-so : (r : Reference) → Shut r.args → AreShut (written_supertraits V r)
  written-so r h p i =
      let m = in-flat (λ (t : TraitDecl). all_with_args r.args t.bounds) (traits_named V r.trait) p i in
      let b = map-in (with_args r.args) m.0.bounds p m.2 in
      subst (λ (z : Reference). Shut z.args) b.2 (plain-shut zero r.args b.0.args h (plain b.0.args (bound-declared V declared m.0 b.0 (in-filter (λ (y : TraitDecl). y.name == r.trait) V.traits m.0 m.1).0 b.1)))

  within-so : (n : ℕ) (r : Reference) → Shut r.args → AreShut (strict_supertraits_within n V r)
  within-so zero r h = no-references
  within-so (suc n) r h = λ p i.
      let m = in-flat (λ s. s ∷ strict_supertraits_within n V s) (written_supertraits V r) p i in
      let s = written-so r h m.0 m.1 in one-more m.0 (strict_supertraits_within n V m.0) s (within-so n m.0 s) p m.2

  supers-so : (r : Reference) → Shut r.args → AreShut (strict_supertraits V r)
  supers-so r h = within-so (length V.traits) r h

  -- ---- object bounds and impls
  object-so : (r : Reference) (a : Trees) → Shut r.args → Rows (object_rules V r a)
  object-so r none h = no-rows
  object-so r (tree dynamic k o) h = λ u i. subst AreShut (sym (object-premises V r (principal_with (tree dynamic k none) k) (autos_with (tree dynamic k none) k) u i)) (supers-so r h)
  object-so r (tree l c o) h = no-rows

  impl-so : (r : Reference) → is_closed r.args ≡ true → Rows (flat_map (impl_rules r) V.impls)
  impl-so r z u i p j =
      let m = in-flat (impl_rules r) V.impls u i in
      let b = impl-rule r m.0 u m.2 in
      let A = arguments m.0.params m.0.header.args r.args in
      let c = map-in (with_args A) m.0.clauses p (subst (λ (v : Rule). In p v.premises) (sym b.is-rule) j) in
      subst (λ (x : Reference). Shut x.args) c.2 (plain-shut zero A c.0.args (open-none A (closed-arguments m.0.params m.0.header.args r.args z)) (plain c.0.args (clause-declared V declared m.0 c.0 m.1 c.1)))

  -- ---- all
  rules-so : (r : Reference) → is_closed r.args ≡ true → Rows (rules V [] r)
  rules-so r z =
      let h = open-none r.args z in
      both-rows (flat_map (impl_rules r) V.impls) (built_in_rules V r ++ []) (impl-so r z)
      (both-rows (built_in_rules V r) []
      (both-rows (plain_rules r) _
      (both-rows (if (r.trait == copy) || (r.trait == clone) then copy_rules r.trait r.args else []) _ (if-rows ((r.trait == copy) || (r.trait == clone)) (copy_rules r.trait r.args) (copy-so r.trait r.args h))
      (both-rows (if r.trait == tuple_trait then tuple_rules r.args else []) _ (if-rows (r.trait == tuple_trait) (tuple_rules r.args) (tuple-so r.args))
      (both-rows (if r.trait == fn_ptr_trait then fn_ptr_rules r.args else []) (if is_fn_trait r.trait then call_rules r.args else []) (if-rows (r.trait == fn_ptr_trait) (fn_ptr_rules r.args) (fn-ptr-so r.args))
      (if-rows (is_fn_trait r.trait) (call_rules r.args) (call-so r.args h)))))
      (both-rows (if r.trait == sized then sized_rules V r.args else []) _ (if-rows (r.trait == sized) (sized_rules V r.args) (sized-so r.args h))
      (both-rows (if is_auto V r.trait then auto_rules V r.trait r.args else []) _ (if-rows (is_auto V r.trait) (auto_rules V r.trait r.args) (auto-so r.trait r.args h))
      (both-rows (if r.trait == unsize then unsize_rules V r.args else []) (object_rules V r r.args)
      (if-rows (r.trait == unsize) (unsize_rules V r.args)
      (both-rows (unsize_array_rules r.args) _ (array-so r.args) (both-rows (unsize_to_dyn_rules V r.args) _ (to-dyn-so r.args h) (both-rows (unsize_upcast_rules V r.args) (unsize_struct_rules V r.args) (upcast-so r.args) (struct-so r.args h)))))
      (object-so r r.args h))))) no-rows)

  pub leads-to-closed : (crate : ℕ) → LeadsToClosed V crate
  leads-to-closed crate r s z i = none-open s.args (by (in-append s (flat_map (λ (u : Rule). u.premises) (rules V [] r)) (if is_known_in V crate r then [] else strict_supertraits V r) i))
    where
      of-rules : (u : Rule) × In u (rules V [] r) × In s u.premises → Shut s.args
      of-rules m = rules-so r z m.0 m.1 s m.2

      of-supers : (b : Bool) → In s (if b then [] else strict_supertraits V r) → Shut s.args
      of-supers true j = absurd (in-nothing s j)
      of-supers false j = supers-so r (open-none r.args z) s j

      by : In s (flat_map (λ (u : Rule). u.premises) (rules V [] r)) ⊎ In s (if is_known_in V crate r then [] else strict_supertraits V r) → Shut s.args
      by (inl j) = of-rules (in-flat (λ (u : Rule). u.premises) (rules V [] r) s j)
      by (inr j) = of-supers (is_known_in V crate r) j
