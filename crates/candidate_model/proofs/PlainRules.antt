-- Rules that read plain types have plain premises, and instances of what is declared by plain arguments are plain.
use Rattle.std.proofs.Common.{◌≡◌, ℕ, zero, suc, ◌==◌, Bool, true, false, not, ◌&&◌, ◌||◌, if◌then◌else◌, List, [], ◌∷◌, map, refl, sym, subst}
use Rattle.std.specs.List.{flat_map, list_all}
use Rattle.type_terms.specs.Promised.Label.{Label, of_lifetime, array, slice, str, tuple, dynamic, adt, fn_ptr, raw_pointer, auto_trait, principal, param, placeholder, infer, canonical, bound, bool, char, never, int, uint, ref, predicate}
use Rattle.type_terms.specs.Promised.Trees.{Trees, none, tree, is_sort, sort_of, nth, instantiate, shift, some_node}
use Rattle.type_terms.specs.Trees.{is_no_tree}
use Rattle.type_terms.specs.Promised.Label.{inside}
use Rattle.type_terms.specs.Promised.Worlds.{World, Reference, StructDecl, structs_named}
use Rattle.type_terms.specs.Promised.Rules.{Rule, row, sized, sized_struct, auto_struct, sized_rules, copy_rules, auto_rules, auto_rules_plain, is_written, tuple_rules, fn_ptr_rules, last_asked, each_asked, fields_of, together}
use Rattle.type_terms.specs.Promised.Proofs.{In}
use Rattle.type_terms.proofs.Members.{here, there, in-filter}
use Rattle.type_terms.proofs.Fitting.{append-shut, head-shut, child-shut, next-shut, or-no}
use Rattle.type_terms.proofs.Walking.{left, right}
use Rattle.type_terms.specs.Made.{terms}
use Rattle.type_terms.specs.Made.{bounds}
use Rattle.type_terms.specs.Made.{traits}
use Rattle.type_terms.specs.Made.{is_leaf_label, is_made}
use Rattle.goal_evaluator.specs.Lists.{Every}
use Rattle.candidate_model.specs.Facts.{is_unerased}
use Rattle.candidate_model.specs.Declared.{is_declared_leaf, is_counted, are_terms, is_declared_view}
use Rattle.candidate_model.proofs.Instances.{Unbound, is_bound, none-either, shift-unbound}
use Rattle.candidate_model.proofs.Rows.{fields-declared}
use Rattle.type_terms.proofs.Matching.{or-false-left as no-left}
use Rattle.type_terms.proofs.BooleanBasics.{true-false}
use Rattle.goal_evaluator.proofs.Basics.{every-append}
use Rattle.candidate_model.proofs.ErasedCandidates.{not-true as not-false}
use Rattle.candidate_model.proofs.ClosedPremises.{node-none}

abbrev pub Plain : Trees → Type 0
Plain t = some_node is_unerased t ≡ false

pub plain-unbound : (t : Trees) → Plain t → Unbound t
plain-unbound t h = none-either is_unerased is_bound by t h
  where
    by : (l : Label) → is_unerased l ≡ false → is_bound l ≡ false
    by (bound s k i) e = absurd (true-false e)
    by l e = refl

-- ---- what is declared
-- unerased, but for parameters, in whose place arguments are put
abbrev pub is_wild : Label → Bool
is_wild (param s i) = false
is_wild l = is_unerased l

no-tree : (t : Trees) → is_no_tree t ≡ true → some_node is_wild t ≡ false
no-tree none e = refl
no-tree (tree l c o) e = absurd (true-false (sym e))

ended : (s t : Trees) → is_no_tree s && is_no_tree t ≡ true → (some_node is_wild s ≡ false) × (some_node is_wild t ≡ false)
ended s t e = (no-tree s (left (is_no_tree s) (is_no_tree t) e), no-tree t (right (is_no_tree s) (is_no_tree t) e))

last-place : (l : Label) (c o : Trees) → is_declared_leaf l && (is_sort (sort_of l) of_lifetime && (is_no_tree c && is_no_tree o)) ≡ true → is_no_tree c && is_no_tree o ≡ true
last-place l c o m = right (is_sort (sort_of l) of_lifetime) (is_no_tree c && is_no_tree o) (right (is_declared_leaf l) (is_sort (sort_of l) of_lifetime && (is_no_tree c && is_no_tree o)) m)

mutual
  tame-terms : (t : Trees) → is_made is_declared_leaf terms t ≡ true → some_node is_counted t ≡ false → some_node is_wild t ≡ false
  tame-terms none m e = refl
  tame-terms (tree dynamic c o) m e =
      node-none is_wild dynamic c o refl (tame-bounds c (left (is_made is_declared_leaf bounds c) (is_made is_declared_leaf terms o) m) (child-shut is_counted dynamic c o e))
      (tame-terms o (right (is_made is_declared_leaf bounds c) (is_made is_declared_leaf terms o) m) (next-shut is_counted dynamic c o e))
  tame-terms (tree (principal n i) c o) m e = absurd (true-false (sym m))
  tame-terms (tree (auto_trait i) c o) m e = absurd (true-false (sym m))
  tame-terms (tree (predicate k) c o) m e = absurd (true-false (sym m))
  tame-terms (tree (placeholder k i) c o) m e = absurd (true-false (sym m))
  tame-terms (tree (infer k i) c o) m e = absurd (true-false (sym m))
  tame-terms (tree (canonical k i) c o) m e = absurd (true-false (sym m))
  tame-terms (tree (bound k j i) c o) m e = absurd (true-false (sym m))
  tame-terms (tree (fn_ptr (suc n)) c o) m e = absurd (true-false e)
  tame-terms (tree (fn_ptr zero) c o) m e =
      let q = right (not false || is_no_tree c) (is_made is_declared_leaf terms c && is_made is_declared_leaf terms o) m in
      node-none is_wild (fn_ptr zero) c o refl (tame-terms c (left (is_made is_declared_leaf terms c) (is_made is_declared_leaf terms o) q) (child-shut is_counted (fn_ptr zero) c o e))
      (tame-terms o (right (is_made is_declared_leaf terms c) (is_made is_declared_leaf terms o) q) (next-shut is_counted (fn_ptr zero) c o e))
  tame-terms (tree l c o) m e =
      let q = right (not (is_leaf_label l) || is_no_tree c) (is_made is_declared_leaf terms c && is_made is_declared_leaf terms o) (right (is_declared_leaf l) ((not (is_leaf_label l) || is_no_tree c) && (is_made is_declared_leaf terms c && is_made is_declared_leaf terms o)) m) in
      node-none is_wild l c o refl (tame-terms c (left (is_made is_declared_leaf terms c) (is_made is_declared_leaf terms o) q) (child-shut is_counted l c o e))
      (tame-terms o (right (is_made is_declared_leaf terms c) (is_made is_declared_leaf terms o) q) (next-shut is_counted l c o e))

  tame-bounds : (t : Trees) → is_made is_declared_leaf bounds t ≡ true → some_node is_counted t ≡ false → some_node is_wild t ≡ false
  tame-bounds none m e = absurd (true-false (sym m))
  tame-bounds (tree (predicate k) c o) m e = absurd (true-false (sym m))
  tame-bounds (tree (principal (suc n) i) c o) m e = absurd (true-false e)
  tame-bounds (tree (principal zero i) c o) m e =
      node-none is_wild (principal zero i) c o refl (tame-terms c (left (is_made is_declared_leaf terms c) (is_made is_declared_leaf traits o) m) (child-shut is_counted (principal zero i) c o e))
      (tame-traits o (right (is_made is_declared_leaf terms c) (is_made is_declared_leaf traits o) m) (next-shut is_counted (principal zero i) c o e))
  tame-bounds (tree (auto_trait i) c o) m e =
      node-none is_wild (auto_trait i) c o refl (no-tree c (left (is_no_tree c) (is_made is_declared_leaf traits o) m)) (tame-traits o (right (is_no_tree c) (is_made is_declared_leaf traits o) m) (next-shut is_counted (auto_trait i) c o e))
  tame-bounds (tree (placeholder k i) c o) m e = absurd (true-false (sym m))
  tame-bounds (tree (infer k i) c o) m e = absurd (true-false (sym m))
  tame-bounds (tree (canonical k i) c o) m e = absurd (true-false (sym m))
  tame-bounds (tree (bound k j i) c o) m e = absurd (true-false (sym m))
  tame-bounds (tree (fn_ptr (suc n)) c o) m e = absurd (true-false e)
  tame-bounds (tree (fn_ptr zero) c o) m e = absurd (true-false (sym m))
  tame-bounds (tree l c o) m e = let x = ended c o (last-place l c o m) in node-none is_wild l c o refl x.0 x.1

  tame-traits : (t : Trees) → is_made is_declared_leaf traits t ≡ true → some_node is_counted t ≡ false → some_node is_wild t ≡ false
  tame-traits none m e = absurd (true-false (sym m))
  tame-traits (tree (predicate k) c o) m e = absurd (true-false (sym m))
  tame-traits (tree (auto_trait i) c o) m e =
      node-none is_wild (auto_trait i) c o refl (no-tree c (left (is_no_tree c) (is_made is_declared_leaf traits o) m)) (tame-traits o (right (is_no_tree c) (is_made is_declared_leaf traits o) m) (next-shut is_counted (auto_trait i) c o e))
  tame-traits (tree (placeholder k i) c o) m e = absurd (true-false (sym m))
  tame-traits (tree (infer k i) c o) m e = absurd (true-false (sym m))
  tame-traits (tree (canonical k i) c o) m e = absurd (true-false (sym m))
  tame-traits (tree (bound k j i) c o) m e = absurd (true-false (sym m))
  tame-traits (tree (fn_ptr n) c o) m e = absurd (true-false (sym m))
  tame-traits (tree (principal n i) c o) m e = absurd (true-false (sym m))
  tame-traits (tree l c o) m e = let x = ended c o (last-place l c o m) in node-none is_wild l c o refl x.0 x.1

pub tame : (t : Trees) → are_terms t ≡ true → some_node is_wild t ≡ false
tame t e = tame-terms t (left (is_made is_declared_leaf terms t) (not (some_node is_counted t)) e) (not-false (some_node is_counted t) (right (is_made is_declared_leaf terms t) (not (some_node is_counted t)) e))

pub nth-plain : (t : Trees) (i : ℕ) → Plain t → Plain (nth t i)
nth-plain none i h = refl
nth-plain (tree l c o) zero h = head-shut is_unerased l c o h
nth-plain (tree l c o) (suc i) h = nth-plain o i (next-shut is_unerased l c o h)

plain-put : (d : ℕ) (A t : Trees) → Plain A → some_node is_wild t ≡ false → Plain (instantiate d A t)
plain-put d A none h g = refl
plain-put d A (tree (param s i) c o) h g =
    append-shut is_unerased (shift zero d (nth A i)) (instantiate d A o) (subst Plain (sym (shift-unbound zero d (nth A i) (plain-unbound (nth A i) (nth-plain A i h)))) (nth-plain A i h))
    (plain-put d A o h (next-shut is_wild (param s i) c o g))
plain-put d A (tree l c o) h g =
    node-none is_unerased l (instantiate (inside l d) A c) (instantiate d A o) (no-left (is_wild l) (some_node is_wild c) (no-left (is_wild l || some_node is_wild c) (some_node is_wild o) g)) (plain-put (inside l d) A c h (child-shut is_wild l c o g))
    (plain-put d A o h (next-shut is_wild l c o g))

-- an instance of what is declared by plain arguments
pub plain-instance : (A t : Trees) → Plain A → are_terms t ≡ true → Plain (instantiate zero A t)
plain-instance A t h e = plain-put zero A t h (tame t e)

-- ---- rules
abbrev pub IsPlainReference : Reference → Type 0
IsPlainReference r = Plain r.args

abbrev pub HavePlainPremises : List Rule → Type 0
HavePlainPremises us = Every (λ (u : Rule). Every IsPlainReference u.premises) us

pub plain-each : (t : ℕ) (items : Trees) → Plain items → Every IsPlainReference (each_asked t items)
plain-each t none h = tt
plain-each t (tree l c o) h = (head-shut is_unerased l c o h, plain-each t o (next-shut is_unerased l c o h))

pub plain-last : (t : ℕ) (items : Trees) → Plain items → Every IsPlainReference (last_asked t items)
plain-last t none h = tt
plain-last t (tree l c none) h = (h, tt)
plain-last t (tree l c (tree m d o)) h = plain-last t (tree m d o) (next-shut is_unerased l c (tree m d o) h)

plain-together : (A : Trees) → Plain A → (fs : List Trees) → list_all are_terms fs ≡ true → Plain (together (map (instantiate zero A) fs))
plain-together A h [] e = refl
plain-together A h (f ∷ fs) e =
    append-shut is_unerased (instantiate zero A f) (together (map (instantiate zero A) fs)) (plain-instance A f h (left (are_terms f) (list_all are_terms fs) e)) (plain-together A h fs (right (are_terms f) (list_all are_terms fs) e))

pub every-flat : {A B : Type 0} (P : B → Type 0) (f : A → List B) (xs : List A) → ((x : A) → In x xs → Every P (f x)) → Every P (flat_map f xs)
every-flat P f [] h = tt
every-flat P f (x ∷ xs) h = every-append P (f x) (flat_map f xs) (h x (here x xs)) (every-flat P f xs (λ y i. h y (there y x xs i)))

module _ (V : World) (declared : is_declared_view V ≡ true) where
  pub plain-fields : (s : ℕ) (x : StructDecl) → In x (structs_named V s) → (A : Trees) → Plain A → Plain (fields_of x A)
  plain-fields s x i A h = plain-together A h x.fields (fields-declared V declared [] x (in-filter (λ (y : StructDecl). y.name == s) V.structs x i).0)

  pub plain-sized : (t : Trees) → Plain t → HavePlainPremises (sized_rules V t)
  plain-sized none h = tt
  plain-sized (tree bool c o) h = (tt, tt)
  plain-sized (tree char c o) h = (tt, tt)
  plain-sized (tree never c o) h = (tt, tt)
  plain-sized (tree (int i) c o) h = (tt, tt)
  plain-sized (tree (uint i) c o) h = (tt, tt)
  plain-sized (tree (fn_ptr n) c o) h = (tt, tt)
  plain-sized (tree (raw_pointer b) c o) h = (tt, tt)
  plain-sized (tree (ref b) c o) h = (tt, tt)
  plain-sized (tree array c o) h = (tt, tt)
  plain-sized (tree tuple c o) h = (plain-last sized c (child-shut is_unerased tuple c o h), tt)
  plain-sized (tree (adt s) c o) h = every-flat (λ (u : Rule). Every IsPlainReference u.premises) (λ x. row sized_struct (last_asked sized (fields_of x c))) (structs_named V s) (λ x i. (plain-last sized (fields_of x c) (plain-fields s x i c (child-shut is_unerased (adt s) c o h)), tt))
  plain-sized (tree l c o) h = tt

  plain-auto-row : (t : ℕ) (a : Trees) → Plain a → HavePlainPremises (auto_rules_plain V t a)
  plain-auto-row t none h = tt
  plain-auto-row t (tree bool c o) h = (tt, tt)
  plain-auto-row t (tree char c o) h = (tt, tt)
  plain-auto-row t (tree never c o) h = (tt, tt)
  plain-auto-row t (tree (int i) c o) h = (tt, tt)
  plain-auto-row t (tree (uint i) c o) h = (tt, tt)
  plain-auto-row t (tree (fn_ptr n) c o) h = (tt, tt)
  plain-auto-row t (tree str c o) h = ((refl, tt), tt)
  plain-auto-row t (tree (raw_pointer b) none o) h = tt
  plain-auto-row t (tree (raw_pointer b) (tree l c p) o) h = ((head-shut is_unerased l c p (child-shut is_unerased (raw_pointer b) (tree l c p) o h), tt), tt)
  plain-auto-row t (tree array none o) h = tt
  plain-auto-row t (tree array (tree l c p) o) h = ((head-shut is_unerased l c p (child-shut is_unerased array (tree l c p) o h), tt), tt)
  plain-auto-row t (tree slice none o) h = tt
  plain-auto-row t (tree slice (tree l c p) o) h = ((head-shut is_unerased l c p (child-shut is_unerased slice (tree l c p) o h), tt), tt)
  plain-auto-row t (tree (ref b) none o) h = tt
  plain-auto-row t (tree (ref b) (tree q d none) o) h = tt
  plain-auto-row t (tree (ref b) (tree q d (tree l c p)) o) h = ((head-shut is_unerased l c p (next-shut is_unerased q d (tree l c p) (child-shut is_unerased (ref b) (tree q d (tree l c p)) o h)), tt), tt)
  plain-auto-row t (tree tuple c o) h = (plain-each t c (child-shut is_unerased tuple c o h), tt)
  plain-auto-row t (tree (adt s) c o) h = every-flat (λ (u : Rule). Every IsPlainReference u.premises) (λ x. row auto_struct (each_asked t (fields_of x c))) (structs_named V s) (λ x i. (plain-each t (fields_of x c) (plain-fields s x i c (child-shut is_unerased (adt s) c o h)), tt))
  plain-auto-row t (tree l c o) h = tt

  pub plain-auto : (t : ℕ) (a : Trees) → Plain a → HavePlainPremises (auto_rules V t a)
  plain-auto t none h = tt
  plain-auto t (tree l c o) h = by (is_written V t l)
    where
      by : (b : Bool) → HavePlainPremises (if b then [] else auto_rules_plain V t (tree l c o))
      by true = tt
      by false = plain-auto-row t (tree l c o) h

pub plain-copy : (t : ℕ) (a : Trees) → Plain a → HavePlainPremises (copy_rules t a)
plain-copy t none h = tt
plain-copy t (tree (fn_ptr n) c o) h = (tt, tt)
plain-copy t (tree tuple c o) h = (plain-each t c (child-shut is_unerased tuple c o h), tt)
plain-copy t (tree l c o) h = tt

pub plain-tuple : (a : Trees) → Plain a → HavePlainPremises (tuple_rules a)
plain-tuple none h = tt
plain-tuple (tree tuple c o) h = (tt, tt)
plain-tuple (tree l c o) h = tt

pub plain-fn-ptr : (a : Trees) → Plain a → HavePlainPremises (fn_ptr_rules a)
plain-fn-ptr none h = tt
plain-fn-ptr (tree (fn_ptr n) c o) h = (tt, tt)
plain-fn-ptr (tree l c o) h = tt
