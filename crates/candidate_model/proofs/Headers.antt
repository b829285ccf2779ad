-- A header or clause of an impl, over variables of a candidate, is read as the instance by the impl's arguments.
use Rattle.std.proofs.Common.{◌≡◌, ℕ, zero, suc, ◌+◌, Bool, true, false, not, ◌&&◌, ◌||◌, ◌==◌, if◌then◌else◌, List, [], ◌∷◌, ◌++◌, length, refl, sym, ◌∙◌, ap, arith}
use Rattle.type_terms.specs.Promised.Label.{Label, Sort, of_type, of_const, of_lifetime, dynamic, static, fn_ptr, auto_trait, principal, param, placeholder, infer, canonical, bound, predicate}
use Rattle.type_terms.specs.Promised.Label.{never}
use Rattle.type_terms.specs.Promised.Label.{value}
use Rattle.type_terms.specs.Promised.Trees.{Trees, none, tree, leaf, ◌+++◌, IsA, is_sort, sort_of, nth, instantiate, shift, some_node}
use Rattle.type_terms.specs.Trees.{is_no_tree}
use Rattle.type_terms.proofs.Fitting.{child-shut, next-shut}
use Rattle.type_terms.proofs.Members.{self-number}
use Rattle.type_terms.proofs.Walking.{left, right}
use Rattle.type_terms.specs.Made.{terms}
use Rattle.type_terms.specs.Made.{bounds}
use Rattle.type_terms.specs.Made.{traits}
use Rattle.type_terms.specs.Made.{is_leaf_label, is_made}
use Rattle.infer_table.specs.declared.canonical.CanonicalVarKind.{CanonicalVarKind}
use Rattle.goal_evaluator.specs.Instances.{read_with, put_in, of_sort, term_at, other_terms}
use Rattle.goal_evaluator.specs.Content.{given}
use Rattle.candidate_model.specs.Declared.{is_declared_leaf, is_counted, IsDeclared}
use Rattle.candidate_model.specs.Candidates.{is_this_param, moved}
use Rattle.candidate_model.specs.Cover.{padded}
use Rattle.candidate_model.proofs.Instances.{Shut, shift-shut, nth-shut}
use Rattle.type_terms.proofs.BooleanBasics.{true-false}
use Rattle.goal_evaluator.proofs.Basics.{nothing-at}
use Rattle.candidate_model.proofs.ErasedCandidates.{not-true as not-false}

-- ---- trees as a list
abbrev pub as_list : Trees → List Trees
as_list none = []
as_list (tree l c o) = tree l c none ∷ as_list o

not-const : IsA of_const (leaf never) → ⊥
not-const a = no a.0
  where
    no : sort_of never ≡ of_const → ⊥
    no e = cc

type-is : (t : Trees) → IsA of_type t → of_sort of_type t ≡ t
type-is none a = absurd a
type-is (tree l c none) a = by (is_sort (sort_of l) of_type && true) (ap (λ s. is_sort s of_type && true) a.0)
  where
    by : (b : Bool) → b ≡ true → (if b then tree l c none else leaf never) ≡ tree l c none
    by true e = refl
    by false e = absurd (true-false (sym e))
type-is (tree l c (tree m d o)) a = absurd (no a.1)
  where
    no : tree m d o ≡ none → ⊥
    no e = cc

const-is : (t : Trees) → IsA of_const t → of_sort of_const t ≡ t
const-is none a = absurd a
const-is (tree l c none) a = by (is_sort (sort_of l) of_const && true) (ap (λ s. is_sort s of_const && true) a.0)
  where
    by : (b : Bool) → b ≡ true → (if b then tree l c none else leaf (value 0)) ≡ tree l c none
    by true e = refl
    by false e = absurd (true-false (sym e))
const-is (tree l c (tree m d o)) a = absurd (no a.1)
  where
    no : tree m d o ≡ none → ⊥
    no e = cc

-- a closed lifetime is `'static`
closed-lifetime : (t : Trees) → IsA of_lifetime t → Shut t → leaf static ≡ t
closed-lifetime none a h = absurd a
closed-lifetime (tree static none none) a h = refl
closed-lifetime (tree static (tree l c o) p) a h = absurd (no a.1)
  where
    no : tree l c o ≡ none → ⊥
    no e = cc
closed-lifetime (tree static none (tree l c o)) a h = absurd (no a.2)
  where
    no : tree l c o ≡ none → ⊥
    no e = cc
closed-lifetime (tree (param k i) c o) a h = absurd (true-false h)
closed-lifetime (tree (placeholder k i) c o) a h = absurd (true-false h)
closed-lifetime (tree (infer k i) c o) a h = absurd (true-false h)
closed-lifetime (tree (canonical k i) c o) a h = absurd (true-false h)
closed-lifetime (tree (bound k j i) c o) a h = absurd (true-false h)
closed-lifetime (tree (value n) c o) a h = absurd (no a.0)
  where
    no : of_const ≡ of_lifetime → ⊥
    no e = cc
closed-lifetime (tree l c o) a h = absurd (no a.0)
  where
    no : of_type ≡ of_lifetime → ⊥
    no e = cc

pub type-at : (A : Trees) (i : ℕ) → IsA of_type (nth A i) → of_sort of_type (term_at (as_list A) i) ≡ nth A i
type-at none i a = ap (of_sort of_type) (nothing-at i)
type-at (tree l c o) zero a = type-is (tree l c none) a
type-at (tree l c o) (suc i) a = type-at o i a

pub const-at : (A : Trees) (i : ℕ) → IsA of_const (nth A i) → of_sort of_const (term_at (as_list A) i) ≡ nth A i
const-at none i a = absurd (not-const a)
const-at (tree l c o) zero a = const-is (tree l c none) a
const-at (tree l c o) (suc i) a = const-at o i a

pub behind-at : (ks : List CanonicalVarKind) (ts own : List Trees) (i : ℕ) → term_at (padded ks ts ++ own) (length ks + i) ≡ term_at own i
behind-at [] ts own i = ap (term_at own) (zero-plus i)
  where
    zero-plus : (j : ℕ) → 0 + j ≡ j
    zero-plus j = omega arith
behind-at (k ∷ ks) ts own i = ap (term_at (padded (k ∷ ks) ts ++ own)) (suc-plus (length ks) i) ∙ behind-at ks (other_terms ts) own i
  where
    suc-plus : (m j : ℕ) → suc m + j ≡ suc (m + j)
    suc-plus m j = omega arith

-- ---- where something stands
pub child-some : (p : Label → Bool) (l : Label) (c o : Trees) → some_node p c ≡ true → some_node p (tree l c o) ≡ true
child-some p l c o e = by (p l) (some_node p c) (some_node p o) e
  where
    by : (x y z : Bool) → y ≡ true → x || y || z ≡ true
    by true true true q = refl
    by true true false q = refl
    by false true true q = refl
    by false true false q = refl
    by x false z q = absurd (true-false (sym q))

pub next-some : (p : Label → Bool) (l : Label) (c o : Trees) → some_node p o ≡ true → some_node p (tree l c o) ≡ true
next-some p l c o e = by (p l) (some_node p c) (some_node p o) e
  where
    by : (x y z : Bool) → z ≡ true → x || y || z ≡ true
    by true true true q = refl
    by true false true q = refl
    by false true true q = refl
    by false false true q = refl
    by x y false q = absurd (true-false (sym q))

eqb-self : (i : ℕ) → (i == i) ≡ true
eqb-self i = self-number i

pub here-some : (s : Sort) (j : ℕ) (c o : Trees) → (is_sort s s ≡ true) → some_node (is_this_param s j) (tree (param s j) c o) ≡ true
here-some s j c o e = by (is_sort s s && (j == j)) (some_node (is_this_param s j) c) (some_node (is_this_param s j) o) (both (is_sort s s) (j == j) e (eqb-self j))
  where
    both : (x y : Bool) → x ≡ true → y ≡ true → x && y ≡ true
    both x y p q = rw (p, q) refl

    by : (x y z : Bool) → x ≡ true → x || y || z ≡ true
    by true true true q = refl
    by true true false q = refl
    by true false true q = refl
    by true false false q = refl
    by false y z q = absurd (true-false (sym q))

module _ (ks : List CanonicalVarKind) (ts : List Trees) (A : Trees) (closed : Shut A) where
  abbrev ys : List Trees
  ys = padded ks ts ++ as_list A

  abbrev read : Trees → Trees
  read t = read_with (given ys) (put_in (moved (length ks)) t)

  -- the arguments are of the sorts with which the parameters stand there
  abbrev pub Sorted : Trees → Type 0
  Sorted t = (s : Sort) (j : ℕ) → some_node (is_this_param s j) t ≡ true → IsA s (nth A j)

  in-child : (l : Label) (c o : Trees) → Sorted (tree l c o) → Sorted c
  in-child l c o h s j e = h s j (child-some (is_this_param s j) l c o e)

  in-next : (l : Label) (c o : Trees) → Sorted (tree l c o) → Sorted o
  in-next l c o h s j e = h s j (next-some (is_this_param s j) l c o e)

  type-read : (i : ℕ) → IsA of_type (nth A i) → of_sort of_type (term_at ys (length ks + i)) ≡ nth A i
  type-read i a = ap (of_sort of_type) (behind-at ks ts (as_list A) i) ∙ type-at A i a

  const-read : (i : ℕ) → IsA of_const (nth A i) → of_sort of_const (term_at ys (length ks + i)) ≡ nth A i
  const-read i a = ap (of_sort of_const) (behind-at ks ts (as_list A) i) ∙ const-at A i a

  lifetime-read : (i : ℕ) → IsA of_lifetime (nth A i) → leaf static ≡ nth A i
  lifetime-read i a = closed-lifetime (nth A i) a (nth-shut A i closed)

  unmoved : (d i : ℕ) → shift zero d (nth A i) ≡ nth A i
  unmoved d i = shift-shut zero d (nth A i) (nth-shut A i closed)

  parts : (x y z w : Bool) → x && (y && (z && w)) ≡ true → (y ≡ true) × (z ≡ true) × (w ≡ true)
  parts x y z w m =
      let r = right x (y && (z && w)) m in
      let q = right y (z && w) r in (left y (z && w) r, left z w q, right z w q)

  leaf-static : (d : ℕ) (c o : Trees) → is_no_tree c ≡ true → read o ≡ instantiate d A o → read (tree static c o) ≡ instantiate d A (tree static c o)
  leaf-static d none o n e = ap (λ z. tree static none z) e
  leaf-static d (tree l c p) o n e = absurd (true-false (sym n))

  mutual
    behind-terms : (d : ℕ) (t : Trees) → is_made is_declared_leaf terms t ≡ true → some_node is_counted t ≡ false → Sorted t → read t ≡ instantiate d A t
    behind-terms d none m e h = refl
    behind-terms d (tree (param of_type i) c o) m e h =
        ap (λ z. z +++ read o) (type-read i (h of_type i (here-some of_type i c o refl)) ∙ sym (unmoved d i))
        ∙ ap (λ z. shift zero d (nth A i) +++ z) (behind-terms d o (parts true (not true || is_no_tree c) (is_made is_declared_leaf terms c) (is_made is_declared_leaf terms o) m).2 (next-shut is_counted (param of_type i) c o e) (in-next (param of_type i) c o h))
    behind-terms d (tree (param of_const i) c o) m e h =
        ap (λ z. z +++ read o) (const-read i (h of_const i (here-some of_const i c o refl)) ∙ sym (unmoved d i))
        ∙ ap (λ z. shift zero d (nth A i) +++ z) (behind-terms d o (parts true (not true || is_no_tree c) (is_made is_declared_leaf terms c) (is_made is_declared_leaf terms o) m).2 (next-shut is_counted (param of_const i) c o e) (in-next (param of_const i) c o h))
    behind-terms d (tree (param of_lifetime i) c o) m e h =
        ap (λ z. z +++ read o) (lifetime-read i (h of_lifetime i (here-some of_lifetime i c o refl)) ∙ sym (unmoved d i))
        ∙ ap (λ z. shift zero d (nth A i) +++ z) (behind-terms d o (parts true (not true || is_no_tree c) (is_made is_declared_leaf terms c) (is_made is_declared_leaf terms o) m).2 (next-shut is_counted (param of_lifetime i) c o e) (in-next (param of_lifetime i) c o h))
    behind-terms d (tree (placeholder k i) c o) m e h = absurd (true-false (sym m))
    behind-terms d (tree (infer k i) c o) m e h = absurd (true-false (sym m))
    behind-terms d (tree (canonical k i) c o) m e h = absurd (true-false (sym m))
    behind-terms d (tree (bound k j i) c o) m e h = absurd (true-false (sym m))
    behind-terms d (tree static c o) m e h =
        let p = parts true (is_no_tree c) (is_made is_declared_leaf terms c) (is_made is_declared_leaf terms o) m in leaf-static d c o p.0 (behind-terms d o p.2 (next-shut is_counted static c o e) (in-next static c o h))
    behind-terms d (tree dynamic c o) m e h =
        ap (λ z. tree dynamic z (read o)) (behind-bounds d c (left (is_made is_declared_leaf bounds c) (is_made is_declared_leaf terms o) m) (child-shut is_counted dynamic c o e) (in-child dynamic c o h))
        ∙ ap (λ z. tree dynamic (instantiate d A c) z) (behind-terms d o (right (is_made is_declared_leaf bounds c) (is_made is_declared_leaf terms o) m) (next-shut is_counted dynamic c o e) (in-next dynamic c o h))
    behind-terms d (tree (principal n i) c o) m e h = absurd (true-false (sym m))
    behind-terms d (tree (auto_trait i) c o) m e h = absurd (true-false (sym m))
    behind-terms d (tree (predicate i) c o) m e h = absurd (true-false (sym m))
    behind-terms d (tree (fn_ptr (suc n)) c o) m e h = absurd (true-false e)
    behind-terms d (tree (fn_ptr zero) c o) m e h =
        let p = parts true true (is_made is_declared_leaf terms c) (is_made is_declared_leaf terms o) m in
        ap (λ z. tree (fn_ptr zero) z (read o)) (behind-terms (suc d) c p.1 (child-shut is_counted (fn_ptr zero) c o e) (in-child (fn_ptr zero) c o h))
        ∙ ap (λ z. tree (fn_ptr zero) (instantiate (suc d) A c) z) (behind-terms d o p.2 (next-shut is_counted (fn_ptr zero) c o e) (in-next (fn_ptr zero) c o h))
    behind-terms d (tree l c o) m e h =
        let p = parts (is_declared_leaf l) (not (is_leaf_label l) || is_no_tree c) (is_made is_declared_leaf terms c) (is_made is_declared_leaf terms o) m in
        ap (λ z. tree l z (read o)) (behind-terms d c p.1 (child-shut is_counted l c o e) (in-child l c o h))
        ∙ ap (λ z. tree l (instantiate d A c) z) (behind-terms d o p.2 (next-shut is_counted l c o e) (in-next l c o h))

    behind-bounds : (d : ℕ) (t : Trees) → is_made is_declared_leaf bounds t ≡ true → some_node is_counted t ≡ false → Sorted t → read t ≡ instantiate d A t
    behind-bounds d none m e h = absurd (true-false (sym m))
    behind-bounds d (tree (principal (suc n) i) c o) m e h = absurd (true-false e)
    behind-bounds d (tree (principal zero i) c o) m e h =
        ap (λ z. tree (principal zero i) z (read o)) (behind-terms (suc d) c (left (is_made is_declared_leaf terms c) (is_made is_declared_leaf traits o) m) (child-shut is_counted (principal zero i) c o e) (in-child (principal zero i) c o h))
        ∙ ap (λ z. tree (principal zero i) (instantiate (suc d) A c) z) (behind-traits d o (right (is_made is_declared_leaf terms c) (is_made is_declared_leaf traits o) m) (next-shut is_counted (principal zero i) c o e) (in-next (principal zero i) c o h))
    behind-bounds d (tree (auto_trait i) none o) m e h = ap (λ z. tree (auto_trait i) none z) (behind-traits d o m (next-shut is_counted (auto_trait i) none o e) (in-next (auto_trait i) none o h))
    behind-bounds d (tree (auto_trait i) (tree l c p) o) m e h = absurd (true-false (sym m))
    behind-bounds d (tree (predicate k) c o) m e h = absurd (true-false (sym m))
    behind-bounds d (tree static none none) m e h = refl
    behind-bounds d (tree static (tree l c p) o) m e h = absurd (true-false (sym m))
    behind-bounds d (tree static none (tree l c p)) m e h = absurd (true-false (sym m))
    behind-bounds d (tree (param of_lifetime i) c none) m e h = ap (λ z. z +++ none) (lifetime-read i (h of_lifetime i (here-some of_lifetime i c none refl)) ∙ sym (unmoved d i))
    behind-bounds d (tree (param of_lifetime i) none (tree l c p)) m e h = absurd (true-false (sym m))
    behind-bounds d (tree (param of_lifetime i) (tree k b q) (tree l c p)) m e h = absurd (true-false (sym m))
    behind-bounds d (tree (placeholder k i) c o) m e h = absurd (true-false (sym m))
    behind-bounds d (tree (infer k i) c o) m e h = absurd (true-false (sym m))
    behind-bounds d (tree (canonical k i) c o) m e h = absurd (true-false (sym m))
    behind-bounds d (tree (bound k j i) c o) m e h = absurd (true-false (sym m))
    behind-bounds d (tree l c o) m e h = absurd (true-false (sym (left (is_sort (sort_of l) of_lifetime) (is_no_tree c && is_no_tree o) (right (is_declared_leaf l) (is_sort (sort_of l) of_lifetime && (is_no_tree c && is_no_tree o)) m))))

    behind-traits : (d : ℕ) (t : Trees) → is_made is_declared_leaf traits t ≡ true → some_node is_counted t ≡ false → Sorted t → read t ≡ instantiate d A t
    behind-traits d none m e h = absurd (true-false (sym m))
    behind-traits d (tree (auto_trait i) none o) m e h = ap (λ z. tree (auto_trait i) none z) (behind-traits d o m (next-shut is_counted (auto_trait i) none o e) (in-next (auto_trait i) none o h))
    behind-traits d (tree (auto_trait i) (tree l c p) o) m e h = absurd (true-false (sym m))
    behind-traits d (tree (predicate k) c o) m e h = absurd (true-false (sym m))
    behind-traits d (tree static none none) m e h = refl
    behind-traits d (tree static (tree l c p) o) m e h = absurd (true-false (sym m))
    behind-traits d (tree static none (tree l c p)) m e h = absurd (true-false (sym m))
    behind-traits d (tree (param of_lifetime i) c none) m e h = ap (λ z. z +++ none) (lifetime-read i (h of_lifetime i (here-some of_lifetime i c none refl)) ∙ sym (unmoved d i))
    behind-traits d (tree (param of_lifetime i) none (tree l c p)) m e h = absurd (true-false (sym m))
    behind-traits d (tree (param of_lifetime i) (tree k b q) (tree l c p)) m e h = absurd (true-false (sym m))
    behind-traits d (tree (placeholder k i) c o) m e h = absurd (true-false (sym m))
    behind-traits d (tree (infer k i) c o) m e h = absurd (true-false (sym m))
    behind-traits d (tree (canonical k i) c o) m e h = absurd (true-false (sym m))
    behind-traits d (tree (bound k j i) c o) m e h = absurd (true-false (sym m))
    behind-traits d (tree l c o) m e h = absurd (true-false (sym (left (is_sort (sort_of l) of_lifetime) (is_no_tree c && is_no_tree o) (right (is_declared_leaf l) (is_sort (sort_of l) of_lifetime && (is_no_tree c && is_no_tree o)) m))))

  pub behind-read : (t : Trees) → IsDeclared t → Sorted t → read t ≡ instantiate zero A t
  behind-read t e h =
      behind-terms zero t (left (is_made is_declared_leaf terms t) (not (some_node is_counted t)) e) (not-false (some_node is_counted t) (right (is_made is_declared_leaf terms t) (not (some_node is_counted t)) e)) h
