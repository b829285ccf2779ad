-- Instances of what is declared, over terms that are put in for variables.
use Rattle.std.proofs.Common.{◌≡◌, ℕ, zero, suc, Bool, true, false, not, ◌&&◌, ◌||◌, List, refl, sym, ◌∙◌, ap, subst}
use Rattle.type_terms.specs.Promised.Label.{Label, Sort, of_type, of_const, of_lifetime, dynamic, static, fn_ptr, auto_trait, principal, param, placeholder, infer, canonical, bound, predicate}
use Rattle.type_terms.specs.Promised.Trees.{Trees, none, tree, leaf, ◌+++◌, is_sort, sort_of, nth, instantiate, shift, some_node}
use Rattle.type_terms.specs.Trees.{is_no_tree}
use Rattle.type_terms.specs.Promised.Answers.{is_open}
use Rattle.type_terms.proofs.Fitting.{head-shut, child-shut, next-shut}
use Rattle.type_terms.proofs.Walking.{left, right}
use Rattle.type_terms.specs.Made.{terms}
use Rattle.type_terms.specs.Made.{bounds}
use Rattle.type_terms.specs.Made.{traits}
use Rattle.type_terms.specs.Made.{is_leaf_label, is_made}
use Rattle.goal_evaluator.specs.Instances.{read_with, default_label, of_sort, term_at}
use Rattle.goal_evaluator.specs.Content.{given}
use Rattle.candidate_model.specs.Declared.{is_declared_leaf, is_counted, IsDeclared}
use Rattle.candidate_model.proofs.Reading.{begins, read-append, read-nth}
use Rattle.type_terms.proofs.Matching.{or-false-left as no-left}
use Rattle.type_terms.proofs.BooleanBasics.{true-false}
use Rattle.candidate_model.proofs.ErasedCandidates.{not-true as not-false}

abbrev pub Shut : Trees → Type 0
Shut t = some_node is_open t ≡ false

-- a variable of a binder
abbrev pub is_bound : Label → Bool
is_bound (bound s k i) = true
is_bound l = false

abbrev pub Unbound : Trees → Type 0
Unbound t = some_node is_bound t ≡ false

-- where labels of one kind are of another, terms without the other are without the one
pub none-either : (p q : Label → Bool) → ((l : Label) → p l ≡ false → q l ≡ false) → (t : Trees) → some_node p t ≡ false → some_node q t ≡ false
none-either p q h none e = refl
none-either p q h (tree l c o) e =
    let x = h l (no-left (p l) (some_node p c) (no-left (p l || some_node p c) (some_node p o) e)) in
    let y = none-either p q h c (child-shut p l c o e) in
    let z = none-either p q h o (next-shut p l c o e) in
    rw (x, y, z) refl

pub shut-unbound : (t : Trees) → Shut t → Unbound t
shut-unbound t h = none-either is_open is_bound by t h
  where
    by : (l : Label) → is_open l ≡ false → is_bound l ≡ false
    by (bound s k i) e = absurd (true-false e)
    by l e = refl

-- what holds no bound variable is not moved
pub shift-unbound : (d a : ℕ) (t : Trees) → Unbound t → shift d a t ≡ t
shift-unbound d a none h = refl
shift-unbound d a (tree (bound s k i) c o) h = absurd (true-false h)
shift-unbound d a (tree (fn_ptr n) c o) h =
    ap (λ z. tree (fn_ptr n) z (shift d a o)) (shift-unbound (suc d) a c (child-shut is_bound (fn_ptr n) c o h)) ∙ ap (λ z. tree (fn_ptr n) c z) (shift-unbound d a o (next-shut is_bound (fn_ptr n) c o h))
shift-unbound d a (tree (principal n t) c o) h =
    ap (λ z. tree (principal n t) z (shift d a o)) (shift-unbound (suc d) a c (child-shut is_bound (principal n t) c o h)) ∙ ap (λ z. tree (principal n t) c z) (shift-unbound d a o (next-shut is_bound (principal n t) c o h))
shift-unbound d a (tree l c o) h =
    ap (λ z. tree l z (shift d a o)) (shift-unbound d a c (child-shut is_bound l c o h)) ∙ ap (λ z. tree l c z) (shift-unbound d a o (next-shut is_bound l c o h))

pub nth-unbound : (t : Trees) (i : ℕ) → Unbound t → Unbound (nth t i)
nth-unbound none i h = refl
nth-unbound (tree l c o) zero h = head-shut is_bound l c o h
nth-unbound (tree l c o) (suc i) h = nth-unbound o i (next-shut is_bound l c o h)

module _ (ts : List Trees) where
  abbrev read : Trees → Trees
  read t = read_with (given ts) t

  rest-unbound : (l : Label) (c o : Trees) → Unbound (read (tree l c o)) → Unbound (read o)
  rest-unbound l c o h = let b = begins ts l c o in next-shut is_bound b.label b.children (read o) (subst Unbound b.before h)

  -- where no variable of a binder is read, moving binders changes nothing
  read-shift : (d a : ℕ) (t : Trees) → Unbound (read t) → read (shift d a t) ≡ read t
  read-shift d a none h = refl
  read-shift d a (tree (canonical of_type i) c o) h = ap (λ z. of_sort of_type (term_at ts i) +++ z) (read-shift d a o (rest-unbound (canonical of_type i) c o h))
  read-shift d a (tree (canonical of_const i) c o) h = ap (λ z. of_sort of_const (term_at ts i) +++ z) (read-shift d a o (rest-unbound (canonical of_const i) c o h))
  read-shift d a (tree (canonical of_lifetime i) c o) h = ap (λ z. leaf static +++ z) (read-shift d a o (rest-unbound (canonical of_lifetime i) c o h))
  read-shift d a (tree (infer k i) c o) h = ap (λ z. leaf (default_label k) +++ z) (read-shift d a o (rest-unbound (infer k i) c o h))
  read-shift d a (tree (param k i) c o) h = ap (λ z. leaf (default_label k) +++ z) (read-shift d a o (rest-unbound (param k i) c o h))
  read-shift d a (tree (placeholder k i) c o) h = ap (λ z. leaf (default_label k) +++ z) (read-shift d a o (rest-unbound (placeholder k i) c o h))
  read-shift d a (tree static c o) h = ap (λ z. leaf static +++ z) (read-shift d a o (rest-unbound static c o h))
  read-shift d a (tree (bound of_lifetime k i) c o) h = ap (λ z. leaf static +++ z) (read-shift d a o (rest-unbound (bound of_lifetime k i) c o h))
  read-shift d a (tree (bound of_type k i) c o) h = absurd (true-false h)
  read-shift d a (tree (bound of_const k i) c o) h = absurd (true-false h)
  read-shift d a (tree (fn_ptr n) c o) h =
      ap (λ z. tree (fn_ptr zero) z (read (shift d a o))) (read-shift (suc d) a c (child-shut is_bound (fn_ptr zero) (read c) (read o) h)) ∙ ap (λ z. tree (fn_ptr zero) (read c) z) (read-shift d a o (next-shut is_bound (fn_ptr zero) (read c) (read o) h))
  read-shift d a (tree (principal n t) c o) h =
      ap (λ z. tree (principal zero t) z (read (shift d a o))) (read-shift (suc d) a c (child-shut is_bound (principal zero t) (read c) (read o) h))
      ∙ ap (λ z. tree (principal zero t) (read c) z) (read-shift d a o (next-shut is_bound (principal zero t) (read c) (read o) h))
  read-shift d a (tree l c o) h =
      ap (λ z. tree l z (read (shift d a o))) (read-shift d a c (child-shut is_bound l (read c) (read o) h)) ∙ ap (λ z. tree l (read c) z) (read-shift d a o (next-shut is_bound l (read c) (read o) h))

  module _ (A : Trees) (closed : Unbound (read A)) where
    argument : (d i : ℕ) → read (shift zero d (nth A i)) ≡ shift zero d (nth (read A) i)
    argument d i =
        let s : Unbound (read (nth A i)) = subst Unbound (sym (read-nth ts A i)) (nth-unbound (read A) i closed) in
        read-shift zero d (nth A i) s ∙ read-nth ts A i ∙ sym (shift-unbound zero d (nth (read A) i) (nth-unbound (read A) i closed))

    for-argument : (d i : ℕ) (s : Sort) (c o : Trees) → read (instantiate d A o) ≡ instantiate d (read A) o → read (instantiate d A (tree (param s i) c o)) ≡ instantiate d (read A) (tree (param s i) c o)
    for-argument d i s c o e =
        read-append ts (shift zero d (nth A i)) (instantiate d A o) ∙ ap (λ z. z +++ read (instantiate d A o)) (argument d i) ∙ ap (λ z. shift zero d (nth (read A) i) +++ z) e

    parts : (x y z w : Bool) → x && (y && (z && w)) ≡ true → (y ≡ true) × (z ≡ true) × (w ≡ true)
    parts x y z w m =
        let r = right x (y && (z && w)) m in
        let q = right y (z && w) r in (left y (z && w) r, left z w q, right z w q)

    leaf-static : (d : ℕ) (c o : Trees) → is_no_tree c ≡ true → read (instantiate d A o) ≡ instantiate d (read A) o → read (instantiate d A (tree static c o)) ≡ instantiate d (read A) (tree static c o)
    leaf-static d none o n e = ap (λ z. tree static none z) e
    leaf-static d (tree l c p) o n e = absurd (true-false (sym n))

    mutual
      -- an instance with terms put in is the instance by arguments with terms put in
      read-terms : (d : ℕ) (t : Trees) → is_made is_declared_leaf terms t ≡ true → some_node is_counted t ≡ false → read (instantiate d A t) ≡ instantiate d (read A) t
      read-terms d none m e = refl
      read-terms d (tree (param of_type i) c o) m e =
          for-argument d i of_type c o (read-terms d o (parts true (not true || is_no_tree c) (is_made is_declared_leaf terms c) (is_made is_declared_leaf terms o) m).2 (next-shut is_counted (param of_type i) c o e))
      read-terms d (tree (param of_const i) c o) m e =
          for-argument d i of_const c o (read-terms d o (parts true (not true || is_no_tree c) (is_made is_declared_leaf terms c) (is_made is_declared_leaf terms o) m).2 (next-shut is_counted (param of_const i) c o e))
      read-terms d (tree (param of_lifetime i) c o) m e =
          for-argument d i of_lifetime c o (read-terms d o (parts true (not true || is_no_tree c) (is_made is_declared_leaf terms c) (is_made is_declared_leaf terms o) m).2 (next-shut is_counted (param of_lifetime i) c o e))
      read-terms d (tree (placeholder k i) c o) m e = absurd (true-false (sym m))
      read-terms d (tree (infer k i) c o) m e = absurd (true-false (sym m))
      read-terms d (tree (canonical k i) c o) m e = absurd (true-false (sym m))
      read-terms d (tree (bound k j i) c o) m e = absurd (true-false (sym m))
      read-terms d (tree static c o) m e =
          let p = parts true (is_no_tree c) (is_made is_declared_leaf terms c) (is_made is_declared_leaf terms o) m in leaf-static d c o p.0 (read-terms d o p.2 (next-shut is_counted static c o e))
      read-terms d (tree dynamic c o) m e =
          ap (λ z. tree dynamic z (read (instantiate d A o))) (read-bounds d c (left (is_made is_declared_leaf bounds c) (is_made is_declared_leaf terms o) m) (child-shut is_counted dynamic c o e))
          ∙ ap (λ z. tree dynamic (instantiate d (read A) c) z) (read-terms d o (right (is_made is_declared_leaf bounds c) (is_made is_declared_leaf terms o) m) (next-shut is_counted dynamic c o e))
      read-terms d (tree (principal n i) c o) m e = absurd (true-false (sym m))
      read-terms d (tree (auto_trait i) c o) m e = absurd (true-false (sym m))
      read-terms d (tree (predicate i) c o) m e = absurd (true-false (sym m))
      read-terms d (tree (fn_ptr (suc n)) c o) m e = absurd (true-false e)
      read-terms d (tree (fn_ptr zero) c o) m e =
          let p = parts true true (is_made is_declared_leaf terms c) (is_made is_declared_leaf terms o) m in
          ap (λ z. tree (fn_ptr zero) z (read (instantiate d A o))) (read-terms (suc d) c p.1 (child-shut is_counted (fn_ptr zero) c o e))
          ∙ ap (λ z. tree (fn_ptr zero) (instantiate (suc d) (read A) c) z) (read-terms d o p.2 (next-shut is_counted (fn_ptr zero) c o e))
      read-terms d (tree l c o) m e =
          let p = parts (is_declared_leaf l) (not (is_leaf_label l) || is_no_tree c) (is_made is_declared_leaf terms c) (is_made is_declared_leaf terms o) m in
          ap (λ z. tree l z (read (instantiate d A o))) (read-terms d c p.1 (child-shut is_counted l c o e))
          ∙ ap (λ z. tree l (instantiate d (read A) c) z) (read-terms d o p.2 (next-shut is_counted l c o e))

      read-bounds : (d : ℕ) (t : Trees) → is_made is_declared_leaf bounds t ≡ true → some_node is_counted t ≡ false → read (instantiate d A t) ≡ instantiate d (read A) t
      read-bounds d none m e = absurd (true-false (sym m))
      read-bounds d (tree (principal (suc n) i) c o) m e = absurd (true-false e)
      read-bounds d (tree (principal zero i) c o) m e =
          ap (λ z. tree (principal zero i) z (read (instantiate d A o))) (read-terms (suc d) c (left (is_made is_declared_leaf terms c) (is_made is_declared_leaf traits o) m) (child-shut is_counted (principal zero i) c o e))
          ∙ ap (λ z. tree (principal zero i) (instantiate (suc d) (read A) c) z) (read-traits d o (right (is_made is_declared_leaf terms c) (is_made is_declared_leaf traits o) m) (next-shut is_counted (principal zero i) c o e))
      read-bounds d (tree (auto_trait i) none o) m e = ap (λ z. tree (auto_trait i) none z) (read-traits d o m (next-shut is_counted (auto_trait i) none o e))
      read-bounds d (tree (auto_trait i) (tree l c p) o) m e = absurd (true-false (sym m))
      read-bounds d (tree (predicate k) c o) m e = absurd (true-false (sym m))
      read-bounds d (tree static none none) m e = refl
      read-bounds d (tree static (tree l c p) o) m e = absurd (true-false (sym m))
      read-bounds d (tree static none (tree l c p)) m e = absurd (true-false (sym m))
      read-bounds d (tree (param of_lifetime i) c none) m e = for-argument d i of_lifetime c none refl
      read-bounds d (tree (param of_lifetime i) none (tree l c p)) m e = absurd (true-false (sym m))
      read-bounds d (tree (param of_lifetime i) (tree k b q) (tree l c p)) m e = absurd (true-false (sym m))
      read-bounds d (tree (placeholder k i) c o) m e = absurd (true-false (sym m))
      read-bounds d (tree (infer k i) c o) m e = absurd (true-false (sym m))
      read-bounds d (tree (canonical k i) c o) m e = absurd (true-false (sym m))
      read-bounds d (tree (bound k j i) c o) m e = absurd (true-false (sym m))
      read-bounds d (tree l c o) m e = absurd (true-false (sym (left (is_sort (sort_of l) of_lifetime) (is_no_tree c && is_no_tree o) (right (is_declared_leaf l) (is_sort (sort_of l) of_lifetime && (is_no_tree c && is_no_tree o)) m))))

      read-traits : (d : ℕ) (t : Trees) → is_made is_declared_leaf traits t ≡ true → some_node is_counted t ≡ false → read (instantiate d A t) ≡ instantiate d (read A) t
      read-traits d none m e = absurd (true-false (sym m))
      read-traits d (tree (auto_trait i) none o) m e = ap (λ z. tree (auto_trait i) none z) (read-traits d o m (next-shut is_counted (auto_trait i) none o e))
      read-traits d (tree (auto_trait i) (tree l c p) o) m e = absurd (true-false (sym m))
      read-traits d (tree (predicate k) c o) m e = absurd (true-false (sym m))
      read-traits d (tree static none none) m e = refl
      read-traits d (tree static (tree l c p) o) m e = absurd (true-false (sym m))
      read-traits d (tree static none (tree l c p)) m e = absurd (true-false (sym m))
      read-traits d (tree (param of_lifetime i) c none) m e = for-argument d i of_lifetime c none refl
      read-traits d (tree (param of_lifetime i) none (tree l c p)) m e = absurd (true-false (sym m))
      read-traits d (tree (param of_lifetime i) (tree k b q) (tree l c p)) m e = absurd (true-false (sym m))
      read-traits d (tree (placeholder k i) c o) m e = absurd (true-false (sym m))
      read-traits d (tree (infer k i) c o) m e = absurd (true-false (sym m))
      read-traits d (tree (canonical k i) c o) m e = absurd (true-false (sym m))
      read-traits d (tree (bound k j i) c o) m e = absurd (true-false (sym m))
      read-traits d (tree l c o) m e = absurd (true-false (sym (left (is_sort (sort_of l) of_lifetime) (is_no_tree c && is_no_tree o) (right (is_declared_leaf l) (is_sort (sort_of l) of_lifetime && (is_no_tree c && is_no_tree o)) m))))

    pub read-unbound : (t : Trees) → IsDeclared t → read (instantiate zero A t) ≡ instantiate zero (read A) t
    read-unbound t e =
        read-terms zero t (left (is_made is_declared_leaf terms t) (not (some_node is_counted t)) e) (not-false (some_node is_counted t) (right (is_made is_declared_leaf terms t) (not (some_node is_counted t)) e))

-- ---- where no place is open
pub shift-shut : (d a : ℕ) (t : Trees) → Shut t → shift d a t ≡ t
shift-shut d a t h = shift-unbound d a t (shut-unbound t h)

pub nth-shut : (t : Trees) (i : ℕ) → Shut t → Shut (nth t i)
nth-shut none i h = refl
nth-shut (tree l c o) zero h = head-shut is_open l c o h
nth-shut (tree l c o) (suc i) h = nth-shut o i (next-shut is_open l c o h)

pub read-declared : (ts : List Trees) (A : Trees) → Shut (read_with (given ts) A) → (t : Trees) → IsDeclared t → read_with (given ts) (instantiate zero A t) ≡ instantiate zero (read_with (given ts) A) t
read-declared ts A h t e = read-unbound ts A (shut-unbound (read_with (given ts) A) h) t e
