-- What is read of a term is read of it without its lifetimes.
use Rattle.std.proofs.Common.{◌≡◌, ℕ, suc, ◌+◌, Bool, true, false, not, ◌&&◌, List, refl, sym, ◌∙◌, ap}
use Rattle.type_terms.specs.Promised.Label.{Label, of_type, of_const, of_lifetime, static, fn_ptr, principal, param, placeholder, infer, canonical, bound}
use Rattle.type_terms.specs.Promised.Trees.{Trees, none, tree, leaf, ◌+++◌, is_sort, sort_of, nth, instantiate, shift, some_node, erase}
use Rattle.type_terms.specs.Trees.{is_a, is_no_tree}
use Rattle.type_terms.proofs.Fitting.{child-shut, next-shut}
use Rattle.type_terms.proofs.Walking.{left, right}
use Rattle.goal_evaluator.specs.Instances.{read_with, put_in, of_sort, term_at}
use Rattle.goal_evaluator.specs.Content.{given}
use Rattle.candidate_model.specs.Candidates.{moved}
use Rattle.candidate_model.specs.Lifetimes.{lacks_lifetime}
use Rattle.candidate_model.proofs.Reading.{read-append}
use Rattle.type_terms.proofs.Matching.{or-false-left as no-left}
use Rattle.type_terms.proofs.BooleanBasics.{true-false}

pub not-no : (b : Bool) → not b ≡ false → b ≡ true
not-no true e = refl
not-no false e = absurd (true-false e)

nothing : (t : Trees) → is_no_tree t ≡ true → t ≡ none
nothing none e = refl
nothing (tree l c o) e = absurd (true-false (sym e))

module _ (ts : List Trees) where
  abbrev read : Trees → Trees
  read t = read_with (given ts) t

  -- a lifetime is read as `'static`
  lifetime-read : (d : ℕ) (t : Trees) → is_a of_lifetime t ≡ true → read (shift 0 d t) ≡ leaf static
  lifetime-read d none e = absurd (true-false (sym e))
  lifetime-read d (tree l c o) e = by l (left (is_sort (sort_of l) of_lifetime) (is_no_tree c && is_no_tree o) e) o (nothing o (right (is_no_tree c) (is_no_tree o) (right (is_sort (sort_of l) of_lifetime) (is_no_tree c && is_no_tree o) e)))
    where
      by : (k : Label) → is_sort (sort_of k) of_lifetime ≡ true → (p : Trees) → p ≡ none → read (shift 0 d (tree k c p)) ≡ leaf static
      by static q p n = ap (λ z. leaf static +++ read (shift 0 d z)) n
      by (param of_lifetime i) q p n = ap (λ z. leaf static +++ read (shift 0 d z)) n
      by (placeholder of_lifetime i) q p n = ap (λ z. leaf static +++ read (shift 0 d z)) n
      by (infer of_lifetime i) q p n = ap (λ z. leaf static +++ read (shift 0 d z)) n
      by (canonical of_lifetime i) q p n = ap (λ z. leaf static +++ read (shift 0 d z)) n
      by (bound of_lifetime j i) q p n = ap (λ z. leaf static +++ read (shift 0 d z)) n
      by k q p n = absurd (true-false (sym q))

  -- ---- instances by arguments
  module _ (A : Trees) where
    argument : (d i : ℕ) (x y : Trees) → read (instantiate d A x) ≡ read (instantiate d A y) → read (shift 0 d (nth A i) +++ instantiate d A x) ≡ read (shift 0 d (nth A i) +++ instantiate d A y)
    argument d i x y e = read-append ts (shift 0 d (nth A i)) (instantiate d A x) ∙ ap (λ z. read (shift 0 d (nth A i)) +++ z) e ∙ sym (read-append ts (shift 0 d (nth A i)) (instantiate d A y))

    pub instance-erased : (d : ℕ) (t : Trees) → some_node (lacks_lifetime A) t ≡ false → read (instantiate d A (erase t)) ≡ read (instantiate d A t)
    instance-erased d none h = refl
    instance-erased d (tree (param of_type i) c o) h = argument d i (erase o) o (instance-erased d o (next-shut (lacks_lifetime A) (param of_type i) c o h))
    instance-erased d (tree (param of_const i) c o) h = argument d i (erase o) o (instance-erased d o (next-shut (lacks_lifetime A) (param of_const i) c o h))
    instance-erased d (tree (param of_lifetime i) c o) h =
        ap (λ z. leaf static +++ z) (instance-erased d o (next-shut (lacks_lifetime A) (param of_lifetime i) c o h))
        ∙ sym (read-append ts (shift 0 d (nth A i)) (instantiate d A o) ∙ ap (λ z. z +++ read (instantiate d A o)) (lifetime-read d (nth A i) (not-no (is_a of_lifetime (nth A i)) (no-left _ (some_node (lacks_lifetime A) c) (no-left _ (some_node (lacks_lifetime A) o) h)))))
    instance-erased d (tree (placeholder of_lifetime i) c o) h = ap (λ z. leaf static +++ z) (instance-erased d o (next-shut (lacks_lifetime A) (placeholder of_lifetime i) c o h))
    instance-erased d (tree (placeholder of_type i) c o) h = ap (λ z. read (leaf (placeholder of_type i)) +++ z) (instance-erased d o (next-shut (lacks_lifetime A) (placeholder of_type i) c o h))
    instance-erased d (tree (placeholder of_const i) c o) h = ap (λ z. read (leaf (placeholder of_const i)) +++ z) (instance-erased d o (next-shut (lacks_lifetime A) (placeholder of_const i) c o h))
    instance-erased d (tree (infer of_lifetime i) c o) h = ap (λ z. leaf static +++ z) (instance-erased d o (next-shut (lacks_lifetime A) (infer of_lifetime i) c o h))
    instance-erased d (tree (infer of_type i) c o) h = ap (λ z. read (leaf (infer of_type i)) +++ z) (instance-erased d o (next-shut (lacks_lifetime A) (infer of_type i) c o h))
    instance-erased d (tree (infer of_const i) c o) h = ap (λ z. read (leaf (infer of_const i)) +++ z) (instance-erased d o (next-shut (lacks_lifetime A) (infer of_const i) c o h))
    instance-erased d (tree (canonical of_lifetime i) c o) h = ap (λ z. leaf static +++ z) (instance-erased d o (next-shut (lacks_lifetime A) (canonical of_lifetime i) c o h))
    instance-erased d (tree (canonical of_type i) c o) h = ap (λ z. of_sort of_type (term_at ts i) +++ z) (instance-erased d o (next-shut (lacks_lifetime A) (canonical of_type i) c o h))
    instance-erased d (tree (canonical of_const i) c o) h = ap (λ z. of_sort of_const (term_at ts i) +++ z) (instance-erased d o (next-shut (lacks_lifetime A) (canonical of_const i) c o h))
    instance-erased d (tree (bound of_lifetime k i) c o) h = ap (λ z. leaf static +++ z) (instance-erased d o (next-shut (lacks_lifetime A) (bound of_lifetime k i) c o h))
    instance-erased d (tree static c o) h = ap (λ z. leaf static +++ z) (instance-erased d o (next-shut (lacks_lifetime A) static c o h))
    instance-erased d (tree (fn_ptr n) c o) h =
        ap (λ z. tree (fn_ptr 0) z (read (instantiate d A (erase o)))) (instance-erased (suc d) c (child-shut (lacks_lifetime A) (fn_ptr n) c o h))
        ∙ ap (λ z. tree (fn_ptr 0) (read (instantiate (suc d) A c)) z) (instance-erased d o (next-shut (lacks_lifetime A) (fn_ptr n) c o h))
    instance-erased d (tree (principal n t) c o) h =
        ap (λ z. tree (principal 0 t) z (read (instantiate d A (erase o)))) (instance-erased (suc d) c (child-shut (lacks_lifetime A) (principal n t) c o h))
        ∙ ap (λ z. tree (principal 0 t) (read (instantiate (suc d) A c)) z) (instance-erased d o (next-shut (lacks_lifetime A) (principal n t) c o h))
    instance-erased d (tree l c o) h =
        ap (λ z. tree l z (read (instantiate d A (erase o)))) (instance-erased d c (child-shut (lacks_lifetime A) l c o h))
        ∙ ap (λ z. tree l (read (instantiate d A c)) z) (instance-erased d o (next-shut (lacks_lifetime A) l c o h))

  -- ---- with variables in the place of parameters
  module _ (n : ℕ) where
    abbrev put : Trees → Trees
    put t = put_in (moved n) t

    pub moved-erased : (t : Trees) → read (put (erase t)) ≡ read (put t)
    moved-erased none = refl
    moved-erased (tree (param of_type i) c o) = ap (λ z. of_sort of_type (term_at ts (n + i)) +++ z) (moved-erased o)
    moved-erased (tree (param of_const i) c o) = ap (λ z. of_sort of_const (term_at ts (n + i)) +++ z) (moved-erased o)
    moved-erased (tree (param of_lifetime i) c o) = ap (λ z. leaf static +++ z) (moved-erased o)
    moved-erased (tree (placeholder of_lifetime i) c o) = ap (λ z. leaf static +++ z) (moved-erased o)
    moved-erased (tree (placeholder of_type i) c o) = ap (λ z. read (leaf (placeholder of_type i)) +++ z) (moved-erased o)
    moved-erased (tree (placeholder of_const i) c o) = ap (λ z. read (leaf (placeholder of_const i)) +++ z) (moved-erased o)
    moved-erased (tree (infer of_lifetime i) c o) = ap (λ z. leaf static +++ z) (moved-erased o)
    moved-erased (tree (infer of_type i) c o) = ap (λ z. read (leaf (infer of_type i)) +++ z) (moved-erased o)
    moved-erased (tree (infer of_const i) c o) = ap (λ z. read (leaf (infer of_const i)) +++ z) (moved-erased o)
    moved-erased (tree (canonical of_lifetime i) c o) = ap (λ z. leaf static +++ z) (moved-erased o)
    moved-erased (tree (canonical of_type i) c o) = ap (λ z. of_sort of_type (term_at ts i) +++ z) (moved-erased o)
    moved-erased (tree (canonical of_const i) c o) = ap (λ z. of_sort of_const (term_at ts i) +++ z) (moved-erased o)
    moved-erased (tree (bound of_lifetime k i) c o) = ap (λ z. leaf static +++ z) (moved-erased o)
    moved-erased (tree static c o) = ap (λ z. leaf static +++ z) (moved-erased o)
    moved-erased (tree (fn_ptr k) c o) = ap (λ z. tree (fn_ptr 0) z (read (put (erase o)))) (moved-erased c) ∙ ap (λ z. tree (fn_ptr 0) (read (put c)) z) (moved-erased o)
    moved-erased (tree (principal k t) c o) = ap (λ z. tree (principal 0 t) z (read (put (erase o)))) (moved-erased c) ∙ ap (λ z. tree (principal 0 t) (read (put c)) z) (moved-erased o)
    moved-erased (tree l c o) = ap (λ z. tree l z (read (put (erase o)))) (moved-erased c) ∙ ap (λ z. tree l (read (put c)) z) (moved-erased o)
