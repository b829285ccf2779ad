-- Readings agree where what stands for the variables agrees.
use Rattle.std.proofs.Common.{◌≡◌, ℕ, zero, suc, Bool, true, false, not, ◌&&◌, ◌||◌, List, [], ◌∷◌, ◌++◌, refl, sym, ◌∙◌, ap, Some}
use Rattle.type_terms.specs.Promised.Label.{Label, Sort, of_type, of_const, of_lifetime, dynamic, principal, auto_trait, param, placeholder, infer, canonical, bound, static, predicate}
use Rattle.type_terms.specs.Promised.Trees.{Trees, none, tree, ◌+++◌, erase_label, is_sort, sort_of}
use Rattle.type_terms.specs.Trees.{put_at_node, is_no_tree}
use Rattle.type_terms.proofs.Walking.{left, right}
use Rattle.type_terms.specs.Made.{terms}
use Rattle.type_terms.specs.Made.{bounds}
use Rattle.type_terms.specs.Made.{traits}
use Rattle.type_terms.specs.Made.{is_leaf_label, is_made}
use Rattle.infer_table.specs.declared.canonical.CanonicalVarKind.{CanonicalVarKind}
use Rattle.goal_evaluator.specs.Instances.{read_with, of_sort, term_at, other_terms}
use Rattle.goal_evaluator.specs.Content.{given}
use Rattle.goal_evaluator.specs.FrameTables.{kind_at}
use Rattle.goal_evaluator.specs.TableAnswers.{is_kind_of}
use Rattle.goal_evaluator.specs.Variables.{is_variable_over}
use Rattle.candidate_model.specs.Cover.{padded}
use Rattle.type_terms.proofs.BooleanBasics.{true-false}

module _ (good : Label → Bool) (xs ys : List Trees) (same : (l : Label) → good l ≡ true → given xs l ≡ given ys l) where
  abbrev Same : Trees → Type 0
  Same t = read_with (given xs) t ≡ read_with (given ys) t

  node : (l : Label) (c o : Trees) → given xs l ≡ given ys l → Same c → Same o → Same (tree l c o)
  node l c o g p q =
      ap (λ z. put_at_node z (tree (erase_label l) (read_with (given xs) c) none) +++ read_with (given xs) o) g
      ∙ ap (λ z. put_at_node (given ys l) (tree (erase_label l) z none) +++ read_with (given xs) o) p
      ∙ ap (λ z. put_at_node (given ys l) (tree (erase_label l) (read_with (given ys) c) none) +++ z) q

  mutual
    pub agree-terms : (t : Trees) → is_made good terms t ≡ true → Same t
    agree-terms none m = refl
    agree-terms (tree dynamic c o) m = node dynamic c o refl (agree-bounds c (left (is_made good bounds c) (is_made good terms o) m)) (agree-terms o (right (is_made good bounds c) (is_made good terms o) m))
    agree-terms (tree (principal n i) c o) m = absurd (true-false (sym m))
    agree-terms (tree (auto_trait i) c o) m = absurd (true-false (sym m))
    agree-terms (tree (predicate i) c o) m = absurd (true-false (sym m))
    agree-terms (tree l c o) m =
        let r = right (good l) ((not (is_leaf_label l) || is_no_tree c) && (is_made good terms c && is_made good terms o)) m in
        let q = right (not (is_leaf_label l) || is_no_tree c) (is_made good terms c && is_made good terms o) r in
        node l c o (same l (left (good l) ((not (is_leaf_label l) || is_no_tree c) && (is_made good terms c && is_made good terms o)) m))
        (agree-terms c (left (is_made good terms c) (is_made good terms o) q)) (agree-terms o (right (is_made good terms c) (is_made good terms o) q))

    agree-bounds : (t : Trees) → is_made good bounds t ≡ true → Same t
    agree-bounds none m = absurd (true-false (sym m))
    agree-bounds (tree (principal n i) c o) m = node (principal n i) c o refl (agree-terms c (left (is_made good terms c) (is_made good traits o) m)) (agree-traits o (right (is_made good terms c) (is_made good traits o) m))
    agree-bounds (tree (auto_trait i) none o) m = node (auto_trait i) none o refl refl (agree-traits o m)
    agree-bounds (tree (auto_trait i) (tree l c p) o) m = absurd (true-false (sym m))
    agree-bounds (tree (predicate k) c o) m = absurd (true-false (sym m))
    agree-bounds (tree l none none) m = node l none none (same l (left (good l) (is_sort (sort_of l) of_lifetime && true) m)) refl refl
    agree-bounds (tree l (tree k c p) o) m = absurd (true-false (sym (right (is_sort (sort_of l) of_lifetime) false (right (good l) (is_sort (sort_of l) of_lifetime && false) m))))
    agree-bounds (tree l none (tree k c p)) m = absurd (true-false (sym (right (is_sort (sort_of l) of_lifetime) false (right (good l) (is_sort (sort_of l) of_lifetime && false) m))))

    agree-traits : (t : Trees) → is_made good traits t ≡ true → Same t
    agree-traits none m = absurd (true-false (sym m))
    agree-traits (tree (auto_trait i) none o) m = node (auto_trait i) none o refl refl (agree-traits o m)
    agree-traits (tree (auto_trait i) (tree l c p) o) m = absurd (true-false (sym m))
    agree-traits (tree (predicate k) c o) m = absurd (true-false (sym m))
    agree-traits (tree l none none) m = node l none none (same l (left (good l) (is_sort (sort_of l) of_lifetime && true) m)) refl refl
    agree-traits (tree l (tree k c p) o) m = absurd (true-false (sym (right (is_sort (sort_of l) of_lifetime) false (right (good l) (is_sort (sort_of l) of_lifetime && false) m))))
    agree-traits (tree l none (tree k c p)) m = absurd (true-false (sym (right (is_sort (sort_of l) of_lifetime) false (right (good l) (is_sort (sort_of l) of_lifetime && false) m))))

-- ---- the goal's own variables
padded-at : (s : Sort) (ks : List CanonicalVarKind) (ts own : List Trees) (i : ℕ) → is_kind_of s (kind_at ks i) ≡ true → term_at (padded ks ts ++ own) i ≡ term_at ts i
padded-at s [] ts own i e = absurd (true-false (sym e))
padded-at s (k ∷ ks) ts own zero e = refl
padded-at s (k ∷ ks) ts own (suc i) e = padded-at s ks (other_terms ts) own i e

own-variable : (ks : List CanonicalVarKind) (ts own : List Trees) (l : Label) → is_variable_over ks l ≡ true → given (padded ks ts ++ own) l ≡ given ts l
own-variable ks ts own (canonical of_type i) e = ap (λ z. Some (of_sort of_type z)) (padded-at of_type ks ts own i e)
own-variable ks ts own (canonical of_const i) e = ap (λ z. Some (of_sort of_const z)) (padded-at of_const ks ts own i e)
own-variable ks ts own (canonical of_lifetime i) e = refl
own-variable ks ts own (infer k v) e = absurd (true-false (sym e))
own-variable ks ts own (param k v) e = absurd (true-false (sym e))
own-variable ks ts own (placeholder k v) e = absurd (true-false (sym e))
own-variable ks ts own (bound of_lifetime k i) e = refl
own-variable ks ts own (bound of_type k i) e = refl
own-variable ks ts own (bound of_const k i) e = refl
own-variable ks ts own static e = refl
own-variable ks ts own l e = refl

-- terms over the goal's variables are read by the goal's values
pub own-read : (ks : List CanonicalVarKind) (ts own : List Trees) (t : Trees) → is_made (is_variable_over ks) terms t ≡ true → read_with (given (padded ks ts ++ own)) t ≡ read_with (given ts) t
own-read ks ts own t m = agree-terms (is_variable_over ks) (padded ks ts ++ own) ts (λ l e. own-variable ks ts own l e) t m
