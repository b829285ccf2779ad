-- A resolved term is a term.
use Rattle.std.proofs.Common.{◌≡◌, ℕ, Bool, true, false, ◌||◌, List, [], ◌∷◌, refl, sym, ◌∙◌, ap, if◌then◌else◌}
use Rattle.std.specs.Prelude.{not}
use Rattle.type_terms.specs.Promised.Label.{Label, Sort, of_type, of_const, of_lifetime, infer, dynamic, principal, auto_trait, predicate}
use Rattle.type_terms.specs.Promised.Trees.{Trees, none, tree, leaf, ◌+++◌, sort_of, is_sort}
use Rattle.type_terms.specs.Trees.{is_no_tree}
use Rattle.infer_table.specs.Solutions.{Binding, replace, is_same_variable, resolved, HasValues}
use Rattle.goal_evaluator.specs.Lists.{Every}
use Rattle.type_terms.specs.Made.{Standing, terms, bounds, traits, is_leaf_label, is_made}
use Rattle.goal_evaluator.specs.Equations.{IsValue}
use Rattle.type_terms.proofs.Made.{false-true, left, right, both, no-tree, makes-ordinary, made-rest, made-with, made-append, made-ordinary, IsLast, last-bound, last-trait, never-dynamic, never-dynamic-bound, never-principal}

module _ (good : Label → Bool) where
  -- ---- resolved terms are terms
  no-tree-replaced : (k : Sort) (v : ℕ) (r c : Trees) → c ≡ none → replace k v r c ≡ none
  no-tree-replaced k v r c e = ap (replace k v r) e

  leaf-replaced : (l : Label) (k : Sort) (v : ℕ) (r c : Trees) → (not (is_leaf_label l) || is_no_tree c) ≡ true → (not (is_leaf_label l) || is_no_tree (replace k v r c)) ≡ true
  leaf-replaced l k v r c e = by (is_leaf_label l) e
    where
      by : (b : Bool) → (not b || is_no_tree c) ≡ true → (not b || is_no_tree (replace k v r c)) ≡ true
      by true e = ap is_no_tree (no-tree-replaced k v r c (no-tree c e))
      by false e = refl

  lifetime-apart : (j k : Sort) (w v : ℕ) → HasValues k → is_sort j of_lifetime ≡ true → is_same_variable j w k v ≡ false
  lifetime-apart of_lifetime of_type w v g e = refl
  lifetime-apart of_lifetime of_const w v g e = refl
  lifetime-apart j of_lifetime w v g e = absurd g
  lifetime-apart j k w v g e = absurd (false-true e)

  -- the lifetime at the end stays
  last-stays : (k : Sort) (v : ℕ) (r : Trees) → HasValues k → (l : Label) (c o : Trees) → IsLast good l c o → replace k v r (tree l c o) ≡ tree l c o
  last-stays k v r g l c o x =
      ap (λ z. replace k v r (tree l z o)) x.children ∙ ap (λ z. replace k v r (tree l none z)) x.rest ∙ by l x.lifetime
      ∙ ap (λ z. tree l none z) (sym x.rest) ∙ ap (λ z. tree l z o) (sym x.children)
    where
      by : (l : Label) → is_sort (sort_of l) of_lifetime ≡ true → replace k v r (leaf l) ≡ leaf l
      by (infer j w) e = ap (λ (b : Bool). if b then r +++ none else leaf (infer j w)) (lifetime-apart j k w v g e)
      by l e = refl

  made-replace : (k : Sort) (v : ℕ) (r : Trees) → HasValues k → is_made good terms r ≡ true → (m : Standing) (t : Trees) → is_made good m t ≡ true → is_made good m (replace k v r t) ≡ true
  made-replace k v r g q terms none e = refl
  made-replace k v r g q terms (tree dynamic c o) e =
      both (is_made good bounds (replace k v r c)) (is_made good terms (replace k v r o))
      (made-replace k v r g q bounds c (left (is_made good bounds c) (is_made good terms o) e)) (made-replace k v r g q terms o (right (is_made good bounds c) (is_made good terms o) e))
  made-replace k v r g q terms (tree (principal a b) c o) e = absurd (false-true e)
  made-replace k v r g q terms (tree (auto_trait a) c o) e = absurd (false-true e)
  made-replace k v r g q terms (tree (predicate _) c o) e = absurd (false-true e)
  made-replace k v r g q terms (tree (infer j w) c o) e = by (is_same_variable j w k v) (made-replace k v r g q terms o (made-rest good (infer j w) c o e))
    where
      by : (b : Bool) → is_made good terms (replace k v r o) ≡ true → is_made good terms (if b then r +++ replace k v r o else tree (infer j w) c (replace k v r o)) ≡ true
      by true f = made-append good r (replace k v r o) q f
      by false f = made-with good (infer j w) c o (replace k v r o) e f
  made-replace k v r g q terms (tree l c o) e =
      let x = made-ordinary good l c o refl e in
      makes-ordinary good l (replace k v r c) (replace k v r o) refl x.0 (leaf-replaced l k v r c x.1) (made-replace k v r g q terms c x.2) (made-replace k v r g q terms o x.3)
  made-replace k v r g q bounds none e = absurd (false-true e)
  made-replace k v r g q bounds (tree (principal a b) c o) e =
      both (is_made good terms (replace k v r c)) (is_made good traits (replace k v r o))
      (made-replace k v r g q terms c (left (is_made good terms c) (is_made good traits o) e)) (made-replace k v r g q traits o (right (is_made good terms c) (is_made good traits o) e))
  made-replace k v r g q bounds (tree (predicate _) c o) e = absurd (false-true e)
  made-replace k v r g q bounds (tree (auto_trait a) c o) e =
      both (is_no_tree (replace k v r c)) (is_made good traits (replace k v r o))
      (ap is_no_tree (no-tree-replaced k v r c (no-tree c (left (is_no_tree c) (is_made good traits o) e)))) (made-replace k v r g q traits o (right (is_no_tree c) (is_made good traits o) e))
  made-replace k v r g q bounds (tree dynamic c o) e = absurd (never-dynamic-bound good c o e)
  made-replace k v r g q bounds (tree l c o) e = ap (is_made good bounds) (last-stays k v r g l c o (last-bound good l c o refl e)) ∙ e
  made-replace k v r g q traits none e = absurd (false-true e)
  made-replace k v r g q traits (tree (predicate _) c o) e = absurd (false-true e)
  made-replace k v r g q traits (tree (auto_trait a) c o) e =
      both (is_no_tree (replace k v r c)) (is_made good traits (replace k v r o))
      (ap is_no_tree (no-tree-replaced k v r c (no-tree c (left (is_no_tree c) (is_made good traits o) e)))) (made-replace k v r g q traits o (right (is_no_tree c) (is_made good traits o) e))
  made-replace k v r g q traits (tree dynamic c o) e = absurd (never-dynamic good c o e)
  made-replace k v r g q traits (tree (principal a b) c o) e = absurd (never-principal good a b c o e)
  made-replace k v r g q traits (tree l c o) e = ap (is_made good traits) (last-stays k v r g l c o (last-trait good l c o refl e)) ∙ e

  pub made-resolved : (bs : List Binding) → Every (IsValue good) bs → (m : Standing) (t : Trees) → is_made good m t ≡ true → is_made good m (resolved bs t) ≡ true
  made-resolved [] i m t e = e
  made-resolved (b ∷ older) i m t e = made-replace b.sort b.var (resolved older b.value) i.0.sort (made-resolved older i.1 terms b.value i.0.made) m (resolved older t) (made-resolved older i.1 m t e)
