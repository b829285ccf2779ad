-- The labels of well-formed terms, and of terms with values in place of leaves.
use Rattle.std.proofs.Common.{◌≡◌, ℕ, Bool, true, false, not, ◌||◌, List, [], ◌∷◌, ◌++◌, refl, sym, ◌∙◌, ap, subst, Option, Some, None, if◌then◌else◌, is_some, ◌⊎◌, inl, inr}
use Rattle.std.specs.Prelude.{IsSome}
use Rattle.type_terms.specs.Promised.Label.{Label, Sort, of_lifetime, infer, static, dynamic, principal, auto_trait, predicate}
use Rattle.type_terms.specs.Promised.Trees.{Trees, none, tree, leaf, ◌+++◌, sort_of, is_sort}
use Rattle.type_terms.specs.Trees.{is_no_tree, put_at_node, Single}
use Rattle.infer_table.specs.Canonical.{OpenKinds, kind_of_leaf, kind_in_clause, is_label_among, with_label, leaves}
use Rattle.infer_table.specs.Solutions.{Binding, replace, is_same_variable, resolved}
use Rattle.goal_evaluator.specs.Lists.{Every}
use Rattle.goal_evaluator.specs.Instances.{read_with, put_in}
use Rattle.type_terms.specs.Made.{Standing, terms, bounds, traits, is_leaf_label, is_made}
use Rattle.goal_evaluator.specs.Equations.{IsValue}
use Rattle.type_terms.proofs.Made.{false-true, left, right, both, no-tree, is_ordinary, made-ordinary, makes-ordinary, made-append, IsLast, last-bound, last-trait, never-dynamic, never-dynamic-bound, never-principal}
use Rattle.goal_evaluator.proofs.Reading.{EachLabel, IsPutIn, put-at}

-- ---- labels of made terms
-- a label of an ordinary term is good
abbrev pub IsGoodLabel : (Label → Bool) → Label → Type 0
IsGoodLabel good l = is_ordinary l ≡ true → good l ≡ true

not-ordinary : (good : Label → Bool) (l : Label) → is_ordinary l ≡ false → IsGoodLabel good l
not-ordinary good l e h = absurd (false-true (sym e ∙ h))

last-labels : (good : Label → Bool) (l : Label) (c o : Trees) → IsLast good l c o → EachLabel (IsGoodLabel good) (tree l c o)
last-labels good l c o x = (
  λ i. x.good_label,
  subst (EachLabel (IsGoodLabel good)) (sym x.children) tt,
  subst (EachLabel (IsGoodLabel good)) (sym x.rest) tt,
)

pub made-labels : (good : Label → Bool) (m : Standing) (t : Trees) → is_made good m t ≡ true → EachLabel (IsGoodLabel good) t
made-labels good terms none h = tt
made-labels good terms (tree dynamic c o) h =
    (not-ordinary good dynamic refl, made-labels good bounds c (left (is_made good bounds c) (is_made good terms o) h), made-labels good terms o (right (is_made good bounds c) (is_made good terms o) h))
made-labels good terms (tree (principal a b) c o) h = absurd (false-true h)
made-labels good terms (tree (auto_trait a) c o) h = absurd (false-true h)
made-labels good terms (tree (predicate k) c o) h = absurd (false-true h)
made-labels good terms (tree l c o) h = let x = made-ordinary good l c o refl h in (λ i. x.0, made-labels good terms c x.2, made-labels good terms o x.3)
made-labels good bounds none h = absurd (false-true h)
made-labels good bounds (tree (principal a b) c o) h =
    (not-ordinary good (principal a b) refl, made-labels good terms c (left (is_made good terms c) (is_made good traits o) h), made-labels good traits o (right (is_made good terms c) (is_made good traits o) h))
made-labels good bounds (tree (predicate k) c o) h = absurd (false-true h)
made-labels good bounds (tree (auto_trait a) c o) h = (
  not-ordinary good (auto_trait a) refl,
  subst (EachLabel (IsGoodLabel good)) (sym (no-tree c (left (is_no_tree c) (is_made good traits o) h))) tt,
  made-labels good traits o (right (is_no_tree c) (is_made good traits o) h),
)
made-labels good bounds (tree dynamic c o) h = absurd (never-dynamic-bound good c o h)
made-labels good bounds (tree l c o) h = last-labels good l c o (last-bound good l c o refl h)
made-labels good traits none h = absurd (false-true h)
made-labels good traits (tree (predicate k) c o) h = absurd (false-true h)
made-labels good traits (tree (auto_trait a) c o) h = (
  not-ordinary good (auto_trait a) refl,
  subst (EachLabel (IsGoodLabel good)) (sym (no-tree c (left (is_no_tree c) (is_made good traits o) h))) tt,
  made-labels good traits o (right (is_no_tree c) (is_made good traits o) h),
)
made-labels good traits (tree dynamic c o) h = absurd (never-dynamic good c o h)
made-labels good traits (tree (principal a b) c o) h = absurd (never-principal good a b c o h)
made-labels good traits (tree l c o) h = last-labels good l c o (last-trait good l c o refl h)

pub label-leaf : (good : Label → Bool) (l : Label) → is_ordinary l ≡ true → good l ≡ true → is_made good terms (leaf l) ≡ true
label-leaf good l i g = makes-ordinary good l none none i g (or-true (not (is_leaf_label l))) refl refl
  where
    or-true : (b : Bool) → (b || true) ≡ true
    or-true true = refl
    or-true false = refl

-- ---- open labels
-- where the label is open, its leaf is made
abbrev pub IsLeafIn : (Label → Bool) → Label → Type 0
IsLeafIn good l = IsSome (kind_of_leaf l) → is_made good terms (leaf l) ≡ true

open-ordinary : (l : Label) → IsSome (kind_of_leaf l) → is_ordinary l ≡ true
open-ordinary dynamic h = absurd (false-true h)
open-ordinary (principal a b) h = absurd (false-true h)
open-ordinary (auto_trait a) h = absurd (false-true h)
open-ordinary (predicate k) h = absurd (false-true h)
open-ordinary l h = refl

pub each-label : (P Q : Label → Type 0) → ((l : Label) → P l → Q l) → (t : Trees) → EachLabel P t → EachLabel Q t
each-label P Q f none h = tt
each-label P Q f (tree l c o) h = (f l h.0, each-label P Q f c h.1, each-label P Q f o h.2)

pub made-leaves : (good : Label → Bool) (m : Standing) (t : Trees) → is_made good m t ≡ true → EachLabel (IsLeafIn good) t
made-leaves good m t h = each-label (IsGoodLabel good) (IsLeafIn good) (λ l g i. label-leaf good l (open-ordinary l i) (g (open-ordinary l i))) t (made-labels good m t h)

pub each-append : (P : Label → Type 0) (x y : Trees) → EachLabel P x → EachLabel P y → EachLabel P (x +++ y)
each-append P none y p q = q
each-append P (tree l c o) y p q = (p.0, p.1, each-append P o y p.2 q)

pub each-replace : (P : Label → Type 0) (k : Sort) (v : ℕ) (r : Trees) → EachLabel P r → (t : Trees) → EachLabel P t → EachLabel P (replace k v r t)
each-replace P k v r q none h = tt
each-replace P k v r q (tree (infer j w) c o) h = by (is_same_variable j w k v) (each-replace P k v r q o h.2)
  where
    by : (b : Bool) → EachLabel P (replace k v r o) → EachLabel P (if b then r +++ replace k v r o else tree (infer j w) c (replace k v r o))
    by true p = each-append P r (replace k v r o) q p
    by false p = (h.0, h.1, p)
each-replace P k v r q (tree l c o) h = (h.0, each-replace P k v r q c h.1, each-replace P k v r q o h.2)

pub each-resolved : (good : Label → Bool) (bs : List Binding) → Every (IsValue good) bs → (t : Trees) → EachLabel (IsLeafIn good) t → EachLabel (IsLeafIn good) (resolved bs t)
each-resolved good [] i t h = h
each-resolved good (b ∷ older) i t h =
    each-replace (IsLeafIn good) b.sort b.var (resolved older b.value) (each-resolved good older i.1 b.value (made-leaves good terms b.value i.0.made)) (resolved older t) (each-resolved good older i.1 t h)

-- ---- the open leaves of trees
pub every-end : (P : Label → Type 0) (xs : List Label) (x : Label) → Every P xs → P x → Every P (xs ++ x ∷ [])
every-end P [] x h p = (p, tt)
every-end P (y ∷ ys) x h p = (h.0, every-end P ys x h.1 p)

pub every-leaf : (kind : OpenKinds) (P : Label → Type 0) (seen : List Label) → Every P seen → (t : Trees) → EachLabel (λ l. IsSome (kind l) → P l) t → Every P (leaves kind seen t)
every-leaf kind P seen s none h = s
every-leaf kind P seen s (tree l c o) h =
    every-leaf kind P (leaves kind (if is_some (kind l) then with_label l seen else seen) c) (every-leaf kind P (if is_some (kind l) then with_label l seen else seen) (here (is_some (kind l)) refl) c h.1) o h.2
  where
    there : (b : Bool) → P l → Every P (if b then seen else seen ++ l ∷ [])
    there true p = s
    there false p = every-end P seen l s p

    here : (b : Bool) → is_some (kind l) ≡ b → Every P (if b then with_label l seen else seen)
    here true e = there (is_label_among l seen) (h.0 e)
    here false e = s

pub clause-open : (l : Label) → IsSome (kind_in_clause l) → IsSome (kind_of_leaf l)
clause-open static h = absurd (false-true h)
clause-open l h = h

-- ---- more labels are good
pub last-made : (good : Label → Bool) (l : Label) → is_sort (sort_of l) of_lifetime ≡ true → good l ≡ true → (is_made good traits (leaf l) ≡ true) × (is_made good bounds (leaf l) ≡ true)
last-made good dynamic e g = absurd (false-true e)
last-made good (principal a b) e g = absurd (false-true e)
last-made good (auto_trait a) e g = absurd (false-true e)
last-made good (predicate k) e g = absurd (false-true e)
last-made good l e g = (both (good l) _ g (both (is_sort (sort_of l) of_lifetime) _ e refl), both (good l) _ g (both (is_sort (sort_of l) of_lifetime) _ e refl))

-- ---- leaves put in for labels
-- what stands in the place of a label is one leaf of its sort
pub record IsLeafFor (better : Label → Bool) (put : Label → Option Trees) (l : Label) : Type 0 where
  pub label : Label
  pub is : put l ≡ Some (leaf label)
  pub sort : sort_of label ≡ sort_of l
  pub made : is_made better terms (leaf label) ≡ true

-- a good label is put in by a leaf, or stays and is good; the labels that are no terms stay
pub record PutsLeaves (good better : Label → Bool) (put : Label → Option Trees) : Type 0 where
  pub leaf_or_stays : (l : Label) → is_ordinary l ≡ true → good l ≡ true → IsLeafFor better put l ⊎ ((put l ≡ None) × (better l ≡ true))
  pub others : (l : Label) → is_ordinary l ≡ false → put l ≡ None

module _ (good better : Label → Bool) (put : Label → Option Trees) (h : PutsLeaves good better put) where
  none-put : (c : Trees) → c ≡ none → put_in put c ≡ none
  none-put c e = ap (put_in put) e

  leaf-put : (l : Label) (c : Trees) → (not (is_leaf_label l) || is_no_tree c) ≡ true → (not (is_leaf_label l) || is_no_tree (put_in put c)) ≡ true
  leaf-put l c e = by (is_leaf_label l) e
    where
      by : (b : Bool) → (not b || is_no_tree c) ≡ true → (not b || is_no_tree (put_in put c)) ≡ true
      by true e = ap is_no_tree (none-put c (no-tree c e))
      by false e = refl

  ordinary-put : (l : Label) (c o : Trees) → is_ordinary l ≡ true → is_made good terms (tree l c o) ≡ true
      → is_made better terms (put_in put c) ≡ true → is_made better terms (put_in put o) ≡ true → is_made better terms (put_in put (tree l c o)) ≡ true
  ordinary-put l c o i m p q = by (h.leaf_or_stays l i parts.0)
    where
      parts : (good l ≡ true) × ((not (is_leaf_label l) || is_no_tree c) ≡ true) × (is_made good terms c ≡ true) × (is_made good terms o ≡ true)
      parts = made-ordinary good l c o i m

      by : IsLeafFor better put l ⊎ ((put l ≡ None) × (better l ≡ true)) → is_made better terms (put_in put (tree l c o)) ≡ true
      by (inl y) =
          ap (λ z. is_made better terms (put_at_node z (tree l (put_in put c) none) +++ put_in put o)) y.is
          ∙ made-append better (leaf y.label) (put_in put o) y.made q
      by (inr e) =
          ap (λ z. is_made better terms (put_at_node z (tree l (put_in put c) none) +++ put_in put o)) e.0
          ∙ makes-ordinary better l (put_in put c) (put_in put o) i e.1 (leaf-put l c parts.1) p q

  leaf-good : (l : Label) → is_sort (sort_of l) of_lifetime ≡ true → is_made better terms (leaf l) ≡ true → better l ≡ true
  leaf-good dynamic e m = absurd (false-true e)
  leaf-good (principal a b) e m = absurd (false-true e)
  leaf-good (auto_trait a) e m = absurd (false-true e)
  leaf-good (predicate k) e m = absurd (false-true e)
  leaf-good l e m = (made-ordinary better l none none refl m).0

  lifetime-ordinary : (l : Label) → is_sort (sort_of l) of_lifetime ≡ true → is_ordinary l ≡ true
  lifetime-ordinary dynamic e = absurd (false-true e)
  lifetime-ordinary (principal a b) e = absurd (false-true e)
  lifetime-ordinary (auto_trait a) e = absurd (false-true e)
  lifetime-ordinary (predicate k) e = absurd (false-true e)
  lifetime-ordinary l e = refl

  last-put : (l : Label) (c o : Trees) → IsLast good l c o → (is_made better traits (put_in put (tree l c o)) ≡ true) × (is_made better bounds (put_in put (tree l c o)) ≡ true)
  last-put l c o x =
      subst (λ z. (is_made better traits (put_in put (tree l z o)) ≡ true) × (is_made better bounds (put_in put (tree l z o)) ≡ true)) (sym x.children)
      (subst (λ z. (is_made better traits (put_in put (tree l none z)) ≡ true) × (is_made better bounds (put_in put (tree l none z)) ≡ true)) (sym x.rest)
      (by (h.leaf_or_stays l (lifetime-ordinary l x.lifetime) x.good_label)))
    where
      at : (y : Trees) → put_at_node (put l) (leaf l) +++ none ≡ y → (is_made better traits y ≡ true) × (is_made better bounds y ≡ true)
          → (is_made better traits (put_in put (leaf l)) ≡ true) × (is_made better bounds (put_in put (leaf l)) ≡ true)
      at y e p = (ap (is_made better traits) e ∙ p.0, ap (is_made better bounds) e ∙ p.1)

      by : IsLeafFor better put l ⊎ ((put l ≡ None) × (better l ≡ true)) → (is_made better traits (put_in put (leaf l)) ≡ true) × (is_made better bounds (put_in put (leaf l)) ≡ true)
      by (inl y) =
          let e = ap (λ z. is_sort z of_lifetime) y.sort ∙ x.lifetime in
          at (leaf y.label) (ap (λ z. put_at_node z (leaf l) +++ none) y.is) (last-made better y.label e (leaf-good y.label e y.made))
      by (inr e) = at (leaf l) (ap (λ z. put_at_node z (leaf l) +++ none) e.0) (last-made better l x.lifetime e.1)

  stays : (l : Label) (c o : Trees) → is_ordinary l ≡ false → put_in put (tree l c o) ≡ tree l (put_in put c) (put_in put o)
  stays l c o e = ap (λ z. put_at_node z (tree l (put_in put c) none) +++ put_in put o) (h.others l e)

  pub made-put-in : (m : Standing) (t : Trees) → is_made good m t ≡ true → is_made better m (put_in put t) ≡ true
  made-put-in terms none e = refl
  made-put-in terms (tree dynamic c o) e =
      ap (is_made better terms) (stays dynamic c o refl)
      ∙ both (is_made better bounds (put_in put c)) (is_made better terms (put_in put o))
      (made-put-in bounds c (left (is_made good bounds c) (is_made good terms o) e)) (made-put-in terms o (right (is_made good bounds c) (is_made good terms o) e))
  made-put-in terms (tree (principal a b) c o) e = absurd (false-true e)
  made-put-in terms (tree (auto_trait a) c o) e = absurd (false-true e)
  made-put-in terms (tree (predicate k) c o) e = absurd (false-true e)
  made-put-in terms (tree l c o) e =
      let x = made-ordinary good l c o refl e in
      ordinary-put l c o refl e (made-put-in terms c x.2) (made-put-in terms o x.3)
  made-put-in bounds none e = absurd (false-true e)
  made-put-in bounds (tree (principal a b) c o) e =
      ap (is_made better bounds) (stays (principal a b) c o refl)
      ∙ both (is_made better terms (put_in put c)) (is_made better traits (put_in put o))
      (made-put-in terms c (left (is_made good terms c) (is_made good traits o) e)) (made-put-in traits o (right (is_made good terms c) (is_made good traits o) e))
  made-put-in bounds (tree (predicate k) c o) e = absurd (false-true e)
  made-put-in bounds (tree (auto_trait a) c o) e =
      ap (is_made better bounds) (stays (auto_trait a) c o refl)
      ∙ both (is_no_tree (put_in put c)) (is_made better traits (put_in put o))
      (ap is_no_tree (none-put c (no-tree c (left (is_no_tree c) (is_made good traits o) e)))) (made-put-in traits o (right (is_no_tree c) (is_made good traits o) e))
  made-put-in bounds (tree dynamic c o) e = absurd (never-dynamic-bound good c o e)
  made-put-in bounds (tree l c o) e = (last-put l c o (last-bound good l c o refl e)).1
  made-put-in traits none e = absurd (false-true e)
  made-put-in traits (tree (predicate k) c o) e = absurd (false-true e)
  made-put-in traits (tree (auto_trait a) c o) e =
      ap (is_made better traits) (stays (auto_trait a) c o refl)
      ∙ both (is_no_tree (put_in put c)) (is_made better traits (put_in put o))
      (ap is_no_tree (none-put c (no-tree c (left (is_no_tree c) (is_made good traits o) e)))) (made-put-in traits o (right (is_no_tree c) (is_made good traits o) e))
  made-put-in traits (tree dynamic c o) e = absurd (never-dynamic good c o e)
  made-put-in traits (tree (principal a b) c o) e = absurd (never-principal good a b c o e)
  made-put-in traits (tree l c o) e = (last-put l c o (last-trait good l c o refl e)).0

  pub single-put-in : (t : Trees) → is_made good terms t ≡ true → Single t → Single (put_in put t)
  single-put-in none e s = absurd s
  single-put-in (tree l c o) e s = subst (λ z. Single (put_in put (tree l c z))) (sym s) (by (is_ordinary l) refl)
    where
      alone : put l ≡ None → Single (put_in put (tree l c none))
      alone e = subst (λ z. Single (put_at_node z (tree l (put_in put c) none) +++ none)) (sym e) refl

      case : IsLeafFor better put l ⊎ ((put l ≡ None) × (better l ≡ true)) → Single (put_in put (tree l c none))
      case (inl y) = subst (λ z. Single (put_at_node z (tree l (put_in put c) none) +++ none)) (sym y.is) refl
      case (inr e) = alone e.0

      by : (b : Bool) → is_ordinary l ≡ b → Single (put_in put (tree l c none))
      by true i = case (h.leaf_or_stays l i (made-ordinary good l c o i e).0)
      by false i = alone (h.others l i)

-- nothing is put in: more labels are good
pub made-more : (good better : Label → Bool) → ((l : Label) → good l ≡ true → better l ≡ true) → (m : Standing) (t : Trees) → is_made good m t ≡ true → is_made better m t ≡ true
made-more good better h m t e =
    ap (is_made better m) (sym (nothing-put t))
    ∙ made-put-in good better (λ l. None) (record { leaf_or_stays = λ l i g. inr (refl, h l g); others = λ l i. refl }) m t e
  where
    nothing-put : (t : Trees) → put_in (λ l. None) t ≡ t
    nothing-put none = refl
    nothing-put (tree l c o) = ap (λ z. tree l z (put_in (λ l. None) o)) (nothing-put c) ∙ ap (tree l c) (nothing-put o)

-- ---- reading what was put in, label by label
pub read-put-each : (q s : Label → Option Trees) (put : Label → Option Trees) (t : Trees) → EachLabel (λ l. IsPutIn q s l (put l)) t → read_with q (put_in put t) ≡ read_with s t
read-put-each q s put none h = refl
read-put-each q s put (tree l c o) h = put-at q s l c (put_in put c) o (put_in put o) (put l) h.0 (read-put-each q s put c h.1) (read-put-each q s put o h.2)
