-- Made terms without their lifetimes are declared terms, where no place is open but those of parameters.
use Rattle.std.proofs.Common.{◌≡◌, zero, Bool, true, false, not, ◌&&◌, ◌||◌, refl, ◌∙◌, ap}
use Rattle.type_terms.specs.Promised.Label.{Label, Sort, of_type, of_const, of_lifetime, dynamic, principal, auto_trait, predicate, param, placeholder, infer, canonical, bound}
use Rattle.type_terms.specs.Promised.Trees.{Trees, none, tree, erase, erase_label, sort_of, is_sort, some_node}
use Rattle.type_terms.specs.Trees.{is_no_tree, Single}
use Rattle.type_terms.specs.Promised.LinkedSet.{is_stray}
use Rattle.type_terms.proofs.Fitting.{child-shut, next-shut, or-no}
use Rattle.type_terms.specs.Made.{Standing, terms, bounds, traits, is_leaf_label, is_made}
use Rattle.type_terms.proofs.Made.{left, right, both, false-true, is_ordinary, made-ordinary, makes-ordinary, last-bound, last-trait, never-dynamic, never-dynamic-bound, never-principal}
use Rattle.candidate_model.specs.Declared.{is_declared_leaf, is_counted, are_terms, is_lifetime_parameter}
use Rattle.type_terms.proofs.Matching.{or-false-left as no-left}
use Rattle.type_terms.proofs.BooleanBasics.{true-false}
use Rattle.type_terms.proofs.TermBasics.{erased-empty}

-- ---- labels without lifetimes
-- what is kept, and what is gone
record ErasedLabel (l : Label) : Type 0 where
  ordinary : is_ordinary (erase_label l) ≡ is_ordinary l
  leaf : is_leaf_label (erase_label l) ≡ is_leaf_label l
  sort : sort_of (erase_label l) ≡ sort_of l
  uncounted : is_counted (erase_label l) ≡ false
  no_parameter : is_lifetime_parameter (erase_label l) ≡ false

erased-label : (l : Label) → ErasedLabel l
erased-label (param of_type i) = record { ordinary = refl; leaf = refl; sort = refl; uncounted = refl; no_parameter = refl }
erased-label (param of_const i) = record { ordinary = refl; leaf = refl; sort = refl; uncounted = refl; no_parameter = refl }
erased-label (param of_lifetime i) = record { ordinary = refl; leaf = refl; sort = refl; uncounted = refl; no_parameter = refl }
erased-label (placeholder of_type i) = record { ordinary = refl; leaf = refl; sort = refl; uncounted = refl; no_parameter = refl }
erased-label (placeholder of_const i) = record { ordinary = refl; leaf = refl; sort = refl; uncounted = refl; no_parameter = refl }
erased-label (placeholder of_lifetime i) = record { ordinary = refl; leaf = refl; sort = refl; uncounted = refl; no_parameter = refl }
erased-label (infer of_type i) = record { ordinary = refl; leaf = refl; sort = refl; uncounted = refl; no_parameter = refl }
erased-label (infer of_const i) = record { ordinary = refl; leaf = refl; sort = refl; uncounted = refl; no_parameter = refl }
erased-label (infer of_lifetime i) = record { ordinary = refl; leaf = refl; sort = refl; uncounted = refl; no_parameter = refl }
erased-label (canonical of_type i) = record { ordinary = refl; leaf = refl; sort = refl; uncounted = refl; no_parameter = refl }
erased-label (canonical of_const i) = record { ordinary = refl; leaf = refl; sort = refl; uncounted = refl; no_parameter = refl }
erased-label (canonical of_lifetime i) = record { ordinary = refl; leaf = refl; sort = refl; uncounted = refl; no_parameter = refl }
erased-label (bound of_type k i) = record { ordinary = refl; leaf = refl; sort = refl; uncounted = refl; no_parameter = refl }
erased-label (bound of_const k i) = record { ordinary = refl; leaf = refl; sort = refl; uncounted = refl; no_parameter = refl }
erased-label (bound of_lifetime k i) = record { ordinary = refl; leaf = refl; sort = refl; uncounted = refl; no_parameter = refl }
erased-label l = record { ordinary = refl; leaf = refl; sort = refl; uncounted = refl; no_parameter = refl }

not-stray : (l : Label) → is_stray l ≡ false → is_declared_leaf l ≡ true
not-stray (placeholder s i) e = absurd (true-false e)
not-stray (infer s i) e = absurd (true-false e)
not-stray (canonical s i) e = absurd (true-false e)
not-stray (bound s k i) e = absurd (true-false e)
not-stray l e = refl

own-label : (l : Label) (c o : Trees) → some_node is_stray (tree l c o) ≡ false → is_declared_leaf l ≡ true
own-label l c o e = not-stray l (no-left (is_stray l) (some_node is_stray c) (no-left (is_stray l || some_node is_stray c) (some_node is_stray o) e))

-- ---- terms
erased-none : (t : Trees) → t ≡ none → is_no_tree (erase t) ≡ true
erased-none t e = ap (λ z. is_no_tree (erase z)) e

last-is : (l : Label) (c o : Trees) → is_declared_leaf l ≡ true → sort_of l ≡ of_lifetime → is_no_tree c ≡ true → is_no_tree o ≡ true → is_declared_leaf l && (is_sort (sort_of l) of_lifetime && (is_no_tree c && is_no_tree o)) ≡ true
last-is l c o d s e f = both (is_declared_leaf l) _ d (both (is_sort (sort_of l) of_lifetime) _ (ap (λ k. is_sort k of_lifetime) s) (both (is_no_tree c) (is_no_tree o) e f))

last-bound-is : (l : Label) (c o : Trees) → is_ordinary l ≡ true → is_declared_leaf l ≡ true → sort_of l ≡ of_lifetime → is_no_tree c ≡ true → is_no_tree o ≡ true → is_made is_declared_leaf bounds (tree l c o) ≡ true
last-bound-is dynamic c o i d s e f = absurd (false-true i)
last-bound-is (principal n t) c o i d s e f = absurd (false-true i)
last-bound-is (auto_trait t) c o i d s e f = absurd (false-true i)
last-bound-is (predicate k) c o i d s e f = absurd (false-true i)
last-bound-is l c o i d s e f = last-is l c o d s e f

last-trait-is : (l : Label) (c o : Trees) → is_ordinary l ≡ true → is_declared_leaf l ≡ true → sort_of l ≡ of_lifetime → is_no_tree c ≡ true → is_no_tree o ≡ true → is_made is_declared_leaf traits (tree l c o) ≡ true
last-trait-is dynamic c o i d s e f = absurd (false-true i)
last-trait-is (principal n t) c o i d s e f = absurd (false-true i)
last-trait-is (auto_trait t) c o i d s e f = absurd (false-true i)
last-trait-is (predicate k) c o i d s e f = absurd (false-true i)
last-trait-is l c o i d s e f = last-is l c o d s e f

lifetime-is : (k : Sort) → is_sort k of_lifetime ≡ true → k ≡ of_lifetime
lifetime-is of_type e = absurd (false-true e)
lifetime-is of_const e = absurd (false-true e)
lifetime-is of_lifetime e = refl

module _ (good : Label → Bool) where
  erased-made : (m : Standing) (t : Trees) → is_made good m t ≡ true → some_node is_stray (erase t) ≡ false → is_made is_declared_leaf m (erase t) ≡ true
  erased-made terms none h e = refl
  erased-made terms (tree dynamic c o) h e =
      both (is_made is_declared_leaf bounds (erase c)) _ (erased-made bounds c (left (is_made good bounds c) (is_made good terms o) h) (child-shut is_stray dynamic (erase c) (erase o) e))
      (erased-made terms o (right (is_made good bounds c) (is_made good terms o) h) (next-shut is_stray dynamic (erase c) (erase o) e))
  erased-made terms (tree (principal n t) c o) h e = absurd (false-true h)
  erased-made terms (tree (auto_trait t) c o) h e = absurd (false-true h)
  erased-made terms (tree (predicate k) c o) h e = absurd (false-true h)
  erased-made terms (tree l c o) h e =
      let x = made-ordinary good l c o refl h in
      let y = erased-label l in
      makes-ordinary is_declared_leaf (erase_label l) (erase c) (erase o) y.ordinary (own-label (erase_label l) (erase c) (erase o) e)
      (ap (λ b. not b || is_no_tree (erase c)) y.leaf ∙ ap (λ b. not (is_leaf_label l) || b) (erased-empty c) ∙ x.1)
      (erased-made terms c x.2 (child-shut is_stray (erase_label l) (erase c) (erase o) e)) (erased-made terms o x.3 (next-shut is_stray (erase_label l) (erase c) (erase o) e))
  erased-made bounds none h e = absurd (false-true h)
  erased-made bounds (tree (principal n t) c o) h e =
      both (is_made is_declared_leaf terms (erase c)) _ (erased-made terms c (left (is_made good terms c) (is_made good traits o) h) (child-shut is_stray (principal zero t) (erase c) (erase o) e))
      (erased-made traits o (right (is_made good terms c) (is_made good traits o) h) (next-shut is_stray (principal zero t) (erase c) (erase o) e))
  erased-made bounds (tree (auto_trait t) c o) h e =
      both (is_no_tree (erase c)) _ (erased-empty c ∙ left (is_no_tree c) (is_made good traits o) h) (erased-made traits o (right (is_no_tree c) (is_made good traits o) h) (next-shut is_stray (auto_trait t) (erase c) (erase o) e))
  erased-made bounds (tree (predicate k) c o) h e = absurd (false-true h)
  erased-made bounds (tree dynamic c o) h e = absurd (never-dynamic-bound good c o h)
  erased-made bounds (tree l c o) h e =
      let x = last-bound good l c o refl h in
      let y = erased-label l in
      last-bound-is (erase_label l) (erase c) (erase o) y.ordinary (own-label (erase_label l) (erase c) (erase o) e) (y.sort ∙ lifetime-is (sort_of l) x.lifetime) (erased-none c x.children) (erased-none o x.rest)
  erased-made traits none h e = absurd (false-true h)
  erased-made traits (tree (auto_trait t) c o) h e =
      both (is_no_tree (erase c)) _ (erased-empty c ∙ left (is_no_tree c) (is_made good traits o) h) (erased-made traits o (right (is_no_tree c) (is_made good traits o) h) (next-shut is_stray (auto_trait t) (erase c) (erase o) e))
  erased-made traits (tree (predicate k) c o) h e = absurd (false-true h)
  erased-made traits (tree dynamic c o) h e = absurd (never-dynamic good c o h)
  erased-made traits (tree (principal n t) c o) h e = absurd (never-principal good n t c o h)
  erased-made traits (tree l c o) h e =
      let x = last-trait good l c o refl h in
      let y = erased-label l in
      last-trait-is (erase_label l) (erase c) (erase o) y.ordinary (own-label (erase_label l) (erase c) (erase o) e) (y.sort ∙ lifetime-is (sort_of l) x.lifetime) (erased-none c x.children) (erased-none o x.rest)

  uncounted : (t : Trees) → some_node is_counted (erase t) ≡ false
  uncounted none = refl
  uncounted (tree l c o) = or-no (is_counted (erase_label l) || some_node is_counted (erase c)) (some_node is_counted (erase o)) (or-no (is_counted (erase_label l)) (some_node is_counted (erase c)) (erased-label l).uncounted (uncounted c)) (uncounted o)

  -- a made term without its lifetimes is a declared one
  pub erased-terms : (t : Trees) → is_made good terms t ≡ true → some_node is_stray (erase t) ≡ false → are_terms (erase t) ≡ true
  erased-terms t h e = both (is_made is_declared_leaf terms (erase t)) (not (some_node is_counted (erase t))) (erased-made terms t h e) (ap not (uncounted t))

-- a declared term without its lifetimes is a declared one
declared-label : (l : Label) → is_declared_leaf l ≡ true → is_declared_leaf (erase_label l) ≡ true
declared-label (param of_type i) e = refl
declared-label (param of_const i) e = refl
declared-label (param of_lifetime i) e = refl
declared-label (placeholder k i) e = absurd (false-true e)
declared-label (infer k i) e = absurd (false-true e)
declared-label (canonical k i) e = absurd (false-true e)
declared-label (bound s k i) e = absurd (false-true e)
declared-label l e = refl

declared-made : (m : Standing) (t : Trees) → is_made is_declared_leaf m t ≡ true → is_made is_declared_leaf m (erase t) ≡ true
declared-made terms none h = refl
declared-made terms (tree dynamic c o) h =
    both (is_made is_declared_leaf bounds (erase c)) _ (declared-made bounds c (left (is_made is_declared_leaf bounds c) (is_made is_declared_leaf terms o) h)) (declared-made terms o (right (is_made is_declared_leaf bounds c) (is_made is_declared_leaf terms o) h))
declared-made terms (tree (principal n t) c o) h = absurd (false-true h)
declared-made terms (tree (auto_trait t) c o) h = absurd (false-true h)
declared-made terms (tree (predicate k) c o) h = absurd (false-true h)
declared-made terms (tree l c o) h =
    let x = made-ordinary is_declared_leaf l c o refl h in
    let y = erased-label l in
    makes-ordinary is_declared_leaf (erase_label l) (erase c) (erase o) y.ordinary (declared-label l x.0) (ap (λ b. not b || is_no_tree (erase c)) y.leaf ∙ ap (λ b. not (is_leaf_label l) || b) (erased-empty c) ∙ x.1)
    (declared-made terms c x.2) (declared-made terms o x.3)
declared-made bounds none h = absurd (false-true h)
declared-made bounds (tree (principal n t) c o) h =
    both (is_made is_declared_leaf terms (erase c)) _ (declared-made terms c (left (is_made is_declared_leaf terms c) (is_made is_declared_leaf traits o) h)) (declared-made traits o (right (is_made is_declared_leaf terms c) (is_made is_declared_leaf traits o) h))
declared-made bounds (tree (auto_trait t) c o) h = both (is_no_tree (erase c)) _ (erased-empty c ∙ left (is_no_tree c) (is_made is_declared_leaf traits o) h) (declared-made traits o (right (is_no_tree c) (is_made is_declared_leaf traits o) h))
declared-made bounds (tree (predicate k) c o) h = absurd (false-true h)
declared-made bounds (tree dynamic c o) h = absurd (never-dynamic-bound is_declared_leaf c o h)
declared-made bounds (tree l c o) h =
    let x = last-bound is_declared_leaf l c o refl h in
    let y = erased-label l in
    last-bound-is (erase_label l) (erase c) (erase o) y.ordinary (declared-label l x.good_label) (y.sort ∙ lifetime-is (sort_of l) x.lifetime) (erased-none c x.children) (erased-none o x.rest)
declared-made traits none h = absurd (false-true h)
declared-made traits (tree (auto_trait t) c o) h = both (is_no_tree (erase c)) _ (erased-empty c ∙ left (is_no_tree c) (is_made is_declared_leaf traits o) h) (declared-made traits o (right (is_no_tree c) (is_made is_declared_leaf traits o) h))
declared-made traits (tree (predicate k) c o) h = absurd (false-true h)
declared-made traits (tree dynamic c o) h = absurd (never-dynamic is_declared_leaf c o h)
declared-made traits (tree (principal n t) c o) h = absurd (never-principal is_declared_leaf n t c o h)
declared-made traits (tree l c o) h =
    let x = last-trait is_declared_leaf l c o refl h in
    let y = erased-label l in
    last-trait-is (erase_label l) (erase c) (erase o) y.ordinary (declared-label l x.good_label) (y.sort ∙ lifetime-is (sort_of l) x.lifetime) (erased-none c x.children) (erased-none o x.rest)

pub declared-stays : (t : Trees) → are_terms t ≡ true → are_terms (erase t) ≡ true
declared-stays t e =
    both (is_made is_declared_leaf terms (erase t)) (not (some_node is_counted (erase t))) (declared-made terms t (left (is_made is_declared_leaf terms t) (not (some_node is_counted t)) e)) (ap not (uncounted is_declared_leaf t))

pub erased-lifetimes : (t : Trees) → some_node is_lifetime_parameter (erase t) ≡ false
erased-lifetimes none = refl
erased-lifetimes (tree l c o) =
    or-no (is_lifetime_parameter (erase_label l) || some_node is_lifetime_parameter (erase c)) (some_node is_lifetime_parameter (erase o))
    (or-no (is_lifetime_parameter (erase_label l)) (some_node is_lifetime_parameter (erase c)) (erased-label l).no_parameter (erased-lifetimes c)) (erased-lifetimes o)

pub erased-single : (t : Trees) → Single t → Single (erase t)
erased-single none s = absurd s
erased-single (tree l c o) s = ap erase s
