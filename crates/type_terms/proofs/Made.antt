-- The parts of terms have the shape of terms.
use Rattle.std.proofs.Common.{◌≡◌, ℕ, Bool, true, false, not, ◌&&◌, ◌||◌, refl}
pub use Rattle.type_terms.proofs.Walking.{left, right, both}
use Rattle.type_terms.specs.Promised.Label.{Label, of_lifetime, dynamic, principal, auto_trait, predicate}
use Rattle.type_terms.specs.Promised.Trees.{Trees, none, tree, ◌+++◌, sort_of, is_sort}
use Rattle.type_terms.specs.Trees.{is_no_tree}
use Rattle.type_terms.specs.Made.{Standing, terms, bounds, traits, is_leaf_label, is_made}

pub false-true : false ≡ true → ⊥
false-true e = cc

pub no-tree : (t : Trees) → is_no_tree t ≡ true → t ≡ none
no-tree none h = refl
no-tree (tree l c o) h = absurd (false-true h)

-- a label of an ordinary term
abbrev pub is_ordinary : Label → Bool
is_ordinary dynamic = false
is_ordinary (principal n t) = false
is_ordinary (auto_trait i) = false
is_ordinary (predicate k) = false
is_ordinary l = true

module _ (good : Label → Bool) where
  pub made-ordinary : (l : Label) (c o : Trees) → is_ordinary l ≡ true → is_made good terms (tree l c o) ≡ true
      → (good l ≡ true) × ((not (is_leaf_label l) || is_no_tree c) ≡ true) × (is_made good terms c ≡ true) × (is_made good terms o ≡ true)
  made-ordinary dynamic c o i h = absurd (false-true i)
  made-ordinary (principal n t) c o i h = absurd (false-true i)
  made-ordinary (auto_trait n) c o i h = absurd (false-true i)
  made-ordinary (predicate k) c o i h = absurd (false-true i)
  made-ordinary l c o i h =
      let a = right (good l) _ h in
      let b = right (not (is_leaf_label l) || is_no_tree c) _ a in
      (left (good l) _ h, left (not (is_leaf_label l) || is_no_tree c) _ a, left (is_made good terms c) _ b, right (is_made good terms c) _ b)

  pub makes-ordinary : (l : Label) (c o : Trees) → is_ordinary l ≡ true → good l ≡ true → (not (is_leaf_label l) || is_no_tree c) ≡ true → is_made good terms c ≡ true → is_made good terms o ≡ true
      → is_made good terms (tree l c o) ≡ true
  makes-ordinary dynamic c o i g x a b = absurd (false-true i)
  makes-ordinary (principal n t) c o i g x a b = absurd (false-true i)
  makes-ordinary (auto_trait n) c o i g x a b = absurd (false-true i)
  makes-ordinary (predicate k) c o i g x a b = absurd (false-true i)
  makes-ordinary l c o i g x a b = both (good l) _ g (both (not (is_leaf_label l) || is_no_tree c) _ x (both (is_made good terms c) _ a b))

  -- the rest of a list, and lists one after the other
  pub made-rest : (l : Label) (c o : Trees) → is_made good terms (tree l c o) ≡ true → is_made good terms o ≡ true
  made-rest dynamic c o h = right (is_made good bounds c) _ h
  made-rest (principal n t) c o h = absurd (false-true h)
  made-rest (auto_trait n) c o h = absurd (false-true h)
  made-rest (predicate k) c o h = absurd (false-true h)
  made-rest l c o h = (made-ordinary l c o refl h).3

  pub made-alone : (l : Label) (c o : Trees) → is_made good terms (tree l c o) ≡ true → is_made good terms (tree l c none) ≡ true
  made-alone dynamic c o h = both (is_made good bounds c) true (left (is_made good bounds c) _ h) refl
  made-alone (principal n t) c o h = h
  made-alone (auto_trait n) c o h = h
  made-alone (predicate k) c o h = h
  made-alone l c o h = let x = made-ordinary l c o refl h in makes-ordinary l c none refl x.0 x.1 x.2 refl

  pub made-with : (l : Label) (c o p : Trees) → is_made good terms (tree l c o) ≡ true → is_made good terms p ≡ true → is_made good terms (tree l c p) ≡ true
  made-with dynamic c o p h q = both (is_made good bounds c) _ (left (is_made good bounds c) _ h) q
  made-with (principal n t) c o p h q = absurd (false-true h)
  made-with (auto_trait n) c o p h q = absurd (false-true h)
  made-with (predicate k) c o p h q = absurd (false-true h)
  made-with l c o p h q = let x = made-ordinary l c o refl h in makes-ordinary l c p refl x.0 x.1 x.2 q

  pub made-append : (x y : Trees) → is_made good terms x ≡ true → is_made good terms y ≡ true → is_made good terms (x +++ y) ≡ true
  made-append none y h q = q
  made-append (tree l c o) y h q = made-with l c o (o +++ y) h (made-append o y (made-rest l c o h) q)

  -- the lifetime at the end of the bounds of a `dyn` type
  pub record IsLast (l : Label) (c o : Trees) : Type 0 where
    pub good_label : good l ≡ true
    pub lifetime : is_sort (sort_of l) of_lifetime ≡ true
    pub children : c ≡ none
    pub rest : o ≡ none

  last-of : (l : Label) (c o : Trees) → (good l && (is_sort (sort_of l) of_lifetime && (is_no_tree c && is_no_tree o))) ≡ true → IsLast l c o
  last-of l c o h =
      let a = right (good l) _ h in
      let b = right (is_sort (sort_of l) of_lifetime) _ a in
      record {
        good_label = left (good l) _ h;
        lifetime = left (is_sort (sort_of l) of_lifetime) _ a;
        children = no-tree c (left (is_no_tree c) _ b);
        rest = no-tree o (right (is_no_tree c) _ b);
      }

  pub last-trait : (l : Label) (c o : Trees) → is_ordinary l ≡ true → is_made good traits (tree l c o) ≡ true → IsLast l c o
  last-trait dynamic c o i h = absurd (false-true i)
  last-trait (principal n t) c o i h = absurd (false-true i)
  last-trait (auto_trait n) c o i h = absurd (false-true i)
  last-trait (predicate k) c o i h = absurd (false-true i)
  last-trait l c o i h = last-of l c o h

  pub last-bound : (l : Label) (c o : Trees) → is_ordinary l ≡ true → is_made good bounds (tree l c o) ≡ true → IsLast l c o
  last-bound dynamic c o i h = absurd (false-true i)
  last-bound (principal n t) c o i h = absurd (false-true i)
  last-bound (auto_trait n) c o i h = absurd (false-true i)
  last-bound (predicate k) c o i h = absurd (false-true i)
  last-bound l c o i h = last-of l c o h

  pub never-dynamic : (c o : Trees) → (is_made good traits (tree dynamic c o) ≡ true) → ⊥
  never-dynamic c o h = by (good dynamic) h
    where
      by : (b : Bool) → (b && false) ≡ true → ⊥
      by true h = false-true h
      by false h = false-true h

  pub never-principal : (n t : ℕ) (c o : Trees) → (is_made good traits (tree (principal n t) c o) ≡ true) → ⊥
  never-principal n t c o h = by (good (principal n t)) h
    where
      by : (b : Bool) → (b && false) ≡ true → ⊥
      by true h = false-true h
      by false h = false-true h

  pub never-dynamic-bound : (c o : Trees) → (is_made good bounds (tree dynamic c o) ≡ true) → ⊥
  never-dynamic-bound c o h = by (good dynamic) h
    where
      by : (b : Bool) → (b && false) ≡ true → ⊥
      by true h = false-true h
      by false h = false-true h

-- where each good label is one of another kind
module _ (good better : Label → Bool) (each : (l : Label) → good l ≡ true → better l ≡ true) where
  pub made-weaker : (m : Standing) (t : Trees) → is_made good m t ≡ true → is_made better m t ≡ true
  made-weaker terms none h = refl
  made-weaker terms (tree dynamic c o) h = both (is_made better bounds c) _ (made-weaker bounds c (left (is_made good bounds c) _ h)) (made-weaker terms o (right (is_made good bounds c) _ h))
  made-weaker terms (tree (principal n t) c o) h = h
  made-weaker terms (tree (auto_trait i) c o) h = h
  made-weaker terms (tree (predicate k) c o) h = h
  made-weaker terms (tree l c o) h =
      let x = made-ordinary good l c o refl h in
      makes-ordinary better l c o refl (each l x.0) x.1 (made-weaker terms c x.2) (made-weaker terms o x.3)
  made-weaker bounds none h = h
  made-weaker bounds (tree (principal n t) c o) h = both (is_made better terms c) _ (made-weaker terms c (left (is_made good terms c) _ h)) (made-weaker traits o (right (is_made good terms c) _ h))
  made-weaker bounds (tree (auto_trait i) c o) h = both (is_no_tree c) _ (left (is_no_tree c) _ h) (made-weaker traits o (right (is_no_tree c) _ h))
  made-weaker bounds (tree (predicate k) c o) h = h
  made-weaker bounds (tree l c o) h = both (better l) _ (each l (left (good l) _ h)) (right (good l) _ h)
  made-weaker traits none h = h
  made-weaker traits (tree (auto_trait i) c o) h = both (is_no_tree c) _ (left (is_no_tree c) _ h) (made-weaker traits o (right (is_no_tree c) _ h))
  made-weaker traits (tree (predicate k) c o) h = h
  made-weaker traits (tree l c o) h = both (better l) _ (each l (left (good l) _ h)) (right (good l) _ h)
