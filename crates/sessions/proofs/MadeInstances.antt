-- Instances of what is declared are made of such labels as their arguments are.
use Rattle.std.proofs.Common.{◌≡◌, ℕ, zero, suc, Bool, true, false, ◌&&◌, ◌||◌, refl, sym, ◌∙◌, subst}
use Rattle.type_terms.specs.Promised.Label.{Label, Sort, of_type, of_const, of_lifetime, never, static, dynamic, principal, auto_trait, predicate, infer, param, placeholder, canonical, bound, inside}
use Rattle.type_terms.specs.Promised.Trees.{Trees, none, tree, is_sort, sort_of, some_node, nth, shift, instantiate}
use Rattle.type_terms.specs.Trees.{is_no_tree}
use Rattle.type_terms.specs.Made.{Standing, terms, bounds, traits, is_leaf_label, is_made}
use Rattle.type_terms.proofs.Made.{left, right, both, false-true, no-tree, IsLast, made-ordinary, makes-ordinary, made-rest, made-alone, made-append, last-bound, last-trait, never-dynamic, never-dynamic-bound, never-principal}
use Rattle.candidate_model.specs.Declared.{is_declared_leaf, is_lifetime_parameter}
use Rattle.candidate_model.proofs.Instances.{is_bound, shift-unbound}
use Rattle.type_terms.proofs.TermBasics.{gone}
use Rattle.type_terms.proofs.BooleanBasics.{none-of}
use Rattle.candidate_model.proofs.BoundTerms.{no-children}

-- a label of no open place
abbrev pub is_closed_label : Label → Bool
is_closed_label (param k i) = false
is_closed_label (placeholder k i) = false
is_closed_label (infer k i) = false
is_closed_label (canonical k i) = false
is_closed_label (bound k j i) = false
is_closed_label l = true

none-parts : (a b c : Bool) → a || b || c ≡ false → (a ≡ false) × (b ≡ false) × (c ≡ false)
none-parts false false false h = (refl, refl, refl)
none-parts true b c h = absurd (false-true (sym h))
none-parts false true c h = absurd (false-true (sym h))
none-parts false false true h = absurd (false-true (sym h))

-- ---- what is declared without lifetime parameters
abbrev NoLifetimes : Trees → Type 0
NoLifetimes t = some_node is_lifetime_parameter t ≡ false

no-parts : (l : Label) (c o : Trees) → NoLifetimes (tree l c o) → (is_lifetime_parameter l ≡ false) × NoLifetimes c × NoLifetimes o
no-parts l c o h = none-parts (is_lifetime_parameter l) (some_node is_lifetime_parameter c) (some_node is_lifetime_parameter o) h

-- labels are good that are of no open place, and none that is bound
module _ (good : Label → Bool) (closed : (l : Label) → is_closed_label l ≡ true → good l ≡ true) (unbound : (k : Sort) (j i : ℕ) → good (bound k j i) ≡ false) where
  abbrev Free : Trees → Type 0
  Free t = some_node is_bound t ≡ false

  free-label : (l : Label) → good l ≡ true → is_bound l ≡ false
  free-label (bound k j i) h = absurd (false-true (sym (unbound k j i) ∙ h))
  free-label l h = refl

  free-node : (l : Label) (c o : Trees) → is_bound l ≡ false → Free c → Free o → Free (tree l c o)
  free-node l c o h f g = none-of (is_bound l) (some_node is_bound c) (some_node is_bound o) h f g

  free-last : (l : Label) (c o : Trees) → IsLast good l c o → Free (tree l c o)
  free-last l c o x = free-node l c o (free-label l x.good_label) (subst Free (sym x.children) refl) (subst Free (sym x.rest) refl)

  made-free : (m : Standing) (t : Trees) → is_made good m t ≡ true → Free t
  made-free terms none h = refl
  made-free terms (tree dynamic c o) h = free-node dynamic c o refl (made-free bounds c (left (is_made good bounds c) _ h)) (made-free terms o (right (is_made good bounds c) _ h))
  made-free terms (tree (principal n i) c o) h = absurd (false-true h)
  made-free terms (tree (auto_trait i) c o) h = absurd (false-true h)
  made-free terms (tree (predicate k) c o) h = absurd (false-true h)
  made-free terms (tree l c o) h = let x = made-ordinary good l c o refl h in free-node l c o (free-label l x.0) (made-free terms c x.2) (made-free terms o x.3)
  made-free bounds none h = absurd (false-true h)
  made-free bounds (tree (principal n i) c o) h = free-node (principal n i) c o refl (made-free terms c (left (is_made good terms c) _ h)) (made-free traits o (right (is_made good terms c) _ h))
  made-free bounds (tree (auto_trait i) c o) h = free-node (auto_trait i) c o refl (subst Free (sym (no-tree c (left (is_no_tree c) _ h))) refl) (made-free traits o (right (is_no_tree c) _ h))
  made-free bounds (tree (predicate k) c o) h = absurd (false-true h)
  made-free bounds (tree dynamic c o) h = absurd (never-dynamic-bound good c o h)
  made-free bounds (tree l c o) h = free-last l c o (last-bound good l c o refl h)
  made-free traits none h = absurd (false-true h)
  made-free traits (tree (auto_trait i) c o) h = free-node (auto_trait i) c o refl (subst Free (sym (no-tree c (left (is_no_tree c) _ h))) refl) (made-free traits o (right (is_no_tree c) _ h))
  made-free traits (tree (predicate k) c o) h = absurd (false-true h)
  made-free traits (tree dynamic c o) h = absurd (never-dynamic good c o h)
  made-free traits (tree (principal n i) c o) h = absurd (never-principal good n i c o h)
  made-free traits (tree l c o) h = free-last l c o (last-trait good l c o refl h)

  module _ (A : Trees) (made : is_made good terms A ≡ true) where
    nth-made : (B : Trees) (i : ℕ) → is_made good terms B ≡ true → is_made good terms (nth B i) ≡ true
    nth-made none i h = makes-ordinary good never none none refl (closed never refl) refl refl refl
    nth-made (tree l c o) zero h = made-alone good l c o h
    nth-made (tree l c o) (suc i) h = nth-made o i (made-rest good l c o h)

    argument-made : (d i : ℕ) → is_made good terms (shift zero d (nth A i)) ≡ true
    argument-made d i =
        let h = nth-made A i made in
        subst (λ z. is_made good terms z ≡ true) (sym (shift-unbound zero d (nth A i) (made-free terms (nth A i) h))) h

    last-is : (l : Label) (c o : Trees) → good l ≡ true → is_sort (sort_of l) of_lifetime ≡ true → is_no_tree c ≡ true → is_no_tree o ≡ true
        → (good l && (is_sort (sort_of l) of_lifetime && (is_no_tree c && is_no_tree o))) ≡ true
    last-is l c o g s e h = both (good l) _ g (both (is_sort (sort_of l) of_lifetime) _ s (both (is_no_tree c) (is_no_tree o) e h))

    -- the lifetime at the end of the bounds is `'static`
    lasts : (d : ℕ) (l : Label) (c o : Trees) → is_declared_leaf l ≡ true → is_sort (sort_of l) of_lifetime ≡ true → is_lifetime_parameter l ≡ false → c ≡ none → o ≡ none
        → (is_made good traits (instantiate d A (tree l c o)) ≡ true) × (is_made good bounds (instantiate d A (tree l c o)) ≡ true)
    lasts d static c o g s e p q = let x = last-is static (instantiate d A c) (instantiate d A o) (closed static refl) refl (gone (instantiate d A) refl c p) (gone (instantiate d A) refl o q) in (x, x)
    lasts d (param of_lifetime i) c o g s e p q = absurd (false-true (sym e))
    lasts d (param of_type i) c o g s e p q = absurd (false-true s)
    lasts d (param of_const i) c o g s e p q = absurd (false-true s)
    lasts d (infer k i) c o g s e p q = absurd (false-true g)
    lasts d (canonical k i) c o g s e p q = absurd (false-true g)
    lasts d (placeholder k i) c o g s e p q = absurd (false-true g)
    lasts d (bound k j i) c o g s e p q = absurd (false-true g)
    lasts d l c o g s e p q = absurd (false-true s)

    pub instance-made : (d : ℕ) (m : Standing) (t : Trees) → is_made is_declared_leaf m t ≡ true → NoLifetimes t → is_made good m (instantiate d A t) ≡ true
    instance-made d terms none h e = refl
    instance-made d terms (tree dynamic c o) h e =
        let p = no-parts dynamic c o e in
        both (is_made good bounds (instantiate d A c)) _ (instance-made d bounds c (left (is_made is_declared_leaf bounds c) (is_made is_declared_leaf terms o) h) p.1) (instance-made d terms o (right (is_made is_declared_leaf bounds c) (is_made is_declared_leaf terms o) h) p.2)
    instance-made d terms (tree (principal k t) c o) h e = absurd (false-true h)
    instance-made d terms (tree (auto_trait t) c o) h e = absurd (false-true h)
    instance-made d terms (tree (predicate k) c o) h e = absurd (false-true h)
    instance-made d terms (tree (param s i) c o) h e =
        made-append good (shift zero d (nth A i)) (instantiate d A o) (argument-made d i) (instance-made d terms o (made-rest is_declared_leaf (param s i) c o h) (no-parts (param s i) c o e).2)
    instance-made d terms (tree (infer s i) c o) h e = absurd (false-true h)
    instance-made d terms (tree (canonical s i) c o) h e = absurd (false-true h)
    instance-made d terms (tree (placeholder s i) c o) h e = absurd (false-true h)
    instance-made d terms (tree (bound s k i) c o) h e = absurd (false-true h)
    instance-made d terms (tree l c o) h e =
        let x = made-ordinary is_declared_leaf l c o refl h in
        let p = no-parts l c o e in
        makes-ordinary good l (instantiate (inside l d) A c) (instantiate d A o) refl (closed l refl) (no-children (is_leaf_label l) (instantiate (inside l d) A) refl c x.1) (instance-made (inside l d) terms c x.2 p.1) (instance-made d terms o x.3 p.2)
    instance-made d bounds none h e = absurd (false-true h)
    instance-made d bounds (tree (predicate k) c o) h e = absurd (false-true h)
    instance-made d bounds (tree dynamic c o) h e = absurd (never-dynamic-bound is_declared_leaf c o h)
    instance-made d bounds (tree (principal k t) c o) h e =
        let p = no-parts (principal k t) c o e in
        both (is_made good terms (instantiate (inside (principal k t) d) A c)) _ (instance-made (inside (principal k t) d) terms c (left (is_made is_declared_leaf terms c) (is_made is_declared_leaf traits o) h) p.1)
        (instance-made d traits o (right (is_made is_declared_leaf terms c) (is_made is_declared_leaf traits o) h) p.2)
    instance-made d bounds (tree (auto_trait t) c o) h e =
        both (is_no_tree (instantiate d A c)) _ (gone (instantiate d A) refl c (no-tree c (left (is_no_tree c) (is_made is_declared_leaf traits o) h)))
        (instance-made d traits o (right (is_no_tree c) (is_made is_declared_leaf traits o) h) (no-parts (auto_trait t) c o e).2)
    instance-made d bounds (tree l c o) h e = let x = last-bound is_declared_leaf l c o refl h in (lasts d l c o x.good_label x.lifetime (no-parts l c o e).0 x.children x.rest).1
    instance-made d traits none h e = absurd (false-true h)
    instance-made d traits (tree (predicate k) c o) h e = absurd (false-true h)
    instance-made d traits (tree dynamic c o) h e = absurd (never-dynamic is_declared_leaf c o h)
    instance-made d traits (tree (principal k t) c o) h e = absurd (never-principal is_declared_leaf k t c o h)
    instance-made d traits (tree (auto_trait t) c o) h e =
        both (is_no_tree (instantiate d A c)) _ (gone (instantiate d A) refl c (no-tree c (left (is_no_tree c) (is_made is_declared_leaf traits o) h)))
        (instance-made d traits o (right (is_no_tree c) (is_made is_declared_leaf traits o) h) (no-parts (auto_trait t) c o e).2)
    instance-made d traits (tree l c o) h e = let x = last-trait is_declared_leaf l c o refl h in (lasts d l c o x.good_label x.lifetime (no-parts l c o e).0 x.children x.rest).0
