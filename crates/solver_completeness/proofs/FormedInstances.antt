-- Instances of declarations, by arguments of the parameters' kinds, are well-formed.
use Rattle.std.proofs.Common.{◌≡◌, ℕ, zero, suc, ◌==◌, Bool, true, false, not, ◌&&◌, ◌||◌, List, [], ◌∷◌, ◌++◌, map, refl, sym, ◌∙◌, ap, subst}
use Rattle.type_terms.specs.Promised.Label.{Label, Sort, of_type, of_const, of_lifetime, param, placeholder, infer, canonical, bound, inside, static, array, slice, tuple, dynamic, adt, fn_ptr, ref, raw_pointer, principal, auto_trait, of_trait, predicate}
use Rattle.type_terms.specs.Promised.Trees.{Trees, none, tree, leaf, ◌+++◌, nth, shift, instantiate, is_sort, sort_of, some_node}
use Rattle.type_terms.specs.Trees.{is_a, is_no_tree, fits}
use Rattle.type_terms.specs.Promised.Worlds.{World, Reference}
use Rattle.type_terms.specs.Promised.Rules.{autos_with, asked, is_dyn}
use Rattle.type_terms.proofs.Fitting.{append-shut}
use Rattle.type_terms.proofs.Members.{same-number, self-number}
use Rattle.type_terms.proofs.TreeLaws.{append-none}
use Rattle.type_terms.specs.Made.{Standing, terms, bounds, traits, is_leaf_label, is_made}
use Rattle.type_terms.proofs.Made.{left, right, both, false-true, no-tree, made-ordinary, makes-ordinary, made-rest, made-alone, made-append, last-bound, last-trait, never-dynamic, never-dynamic-bound, never-principal}
use Rattle.infer_table.proofs.SolutionLaws.{is_sort-equal as is-sort}
use Rattle.declarations.specs.Applied.{sorts_of}
use Rattle.candidate_model.specs.Candidates.{is_this_param}
use Rattle.candidate_model.specs.Declared.{is_declared_leaf, are_terms}
use Rattle.candidate_model.specs.Asking.{next_of}
use Rattle.candidate_model.specs.DeclaredWell.{are_distinct}
use Rattle.candidate_model.specs.Facts.{is_unerased}
use Rattle.candidate_model.proofs.Instances.{shift-unbound}
use Rattle.candidate_model.proofs.PlainRules.{Plain, plain-unbound, plain-instance, nth-plain}
use Rattle.solver_completeness.specs.GoalSets.{begins_typed, any_label}
use Rattle.solver_completeness.specs.FormedFacts.{Sorts, AreTypeSorts, FitsNode, NodesFit, AreFormed}
use Rattle.type_terms.proofs.TermBasics.{is_sort-self as sort-self}
use Rattle.type_terms.proofs.BooleanBasics.{either-last}

-- ---- one tree of a sort
pub record IsOne (s : Sort) (t : Trees) : Type 0 where
  pub label : Label
  pub children : Trees
  pub is : t ≡ tree label children none
  pub sort : sort_of label ≡ s

pub one-of : (s : Sort) (t : Trees) → is_a s t ≡ true → IsOne s t
one-of s none h = absurd (false-true h)
one-of of_type (tree l c o) h = record { label = l; children = c; is = ap (tree l c) (no-tree o (right (is_sort (sort_of l) of_type) _ h)); sort = is-sort (sort_of l) of_type (left (is_sort (sort_of l) of_type) _ h) }
one-of of_const (tree l c o) h = record { label = l; children = c; is = ap (tree l c) (no-tree o (right (is_sort (sort_of l) of_const) _ h)); sort = is-sort (sort_of l) of_const (left (is_sort (sort_of l) of_const) _ h) }
one-of of_lifetime (tree l c o) h =
    record { label = l; children = c; is = ap (tree l c) (no-tree o (right (is_no_tree c) _ (right (is_sort (sort_of l) of_lifetime) _ h))); sort = is-sort (sort_of l) of_lifetime (left (is_sort (sort_of l) of_lifetime) _ h) }

-- a lifetime is a leaf
lifetime-leaf : (t : Trees) → is_a of_lifetime t ≡ true → (l : Label) × (t ≡ leaf l) × (is_sort (sort_of l) of_lifetime ≡ true)
lifetime-leaf none h = absurd (false-true h)
lifetime-leaf (tree l c o) h =
    let r = right (is_sort (sort_of l) of_lifetime) _ h in
    (l, leaf-is (no-tree c (left (is_no_tree c) _ r)) (no-tree o (right (is_no_tree c) _ r)), left (is_sort (sort_of l) of_lifetime) _ h)
  where
    leaf-is : c ≡ none → o ≡ none → tree l c o ≡ leaf l
    leaf-is p q = cc

last-lifetime : (l : Label) → is_sort (sort_of l) of_lifetime ≡ true → (is_made any_label traits (leaf l) ≡ true) × (is_made any_label bounds (leaf l) ≡ true) × (is_made any_label terms (leaf l) ≡ true) × (autos_with none (leaf l) ≡ [])
last-lifetime static h = (refl, refl, refl, refl)
last-lifetime (param of_lifetime i) h = (refl, refl, refl, refl)
last-lifetime (placeholder of_lifetime i) h = (refl, refl, refl, refl)
last-lifetime (infer of_lifetime i) h = (refl, refl, refl, refl)
last-lifetime (canonical of_lifetime i) h = (refl, refl, refl, refl)
last-lifetime (bound of_lifetime i j) h = (refl, refl, refl, refl)
last-lifetime (param of_type i) h = absurd (false-true h)
last-lifetime (placeholder of_type i) h = absurd (false-true h)
last-lifetime (infer of_type i) h = absurd (false-true h)
last-lifetime (canonical of_type i) h = absurd (false-true h)
last-lifetime (bound of_type i j) h = absurd (false-true h)
last-lifetime (param of_const i) h = absurd (false-true h)
last-lifetime (placeholder of_const i) h = absurd (false-true h)
last-lifetime (infer of_const i) h = absurd (false-true h)
last-lifetime (canonical of_const i) h = absurd (false-true h)
last-lifetime (bound of_const i j) h = absurd (false-true h)
last-lifetime l h = absurd (false-true h)

-- ---- parameters
either-first : (a b c : Bool) → a ≡ true → (a || b || c) ≡ true
either-first true b c h = refl
either-first false b c h = absurd (false-true h)

either-middle : (a b c : Bool) → b ≡ true → (a || b || c) ≡ true
either-middle true b c h = refl
either-middle false true c h = refl
either-middle false false c h = absurd (false-true h)

abbrev pub Stands : Sort → ℕ → Trees → Type 0
Stands s j t = some_node (is_this_param s j) t ≡ true

stands-here : (s : Sort) (i : ℕ) (c o : Trees) → Stands s i (tree (param s i) c o)
stands-here s i c o = either-first (is_sort s s && (i == i)) (some_node (is_this_param s i) c) (some_node (is_this_param s i) o) (both (is_sort s s) (i == i) (sort-self s) (self-number i))

stands-child : (s : Sort) (j : ℕ) (l : Label) (c o : Trees) → Stands s j c → Stands s j (tree l c o)
stands-child s j l c o h = either-middle (is_this_param s j l) (some_node (is_this_param s j) c) (some_node (is_this_param s j) o) h

stands-next : (s : Sort) (j : ℕ) (l : Label) (c o : Trees) → Stands s j o → Stands s j (tree l c o)
stands-next s j l c o h = either-last (is_this_param s j l) (some_node (is_this_param s j) c) (some_node (is_this_param s j) o) h

pub stands-cases : {Q : Type 0} (s : Sort) (j : ℕ) (l : Label) (c o : Trees) → Stands s j (tree l c o) → (is_this_param s j l ≡ true → Q) → (Stands s j c → Q) → (Stands s j o → Q) → Q
stands-cases {Q = Q} s j l c o h f g k = by (is_this_param s j l) refl (some_node (is_this_param s j) c) refl h
  where
    by : (a : Bool) → is_this_param s j l ≡ a → (b : Bool) → some_node (is_this_param s j) c ≡ b → (a || b || some_node (is_this_param s j) o) ≡ true → Q
    by true e b x y = f e
    by false e true x y = g x
    by false e false x y = k y

pub param-is : (s : Sort) (j : ℕ) (k : Sort) (i : ℕ) → is_this_param s j (param k i) ≡ true → (s ≡ k) × (j ≡ i)
param-is s j k i e = (is-sort s k (left (is_sort s k) (j == i) e), same-number j i (right (is_sort s k) (j == i) e))

-- ---- what a list of trees begins with
abbrev typed_first : List Sort → Bool
typed_first [] = false
typed_first (s ∷ ss) = is_sort s of_type

abbrev others : List Sort → List Sort
others [] = []
others (s ∷ ss) = ss

pub begins-by : (t : Trees) → begins_typed t ≡ typed_first (sorts_of t)
begins-by none = refl
begins-by (tree l c o) = refl

pub next-by : (t : Trees) → begins_typed (next_of t) ≡ typed_first (others (sorts_of t))
next-by none = refl
next-by (tree l c o) = begins-by o

begins-same : (x y : Trees) → sorts_of y ≡ sorts_of x → begins_typed x ≡ true → begins_typed y ≡ true
begins-same x y e h = begins-by y ∙ ap typed_first e ∙ sym (begins-by x) ∙ h

next-same : (x y : Trees) → sorts_of y ≡ sorts_of x → begins_typed (next_of x) ≡ true → begins_typed (next_of y) ≡ true
next-same x y e h = next-by y ∙ ap (λ z. typed_first (others z)) e ∙ sym (next-by x) ∙ h

pub sorts-append : (x y : Trees) → sorts_of (x +++ y) ≡ sorts_of x ++ sorts_of y
sorts-append none y = refl
sorts-append (tree l c o) y = ap (λ z. sort_of l ∷ z) (sorts-append o y)

-- ---- arguments that fit
-- each parameter that stands there has a tree of its sort, and is a leaf
fits-place : (l : Label) (A c o : Trees) → is_sort (sort_of l) of_lifetime ≡ true → ((s : Sort) (j : ℕ) → Stands s j (tree l c o) → is_a s (nth A j) ≡ true) → c ≡ none → o ≡ none → fits A (tree l c o) ≡ true
fits-place (param s i) A c o h f p q = both (is_a s (nth A i)) _ (f s i (stands-here s i c o)) (both (is_no_tree c) _ (ap is_no_tree p) (ap (fits A) q))
fits-place l A c o h f p q = both (fits A c) (fits A o) (ap (fits A) p) (ap (fits A) q)

pub fits-by : (A : Trees) (m : Standing) (t : Trees) → is_made is_declared_leaf m t ≡ true → ((s : Sort) (j : ℕ) → Stands s j t → is_a s (nth A j) ≡ true) → fits A t ≡ true
fits-by A terms none h f = refl
fits-by A terms (tree (param s i) c o) h f =
    let x = made-ordinary is_declared_leaf (param s i) c o refl h in
    both (is_a s (nth A i)) _ (f s i (stands-here s i c o)) (both (is_no_tree c) _ x.1 (fits-by A terms o x.3 (λ r j g. f r j (stands-next r j (param s i) c o g))))
fits-by A terms (tree dynamic c o) h f =
    both (fits A c) (fits A o) (fits-by A bounds c (left (is_made is_declared_leaf bounds c) _ h) (λ r j g. f r j (stands-child r j dynamic c o g))) (fits-by A terms o (right (is_made is_declared_leaf bounds c) _ h) (λ r j g. f r j (stands-next r j dynamic c o g)))
fits-by A terms (tree (principal n i) c o) h f = absurd (false-true h)
fits-by A terms (tree (auto_trait i) c o) h f = absurd (false-true h)
fits-by A terms (tree (predicate k) c o) h f = absurd (false-true h)
fits-by A terms (tree l c o) h f =
    let x = made-ordinary is_declared_leaf l c o refl h in
    both (fits A c) (fits A o) (fits-by A terms c x.2 (λ r j g. f r j (stands-child r j l c o g))) (fits-by A terms o x.3 (λ r j g. f r j (stands-next r j l c o g)))
fits-by A bounds none h f = absurd (false-true h)
fits-by A bounds (tree (principal n i) c o) h f =
    both (fits A c) (fits A o) (fits-by A terms c (left (is_made is_declared_leaf terms c) _ h) (λ r j g. f r j (stands-child r j (principal n i) c o g)))
    (fits-by A traits o (right (is_made is_declared_leaf terms c) _ h) (λ r j g. f r j (stands-next r j (principal n i) c o g)))
fits-by A bounds (tree (auto_trait i) c o) h f =
    both (fits A c) (fits A o) (ap (fits A) (no-tree c (left (is_no_tree c) _ h))) (fits-by A traits o (right (is_no_tree c) _ h) (λ r j g. f r j (stands-next r j (auto_trait i) c o g)))
fits-by A bounds (tree (predicate k) c o) h f = absurd (false-true h)
fits-by A bounds (tree dynamic c o) h f = absurd (never-dynamic-bound is_declared_leaf c o h)
fits-by A bounds (tree l c o) h f = let x = last-bound is_declared_leaf l c o refl h in fits-place l A c o x.lifetime f x.children x.rest
fits-by A traits none h f = absurd (false-true h)
fits-by A traits (tree (auto_trait i) c o) h f =
    both (fits A c) (fits A o) (ap (fits A) (no-tree c (left (is_no_tree c) _ h))) (fits-by A traits o (right (is_no_tree c) _ h) (λ r j g. f r j (stands-next r j (auto_trait i) c o g)))
fits-by A traits (tree (predicate k) c o) h f = absurd (false-true h)
fits-by A traits (tree dynamic c o) h f = absurd (never-dynamic is_declared_leaf c o h)
fits-by A traits (tree (principal n i) c o) h f = absurd (never-principal is_declared_leaf n i c o h)
fits-by A traits (tree l c o) h f = let x = last-trait is_declared_leaf l c o refl h in fits-place l A c o x.lifetime f x.children x.rest

-- and what stands where they fit has a tree of its sort
pub sort-where : (A t : Trees) → fits A t ≡ true → (s : Sort) (j : ℕ) → Stands s j t → is_a s (nth A j) ≡ true
sort-where A none h s j g = absurd (false-true g)
sort-where A (tree (param k i) c o) h s j g =
    let r = right (is_a k (nth A i)) _ h in
    stands-cases s j (param k i) c o g
    (λ e. let x = param-is s j k i e in subst (λ z. is_a z (nth A j) ≡ true) (sym x.0) (subst (λ z. is_a k (nth A z) ≡ true) (sym x.1) (left (is_a k (nth A i)) _ h)))
    (λ e. absurd (false-true (subst (λ z. some_node (is_this_param s j) z ≡ true) (no-tree c (left (is_no_tree c) _ r)) e)))
    (λ e. sort-where A o (right (is_no_tree c) _ r) s j e)
sort-where A (tree l c o) h s j g =
    stands-cases s j l c o g (λ e. absurd (false-true e)) (λ e. sort-where A c (left (fits A c) (fits A o) h) s j e) (λ e. sort-where A o (right (fits A c) (fits A o) h) s j e)

module _ (V : World) (sorts : Sorts) where
  nodes-append : (x y : Trees) → NodesFit V sorts x → NodesFit V sorts y → NodesFit V sorts (x +++ y)
  nodes-append none y h g = g
  nodes-append (tree l c o) y h g = (h.0, h.1, nodes-append o y h.2 g)

  nth-nodes : (t : Trees) (i : ℕ) → NodesFit V sorts t → NodesFit V sorts (nth t i)
  nth-nodes none i h = (tt, tt, tt)
  nth-nodes (tree l c o) zero h = (h.0, h.1, tt)
  nth-nodes (tree l c o) (suc i) h = nth-nodes o i h.2

  -- a node whose children have the same sorts, and are no bounds of a `dyn`
  pub node-same : (l : Label) (c d : Trees) → is_dyn l ≡ false → sorts_of d ≡ sorts_of c → FitsNode V sorts l c → FitsNode V sorts l d
  node-same (adt s) c d b e n = (n.0, e ∙ n.1)
  node-same (principal i t) c d b e n = (n.0, ap (λ z. of_type ∷ z) e ∙ n.1)
  node-same (auto_trait t) c d b e n = n
  node-same (predicate (of_trait t)) c d b e n = (n.0, e ∙ n.1)
  node-same tuple c d b e n = subst AreTypeSorts (sym e) n
  node-same (fn_ptr i) c d b e n = subst AreTypeSorts (sym e) n
  node-same (raw_pointer m) c d b e n = begins-same c d e n
  node-same array c d b e n = begins-same c d e n
  node-same slice c d b e n = begins-same c d e n
  node-same (ref m) c d b e n = next-same c d e n
  node-same dynamic c d b e n = absurd (false-true (sym b))
  node-same l c d b e n = n

  pub formed-append : (x y : Trees) → AreFormed V sorts x → AreFormed V sorts y → AreFormed V sorts (x +++ y)
  formed-append x y h g = record { made = made-append any_label x y h.made g.made; plain = append-shut is_unerased x y h.plain g.plain; nodes = nodes-append x y h.nodes g.nodes }

  module _ (A : Trees) (plain : Plain A) (nodes : NodesFit V sorts A) where
    abbrev put : ℕ → Trees → Trees
    put d t = instantiate d A t

    shift-same : (d i : ℕ) → shift zero d (nth A i) ≡ nth A i
    shift-same d i = shift-unbound zero d (nth A i) (plain-unbound (nth A i) (nth-plain A i plain))

    put-param : (d : ℕ) (s : Sort) (i : ℕ) (c o : Trees) → put d (tree (param s i) c o) ≡ nth A i +++ put d o
    put-param d s i c o = ap (λ z. z +++ put d o) (shift-same d i)

    -- sorts stay
    pub sorts-put : (d : ℕ) (t : Trees) → fits A t ≡ true → sorts_of (put d t) ≡ sorts_of t
    sorts-put d none h = refl
    sorts-put d (tree (param s i) c o) h =
        let x = one-of s (nth A i) (left (is_a s (nth A i)) _ h) in
        ap sorts_of (put-param d s i c o ∙ ap (λ z. z +++ put d o) x.is)
        ∙ two (sort_of x.label) s (sorts_of (put d o)) (sorts_of o) x.sort (sorts-put d o (right (is_no_tree c) _ (right (is_a s (nth A i)) _ h)))
      where
        two : (j k : Sort) (xs ys : List Sort) → j ≡ k → xs ≡ ys → j ∷ xs ≡ k ∷ ys
        two j k xs ys e f = cc
    sorts-put d (tree l c o) h = ap (λ z. sort_of l ∷ z) (sorts-put d o (right (fits A c) (fits A o) h))

    -- a lifetime at the end of the bounds of a `dyn`
    record IsLastly (d : ℕ) (l : Label) (c o : Trees) : Type 0 where
      pub in_traits : is_made any_label traits (put d (tree l c o)) ≡ true
      pub in_bounds : is_made any_label bounds (put d (tree l c o)) ≡ true
      pub fit : NodesFit V sorts (put d (tree l c o))
      pub autos : autos_with none (put d (tree l c o)) ≡ autos_with none (tree l c o)

    leaf-lastly : (d : ℕ) (l : Label) → is_sort (sort_of l) of_lifetime ≡ true → put d (leaf l) ≡ leaf l → NodesFit V sorts (leaf l) → IsLastly d l none none
    leaf-lastly d l h e n =
        let x = last-lifetime l h in
        record {
          in_traits = subst (λ z. is_made any_label traits z ≡ true) (sym e) x.0;
          in_bounds = subst (λ z. is_made any_label bounds z ≡ true) (sym e) x.1;
          fit = subst (NodesFit V sorts) (sym e) n;
          autos = ap (autos_with none) e;
        }

    param-lastly : (d i : ℕ) → is_a of_lifetime (nth A i) ≡ true → IsLastly d (param of_lifetime i) none none
    param-lastly d i h =
        let x = lifetime-leaf (nth A i) h in
        let e : put d (leaf (param of_lifetime i)) ≡ leaf x.0 = put-param d of_lifetime i none none ∙ append-none (nth A i) ∙ x.1 in
        let y = last-lifetime x.0 x.2 in
        record {
          in_traits = subst (λ z. is_made any_label traits z ≡ true) (sym e) y.0;
          in_bounds = subst (λ z. is_made any_label bounds z ≡ true) (sym e) y.1;
          fit = subst (NodesFit V sorts) (sym (put-param d of_lifetime i none none ∙ append-none (nth A i))) (nth-nodes A i nodes);
          autos = ap (autos_with none) e ∙ y.3;
        }

    lastly : (d : ℕ) (l : Label) (c o : Trees) → is_declared_leaf l ≡ true → is_sort (sort_of l) of_lifetime ≡ true → c ≡ none → o ≡ none → fits A (tree l c o) ≡ true → IsLastly d l c o
    lastly d l c o g s p q h = subst (λ z. IsLastly d l z o) (sym p) (subst (λ z. IsLastly d l none z) (sym q) (by l g s (subst (λ z. fits A (tree l none z) ≡ true) q (subst (λ z. fits A (tree l z o) ≡ true) p h))))
      where
        by : (l : Label) → is_declared_leaf l ≡ true → is_sort (sort_of l) of_lifetime ≡ true → fits A (tree l none none) ≡ true → IsLastly d l none none
        by static g s h = leaf-lastly d static refl refl (tt, tt, tt)
        by (param of_lifetime i) g s h = param-lastly d i (left (is_a of_lifetime (nth A i)) _ h)
        by (param of_type i) g s h = absurd (false-true s)
        by (param of_const i) g s h = absurd (false-true s)
        by (infer k i) g s h = absurd (false-true g)
        by (canonical k i) g s h = absurd (false-true g)
        by (placeholder k i) g s h = absurd (false-true g)
        by (bound k j i) g s h = absurd (false-true g)
        by l g s h = absurd (false-true s)

    -- where a parameter stands, its argument is made as terms are
    abbrev pub IsMadeAt : Trees → Type 0
    IsMadeAt t = (s : Sort) (j : ℕ) → Stands s j t → is_made any_label terms (nth A j) ≡ true

    -- the auto traits of a `dyn` stay
    traits-autos : (d : ℕ) (t : Trees) → is_made is_declared_leaf traits t ≡ true → fits A t ≡ true → autos_with none (put d t) ≡ autos_with none t
    traits-autos d none h f = absurd (false-true h)
    traits-autos d (tree (auto_trait i) c o) h f = ap (λ z. asked i none ∷ z) (traits-autos d o (right (is_no_tree c) _ h) (right (fits A c) (fits A o) f))
    traits-autos d (tree (predicate k) c o) h f = absurd (false-true h)
    traits-autos d (tree dynamic c o) h f = absurd (never-dynamic is_declared_leaf c o h)
    traits-autos d (tree (principal n i) c o) h f = absurd (never-principal is_declared_leaf n i c o h)
    traits-autos d (tree l c o) h f = let x = last-trait is_declared_leaf l c o refl h in (lastly d l c o x.good_label x.lifetime x.children x.rest f).autos

    bounds-autos : (d : ℕ) (t : Trees) → is_made is_declared_leaf bounds t ≡ true → fits A t ≡ true → autos_with none (put d t) ≡ autos_with none t
    bounds-autos d none h f = absurd (false-true h)
    bounds-autos d (tree (auto_trait i) c o) h f = ap (λ z. asked i none ∷ z) (traits-autos d o (right (is_no_tree c) _ h) (right (fits A c) (fits A o) f))
    bounds-autos d (tree (predicate k) c o) h f = absurd (false-true h)
    bounds-autos d (tree dynamic c o) h f = absurd (never-dynamic-bound is_declared_leaf c o h)
    bounds-autos d (tree (principal n i) c o) h f = traits-autos d o (right (is_made is_declared_leaf terms c) _ h) (right (fits A c) (fits A o) f)
    bounds-autos d (tree l c o) h f = let x = last-bound is_declared_leaf l c o refl h in (lastly d l c o x.good_label x.lifetime x.children x.rest f).autos

    no-children : (b : Bool) (d : ℕ) (c : Trees) → (not b || is_no_tree c) ≡ true → (not b || is_no_tree (put d c)) ≡ true
    no-children false d c h = refl
    no-children true d none h = refl
    no-children true d (tree l c o) h = absurd (false-true h)

    gone : (d : ℕ) (c : Trees) → c ≡ none → (is_no_tree (put d c) ≡ true) × NodesFit V sorts (put d c)
    gone d c e = subst (λ z. (is_no_tree (put d z) ≡ true) × NodesFit V sorts (put d z)) (sym e) (refl, tt)

    abbrev Puts : ℕ → Standing → Trees → Type 0
    Puts d m t = (is_made any_label m (put d t) ≡ true) × NodesFit V sorts (put d t)

    pub all-put : (d : ℕ) (m : Standing) (t : Trees) → is_made is_declared_leaf m t ≡ true → NodesFit V sorts t → fits A t ≡ true → IsMadeAt t → Puts d m t
    all-put d terms none h n f a = (refl, tt)
    all-put d terms (tree dynamic c o) h n f a =
        let x = left (is_made is_declared_leaf bounds c) (is_made is_declared_leaf terms o) h in
        let p = all-put d bounds c x n.1 (left (fits A c) (fits A o) f) (λ s j g. a s j (stands-child s j dynamic c o g)) in
        let q = all-put d terms o (right (is_made is_declared_leaf bounds c) (is_made is_declared_leaf terms o) h) n.2 (right (fits A c) (fits A o) f) (λ s j g. a s j (stands-next s j dynamic c o g)) in (
          both (is_made any_label bounds (put d c)) (is_made any_label terms (put d o)) p.0 q.0,
          (ap (λ z. are_distinct (map (λ (r : Reference). r.trait) z)) (bounds-autos d c x (left (fits A c) (fits A o) f)) ∙ n.0, p.1, q.1),
        )
    all-put d terms (tree (principal k i) c o) h n f a = absurd (false-true h)
    all-put d terms (tree (auto_trait i) c o) h n f a = absurd (false-true h)
    all-put d terms (tree (predicate k) c o) h n f a = absurd (false-true h)
    all-put d terms (tree (param s i) c o) h n f a =
        let q = all-put d terms o (made-rest is_declared_leaf (param s i) c o h) n.2 (right (is_no_tree c) _ (right (is_a s (nth A i)) _ f)) (λ r j g. a r j (stands-next r j (param s i) c o g)) in (
          subst (λ z. is_made any_label terms z ≡ true) (sym (put-param d s i c o)) (made-append any_label (nth A i) (put d o) (a s i (stands-here s i c o)) q.0),
          subst (NodesFit V sorts) (sym (put-param d s i c o)) (nodes-append (nth A i) (put d o) (nth-nodes A i nodes) q.1),
        )
    all-put d terms (tree l c o) h n f a =
        let x = made-ordinary is_declared_leaf l c o refl h in
        let p = all-put (inside l d) terms c x.2 n.1 (left (fits A c) (fits A o) f) (λ s j g. a s j (stands-child s j l c o g)) in
        let q = all-put d terms o x.3 n.2 (right (fits A c) (fits A o) f) (λ s j g. a s j (stands-next s j l c o g)) in (
          makes-ordinary any_label l (put (inside l d) c) (put d o) refl refl (no-children (is_leaf_label l) (inside l d) c x.1) p.0 q.0,
          (node-same l c (put (inside l d) c) refl (sorts-put (inside l d) c (left (fits A c) (fits A o) f)) n.0, p.1, q.1),
        )
    all-put d bounds none h n f a = absurd (false-true h)
    all-put d bounds (tree (principal k i) c o) h n f a =
        let p = all-put (inside (principal k i) d) terms c (left (is_made is_declared_leaf terms c) _ h) n.1 (left (fits A c) (fits A o) f) (λ s j g. a s j (stands-child s j (principal k i) c o g)) in
        let q = all-put d traits o (right (is_made is_declared_leaf terms c) _ h) n.2 (right (fits A c) (fits A o) f) (λ s j g. a s j (stands-next s j (principal k i) c o g)) in (
          both (is_made any_label terms (put (inside (principal k i) d) c)) _ p.0 q.0,
          (node-same (principal k i) c (put (inside (principal k i) d) c) refl (sorts-put (inside (principal k i) d) c (left (fits A c) (fits A o) f)) n.0, p.1, q.1),
        )
    all-put d bounds (tree (auto_trait i) c o) h n f a =
        let p = gone d c (no-tree c (left (is_no_tree c) _ h)) in
        let q = all-put d traits o (right (is_no_tree c) _ h) n.2 (right (fits A c) (fits A o) f) (λ s j g. a s j (stands-next s j (auto_trait i) c o g)) in
        (both (is_no_tree (put d c)) _ p.0 q.0, (n.0, p.1, q.1))
    all-put d bounds (tree (predicate k) c o) h n f a = absurd (false-true h)
    all-put d bounds (tree dynamic c o) h n f a = absurd (never-dynamic-bound is_declared_leaf c o h)
    all-put d bounds (tree l c o) h n f a = let x = last-bound is_declared_leaf l c o refl h in let y = lastly d l c o x.good_label x.lifetime x.children x.rest f in (y.in_bounds, y.fit)
    all-put d traits none h n f a = absurd (false-true h)
    all-put d traits (tree (auto_trait i) c o) h n f a =
        let p = gone d c (no-tree c (left (is_no_tree c) _ h)) in
        let q = all-put d traits o (right (is_no_tree c) _ h) n.2 (right (fits A c) (fits A o) f) (λ s j g. a s j (stands-next s j (auto_trait i) c o g)) in
        (both (is_no_tree (put d c)) _ p.0 q.0, (n.0, p.1, q.1))
    all-put d traits (tree (predicate k) c o) h n f a = absurd (false-true h)
    all-put d traits (tree dynamic c o) h n f a = absurd (never-dynamic is_declared_leaf c o h)
    all-put d traits (tree (principal k i) c o) h n f a = absurd (never-principal is_declared_leaf k i c o h)
    all-put d traits (tree l c o) h n f a = let x = last-trait is_declared_leaf l c o refl h in let y = lastly d l c o x.good_label x.lifetime x.children x.rest f in (y.in_traits, y.fit)

    -- so instances are formed
    pub instance-formed : (t : Trees) → are_terms t ≡ true → NodesFit V sorts t → fits A t ≡ true → IsMadeAt t → AreFormed V sorts (instantiate zero A t)
    instance-formed t h n f a =
        let x = all-put zero terms t (left (is_made is_declared_leaf terms t) _ h) n f a in
        record { made = x.0; plain = plain-instance A t plain h; nodes = x.1 }

    -- ---- what stands for parameters where the instance is made
    alone-where : (k : Sort) (x y : Trees) → is_a k x ≡ true → is_made any_label terms (x +++ y) ≡ true → (is_made any_label terms x ≡ true) × (is_made any_label terms y ≡ true)
    alone-where k x y h m =
        let i = one-of k x h in
        let n = subst (λ z. is_made any_label terms (z +++ y) ≡ true) i.is m in
        (subst (λ z. is_made any_label terms z ≡ true) (sym i.is) (made-alone any_label i.label i.children y n), made-rest any_label i.label i.children y n)

    last-where : (l : Label) (c o : Trees) → is_sort (sort_of l) of_lifetime ≡ true → c ≡ none → o ≡ none → fits A (tree l c o) ≡ true → (s : Sort) (j : ℕ) → Stands s j (tree l c o) → is_made any_label terms (nth A j) ≡ true
    last-where l c o e p q f s j g =
        stands-cases s j l c o g (λ x. by l x e (sort-where A (tree l c o) f s j g)) (λ x. absurd (false-true (subst (λ z. some_node (is_this_param s j) z ≡ true) p x))) (λ x. absurd (false-true (subst (λ z. some_node (is_this_param s j) z ≡ true) q x)))
      where
        by : (l : Label) → is_this_param s j l ≡ true → is_sort (sort_of l) of_lifetime ≡ true → is_a s (nth A j) ≡ true → is_made any_label terms (nth A j) ≡ true
        by (param k i) x e h =
            let y = lifetime-leaf (nth A j) (subst (λ z. is_a z (nth A j) ≡ true) ((param-is s j k i x).0 ∙ is-sort k of_lifetime e) h) in
            subst (λ z. is_made any_label terms z ≡ true) (sym y.1) (last-lifetime y.0 y.2).2
        by l x e h = absurd (false-true x)

    pub made-where : (d : ℕ) (m : Standing) (t : Trees) → is_made is_declared_leaf m t ≡ true → fits A t ≡ true → is_made any_label m (put d t) ≡ true → (s : Sort) (j : ℕ) → Stands s j t → is_made any_label terms (nth A j) ≡ true
    made-where d terms none h f n s j g = absurd (false-true g)
    made-where d terms (tree (param k i) c o) h f n s j g =
        let r = right (is_a k (nth A i)) _ f in
        let x = alone-where k (nth A i) (put d o) (left (is_a k (nth A i)) _ f) (subst (λ z. is_made any_label terms z ≡ true) (put-param d k i c o) n) in
        stands-cases s j (param k i) c o g
        (λ e. subst (λ z. is_made any_label terms (nth A z) ≡ true) (sym (param-is s j k i e).1) x.0)
        (λ e. absurd (false-true (subst (λ z. some_node (is_this_param s j) z ≡ true) (no-tree c (left (is_no_tree c) _ r)) e)))
        (λ e. made-where d terms o (made-rest is_declared_leaf (param k i) c o h) (right (is_no_tree c) _ r) x.1 s j e)
    made-where d terms (tree dynamic c o) h f n s j g =
        stands-cases s j dynamic c o g (λ e. absurd (false-true e))
        (λ e. made-where d bounds c (left (is_made is_declared_leaf bounds c) _ h) (left (fits A c) (fits A o) f) (left (is_made any_label bounds (put d c)) _ n) s j e)
        (λ e. made-where d terms o (right (is_made is_declared_leaf bounds c) _ h) (right (fits A c) (fits A o) f) (right (is_made any_label bounds (put d c)) _ n) s j e)
    made-where d terms (tree (principal k i) c o) h f n s j g = absurd (false-true h)
    made-where d terms (tree (auto_trait i) c o) h f n s j g = absurd (false-true h)
    made-where d terms (tree (predicate k) c o) h f n s j g = absurd (false-true h)
    made-where d terms (tree l c o) h f n s j g =
        let x = made-ordinary is_declared_leaf l c o refl h in
        let y = made-ordinary any_label l (put (inside l d) c) (put d o) refl n in
        stands-cases s j l c o g (λ e. absurd (false-true e)) (λ e. made-where (inside l d) terms c x.2 (left (fits A c) (fits A o) f) y.2 s j e) (λ e. made-where d terms o x.3 (right (fits A c) (fits A o) f) y.3 s j e)
    made-where d bounds none h f n s j g = absurd (false-true h)
    made-where d bounds (tree (principal k i) c o) h f n s j g =
        stands-cases s j (principal k i) c o g (λ e. absurd (false-true e))
        (λ e. made-where (inside (principal k i) d) terms c (left (is_made is_declared_leaf terms c) _ h) (left (fits A c) (fits A o) f) (left (is_made any_label terms (put (inside (principal k i) d) c)) _ n) s j e)
        (λ e. made-where d traits o (right (is_made is_declared_leaf terms c) _ h) (right (fits A c) (fits A o) f) (right (is_made any_label terms (put (inside (principal k i) d) c)) _ n) s j e)
    made-where d bounds (tree (auto_trait i) c o) h f n s j g =
        stands-cases s j (auto_trait i) c o g (λ e. absurd (false-true e)) (λ e. absurd (false-true (subst (λ z. some_node (is_this_param s j) z ≡ true) (no-tree c (left (is_no_tree c) _ h)) e)))
        (λ e. made-where d traits o (right (is_no_tree c) _ h) (right (fits A c) (fits A o) f) (right (is_no_tree (put d c)) _ n) s j e)
    made-where d bounds (tree (predicate k) c o) h f n s j g = absurd (false-true h)
    made-where d bounds (tree dynamic c o) h f n s j g = absurd (never-dynamic-bound is_declared_leaf c o h)
    made-where d bounds (tree l c o) h f n s j g = let x = last-bound is_declared_leaf l c o refl h in last-where l c o x.lifetime x.children x.rest f s j g
    made-where d traits none h f n s j g = absurd (false-true h)
    made-where d traits (tree (auto_trait i) c o) h f n s j g =
        stands-cases s j (auto_trait i) c o g (λ e. absurd (false-true e)) (λ e. absurd (false-true (subst (λ z. some_node (is_this_param s j) z ≡ true) (no-tree c (left (is_no_tree c) _ h)) e)))
        (λ e. made-where d traits o (right (is_no_tree c) _ h) (right (fits A c) (fits A o) f) (right (is_no_tree (put d c)) _ n) s j e)
    made-where d traits (tree (predicate k) c o) h f n s j g = absurd (false-true h)
    made-where d traits (tree dynamic c o) h f n s j g = absurd (never-dynamic is_declared_leaf c o h)
    made-where d traits (tree (principal k i) c o) h f n s j g = absurd (never-principal is_declared_leaf k i c o h)
    made-where d traits (tree l c o) h f n s j g = let x = last-trait is_declared_leaf l c o refl h in last-where l c o x.lifetime x.children x.rest f s j g
