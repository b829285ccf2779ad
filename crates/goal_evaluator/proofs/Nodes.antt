-- The nodes of a goal over a table, and the values of inference variables that readings of the goal determine.
use Rattle.std.proofs.Common.{◌≡◌, ℕ, zero, suc, Bool, true, false, not, ◌||◌, List, [], ◌∷◌, ◌++◌, refl, sym, ◌∙◌, ap, subst, Some, if◌then◌else◌, is_some, ◌⊎◌, inl, inr}
use Rattle.std.specs.Prelude.{IsSome}
use Rattle.type_terms.specs.Promised.Label.{Label, Sort, of_type, of_const, of_lifetime, infer, param, placeholder, canonical, bound, static, dynamic, principal, auto_trait, predicate}
use Rattle.type_terms.specs.Promised.Trees.{Trees, none, tree, leaf, ◌+++◌, erase_label, sort_of, is_sort}
use Rattle.type_terms.specs.Trees.{put_at_node, is_no_tree}
use Rattle.infer_table.specs.Content.{IsProper}
use Rattle.infer_table.specs.Canonical.{OpenKinds, StandsIn, with_label, is_label_among, leaves}
use Rattle.infer_table.specs.Solutions.{Binding, tree_of, replace, resolved, occurs, is_same_variable}
use Rattle.infer_table.specs.declared.canonical.CanonicalVarKind.{CanonicalVarKind}
use Rattle.goal_evaluator.specs.Lists.{Every}
use Rattle.goal_evaluator.specs.Instances.{read_with, put_in, default_label, as_place, term_at}
use Rattle.type_terms.specs.Made.{Standing, terms, bounds, traits, is_leaf_label, is_made}
use Rattle.goal_evaluator.specs.Content.{ChosenTerms, standing, reading_of}
use Rattle.goal_evaluator.specs.Equations.{IsValue}
use Rattle.goal_evaluator.specs.FrameTables.{is_good, label_at, label_of_sort, slot_at}
use Rattle.type_terms.proofs.Made.{false-true, left, right, no-tree, made-ordinary, IsLast, last-bound, last-trait, never-dynamic, never-dynamic-bound, never-principal}
use Rattle.goal_evaluator.proofs.Reading.{read-append}
use Rattle.goal_evaluator.proofs.Whole.{IsOne, read-one}
use Rattle.type_terms.proofs.BooleanBasics.{or-left}
use Rattle.infer_table.proofs.SolutionLaws.{or-right}

-- ---- nodes
-- no parameter of types or consts and no canonical variable, and nothing below what stands for a term
abbrev pub IsNode : Label → Trees → Type 0
IsNode (infer k v) c = c ≡ none
IsNode (placeholder k i) c = c ≡ none
IsNode (param of_type i) c = ⊥
IsNode (param of_const i) c = ⊥
IsNode (param of_lifetime i) c = c ≡ none
IsNode (bound of_lifetime i j) c = c ≡ none
IsNode (canonical k i) c = ⊥
IsNode static c = c ≡ none
IsNode l c = Unit {0}

abbrev pub AreNodes : Trees → Type 0
AreNodes none = Unit {0}
AreNodes (tree l c o) = IsNode l c × AreNodes c × AreNodes o

nodes-append : (x y : Trees) → AreNodes x → AreNodes y → AreNodes (x +++ y)
nodes-append none y p q = q
nodes-append (tree l c o) y p q = (p.0, p.1, nodes-append o y p.2 q)

node-kept : (l : Label) (c d : Trees) → (c ≡ none → d ≡ none) → IsNode l c → IsNode l d
node-kept (infer k v) c d f h = f h
node-kept (placeholder k i) c d f h = f h
node-kept (param of_type i) c d f h = h
node-kept (param of_const i) c d f h = h
node-kept (param of_lifetime i) c d f h = f h
node-kept (bound of_type i j) c d f h = h
node-kept (bound of_const i j) c d f h = h
node-kept (bound of_lifetime i j) c d f h = f h
node-kept (canonical k i) c d f h = h
node-kept static c d f h = f h
node-kept l c d f h = h

pub nodes-proper : (t : Trees) → AreNodes t → IsProper t
nodes-proper none h = tt
nodes-proper (tree (infer k v) c o) h = (h.0, nodes-proper o h.2)
nodes-proper (tree l c o) h = (nodes-proper c h.1, nodes-proper o h.2)

-- ---- terms that are made
module _ (kinds : List CanonicalVarKind) (types consts : ℕ) where
  abbrev good : Label → Bool
  good l = is_good kinds types consts l

  good-node : (l : Label) (c : Trees) → good l ≡ true → (not (is_leaf_label l) || is_no_tree c) ≡ true → IsNode l c
  good-node (infer k v) c g n = no-tree c n
  good-node (placeholder k i) c g n = no-tree c n
  good-node (param of_type i) c g n = false-true g
  good-node (param of_const i) c g n = false-true g
  good-node (param of_lifetime i) c g n = no-tree c n
  good-node (bound of_type i j) c g n = tt
  good-node (bound of_const i j) c g n = tt
  good-node (bound of_lifetime i j) c g n = no-tree c n
  good-node (canonical k i) c g n = false-true g
  good-node static c g n = no-tree c n
  good-node l c g n = tt

  last-nodes : (l : Label) (c o : Trees) → IsLast good l c o → AreNodes (tree l c o)
  last-nodes l c o x =
      (good-node l c x.good_label (or-true (not (is_leaf_label l))), subst AreNodes (sym x.children) tt, subst AreNodes (sym x.rest) tt)
    where
      no-tree-true : is_no_tree c ≡ true
      no-tree-true = ap is_no_tree x.children

      or-true : (b : Bool) → (b || is_no_tree c) ≡ true
      or-true true = refl
      or-true false = no-tree-true

  pub made-nodes : (m : Standing) (t : Trees) → is_made good m t ≡ true → AreNodes t
  made-nodes terms none h = tt
  made-nodes terms (tree dynamic c o) h = (tt, made-nodes bounds c (left (is_made good bounds c) (is_made good terms o) h), made-nodes terms o (right (is_made good bounds c) (is_made good terms o) h))
  made-nodes terms (tree (principal a b) c o) h = absurd (false-true h)
  made-nodes terms (tree (auto_trait a) c o) h = absurd (false-true h)
  made-nodes terms (tree (predicate k) c o) h = absurd (false-true h)
  made-nodes terms (tree l c o) h = let x = made-ordinary good l c o refl h in (good-node l c x.0 x.1, made-nodes terms c x.2, made-nodes terms o x.3)
  made-nodes bounds none h = absurd (false-true h)
  made-nodes bounds (tree (principal a b) c o) h = (tt, made-nodes terms c (left (is_made good terms c) (is_made good traits o) h), made-nodes traits o (right (is_made good terms c) (is_made good traits o) h))
  made-nodes bounds (tree (predicate k) c o) h = absurd (false-true h)
  made-nodes bounds (tree (auto_trait a) c o) h = (tt, subst AreNodes (sym (no-tree c (left (is_no_tree c) (is_made good traits o) h))) tt, made-nodes traits o (right (is_no_tree c) (is_made good traits o) h))
  made-nodes bounds (tree dynamic c o) h = absurd (never-dynamic-bound good c o h)
  made-nodes bounds (tree l c o) h = last-nodes l c o (last-bound good l c o refl h)
  made-nodes traits none h = absurd (false-true h)
  made-nodes traits (tree (predicate k) c o) h = absurd (false-true h)
  made-nodes traits (tree (auto_trait a) c o) h = (tt, subst AreNodes (sym (no-tree c (left (is_no_tree c) (is_made good traits o) h))) tt, made-nodes traits o (right (is_no_tree c) (is_made good traits o) h))
  made-nodes traits (tree dynamic c o) h = absurd (never-dynamic good c o h)
  made-nodes traits (tree (principal a b) c o) h = absurd (never-principal good a b c o h)
  made-nodes traits (tree l c o) h = last-nodes l c o (last-trait good l c o refl h)

  -- ---- slots
  made-labels : (ls : List Label) → Every (λ l. is_made good terms (leaf l) ≡ true) ls → Every (λ l. IsNode l none) ls
  made-labels [] h = tt
  made-labels (l ∷ ls) h = ((made-nodes terms (leaf l) h.0).0, made-labels ls h.1)

-- ---- slots
label-node : (ls : List Label) → Every (λ l. IsNode l none) ls → (i : ℕ) → IsNode (label_at ls i) none
label-node [] h i = refl
label-node (l ∷ ls) h zero = h.0
label-node (l ∷ ls) h (suc i) = label-node ls h.1 i

default-nodes : (k : Sort) → AreNodes (leaf (default_label k))
default-nodes of_type = (tt, tt, tt)
default-nodes of_const = (tt, tt, tt)
default-nodes of_lifetime = (refl, tt, tt)

slot-nodes : (k : Sort) (l : Label) → IsNode l none → AreNodes (leaf (label_of_sort k l))
slot-nodes k l h = by (is_sort (sort_of l) k)
  where
    by : (b : Bool) → AreNodes (leaf (if b then l else default_label k))
    by true = (h, tt, tt)
    by false = default-nodes k

put-nodes : (ls : List Label) → Every (λ l. IsNode l none) ls → (t : Trees) → AreNodes (put_in (slot_at ls) t)
put-nodes ls h none = tt
put-nodes ls h (tree l c o) = node l (put_in (slot_at ls) c) (put_in (slot_at ls) o) (put-nodes ls h c) (put-nodes ls h o)
  where
    node : (l : Label) (d p : Trees) → AreNodes d → AreNodes p → AreNodes (put_at_node (slot_at ls l) (tree l d none) +++ p)
    node (canonical k i) d p a b = nodes-append (leaf (label_of_sort k (label_at ls i))) p (slot-nodes k (label_at ls i) (label-node ls h i)) b
    node (infer k v) d p a b = nodes-append (leaf (default_label k)) p (default-nodes k) b
    node (param k v) d p a b = nodes-append (leaf (default_label k)) p (default-nodes k) b
    node (placeholder k v) d p a b = nodes-append (leaf (default_label k)) p (default-nodes k) b
    node static d p a b = nodes-append (leaf static) p (refl, tt, tt) b
    node (bound of_type i j) d p a b = (tt, a, b)
    node (bound of_const i j) d p a b = (tt, a, b)
    node (bound of_lifetime i j) d p a b = nodes-append (leaf (bound of_lifetime i j)) p (refl, tt, tt) b
    node l d p a b = (tt, a, b)

-- ---- values in the place of unknowns
nodes-replace : (k : Sort) (v : ℕ) (r t : Trees) → AreNodes r → AreNodes t → AreNodes (replace k v r t)
nodes-replace k v r none p q = tt
nodes-replace k v r (tree (infer j w) c o) p q = by (is_same_variable j w k v) (nodes-replace k v r o p q.2)
  where
    by : (b : Bool) → AreNodes (replace k v r o) → AreNodes (if b then r +++ replace k v r o else tree (infer j w) c (replace k v r o))
    by true h = nodes-append r (replace k v r o) p h
    by false h = (q.0, q.1, h)
nodes-replace k v r (tree l c o) p q = (node-kept l c (replace k v r c) (λ e. ap (replace k v r) e) q.0, nodes-replace k v r c p q.1, nodes-replace k v r o p q.2)

pub nodes-resolved : (kinds : List CanonicalVarKind) (types consts : ℕ) (bs : List Binding) → Every (IsValue (is_good kinds types consts)) bs → (t : Trees) → AreNodes t → AreNodes (resolved bs t)
nodes-resolved kinds types consts [] h t q = q
nodes-resolved kinds types consts (b ∷ older) h t q =
    nodes-replace b.sort b.var (resolved older b.value) (resolved older t)
    (nodes-resolved kinds types consts older h.1 b.value (made-nodes kinds types consts terms b.value h.0.made))
    (nodes-resolved kinds types consts older h.1 t q)

pub nodes-put : (kinds : List CanonicalVarKind) (types consts : ℕ) (ls : List Label) → Every (λ l. is_made (is_good kinds types consts) terms (leaf l) ≡ true) ls
    → (t : Trees) → AreNodes (put_in (slot_at ls) t)
nodes-put kinds types consts ls h t = put-nodes ls (made-labels kinds types consts ls h) t

-- ---- leaves
-- an open leaf of a goal over a table
pub record IsOpenNode (kind : OpenKinds) (l : Label) : Type 0 where
  pub children : Trees
  pub node : IsNode l children
  pub is_open : IsSome (kind l)

pub open-node : (kind : OpenKinds) (t : Trees) → AreNodes t → (l : Label) → StandsIn kind t l → IsOpenNode kind l
open-node kind none h l i = absurd i
open-node kind (tree m c o) h l (inl i) = record { children = c; node = subst (λ z. IsNode z c) i.0 h.0; is_open = subst (λ z. IsSome (kind z)) i.0 i.1 }
open-node kind (tree m c o) h l (inr (inl i)) = open-node kind c h.1 l i
open-node kind (tree m c o) h l (inr (inr i)) = open-node kind o h.2 l i

every-append : (P : Label → Type 0) (xs : List Label) (l : Label) → Every P xs → P l → Every P (with_label l xs)
every-append P xs l h p = by (is_label_among l xs)
  where
    added : (ys : List Label) → Every P ys → Every P (ys ++ l ∷ [])
    added [] h = (p, tt)
    added (y ∷ ys) h = (h.0, added ys h.1)

    by : (b : Bool) → Every P (if b then xs else xs ++ l ∷ [])
    by true = h
    by false = added xs h

pub every-leaf : (kind : OpenKinds) (P : Label → Type 0) (seen : List Label) (t : Trees) → Every P seen → ((l : Label) → StandsIn kind t l → P l) → Every P (leaves kind seen t)
every-leaf kind P seen none h f = h
every-leaf kind P seen (tree m c o) h f =
    every-leaf kind P (leaves kind (if is_some (kind m) then with_label m seen else seen) c) o
    (every-leaf kind P (if is_some (kind m) then with_label m seen else seen) c (here (is_some (kind m)) refl) (λ l i. f l (inr (inl i))))
    (λ l i. f l (inr (inr i)))
  where
    here : (b : Bool) → is_some (kind m) ≡ b → Every P (if b then with_label m seen else seen)
    here true e = every-append P seen m h (f m (inl (refl, e)))
    here false e = h

-- ---- readings
split-tree : (l m : Label) (c d a b : Trees) → tree l c none +++ a ≡ tree m d none +++ b → (tree l c none ≡ tree m d none) × (a ≡ b)
split-tree l m c d a b e = (cc, cc)

split-one : (j k : Sort) (x y a b : Trees) → IsOne j x → IsOne k y → x +++ a ≡ y +++ b → (x ≡ y) × (a ≡ b)
split-one j k x y a b p q e =
    let r = split-tree p.label q.label p.children q.children a b (ap (λ z. z +++ a) (sym p.is) ∙ e ∙ ap (λ z. z +++ b) q.is) in
    (p.is ∙ r.0 ∙ sym q.is, r.1)

below-tree : (l m : Label) (c d : Trees) → tree l c none ≡ tree m d none → c ≡ d
below-tree l m c d e = cc

module _ (s r : ChosenTerms) (sorted : (k : Sort) (v : ℕ) → sort_of (s.unknowns k v).0 ≡ k) (sorted_too : (k : Sort) (v : ℕ) → sort_of (r.unknowns k v).0 ≡ k) where
  read-below : (m : Label) (c : Trees) → IsNode m c → read_with (standing s) (tree m c none) ≡ read_with (standing r) (tree m c none) → (c ≡ none) ⊎ (read_with (standing s) c ≡ read_with (standing r) c)
  read-below (infer k v) c n e = inl n
  read-below (placeholder k i) c n e = inl n
  read-below (param of_type i) c n e = absurd n
  read-below (param of_const i) c n e = absurd n
  read-below (param of_lifetime i) c n e = inl n
  read-below (bound of_type i j) c n e = inr (below-tree _ _ _ _ e)
  read-below (bound of_const i j) c n e = inr (below-tree _ _ _ _ e)
  read-below (bound of_lifetime i j) c n e = inl n
  read-below (canonical k i) c n e = absurd n
  read-below static c n e = inl n
  read-below m c n e = inr (below-tree _ _ _ _ e)

  -- two readings of one goal that are equal are equal at each unknown that stands in it
  pub read-at : (kind : OpenKinds) (k : Sort) (v : ℕ) (t : Trees) → AreNodes t → read_with (standing s) t ≡ read_with (standing r) t → StandsIn kind t (infer k v)
      → reading_of s (infer k v) ≡ reading_of r (infer k v)
  read-at kind k v none h e i = absurd i
  read-at kind k v (tree m c o) h e i =
      by i (parts.0) (read-below m c h.0 parts.0) (λ q j. read-at kind k v c h.1 q j) (λ j. read-at kind k v o h.2 parts.1 j)
    where
      parts : (read_with (standing s) (tree m c none) ≡ read_with (standing r) (tree m c none)) × (read_with (standing s) o ≡ read_with (standing r) o)
      parts =
          split-one (sort_of m) (sort_of m) (read_with (standing s) (tree m c none)) (read_with (standing r) (tree m c none)) (read_with (standing s) o) (read_with (standing r) o)
          (read-one s sorted m c) (read-one r sorted_too m c)
          (sym (read-append (standing s) (tree m c none) o) ∙ e ∙ read-append (standing r) (tree m c none) o)

      here : read_with (standing s) (tree m c none) ≡ read_with (standing r) (tree m c none) → m ≡ infer k v → reading_of s (infer k v) ≡ reading_of r (infer k v)
      here q x =
          let n : c ≡ none = subst (λ z. IsNode z c) x h.0 in
          subst (λ z. read_with (standing s) (leaf z) ≡ read_with (standing r) (leaf z)) x (subst (λ z. read_with (standing s) (tree m z none) ≡ read_with (standing r) (tree m z none)) n q)

      below : (c ≡ none) ⊎ (read_with (standing s) c ≡ read_with (standing r) c) → (read_with (standing s) c ≡ read_with (standing r) c → StandsIn kind c (infer k v) → reading_of s (infer k v) ≡ reading_of r (infer k v))
          → StandsIn kind c (infer k v) → reading_of s (infer k v) ≡ reading_of r (infer k v)
      below (inl n) f j = absurd (subst (λ z. StandsIn kind z (infer k v)) n j)
      below (inr q) f j = f q j

      by : StandsIn kind (tree m c o) (infer k v) → read_with (standing s) (tree m c none) ≡ read_with (standing r) (tree m c none) → (c ≡ none) ⊎ (read_with (standing s) c ≡ read_with (standing r) c)
          → (read_with (standing s) c ≡ read_with (standing r) c → StandsIn kind c (infer k v) → reading_of s (infer k v) ≡ reading_of r (infer k v))
          → (StandsIn kind o (infer k v) → reading_of s (infer k v) ≡ reading_of r (infer k v)) → reading_of s (infer k v) ≡ reading_of r (infer k v)
      by (inl x) q b f g = here q x.0
      by (inr (inl j)) q b f g = below b f j
      by (inr (inr j)) q b f g = g j

-- two readings that differ at one unknown alone are equal where it does not stand
module _ (s r : ChosenTerms) (own : s.own ≡ r.own) (k : Sort) (v : ℕ) (others : (j : Sort) (w : ℕ) → is_same_variable j w k v ≡ false → s.unknowns j w ≡ r.unknowns j w) where
  standing-placeholder : (j : Sort) (i : ℕ) → standing s (placeholder j i) ≡ standing r (placeholder j i)
  standing-placeholder of_type i = ap (λ o. Some (as_place of_type (term_at o.terms i))) own
  standing-placeholder of_const i = ap (λ o. Some (as_place of_const (term_at o.terms i))) own
  standing-placeholder of_lifetime i = refl

  read-node : (l : Label) (c o : Trees) → standing s l ≡ standing r l → read_with (standing s) c ≡ read_with (standing r) c → read_with (standing s) o ≡ read_with (standing r) o
      → read_with (standing s) (tree l c o) ≡ read_with (standing r) (tree l c o)
  read-node l c o e p q =
      ap (λ z. put_at_node z (tree (erase_label l) (read_with (standing s) c) none) +++ read_with (standing s) o) e
      ∙ ap (λ z. put_at_node (standing r l) (tree (erase_label l) z none) +++ read_with (standing s) o) p
      ∙ ap (λ z. put_at_node (standing r l) (tree (erase_label l) (read_with (standing r) c) none) +++ z) q

  pub read-absent : (t : Trees) → occurs k v t ≡ false → read_with (standing s) t ≡ read_with (standing r) t
  read-absent none h = refl
  read-absent (tree (infer of_type w) c o) h =
      ap (λ z. tree_of z +++ read_with (standing s) o) (others of_type w (or-left (is_same_variable of_type w k v) (occurs k v o) h))
      ∙ ap (λ z. tree_of (r.unknowns of_type w) +++ z) (read-absent o (or-right (is_same_variable of_type w k v) (occurs k v o) h))
  read-absent (tree (infer of_const w) c o) h =
      ap (λ z. tree_of z +++ read_with (standing s) o) (others of_const w (or-left (is_same_variable of_const w k v) (occurs k v o) h))
      ∙ ap (λ z. tree_of (r.unknowns of_const w) +++ z) (read-absent o (or-right (is_same_variable of_const w k v) (occurs k v o) h))
  read-absent (tree (infer of_lifetime w) c o) h = ap (λ z. leaf static +++ z) (read-absent o (or-right (is_same_variable of_lifetime w k v) (occurs k v o) h))
  read-absent (tree (placeholder j i) c o) h =
      read-node (placeholder j i) c o (standing-placeholder j i) (read-absent c (or-left (occurs k v c) (occurs k v o) h)) (read-absent o (or-right (occurs k v c) (occurs k v o) h))
  read-absent (tree (param of_type i) c o) h = read-node (param of_type i) c o refl (read-absent c (or-left (occurs k v c) (occurs k v o) h)) (read-absent o (or-right (occurs k v c) (occurs k v o) h))
  read-absent (tree (param of_const i) c o) h = read-node (param of_const i) c o refl (read-absent c (or-left (occurs k v c) (occurs k v o) h)) (read-absent o (or-right (occurs k v c) (occurs k v o) h))
  read-absent (tree (param of_lifetime i) c o) h = read-node (param of_lifetime i) c o refl (read-absent c (or-left (occurs k v c) (occurs k v o) h)) (read-absent o (or-right (occurs k v c) (occurs k v o) h))
  read-absent (tree (canonical of_type i) c o) h = read-node (canonical of_type i) c o refl (read-absent c (or-left (occurs k v c) (occurs k v o) h)) (read-absent o (or-right (occurs k v c) (occurs k v o) h))
  read-absent (tree (canonical of_const i) c o) h = read-node (canonical of_const i) c o refl (read-absent c (or-left (occurs k v c) (occurs k v o) h)) (read-absent o (or-right (occurs k v c) (occurs k v o) h))
  read-absent (tree (canonical of_lifetime i) c o) h = read-node (canonical of_lifetime i) c o refl (read-absent c (or-left (occurs k v c) (occurs k v o) h)) (read-absent o (or-right (occurs k v c) (occurs k v o) h))
  read-absent (tree (bound of_type i j) c o) h = read-node (bound of_type i j) c o refl (read-absent c (or-left (occurs k v c) (occurs k v o) h)) (read-absent o (or-right (occurs k v c) (occurs k v o) h))
  read-absent (tree (bound of_const i j) c o) h = read-node (bound of_const i j) c o refl (read-absent c (or-left (occurs k v c) (occurs k v o) h)) (read-absent o (or-right (occurs k v c) (occurs k v o) h))
  read-absent (tree (bound of_lifetime i j) c o) h = read-node (bound of_lifetime i j) c o refl (read-absent c (or-left (occurs k v c) (occurs k v o) h)) (read-absent o (or-right (occurs k v c) (occurs k v o) h))
  read-absent (tree l c o) h = read-node l c o refl (read-absent c (or-left (occurs k v c) (occurs k v o) h)) (read-absent o (or-right (occurs k v c) (occurs k v o) h))
