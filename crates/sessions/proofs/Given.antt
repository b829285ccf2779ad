-- Values for a question's variables as an assignment.
use Rattle.std.proofs.Common.{◌≡◌, ℕ, zero, suc, ◌<◌, arith, ltb, Bool, true, false, not, if◌then◌else◌, List, [], ◌∷◌, refl, sym, ap, ◌∙◌, subst, Option, Some, None, ◌||◌, IsTrue, unwrap_or}
use Rattle.std.specs.List.{slice_get}
use Rattle.std.proofs.lemmas.Bool.Decides.{nat_tests}
use Rattle.type_terms.specs.Promised.Label.{Label, Sort, of_type, of_const, of_lifetime, param, placeholder, infer, canonical, bound, fn_ptr, principal, uint, value, static}
use Rattle.type_terms.specs.Promised.Trees.{Trees, none, tree, leaf, ◌+++◌, IsA, erase, erase_label, some_node, sort_of, is_sort}
use Rattle.type_terms.specs.Promised.Proofs.{Every}
use Rattle.type_terms.specs.Promised.Answers.{is_open, is_closed}
use Rattle.type_terms.proofs.Fitting.{child-shut, next-shut, not-true, or-no}
use Rattle.infer_table.specs.Solutions.{Assignment, instance, IsSorted}
use Rattle.infer_table.proofs.SolutionLaws.{is_sort-equal}
use Rattle.type_terms.specs.Promised.Questions.{FitKinds, of_kind, filled}
use Rattle.text_lowering.specs.QuestionVariables.{number_of, is_undeclared_variable}
use Rattle.type_terms.proofs.Matching.{or-false-left as no-left}
use Rattle.type_terms.proofs.TermBasics.{is_sort-self}
use Rattle.overlap_check.proofs.Filling.{node}

-- ---- an assignment of trees to places
abbrev pub default_node : Sort → Label × Trees
default_node of_type = (uint 0, none)
default_node of_const = (value 0, none)
default_node of_lifetime = (static, none)

-- a tree of the sort as a node, if it is one
abbrev pub root : Sort → Option Trees → Label × Trees
root k None = default_node k
root k (Some none) = default_node k
root k (Some (tree l c o)) = if is_sort (sort_of l) k then (l, c) else default_node k

abbrev pub given : List Sort → List Trees → Assignment
given ks ts k v = root k (slice_get (of_kind k ks ts) v)

default-sorted : (k : Sort) → sort_of (default_node k).0 ≡ k
default-sorted of_type = refl
default-sorted of_const = refl
default-sorted of_lifetime = refl

root-sorted : (k : Sort) (o : Option Trees) → sort_of (root k o).0 ≡ k
root-sorted k None = default-sorted k
root-sorted k (Some none) = default-sorted k
root-sorted k (Some (tree l c o)) = by (is_sort (sort_of l) k) refl
  where
    by : (b : Bool) → is_sort (sort_of l) k ≡ b → sort_of (if b then (l, c) else default_node k).0 ≡ k
    by true e = is_sort-equal (sort_of l) k e
    by false e = default-sorted k

pub given-sorted : (ks : List Sort) (ts : List Trees) → IsSorted (given ks ts)
given-sorted ks ts k v = root-sorted k (slice_get (of_kind k ks ts) v)

-- ---- a value in its place
pub record IsPlaced (s : Sort) (v : Option Trees) : Type 0 where
  pub label : Label
  pub children : Trees
  pub is : v ≡ Some (tree label children none)
  pub sort : sort_of label ≡ s
  pub closed : some_node is_open (tree label children none) ≡ false

one-tree : (s : Sort) (t : Trees) → IsA s t → IsTrue (is_closed t) → IsPlaced s (Some t)
one-tree s none h e = absurd h
one-tree of_type (tree l c o) h e = record { label = l; children = c; is = ap (λ z. Some (tree l c z)) h.1; sort = h.0; closed = ap (λ z. some_node is_open (tree l c z)) (sym h.1) ∙ not-true (some_node is_open (tree l c o)) e }
one-tree of_const (tree l c o) h e = record { label = l; children = c; is = ap (λ z. Some (tree l c z)) h.1; sort = h.0; closed = ap (λ z. some_node is_open (tree l c z)) (sym h.1) ∙ not-true (some_node is_open (tree l c o)) e }
one-tree of_lifetime (tree l c o) h e = record { label = l; children = c; is = ap (λ z. Some (tree l c z)) h.2; sort = h.0; closed = ap (λ z. some_node is_open (tree l c z)) (sym h.2) ∙ not-true (some_node is_open (tree l c o)) e }

pub placed-at : (s : Sort) (ks : List Sort) (ts : List Trees) → FitKinds ks ts → Every (λ t. IsTrue (is_closed t)) ts → (i : ℕ) → i < number_of s ks → IsPlaced s (slice_get (of_kind s ks ts) i)
placed-at s [] [] f e i h = absurd (omega (arith, h))
placed-at s [] (t ∷ ts) f e i h = absurd f
placed-at s (k ∷ ks) [] f e i h = absurd f
placed-at s (k ∷ ks) (t ∷ ts) f e i h = by (is_sort k s) refl i (placed-at s ks ts f.1 e.1) h
  where
    first : (i : ℕ) → k ≡ s → ((j : ℕ) → j < number_of s ks → IsPlaced s (slice_get (of_kind s ks ts) j)) → i < suc (number_of s ks) → IsPlaced s (slice_get (t ∷ of_kind s ks ts) i)
    first zero q r g = subst (λ z. IsPlaced z (Some t)) q (one-tree k t f.0 e.0)
    first (suc j) q r g = r j (omega (arith, g))

    by : (b : Bool) → is_sort k s ≡ b → (i : ℕ) → ((j : ℕ) → j < number_of s ks → IsPlaced s (slice_get (of_kind s ks ts) j)) → i < (if b then suc (number_of s ks) else number_of s ks) → IsPlaced s (slice_get (if b then t ∷ of_kind s ks ts else of_kind s ks ts) i)
    by true q i r g = first i (is_sort-equal k s q) r g
    by false q i r g = r i g

root-is : (s : Sort) (v : Option Trees) (p : IsPlaced s v) → root s v ≡ (p.label, p.children)
root-is s v p =
    ap (root s) p.is
    ∙ ap (λ z. if is_sort z s then (p.label, p.children) else default_node s) p.sort
    ∙ ap (λ b. if b then (p.label, p.children) else default_node s) (is_sort-self s)

pub below : (i n : ℕ) → not (ltb i n) ≡ false → i < n
below i n h = by (ltb i n) refl h
  where
    by : (b : Bool) → ltb i n ≡ b → not b ≡ false → i < n
    by true e g = grind (arith, nat_tests)
    by false e g = absurd cc

module _ (ks : List Sort) (ts : List Trees) (fit : FitKinds ks ts) (shut : Every (λ t. IsTrue (is_closed t)) ts) where
  abbrev S : Assignment
  S = given ks ts

  abbrev NoStray : Trees → Type 0
  NoStray t = some_node (is_undeclared_variable ks) t ≡ false

  stray-first : (l : Label) (c o : Trees) → NoStray (tree l c o) → is_undeclared_variable ks l ≡ false
  stray-first l c o h = no-left (is_undeclared_variable ks l) (some_node (is_undeclared_variable ks) c) (no-left (is_undeclared_variable ks l || some_node (is_undeclared_variable ks) c) (some_node (is_undeclared_variable ks) o) h)

  at-type : (i : ℕ) (c o : Trees) → NoStray (tree (infer of_type i) c o) → IsPlaced of_type (slice_get (of_kind of_type ks ts) i)
  at-type i c o h = placed-at of_type ks ts fit shut i (below i (number_of of_type ks) (stray-first (infer of_type i) c o h))

  at-const : (i : ℕ) (c o : Trees) → NoStray (tree (infer of_const i) c o) → IsPlaced of_const (slice_get (of_kind of_const ks ts) i)
  at-const i c o h = placed-at of_const ks ts fit shut i (below i (number_of of_const ks) (stray-first (infer of_const i) c o h))

  -- the value, and then what comes behind
  pub joined : (s : Sort) (i : ℕ) (o p : Trees) → IsPlaced s (slice_get (of_kind s ks ts) i) → o ≡ p
      → tree (S s i).0 (S s i).1 o ≡ unwrap_or (slice_get (of_kind s ks ts) i) (leaf (infer s i)) +++ p
  joined s i o p at e =
      let r = root-is s (slice_get (of_kind s ks ts) i) at in
      node (ap (λ (x : Label × Trees). x.0) r) (ap (λ (x : Label × Trees). x.1) r) e
      ∙ ap (λ z. unwrap_or z (leaf (infer s i)) +++ p) (sym at.is)

  pub instance-is : (t : Trees) → NoStray t → instance S t ≡ filled ks ts (erase t)
  instance-is none h = refl
  instance-is (tree (infer of_type i) c o) h = joined of_type i (instance S o) (filled ks ts (erase o)) (at-type i c o h) (instance-is o (next-shut (is_undeclared_variable ks) (infer of_type i) c o h))
  instance-is (tree (infer of_const i) c o) h = joined of_const i (instance S o) (filled ks ts (erase o)) (at-const i c o h) (instance-is o (next-shut (is_undeclared_variable ks) (infer of_const i) c o h))
  instance-is (tree (infer of_lifetime i) c o) h = absurd (no-true (stray-first (infer of_lifetime i) c o h))
    where
      no-true : true ≡ false → ⊥
      no-true e = cc
  instance-is (tree (param of_type i) c o) h = node refl (instance-is c (child-shut (is_undeclared_variable ks) (param of_type i) c o h)) (instance-is o (next-shut (is_undeclared_variable ks) (param of_type i) c o h))
  instance-is (tree (param of_const i) c o) h = node refl (instance-is c (child-shut (is_undeclared_variable ks) (param of_const i) c o h)) (instance-is o (next-shut (is_undeclared_variable ks) (param of_const i) c o h))
  instance-is (tree (param of_lifetime i) c o) h = node refl (instance-is c (child-shut (is_undeclared_variable ks) (param of_lifetime i) c o h)) (instance-is o (next-shut (is_undeclared_variable ks) (param of_lifetime i) c o h))
  instance-is (tree (placeholder of_type i) c o) h = node refl (instance-is c (child-shut (is_undeclared_variable ks) (placeholder of_type i) c o h)) (instance-is o (next-shut (is_undeclared_variable ks) (placeholder of_type i) c o h))
  instance-is (tree (placeholder of_const i) c o) h = node refl (instance-is c (child-shut (is_undeclared_variable ks) (placeholder of_const i) c o h)) (instance-is o (next-shut (is_undeclared_variable ks) (placeholder of_const i) c o h))
  instance-is (tree (placeholder of_lifetime i) c o) h = node refl (instance-is c (child-shut (is_undeclared_variable ks) (placeholder of_lifetime i) c o h)) (instance-is o (next-shut (is_undeclared_variable ks) (placeholder of_lifetime i) c o h))
  instance-is (tree (bound of_type i j) c o) h = node refl (instance-is c (child-shut (is_undeclared_variable ks) (bound of_type i j) c o h)) (instance-is o (next-shut (is_undeclared_variable ks) (bound of_type i j) c o h))
  instance-is (tree (bound of_const i j) c o) h = node refl (instance-is c (child-shut (is_undeclared_variable ks) (bound of_const i j) c o h)) (instance-is o (next-shut (is_undeclared_variable ks) (bound of_const i j) c o h))
  instance-is (tree (bound of_lifetime i j) c o) h = node refl (instance-is c (child-shut (is_undeclared_variable ks) (bound of_lifetime i j) c o h)) (instance-is o (next-shut (is_undeclared_variable ks) (bound of_lifetime i j) c o h))
  instance-is (tree (canonical s i) c o) h = absurd (no-true (stray-first (canonical s i) c o h))
    where
      no-true : true ≡ false → ⊥
      no-true e = cc
  instance-is (tree l c o) h = node refl (instance-is c (child-shut (is_undeclared_variable ks) l c o h)) (instance-is o (next-shut (is_undeclared_variable ks) l c o h))

  -- ---- nothing open is left
  open-label : (l : Label) → is_undeclared_variable ks l ≡ false → ((s : Sort) (i : ℕ) → l ≡ infer s i → ⊥) → is_open (erase_label l) ≡ false
  open-label (infer s i) h n = absurd (n s i refl)
  open-label (param of_lifetime i) h n = refl
  open-label (param of_type i) h n = cc
  open-label (param of_const i) h n = cc
  open-label (placeholder of_lifetime i) h n = refl
  open-label (placeholder of_type i) h n = cc
  open-label (placeholder of_const i) h n = cc
  open-label (bound of_lifetime j i) h n = refl
  open-label (bound of_type j i) h n = cc
  open-label (bound of_const j i) h n = cc
  open-label (canonical s i) h n = absurd cc
  open-label (fn_ptr n) h m = refl
  open-label (principal n t) h m = refl
  open-label l h n = refl

  pub shut-node : (l : Label) (c o : Trees) → is_open l ≡ false → some_node is_open c ≡ false → some_node is_open o ≡ false → some_node is_open (tree l c o) ≡ false
  shut-node l c o a b e = or-no (is_open l || some_node is_open c) (some_node is_open o) (or-no (is_open l) (some_node is_open c) a b) e

  pub shut-value : (s : Sort) (i : ℕ) (o : Trees) → IsPlaced s (slice_get (of_kind s ks ts) i) → some_node is_open o ≡ false → some_node is_open (tree (S s i).0 (S s i).1 o) ≡ false
  shut-value s i o at e =
      let r = root-is s (slice_get (of_kind s ks ts) i) at in
      ap (λ (x : Label × Trees). some_node is_open (tree x.0 x.1 o)) r
      ∙ or-no (is_open at.label || some_node is_open at.children) (some_node is_open o) (no-left (is_open at.label || some_node is_open at.children) false at.closed) e

  pub instance-shut : (t : Trees) → NoStray t → some_node is_open (instance S t) ≡ false
  instance-shut none h = refl
  instance-shut (tree (infer of_type i) c o) h = shut-value of_type i (instance S o) (at-type i c o h) (instance-shut o (next-shut (is_undeclared_variable ks) (infer of_type i) c o h))
  instance-shut (tree (infer of_const i) c o) h = shut-value of_const i (instance S o) (at-const i c o h) (instance-shut o (next-shut (is_undeclared_variable ks) (infer of_const i) c o h))
  instance-shut (tree (infer of_lifetime i) c o) h = absurd (no-true (stray-first (infer of_lifetime i) c o h))
    where
      no-true : true ≡ false → ⊥
      no-true e = cc
  instance-shut (tree l c o) h =
      shut-node (erase_label l) (instance S c) (instance S o) (open-label l (stray-first l c o h) (λ s i e. cc))
      (instance-shut c (child-shut (is_undeclared_variable ks) l c o h)) (instance-shut o (next-shut (is_undeclared_variable ks) l c o h))
