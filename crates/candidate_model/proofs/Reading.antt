-- Terms put in for variables, and the making of instances of declarations.
use Rattle.std.proofs.Common.{◌≡◌, ℕ, zero, suc, Bool, true, false, ◌&&◌, if◌then◌else◌, List, [], ◌∷◌, map, refl, sym, ◌∙◌, ap, Option, Some, None}
use Rattle.type_terms.specs.Promised.Label.{Label, of_type, of_const, of_lifetime, static, param, placeholder, infer, canonical, bound}
use Rattle.type_terms.specs.Promised.Label.{never}
use Rattle.type_terms.specs.Promised.Label.{value}
use Rattle.type_terms.specs.Promised.Trees.{Trees, none, tree, leaf, ◌+++◌, is_sort, sort_of, erase_label, nth}
use Rattle.type_terms.specs.Trees.{is_a, put_at_node}
use Rattle.type_terms.specs.Promised.Rules.{asked, each_asked, last_asked}
use Rattle.goal_evaluator.specs.Instances.{read_with, default_label, of_sort, term_at}
use Rattle.goal_evaluator.specs.Content.{given}
pub use Rattle.candidate_model.specs.Cover.{read_reference}
use Rattle.type_terms.proofs.BooleanBasics.{true-false}

pub append-assoc : (x y z : Trees) → (x +++ y) +++ z ≡ x +++ (y +++ z)
append-assoc none y z = refl
append-assoc (tree l c o) y z = ap (λ w. tree l c w) (append-assoc o y z)

-- ---- one tree stays one tree
pub record IsOne (t : Trees) : Type 0 where
  pub label : Label
  pub children : Trees
  pub is : t ≡ tree label children none

one-type : (t : Trees) → is_a of_type t ≡ true → IsOne t
one-type none e = absurd (true-false (sym e))
one-type (tree l c none) e = record { label = l; children = c; is = refl }
one-type (tree l c (tree m d o)) e = absurd (no (is_sort (sort_of l) of_type) e)
  where
    no : (b : Bool) → b && false ≡ true → ⊥
    no true f = true-false (sym f)
    no false f = true-false (sym f)

one-const : (t : Trees) → is_a of_const t ≡ true → IsOne t
one-const none e = absurd (true-false (sym e))
one-const (tree l c none) e = record { label = l; children = c; is = refl }
one-const (tree l c (tree m d o)) e = absurd (no (is_sort (sort_of l) of_const) e)
  where
    no : (b : Bool) → b && false ≡ true → ⊥
    no true f = true-false (sym f)
    no false f = true-false (sym f)

type-of-sort : (t : Trees) → IsOne (of_sort of_type t)
type-of-sort t = by (is_a of_type t) refl
  where
    by : (b : Bool) → is_a of_type t ≡ b → IsOne (if b then t else leaf (default_label of_type))
    by true e = one-type t e
    by false e = record { label = never; children = none; is = refl }

const-of-sort : (t : Trees) → IsOne (of_sort of_const t)
const-of-sort t = by (is_a of_const t) refl
  where
    by : (b : Bool) → is_a of_const t ≡ b → IsOne (if b then t else leaf (default_label of_const))
    by true e = one-const t e
    by false e = record { label = value 0; children = none; is = refl }

-- what stands in the place of one tree, before others
pub record Begins (ts : List Trees) (l : Label) (c o : Trees) : Type 0 where
  pub label : Label
  pub children : Trees
  pub alone : read_with (given ts) (tree l c none) ≡ tree label children none
  pub before : read_with (given ts) (tree l c o) ≡ tree label children (read_with (given ts) o)

by-one : (ts : List Trees) (l : Label) (c o t : Trees) → given ts l ≡ Some t → IsOne t → Begins ts l c o
by-one ts l c o t e one = record {
  label = one.label;
  children = one.children;
  alone = ap (λ g. at g none) e ∙ ap (λ z. z +++ none) one.is;
  before = ap (λ g. at g (read_with (given ts) o)) e ∙ ap (λ z. z +++ read_with (given ts) o) one.is;
}
  where
    at : Option Trees → Trees → Trees
    at g rest = put_at_node g (tree (erase_label l) (read_with (given ts) c) none) +++ rest

by-itself : (ts : List Trees) (l : Label) (c o : Trees) → given ts l ≡ None → Begins ts l c o
by-itself ts l c o e = record {
  label = erase_label l;
  children = read_with (given ts) c;
  alone = ap (λ g. at g none) e;
  before = ap (λ g. at g (read_with (given ts) o)) e;
}
  where
    at : Option Trees → Trees → Trees
    at g rest = put_at_node g (tree (erase_label l) (read_with (given ts) c) none) +++ rest

one-leaf : (l : Label) → IsOne (leaf l)
one-leaf l = record { label = l; children = none; is = refl }

pub begins : (ts : List Trees) (l : Label) (c o : Trees) → Begins ts l c o
begins ts (canonical of_type i) c o = by-one ts (canonical of_type i) c o (of_sort of_type (term_at ts i)) refl (type-of-sort (term_at ts i))
begins ts (canonical of_const i) c o = by-one ts (canonical of_const i) c o (of_sort of_const (term_at ts i)) refl (const-of-sort (term_at ts i))
begins ts (canonical of_lifetime i) c o = by-one ts (canonical of_lifetime i) c o (leaf static) refl (one-leaf static)
begins ts (infer k i) c o = by-one ts (infer k i) c o (leaf (default_label k)) refl (one-leaf (default_label k))
begins ts (param k i) c o = by-one ts (param k i) c o (leaf (default_label k)) refl (one-leaf (default_label k))
begins ts (placeholder k i) c o = by-one ts (placeholder k i) c o (leaf (default_label k)) refl (one-leaf (default_label k))
begins ts static c o = by-one ts static c o (leaf static) refl (one-leaf static)
begins ts (bound of_lifetime k i) c o = by-one ts (bound of_lifetime k i) c o (leaf static) refl (one-leaf static)
begins ts (bound of_type k i) c o = by-itself ts (bound of_type k i) c o refl
begins ts (bound of_const k i) c o = by-itself ts (bound of_const k i) c o refl
begins ts l c o = by-itself ts l c o refl

-- ---- lists of trees
pub read-append : (ts : List Trees) (x y : Trees) → read_with (given ts) (x +++ y) ≡ read_with (given ts) x +++ read_with (given ts) y
read-append ts none y = refl
read-append ts (tree l c o) y =
    let a = begins ts l c (o +++ y) in
    let b = begins ts l c o in
    let same : read_with (given ts) (tree l c o) +++ read_with (given ts) y ≡ read_with (given ts) (tree l c none) +++ (read_with (given ts) o +++ read_with (given ts) y)
    = ap (λ z. z +++ read_with (given ts) y) (b.before ∙ ap (λ z. z +++ read_with (given ts) o) (sym b.alone)) ∙ append-assoc (read_with (given ts) (tree l c none)) (read_with (given ts) o) (read_with (given ts) y) in
    a.before ∙ ap (λ z. z +++ read_with (given ts) (o +++ y)) (sym a.alone) ∙ ap (λ z. read_with (given ts) (tree l c none) +++ z) (read-append ts o y) ∙ sym same

pub read-nth : (ts : List Trees) (t : Trees) (i : ℕ) → read_with (given ts) (nth t i) ≡ nth (read_with (given ts) t) i
read-nth ts none i = refl
read-nth ts (tree l c o) zero = let b = begins ts l c o in b.alone ∙ sym (ap (λ z. nth z zero) b.before)
read-nth ts (tree l c o) (suc i) = let b = begins ts l c o in read-nth ts o i ∙ sym (ap (λ z. nth z (suc i)) b.before)

pub read-each-asked : (ts : List Trees) (t : ℕ) (items : Trees) → each_asked t (read_with (given ts) items) ≡ map (read_reference ts) (each_asked t items)
read-each-asked ts t none = refl
read-each-asked ts t (tree l c o) =
    let b = begins ts l c o in
    ap (each_asked t) b.before ∙ ap (λ z. asked t z ∷ each_asked t (read_with (given ts) o)) (sym b.alone) ∙ ap (λ z. asked t (read_with (given ts) (tree l c none)) ∷ z) (read-each-asked ts t o)

pub read-last-asked : (ts : List Trees) (t : ℕ) (items : Trees) → last_asked t (read_with (given ts) items) ≡ map (read_reference ts) (last_asked t items)
read-last-asked ts t none = refl
read-last-asked ts t (tree l c none) = let b = begins ts l c none in ap (last_asked t) b.before ∙ ap (λ z. asked t z ∷ []) (sym b.alone)
read-last-asked ts t (tree l c (tree m d o)) =
    let a = begins ts l c (tree m d o) in
    let b = begins ts m d o in
    ap (last_asked t) a.before ∙ ap (λ z. last_asked t (tree a.label a.children z)) b.before ∙ sym (ap (last_asked t) b.before) ∙ read-last-asked ts t (tree m d o)
