-- A header or clause over variables of a candidate: how it is made, which variables stand there, and when two readings agree.
use Rattle.std.proofs.Common.{◌≡◌, ℕ, ◌+◌, ◌==◌, Bool, true, false, not, ◌&&◌, ◌||◌, if◌then◌else◌, List, ◌⊎◌, inl, inr, refl, sym, ◌∙◌, ap, subst, arith, None}
use Rattle.std.proofs.lemmas.Bool.Decides.{nat_tests}
use Rattle.type_terms.specs.Promised.Label.{Label, Sort, of_type, of_const, of_lifetime, static, param, placeholder, infer, canonical, bound, char, dynamic, principal, auto_trait, predicate}
use Rattle.type_terms.specs.Promised.Label.{bool}
use Rattle.type_terms.specs.Promised.Trees.{Trees, none, tree, leaf, ◌+++◌, is_sort, sort_of, some_node}
use Rattle.type_terms.specs.Trees.{is_no_tree, is_a}
use Rattle.type_terms.specs.Made.{terms}
use Rattle.type_terms.specs.Made.{bounds}
use Rattle.type_terms.specs.Made.{is_leaf_label, is_made}
use Rattle.goal_evaluator.specs.Lists.{Every}
use Rattle.goal_evaluator.specs.Instances.{read_with, put_in, default_label}
use Rattle.goal_evaluator.specs.Content.{given}
use Rattle.goal_evaluator.specs.FrameTables.{Equation, is_open_label, term_of}
use Rattle.type_terms.proofs.Made.{false-true}
use Rattle.type_terms.proofs.Made.{is_ordinary}
use Rattle.type_terms.proofs.Walking.{left, right}
use Rattle.goal_evaluator.proofs.Labels.{IsLeafFor, PutsLeaves, made-put-in}
use Rattle.candidate_model.proofs.Plain.{is-sort}
use Rattle.candidate_model.specs.Declared.{is_declared_leaf}
use Rattle.candidate_model.specs.Candidates.{moved, first_value, all_equal, is_this_param}
use Rattle.candidate_model.proofs.Reading.{begins}
use Rattle.goal_evaluator.proofs.Readings.{HasLeaves}
use Rattle.goal_evaluator.specs.Variables.{LabelStandsIn}
use Rattle.type_terms.proofs.TermBasics.{is_sort-self as sort-self}
use Rattle.type_terms.proofs.NumberBasics.{number-self}
use Rattle.candidate_model.proofs.EquationTerms.{open-behind}

pub made-moved : (n : ℕ) (t : Trees) → is_made is_declared_leaf terms t ≡ true → is_made is_open_label terms (put_in (moved n) t) ≡ true
made-moved n t h = made-put-in is_declared_leaf is_open_label (moved n) (open-behind n) terms t h

-- ---- which variables stand there
same-sort : (s k : Sort) (x i : ℕ) → canonical s x ≡ canonical k i → (s ≡ k) × (x ≡ i)
same-sort s k x i e = (cc, cc)

number-is : (i j : ℕ) → (i == j) ≡ true → i ≡ j
number-is i j h = grind (arith, nat_tests, h)

pub and-true : (x y : Bool) → x ≡ true → y ≡ true → x && y ≡ true
and-true x y e f = rw (e, f) refl

or-first : (x y z : Bool) → x ≡ true → x || y || z ≡ true
or-first x y z e = rw e refl

or-second : (x y z : Bool) → y ≡ true → x || y || z ≡ true
or-second true true true e = refl
or-second true true false e = refl
or-second false true true e = refl
or-second false true false e = refl
or-second x false z e = absurd (false-true e)

or-third : (x y z : Bool) → z ≡ true → x || y || z ≡ true
or-third true true true e = refl
or-third true false true e = refl
or-third false true true e = refl
or-third false false true e = refl
or-third x y false e = absurd (false-true e)

-- the variable is one that stood there, or stands for a parameter
abbrev pub Came : ℕ → Sort → ℕ → Trees → Type 0
Came n k i t = LabelStandsIn (canonical k i) t ⊎ ((j : ℕ) × (n + j ≡ i) × (some_node (is_this_param k j) t ≡ true))

from-child : (n : ℕ) (k : Sort) (i : ℕ) (l : Label) (c o : Trees) → Came n k i c → Came n k i (tree l c o)
from-child n k i l c o (inl s) = inl (inr (inl s))
from-child n k i l c o (inr x) = inr (x.0, x.1, or-second (is_this_param k x.0 l) (some_node (is_this_param k x.0) c) (some_node (is_this_param k x.0) o) x.2)

from-next : (n : ℕ) (k : Sort) (i : ℕ) (l : Label) (c o : Trees) → Came n k i o → Came n k i (tree l c o)
from-next n k i l c o (inl s) = inl (inr (inr s))
from-next n k i l c o (inr x) = inr (x.0, x.1, or-third (is_this_param k x.0 l) (some_node (is_this_param k x.0) c) (some_node (is_this_param k x.0) o) x.2)

node-back : (n : ℕ) (k : Sort) (i : ℕ) (l : Label) (c o : Trees) → (LabelStandsIn (canonical k i) (put_in (moved n) c) → Came n k i c) → (LabelStandsIn (canonical k i) (put_in (moved n) o) → Came n k i o)
    → LabelStandsIn (canonical k i) (tree l (put_in (moved n) c) (put_in (moved n) o)) → Came n k i (tree l c o)
node-back n k i l c o f g (inl e) = inl (inl e)
node-back n k i l c o f g (inr (inl x)) = from-child n k i l c o (f x)
node-back n k i l c o f g (inr (inr x)) = from-next n k i l c o (g x)

param-back : (n : ℕ) (k : Sort) (i : ℕ) (s : Sort) (j : ℕ) (c o : Trees) → (LabelStandsIn (canonical k i) (put_in (moved n) o) → Came n k i o) → LabelStandsIn (canonical k i) (tree (canonical s (n + j)) none (put_in (moved n) o)) → Came n k i (tree (param s j) c o)
param-back n k i s j c o g (inl e) =
    let x = same-sort s k (n + j) i e in
    inr (j, x.1, or-first (is_sort k s && (j == j)) (some_node (is_this_param k j) c) (some_node (is_this_param k j) o) (and-true (is_sort k s) (j == j) (ap (is_sort k) x.0 ∙ sort-self k) (number-self j)))
param-back n k i s j c o g (inr (inl x)) = absurd x
param-back n k i s j c o g (inr (inr x)) = from-next n k i (param s j) c o (g x)

pub stands-back : (n : ℕ) (k : Sort) (i : ℕ) (t : Trees) → LabelStandsIn (canonical k i) (put_in (moved n) t) → Came n k i t
stands-back n k i none s = absurd s
stands-back n k i (tree (param s j) c o) x = param-back n k i s j c o (λ y. stands-back n k i o y) x
stands-back n k i (tree l c o) x = node-back n k i l c o (λ y. stands-back n k i c y) (λ y. stands-back n k i o y) x

or-cases : (x y z : Bool) → x || y || z ≡ true → (x ≡ true) ⊎ ((y ≡ true) ⊎ (z ≡ true))
or-cases true y z e = inl refl
or-cases false true z e = inr (inl refl)
or-cases false false z e = inr (inr e)

param-on : (n : ℕ) (k : Sort) (j : ℕ) (s : Sort) (m : ℕ) (c o : Trees) → c ≡ none → (some_node (is_this_param k j) o ≡ true → LabelStandsIn (canonical k (n + j)) (put_in (moved n) o))
    → ((is_sort k s && (j == m)) ≡ true) ⊎ ((some_node (is_this_param k j) c ≡ true) ⊎ (some_node (is_this_param k j) o ≡ true)) → LabelStandsIn (canonical k (n + j)) (tree (canonical s (n + m)) none (put_in (moved n) o))
param-on n k j s m c o h go (inl x) =
    let p : k ≡ s = is-sort k s (left (is_sort k s) (j == m) x) in
    let q = number-is j m (right (is_sort k s) (j == m) x) in
    inl (ap (λ z. canonical z (n + m)) (sym p) ∙ ap (λ z. canonical k (n + z)) (sym q))
param-on n k j s m c o h go (inr (inl x)) = absurd (false-true (subst (λ z. some_node (is_this_param k j) z ≡ true) h x))
param-on n k j s m c o h go (inr (inr x)) = inr (inr (go x))

node-on : (n : ℕ) (k : Sort) (j : ℕ) (l : Label) (c o : Trees) → (some_node (is_this_param k j) c ≡ true → LabelStandsIn (canonical k (n + j)) (put_in (moved n) c)) → (some_node (is_this_param k j) o ≡ true → LabelStandsIn (canonical k (n + j)) (put_in (moved n) o))
    → (false ≡ true) ⊎ ((some_node (is_this_param k j) c ≡ true) ⊎ (some_node (is_this_param k j) o ≡ true)) → LabelStandsIn (canonical k (n + j)) (tree l (put_in (moved n) c) (put_in (moved n) o))
node-on n k j l c o f g (inl x) = absurd (false-true x)
node-on n k j l c o f g (inr (inl x)) = inr (inl (f x))
node-on n k j l c o f g (inr (inr x)) = inr (inr (g x))

pub stands-on : (n : ℕ) (k : Sort) (j : ℕ) (t : Trees) → HasLeaves t → some_node (is_this_param k j) t ≡ true → LabelStandsIn (canonical k (n + j)) (put_in (moved n) t)
stands-on n k j none h e = absurd (false-true e)
stands-on n k j (tree (param s m) c o) h e = param-on n k j s m c o (h.0 refl) (λ x. stands-on n k j o h.2 x) (or-cases (is_sort k s && (j == m)) (some_node (is_this_param k j) c) (some_node (is_this_param k j) o) e)
stands-on n k j (tree l c o) h e = node-on n k j l c o (λ x. stands-on n k j c h.1 x) (λ x. stands-on n k j o h.2 x) (or-cases false (some_node (is_this_param k j) c) (some_node (is_this_param k j) o) e)

-- ---- equations of made terms
one-made : (l : Label) (c : Trees) → is_a (sort_of l) (tree l c none) ≡ true → is_made is_open_label terms (tree l c none) ≡ true → term_of (first_value l c) ≡ tree l c none
one-made l c p q = by (is_a (sort_of l) (tree l c none)) p (is_made is_open_label terms (tree l c none)) q
  where
    by : (x : Bool) → x ≡ true → (y : Bool) → y ≡ true → (if x && y then tree l c none else leaf (default_label (sort_of l))) ≡ tree l c none
    by x e y f = rw (e, f) refl

-- the first of made terms is made, and so is what follows
pub record FirstMade (l : Label) (c o : Trees) : Type 0 where
  pub is : term_of (first_value l c) ≡ tree l c none
  pub rest : is_made is_open_label terms o ≡ true

made-parts : (g r m n : Bool) → g && (r && (m && n)) ≡ true → (g && (r && (m && true)) ≡ true) × (n ≡ true) × (r ≡ true)
made-parts g r m n e =
    let p = right g (r && (m && n)) e in
    let q = right r (m && n) p in
    (and-true g (r && (m && true)) (left g (r && (m && n)) e) (and-true r (m && true) (left r (m && n) p) (and-true m true (left m n q) refl)), right m n q, left r (m && n) p)

lifetime-leaf : (c : Trees) → is_no_tree c ≡ true → true && (is_no_tree c && true) ≡ true
lifetime-leaf none e = refl
lifetime-leaf (tree l c o) e = absurd (false-true e)

first-made : (l : Label) (c o : Trees) → is_made is_open_label terms (tree l c o) ≡ true → FirstMade l c o
first-made dynamic c o m =
    record { is = one-made dynamic c refl (and-true (is_made is_open_label bounds c) true (left (is_made is_open_label bounds c) (is_made is_open_label terms o) m) refl); rest = right (is_made is_open_label bounds c) (is_made is_open_label terms o) m }
first-made (principal n i) c o m = absurd (false-true m)
first-made (auto_trait i) c o m = absurd (false-true m)
first-made (predicate i) c o m = absurd (false-true m)
first-made static c o m = let p = made-parts true (is_no_tree c) (is_made is_open_label terms c) (is_made is_open_label terms o) m in record { is = one-made static c (lifetime-leaf c p.2) p.0; rest = p.1 }
first-made (param of_type i) c o m = absurd (false-true m)
first-made (param of_const i) c o m = absurd (false-true m)
first-made (param of_lifetime i) c o m = let p = made-parts true (is_no_tree c) (is_made is_open_label terms c) (is_made is_open_label terms o) m in record { is = one-made (param of_lifetime i) c (lifetime-leaf c p.2) p.0; rest = p.1 }
first-made (placeholder of_type i) c o m = absurd (false-true m)
first-made (placeholder of_const i) c o m = absurd (false-true m)
first-made (placeholder of_lifetime i) c o m = let p = made-parts true (is_no_tree c) (is_made is_open_label terms c) (is_made is_open_label terms o) m in record { is = one-made (placeholder of_lifetime i) c (lifetime-leaf c p.2) p.0; rest = p.1 }
first-made (infer k i) c o m = absurd (false-true m)
first-made (canonical of_type i) c o m = let p = made-parts true (is_no_tree c) (is_made is_open_label terms c) (is_made is_open_label terms o) m in record { is = one-made (canonical of_type i) c refl p.0; rest = p.1 }
first-made (canonical of_const i) c o m = let p = made-parts true (is_no_tree c) (is_made is_open_label terms c) (is_made is_open_label terms o) m in record { is = one-made (canonical of_const i) c refl p.0; rest = p.1 }
first-made (canonical of_lifetime i) c o m = let p = made-parts true (is_no_tree c) (is_made is_open_label terms c) (is_made is_open_label terms o) m in record { is = one-made (canonical of_lifetime i) c (lifetime-leaf c p.2) p.0; rest = p.1 }
first-made (bound of_type i j) c o m = let p = made-parts true (is_no_tree c) (is_made is_open_label terms c) (is_made is_open_label terms o) m in record { is = one-made (bound of_type i j) c refl p.0; rest = p.1 }
first-made (bound of_const i j) c o m = let p = made-parts true (is_no_tree c) (is_made is_open_label terms c) (is_made is_open_label terms o) m in record { is = one-made (bound of_const i j) c refl p.0; rest = p.1 }
first-made (bound of_lifetime i j) c o m = let p = made-parts true (is_no_tree c) (is_made is_open_label terms c) (is_made is_open_label terms o) m in record { is = one-made (bound of_lifetime i j) c (lifetime-leaf c p.2) p.0; rest = p.1 }
first-made l c o m = let p = made-parts true (not (is_leaf_label l) || is_no_tree c) (is_made is_open_label terms c) (is_made is_open_label terms o) m in record { is = one-made l c refl p.0; rest = p.1 }

never-met : (ys : List Trees) → read_with (given ys) (tree bool none none) ≡ read_with (given ys) (tree char none none) → ⊥
never-met ys e = labels (ap (λ z. label-of z) e)
  where
    label-of : Trees → Label
    label-of none = bool
    label-of (tree l c o) = l

    labels : bool ≡ char → ⊥
    labels e = cc

-- where the equations hold the lists are read as one
pub met-reads : (ys : List Trees) (x y : Trees) → is_made is_open_label terms x ≡ true → is_made is_open_label terms y ≡ true
    → Every (λ (e : Equation). read_with (given ys) (term_of e.left) ≡ read_with (given ys) (term_of e.right)) (all_equal x y) → read_with (given ys) x ≡ read_with (given ys) y
met-reads ys none none m n e = refl
met-reads ys none (tree l c o) m n e = absurd (never-met ys e.0)
met-reads ys (tree l c o) none m n e = absurd (never-met ys e.0)
met-reads ys (tree l c o) (tree k d p) m n e =
    let a = first-made l c o m in
    let b = first-made k d p n in
    let x = begins ys l c o in
    let y = begins ys k d p in
    let one : tree x.label x.children none ≡ tree y.label y.children none = sym x.alone ∙ ap (read_with (given ys)) (sym a.is) ∙ e.0 ∙ ap (read_with (given ys)) b.is ∙ y.alone in
    x.before ∙ ap (λ z. z +++ read_with (given ys) o) one ∙ ap (λ z. tree y.label y.children z) (met-reads ys o p a.rest b.rest e.1) ∙ sym y.before
