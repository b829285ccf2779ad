-- A visit by the collector lists the open leaves.
use Rattle.std.proofs.Common.{◌≡◌, ℕ, Bool, true, false, refl, ap, sym, ◌∙◌, subst, List, [], ◌∷◌, ◌++◌, Option, None, is_some, IsSome, if◌then◌else◌, ◌+◌, ◌<◌, ◌≤◌, length, drop, get_or, arith}
use Rattle.std.proofs.lemmas.Grind.{common_steps}
use Rattle.type_terms.specs.Promised.Label.{Label}
use Rattle.type_terms.specs.Promised.Trees.{Trees, none, tree, ◌+++◌}
use Rattle.type_terms.specs.Promised.Handles.{Entry}
use Rattle.type_terms.specs.declared.Fault.{Fault}
use Rattle.term_folds.specs.declared.predicate.Clause.{Clause}
use Rattle.term_folds.specs.declared.predicate.Clause.TheVariants.{Trait, RegionOutlives, TypeOutlives}
use Rattle.term_folds.specs.Clauses.{clause_pieces}
use Rattle.type_terms.specs.Pieces.{one_piece}
use Rattle.type_terms.specs.Visits.{Visits, ended, passed, broken, entered, broken_below, VisitsEach, ended_each, next_each, broken_each}
use Rattle.infer_table.specs.Canonical.{OpenKinds, kind_of_leaf, kind_in_clause, leaves, with_label}
use Rattle.infer_table.specs.declared.canonicalizer.LeafCollector.{LeafCollector}
use Rattle.infer_table.specs.Goals.{clause_terms, environment_trees}
use Rattle.infer_table.specs.Leaves.{open_kinds, labels, AreOpen, OpenAreLeaves}
use Rattle.infer_table.specs.LeafLaws.{Collecting}
use Rattle.infer_table.proofs.Basics.{clause-known}

pub leaves-append : (kind : OpenKinds) (seen : List Label) (x y : Trees) → leaves kind seen (x +++ y) ≡ leaves kind (leaves kind seen x) y
leaves-append kind seen none y = refl
leaves-append kind seen (tree l c o) y = leaves-append kind (leaves kind (if is_some (kind l) then with_label l seen else seen) c) o y

only-append : (kind : OpenKinds) (x y : Trees) → OpenAreLeaves kind x → OpenAreLeaves kind y → OpenAreLeaves kind (x +++ y)
only-append kind none y h g = g
only-append kind (tree l c o) y h g = (h.0, h.1, only-append kind o y h.2 g)

only-at : (a b : Bool) (t : Trees) → a ≡ b → OpenAreLeaves (open_kinds a) t → OpenAreLeaves (open_kinds b) t
only-at a b t e h = subst (λ (x : Bool). OpenAreLeaves (open_kinds x) t) e h

-- what a visit comes to
pub record Collected (es : List Entry) (t : Trees) (v w : LeafCollector) : Type 0 where
  pub same : w.in_clause ≡ v.in_clause
  pub listed : labels es w.leaves.keys ≡ leaves (open_kinds v.in_clause) (labels es v.leaves.keys) t
  pub only : OpenAreLeaves (open_kinds v.in_clause) t

pub collected : (es : List Entry) {bs : List ℕ} {t : Trees} {v w : LeafCollector} {r : Option Fault} → Visits (λ bs t v w a. Collecting es t v w a) bs t v w r → r ≡ None → Collected es t v w
collected es ended e = record { same = refl; listed = refl; only = tt }
collected es (passed {l = l} {c = c} {o = o} {v = v} {w = w} {x = x} s rest) e =
    let after = collected es rest e in
    record {
      same = after.same ∙ s.0;
      listed = after.listed ∙ ap (λ b. leaves (open_kinds b) (labels es w.leaves.keys) o) s.0 ∙ ap (λ z. leaves (open_kinds v.in_clause) z o) s.1.0;
      only = (s.1.1.0, s.1.1.1, only-at w.in_clause v.in_clause o s.0 after.only);
    }
collected es (broken s) e = cc
collected es (entered {l = l} {c = c} {o = o} {v = v} {u = u} {w = w} {x = x} s below rest) e =
    let inner = collected es below refl in
    let after = collected es rest e in
    record {
      same = after.same ∙ inner.same ∙ s.0;
      listed = after.listed ∙ ap (λ b. leaves (open_kinds b) (labels es w.leaves.keys) o) (inner.same ∙ s.0)
          ∙ ap (λ z. leaves (open_kinds v.in_clause) z o)
          (inner.listed ∙ ap (λ b. leaves (open_kinds b) (labels es u.leaves.keys) c) s.0 ∙ ap (λ z. leaves (open_kinds v.in_clause) z c) s.1.0);
      only = (s.1.1, only-at u.in_clause v.in_clause c s.0 inner.only, only-at w.in_clause v.in_clause o (inner.same ∙ s.0) after.only);
    }
collected es (broken_below s below) e = cc

pub one-visit : (es : List Entry) {t : Trees} {v w : LeafCollector} {r : Option Fault} → VisitsEach (λ bs t v w a. Collecting es t v w a) [] (one_piece t) v w r → r ≡ None → Collected es t v w
one-visit es (next_each a ended_each) e = collected es a refl
one-visit es (broken_each a) e = cc

pub two-visits : (es : List Entry) {x y : Trees} {v w : LeafCollector} {r : Option Fault} → VisitsEach (λ bs t v w a. Collecting es t v w a) [] (one_piece x ++ one_piece y) v w r → r ≡ None → Collected es (x +++ y) v w
two-visits es {x = x} {y = y} (next_each {v = v} {w = u} a (next_each b ended_each)) e =
    let first = collected es a refl in
    let second = collected es b refl in
    record {
      same = second.same ∙ first.same;
      listed = second.listed ∙ ap (λ b. leaves (open_kinds b) (labels es u.leaves.keys) y) first.same ∙ ap (λ z. leaves (open_kinds v.in_clause) z y) first.listed
          ∙ sym (leaves-append (open_kinds v.in_clause) (labels es v.leaves.keys) x y);
      only = only-append (open_kinds v.in_clause) x y first.only (only-at u.in_clause v.in_clause y first.same second.only);
    }
two-visits es (next_each a (broken_each b)) e = cc
two-visits es (broken_each a) e = cc

pub clause-collected : (es : List Entry) (x : Clause) (v w : LeafCollector) → VisitsEach (λ bs t v w a. Collecting es t v w a) [] (clause_pieces es x) v w None → Collected es (clause_terms es x) v w
clause-collected es (Trait p) v w h = one-visit es h refl
clause-collected es (RegionOutlives a b) v w h = two-visits es h refl
clause-collected es (TypeOutlives t r) v w h = two-visits es h refl

pub predicate-collected : (es : List Entry) (t : Trees) (v w : LeafCollector) → VisitsEach (λ bs t v w a. Collecting es t v w a) [] (one_piece t) v w None → Collected es t v w
predicate-collected es t v w h = one-visit es h refl

-- the leaves of one clause and those after it
pub next-clause : (es : List Entry) (x : Clause) (rest : List Clause) (seen : List Label) → leaves kind_in_clause seen (environment_trees es (x ∷ rest)) ≡ leaves kind_in_clause (leaves kind_in_clause seen (clause_terms es x)) (environment_trees es rest)
next-clause es (Trait p) rest seen = refl
next-clause es (RegionOutlives a b) rest seen = refl
next-clause es (TypeOutlives t r) rest seen = refl

-- a clause is not open
only-clause : (es : List Entry) (x : Clause) (rest : List Clause) → OpenAreLeaves kind_in_clause (clause_terms es x) → OpenAreLeaves kind_in_clause (environment_trees es rest) → OpenAreLeaves kind_in_clause (environment_trees es (x ∷ rest))
only-clause es (Trait p) rest h g = (λ e. cc, h, g)
only-clause es (RegionOutlives a b) rest h g = (λ e. cc, h, g)
only-clause es (TypeOutlives t r) rest h g = (λ e. cc, h, g)

pub cut-at : (xs : List Clause) (i : ℕ) (d : Clause) → i < length xs → drop i xs ≡ get_or xs i d ∷ drop (i + 1) xs
cut-at xs i d h = grind (arith, common_steps)

pub drop-past : (xs : List Clause) (i : ℕ) → length xs ≤ i → drop i xs ≡ []
drop-past xs i h = grind (arith, common_steps)

-- one more clause is visited
pub one-more-clause : (es : List Entry) (xs : List Clause) (i : ℕ) (x : Clause) (v w : LeafCollector) (all : List Label) → i < length xs → x ≡ get_or xs i x → v.in_clause ≡ true → Collected es (clause_terms es x) v w
    → leaves kind_in_clause (labels es v.leaves.keys) (environment_trees es (drop i xs)) ≡ all → leaves kind_in_clause (labels es w.leaves.keys) (environment_trees es (drop (i + 1) xs)) ≡ all
one-more-clause es xs i x v w all lt is e k h =
    let cut : drop i xs ≡ x ∷ drop (i + 1) xs = cut-at xs i x lt ∙ ap (λ z. z ∷ drop (i + 1) xs) (sym is) in
    let new : labels es w.leaves.keys ≡ leaves kind_in_clause (labels es v.leaves.keys) (clause_terms es x) = k.listed ∙ ap (λ b. leaves (open_kinds b) (labels es v.leaves.keys) (clause_terms es x)) e in
    ap (λ z. leaves kind_in_clause z (environment_trees es (drop (i + 1) xs))) new ∙ sym (next-clause es x (drop (i + 1) xs) (labels es v.leaves.keys))
    ∙ ap (λ z. leaves kind_in_clause (labels es v.leaves.keys) (environment_trees es z)) (sym cut) ∙ h

-- if the clauses from the next one on keep to leaves then those from this one on do
pub one-more-only : (es : List Entry) (xs : List Clause) (i : ℕ) (x : Clause) (v w : LeafCollector) → i < length xs → x ≡ get_or xs i x → v.in_clause ≡ true → Collected es (clause_terms es x) v w
    → OpenAreLeaves kind_in_clause (environment_trees es (drop (i + 1) xs)) → OpenAreLeaves kind_in_clause (environment_trees es (drop i xs))
one-more-only es xs i x v w lt is e k h =
    let cut : drop i xs ≡ x ∷ drop (i + 1) xs = cut-at xs i x lt ∙ ap (λ z. z ∷ drop (i + 1) xs) (sym is) in
    subst (λ z. OpenAreLeaves kind_in_clause (environment_trees es z)) (sym cut) (only-clause es x (drop (i + 1) xs) (only-at v.in_clause true (clause_terms es x) e k.only) h)

-- ---- each leaf is open
open-append : (xs ys : List Label) → AreOpen xs → AreOpen ys → AreOpen (xs ++ ys)
open-append [] ys h g = g
open-append (x ∷ xs) ys h g = (h.0, open-append xs ys h.1 g)

open-with : (l : Label) (seen : List Label) → IsSome (kind_of_leaf l) → AreOpen seen → AreOpen (with_label l seen)
open-with l seen d h = by _
  where
    by : (b : Bool) → AreOpen (if b then seen else seen ++ l ∷ [])
    by true = h
    by false = open-append seen (l ∷ []) h (d, tt)

module _ (kind : OpenKinds) (known : (l : Label) → IsSome (kind l) → IsSome (kind_of_leaf l)) where
  open-root : (l : Label) (seen : List Label) → AreOpen seen → AreOpen (if is_some (kind l) then with_label l seen else seen)
  open-root l seen h = by (is_some (kind l)) refl
    where
      by : (b : Bool) → is_some (kind l) ≡ b → AreOpen (if b then with_label l seen else seen)
      by true e = open-with l seen (known l e) h
      by false e = h

  open-leaves : (seen : List Label) (t : Trees) → AreOpen seen → AreOpen (leaves kind seen t)
  open-leaves seen none h = h
  open-leaves seen (tree l c o) h =
      open-leaves (leaves kind (if is_some (kind l) then with_label l seen else seen) c) o
      (open-leaves (if is_some (kind l) then with_label l seen else seen) c (open-root l seen h))

pub goal-open : (environment predicate : Trees) → AreOpen (leaves kind_of_leaf (leaves kind_in_clause [] environment) predicate)
goal-open e p = open-leaves kind_of_leaf (λ l h. h) (leaves kind_in_clause [] e) p (open-leaves kind_in_clause clause-known [] e tt)
