-- The goals that where-clauses are, once headers are equal: from solutions to common instances and back.
use Rattle.std.proofs.Common.{◌≡◌, ℕ, zero, suc, ◌+◌, ◌≤◌, ◌<◌, arith, ltb, Bool, true, false, not, if◌then◌else◌, List, [], ◌∷◌, ◌++◌, refl, sym, ap, ◌∙◌, subst, Option, Some, ◌==◌, ◌||◌, IsTrue, ◌⊎◌, inl, inr, unwrap_or}
use Rattle.std.specs.List.{slice_get}
use Rattle.std.proofs.lemmas.Bool.Decides.{nat_tests}
use Rattle.type_terms.specs.Promised.Label.{Sort, of_type, of_const, of_lifetime, infer, param, placeholder, canonical, bound}
use Rattle.type_terms.specs.Promised.Trees.{Trees, none, tree, leaf, IsA, Fits, erase, some_node, nth}
use Rattle.type_terms.specs.Trees.{is_a}
use Rattle.type_terms.specs.Erased.{mentions}
use Rattle.type_terms.specs.Promised.Proofs.{Every}
use Rattle.type_terms.specs.Promised.Answers.{is_open, is_closed}
use Rattle.type_terms.proofs.Fitting.{next-shut, head-shut}
use Rattle.type_terms.proofs.Walking.{or-left, or-right, or-cases}
use Rattle.type_terms.proofs.Members.{same-number, self-number}
use Rattle.infer_table.specs.Solutions.{Assignment, instance, tree_of, IsSorted, HasValues, occurs, is_same_variable as is_unknown}
use Rattle.infer_table.specs.Content.{Table, variables_of, IsProper}
use Rattle.infer_table.proofs.SolutionLaws.{is_variable-self}
use Rattle.term_folds.specs.Arguments.{sort_at}
use Rattle.type_terms.specs.Promised.Questions.{FitKinds, of_kind, filled}
use Rattle.overlap_check.specs.Fresh.{with_unknown, HasArguments as Speaks}
use Rattle.overlap_check.specs.Goals.{repeated, unknown_kinds}
use Rattle.overlap_check.proofs.Standing.{default_node, root, own, rest_of, assigned}
use Rattle.overlap_check.proofs.Instances.{node, IsShut, nth-shut, no-type, no-const}
use Rattle.type_terms.proofs.TermBasics.{joined}
use Rattle.type_terms.proofs.Matching.{or-false-left as no-first, or-false-right as no-second}
use Rattle.type_terms.proofs.Made.{false-true as no-true}
use Rattle.type_terms.proofs.BooleanBasics.{true-apart}

-- ---- the values of all unknowns
abbrev pub run : Assignment → Sort → ℕ → ℕ → List Trees
run S k i zero = []
run S k i (suc n) = tree_of (S k i) ∷ run S k (suc i) n

abbrev pub all_values : Assignment → Table → List Trees
all_values S t = run S of_type 0 t.ty_vars ++ run S of_const 0 t.const_vars

run-fits : (S : Assignment) (k : Sort) → HasValues k → IsSorted S → (i n : ℕ) (js : List Sort) (ts : List Trees) → FitKinds js ts → FitKinds (repeated k n ++ js) (run S k i n ++ ts)
run-fits S k h so i zero js ts f = f
run-fits S of_type h so i (suc n) js ts f = ((so of_type i, refl), run-fits S of_type h so (suc i) n js ts f)
run-fits S of_const h so i (suc n) js ts f = ((so of_const i, refl), run-fits S of_const h so (suc i) n js ts f)
run-fits S of_lifetime h so i (suc n) js ts f = absurd h

run-alone : (S : Assignment) → IsSorted S → (i n : ℕ) → FitKinds (repeated of_const n) (run S of_const i n)
run-alone S so i zero = tt
run-alone S so i (suc n) = ((so of_const i, refl), run-alone S so (suc i) n)

pub values-fit : (S : Assignment) → IsSorted S → (t : Table) → FitKinds (unknown_kinds t) (all_values S t)
values-fit S so t = run-fits S of_type tt so 0 t.ty_vars _ _ (run-alone S so 0 t.const_vars)

abbrev Closed : Trees → Type 0
Closed t = IsTrue (is_closed t)

run-closed : (S : Assignment) → IsShut S → (k : Sort) (i n : ℕ) (ts : List Trees) → Every Closed ts → Every Closed (run S k i n ++ ts)
run-closed S h k i zero ts e = e
run-closed S h k i (suc n) ts e = (ap not (h k i), run-closed S h k (suc i) n ts e)

run-closed-alone : (S : Assignment) → IsShut S → (k : Sort) (i n : ℕ) → Every Closed (run S k i n)
run-closed-alone S h k i zero = tt
run-closed-alone S h k i (suc n) = (ap not (h k i), run-closed-alone S h k (suc i) n)

pub values-closed : (S : Assignment) → IsShut S → (t : Table) → Every Closed (all_values S t)
values-closed S h t = run-closed S h of_type 0 t.ty_vars _ (run-closed-alone S h of_const 0 t.const_vars)

-- those of one kind
get-type : (S : Assignment) (i n : ℕ) (js : List Sort) (ts : List Trees) (v : ℕ) → v < n → slice_get (of_kind of_type (repeated of_type n ++ js) (run S of_type i n ++ ts)) v ≡ Some (tree_of (S of_type (i + v)))
get-type S i zero js ts v h = absurd (omega (arith, h))
get-type S i (suc n) js ts zero h = ap (λ m. Some (tree_of (S of_type m))) (plus-zero i)
  where
    plus-zero : (i : ℕ) → i ≡ i + zero
    plus-zero i = omega arith
get-type S i (suc n) js ts (suc v) h = get-type S (suc i) n js ts v (omega (arith, h)) ∙ ap (λ m. Some (tree_of (S of_type m))) (plus-next i v)
  where
    plus-next : (i v : ℕ) → suc i + v ≡ i + suc v
    plus-next i v = omega arith

get-const : (S : Assignment) (i n : ℕ) (v : ℕ) → v < n → slice_get (of_kind of_const (repeated of_const n) (run S of_const i n)) v ≡ Some (tree_of (S of_const (i + v)))
get-const S i zero v h = absurd (omega (arith, h))
get-const S i (suc n) zero h = ap (λ m. Some (tree_of (S of_const m))) (plus-zero i)
  where
    plus-zero : (i : ℕ) → i ≡ i + zero
    plus-zero i = omega arith
get-const S i (suc n) (suc v) h = get-const S (suc i) n v (omega (arith, h)) ∙ ap (λ m. Some (tree_of (S of_const m))) (plus-next i v)
  where
    plus-next : (i v : ℕ) → suc i + v ≡ i + suc v
    plus-next i v = omega arith

skip-types : (S : Assignment) (i n : ℕ) (js : List Sort) (ts : List Trees) → of_kind of_const (repeated of_type n ++ js) (run S of_type i n ++ ts) ≡ of_kind of_const js ts
skip-types S i zero js ts = refl
skip-types S i (suc n) js ts = skip-types S (suc i) n js ts

module _ (S : Assignment) (t : Table) where
  abbrev ks : List Sort
  ks = unknown_kinds t

  abbrev vs : List Trees
  vs = all_values S t

  type-value : (w : ℕ) → w < t.ty_vars → slice_get (of_kind of_type ks vs) w ≡ Some (tree_of (S of_type w))
  type-value w h = get-type S 0 t.ty_vars _ _ w h ∙ ap (λ m. Some (tree_of (S of_type m))) (zero-plus w)
    where
      zero-plus : (w : ℕ) → 0 + w ≡ w
      zero-plus w = omega arith

  const-value : (w : ℕ) → w < t.const_vars → slice_get (of_kind of_const ks vs) w ≡ Some (tree_of (S of_const w))
  const-value w h =
      ap (λ xs. slice_get xs w) (skip-types S 0 t.ty_vars (repeated of_const t.const_vars) (run S of_const 0 t.const_vars))
      ∙ get-const S 0 t.const_vars w h ∙ ap (λ m. Some (tree_of (S of_const m))) (zero-plus w)
    where
      zero-plus : (w : ℕ) → 0 + w ≡ w
      zero-plus w = omega arith

  abbrev pub Known : Trees → Type 0
  Known x = (k : Sort) (v : ℕ) → HasValues k → variables_of t k ≤ v → occurs k v x ≡ false

  not-past : (w n : ℕ) → (n ≤ w → ⊥) → w < n
  not-past w n h = by (ltb w n) refl
    where
      by : (b : Bool) → ltb w n ≡ b → w < n
      by true e = grind (arith, nat_tests)
      by false e = absurd (h (grind (arith, nat_tests)))

  at-most : (k : Sort) (w : ℕ) (o : Trees) → HasValues k → ((j : Sort) (v : ℕ) → HasValues j → variables_of t j ≤ v → is_unknown k w j v || occurs j v o ≡ false) → w < variables_of t k
  at-most k w o h f = not-past w (variables_of t k) (λ le. true-apart (is_unknown k w k w) (is_variable-self k w) (no-first (is_unknown k w k w) (occurs k w o) (f k w h le)))

  -- with the values put in, a term without lifetimes is its instance
  pub filled-is : (x : Trees) → IsProper x → Known x → filled ks vs (erase x) ≡ instance S x
  filled-is none p h = refl
  filled-is (tree (infer of_type w) c o) p h =
      joined (ap (λ z. unwrap_or z (leaf (infer of_type w))) (type-value w (at-most of_type w o tt h))) (filled-is o p.1 (λ k v g le. no-second (is_unknown of_type w k v) (occurs k v o) (h k v g le)))
  filled-is (tree (infer of_const w) c o) p h =
      joined (ap (λ z. unwrap_or z (leaf (infer of_const w))) (const-value w (at-most of_const w o tt h))) (filled-is o p.1 (λ k v g le. no-second (is_unknown of_const w k v) (occurs k v o) (h k v g le)))
  filled-is (tree (infer of_lifetime w) c o) p h =
      node refl (ap (λ z. filled ks vs (erase z)) p.0 ∙ sym (ap (instance S) p.0)) (filled-is o p.1 (λ k v g le. no-second (is_unknown of_lifetime w k v) (occurs k v o) (h k v g le)))
  filled-is (tree (param of_type i) c o) p h = node refl (filled-is c p.0 (λ k v g le. no-first (occurs k v c) (occurs k v o) (h k v g le))) (filled-is o p.1 (λ k v g le. no-second (occurs k v c) (occurs k v o) (h k v g le)))
  filled-is (tree (param of_const i) c o) p h = node refl (filled-is c p.0 (λ k v g le. no-first (occurs k v c) (occurs k v o) (h k v g le))) (filled-is o p.1 (λ k v g le. no-second (occurs k v c) (occurs k v o) (h k v g le)))
  filled-is (tree (param of_lifetime i) c o) p h = node refl (filled-is c p.0 (λ k v g le. no-first (occurs k v c) (occurs k v o) (h k v g le))) (filled-is o p.1 (λ k v g le. no-second (occurs k v c) (occurs k v o) (h k v g le)))
  filled-is (tree (placeholder of_type i) c o) p h = node refl (filled-is c p.0 (λ k v g le. no-first (occurs k v c) (occurs k v o) (h k v g le))) (filled-is o p.1 (λ k v g le. no-second (occurs k v c) (occurs k v o) (h k v g le)))
  filled-is (tree (placeholder of_const i) c o) p h = node refl (filled-is c p.0 (λ k v g le. no-first (occurs k v c) (occurs k v o) (h k v g le))) (filled-is o p.1 (λ k v g le. no-second (occurs k v c) (occurs k v o) (h k v g le)))
  filled-is (tree (placeholder of_lifetime i) c o) p h = node refl (filled-is c p.0 (λ k v g le. no-first (occurs k v c) (occurs k v o) (h k v g le))) (filled-is o p.1 (λ k v g le. no-second (occurs k v c) (occurs k v o) (h k v g le)))
  filled-is (tree (canonical of_type i) c o) p h = node refl (filled-is c p.0 (λ k v g le. no-first (occurs k v c) (occurs k v o) (h k v g le))) (filled-is o p.1 (λ k v g le. no-second (occurs k v c) (occurs k v o) (h k v g le)))
  filled-is (tree (canonical of_const i) c o) p h = node refl (filled-is c p.0 (λ k v g le. no-first (occurs k v c) (occurs k v o) (h k v g le))) (filled-is o p.1 (λ k v g le. no-second (occurs k v c) (occurs k v o) (h k v g le)))
  filled-is (tree (canonical of_lifetime i) c o) p h = node refl (filled-is c p.0 (λ k v g le. no-first (occurs k v c) (occurs k v o) (h k v g le))) (filled-is o p.1 (λ k v g le. no-second (occurs k v c) (occurs k v o) (h k v g le)))
  filled-is (tree (bound of_type i j) c o) p h = node refl (filled-is c p.0 (λ k v g le. no-first (occurs k v c) (occurs k v o) (h k v g le))) (filled-is o p.1 (λ k v g le. no-second (occurs k v c) (occurs k v o) (h k v g le)))
  filled-is (tree (bound of_const i j) c o) p h = node refl (filled-is c p.0 (λ k v g le. no-first (occurs k v c) (occurs k v o) (h k v g le))) (filled-is o p.1 (λ k v g le. no-second (occurs k v c) (occurs k v o) (h k v g le)))
  filled-is (tree (bound of_lifetime i j) c o) p h = node refl (filled-is c p.0 (λ k v g le. no-first (occurs k v c) (occurs k v o) (h k v g le))) (filled-is o p.1 (λ k v g le. no-second (occurs k v c) (occurs k v o) (h k v g le)))
  filled-is (tree l c o) p h = node refl (filled-is c p.0 (λ k v g le. no-first (occurs k v c) (occurs k v o) (h k v g le))) (filled-is o p.1 (λ k v g le. no-second (occurs k v c) (occurs k v o) (h k v g le)))

-- ---- closed terms for unknowns
own-node-shut : (k : Sort) (t : Trees) → some_node is_open t ≡ false → some_node is_open (tree_of (own k t)) ≡ false
own-node-shut k t h = by (is_a k t) k t h
  where
    by : (b : Bool) (k : Sort) (t : Trees) → some_node is_open t ≡ false → some_node is_open (tree_of (if b then root t else default_node k)) ≡ false
    by true k none h = refl
    by true k (tree l c o) h = head-shut is_open l c o h
    by false of_type t h = refl
    by false of_const t h = refl
    by false of_lifetime t h = refl

rest-shut : (t : Trees) → some_node is_open t ≡ false → some_node is_open (rest_of t) ≡ false
rest-shut none h = refl
rest-shut (tree l c o) h = next-shut is_open l c o h

pub assigned-shut : (t : Table) (ks : List Sort) (A : Trees) (s : Assignment) → some_node is_open A ≡ false → IsShut s → IsShut (assigned t ks A s)
assigned-shut t [] A s h g = g
assigned-shut t (j ∷ ks) A s h g = λ k v. by k v (is_unknown j (variables_of t j) k v) (assigned-shut (with_unknown t j) ks (rest_of A) s (rest-shut A h) g k v)
  where
    by : (k : Sort) (v : ℕ) (b : Bool) → some_node is_open (tree_of (assigned (with_unknown t j) ks (rest_of A) s k v)) ≡ false
        → some_node is_open (tree_of (if b then own k (nth A zero) else assigned (with_unknown t j) ks (rest_of A) s k v)) ≡ false
    by k v true e = own-node-shut k (nth A zero) (nth-shut A zero h)
    by k v false e = e

-- ---- where-clauses fit what the header fits
some-same : (s r : Sort) (o : Option Sort) → o ≡ Some s → o ≡ Some r → s ≡ r
some-same s r o p q = cc

module _ (I A : Trees) where
  abbrev At : ℕ → Type 0
  At i = (s : Sort) → sort_at I i ≡ Some s → IsA s (nth A i)

  abbrev Stands : Trees → Type 0
  Stands h = (i : ℕ) → mentions i (erase h) ≡ true → At i

  value-at : (s : Sort) (j : ℕ) (o : Trees) → sort_at I j ≡ Some s → IsA s (nth A j) → Stands o → (i : ℕ) → (i == j) || mentions i (erase o) ≡ true → At i
  value-at s j o e a f i m = by (or-cases (i == j) (mentions i (erase o)) m)
    where
      by : (i == j ≡ true) ⊎ (mentions i (erase o) ≡ true) → At i
      by (inl p) = λ r q. let same : i ≡ j = same-number i j p in
          let at : sort_at I j ≡ Some r = subst (λ n. sort_at I n ≡ Some r) same q in
          subst (λ n. IsA r (nth A n)) (sym same) (subst (λ (x : Sort). IsA x (nth A j)) (some-same s r (sort_at I j) e at) a)
      by (inr p) = f i p

  both-at : (c o : Trees) → Stands c → Stands o → (i : ℕ) → mentions i (erase c) || mentions i (erase o) ≡ true → At i
  both-at c o f g i m = by (or-cases (mentions i (erase c)) (mentions i (erase o)) m)
    where
      by : (mentions i (erase c) ≡ true) ⊎ (mentions i (erase o) ≡ true) → At i
      by (inl p) = f i p
      by (inr p) = g i p

  stand : (h : Trees) → Speaks I h → Fits A (erase h) → Stands h
  stand none s f = λ i m. absurd (no-true m)
  stand (tree (param of_type j) c o) s f = value-at of_type j o s.0 f.0 (stand o s.2 f.2)
  stand (tree (param of_const j) c o) s f = value-at of_const j o s.0 f.0 (stand o s.2 f.2)
  stand (tree (param of_lifetime j) c o) s f = both-at c o (subst Stands (sym s.1) (λ i m. absurd (no-true m))) (stand o s.2 f.1)
  stand (tree (infer of_type v) c o) s f = absurd (no-type s.0)
  stand (tree (infer of_const v) c o) s f = absurd (no-const s.0)
  stand (tree (infer of_lifetime v) c o) s f = both-at c o (subst Stands (sym s.1) (λ i m. absurd (no-true m))) (stand o s.2 f.1)
  stand (tree (placeholder of_type v) c o) s f = both-at c o (stand c s.1 f.0) (stand o s.2 f.1)
  stand (tree (placeholder of_const v) c o) s f = both-at c o (stand c s.1 f.0) (stand o s.2 f.1)
  stand (tree (placeholder of_lifetime v) c o) s f = both-at c o (stand c s.1 f.0) (stand o s.2 f.1)
  stand (tree (canonical of_type v) c o) s f = both-at c o (stand c s.1 f.0) (stand o s.2 f.1)
  stand (tree (canonical of_const v) c o) s f = both-at c o (stand c s.1 f.0) (stand o s.2 f.1)
  stand (tree (canonical of_lifetime v) c o) s f = both-at c o (stand c s.1 f.0) (stand o s.2 f.1)
  stand (tree (bound of_type k v) c o) s f = both-at c o (stand c s.1 f.0) (stand o s.2 f.1)
  stand (tree (bound of_const k v) c o) s f = both-at c o (stand c s.1 f.0) (stand o s.2 f.1)
  stand (tree (bound of_lifetime k v) c o) s f = both-at c o (stand c s.1 f.0) (stand o s.2 f.1)
  stand (tree l c o) s f = both-at c o (stand c s.1 f.0) (stand o s.2 f.1)

  pub stood-fits : (t : Trees) → Speaks I t → ((i : ℕ) → mentions i (erase t) ≡ true → At i) → Fits A (erase t)
  stood-fits none s f = tt
  stood-fits (tree (param of_type j) c o) s f = (f j (or-left (j == j) (mentions j (erase o)) (self-number j)) of_type s.0, ap erase s.1, stood-fits o s.2 (λ i m. f i (or-right (i == j) (mentions i (erase o)) m)))
  stood-fits (tree (param of_const j) c o) s f = (f j (or-left (j == j) (mentions j (erase o)) (self-number j)) of_const s.0, ap erase s.1, stood-fits o s.2 (λ i m. f i (or-right (i == j) (mentions i (erase o)) m)))
  stood-fits (tree (param of_lifetime j) c o) s f = (subst (λ x. Fits A (erase x)) (sym s.1) tt, stood-fits o s.2 (λ i m. f i (or-right (mentions i (erase c)) (mentions i (erase o)) m)))
  stood-fits (tree (infer of_type v) c o) s f = absurd (no-type s.0)
  stood-fits (tree (infer of_const v) c o) s f = absurd (no-const s.0)
  stood-fits (tree (infer of_lifetime v) c o) s f = (subst (λ x. Fits A (erase x)) (sym s.1) tt, stood-fits o s.2 (λ i m. f i (or-right (mentions i (erase c)) (mentions i (erase o)) m)))
  stood-fits (tree (placeholder of_type v) c o) s f = (stood-fits c s.1 (λ i m. f i (or-left (mentions i (erase c)) (mentions i (erase o)) m)), stood-fits o s.2 (λ i m. f i (or-right (mentions i (erase c)) (mentions i (erase o)) m)))
  stood-fits (tree (placeholder of_const v) c o) s f = (stood-fits c s.1 (λ i m. f i (or-left (mentions i (erase c)) (mentions i (erase o)) m)), stood-fits o s.2 (λ i m. f i (or-right (mentions i (erase c)) (mentions i (erase o)) m)))
  stood-fits (tree (placeholder of_lifetime v) c o) s f = (stood-fits c s.1 (λ i m. f i (or-left (mentions i (erase c)) (mentions i (erase o)) m)), stood-fits o s.2 (λ i m. f i (or-right (mentions i (erase c)) (mentions i (erase o)) m)))
  stood-fits (tree (canonical of_type v) c o) s f = (stood-fits c s.1 (λ i m. f i (or-left (mentions i (erase c)) (mentions i (erase o)) m)), stood-fits o s.2 (λ i m. f i (or-right (mentions i (erase c)) (mentions i (erase o)) m)))
  stood-fits (tree (canonical of_const v) c o) s f = (stood-fits c s.1 (λ i m. f i (or-left (mentions i (erase c)) (mentions i (erase o)) m)), stood-fits o s.2 (λ i m. f i (or-right (mentions i (erase c)) (mentions i (erase o)) m)))
  stood-fits (tree (canonical of_lifetime v) c o) s f = (stood-fits c s.1 (λ i m. f i (or-left (mentions i (erase c)) (mentions i (erase o)) m)), stood-fits o s.2 (λ i m. f i (or-right (mentions i (erase c)) (mentions i (erase o)) m)))
  stood-fits (tree (bound of_type k v) c o) s f = (stood-fits c s.1 (λ i m. f i (or-left (mentions i (erase c)) (mentions i (erase o)) m)), stood-fits o s.2 (λ i m. f i (or-right (mentions i (erase c)) (mentions i (erase o)) m)))
  stood-fits (tree (bound of_const k v) c o) s f = (stood-fits c s.1 (λ i m. f i (or-left (mentions i (erase c)) (mentions i (erase o)) m)), stood-fits o s.2 (λ i m. f i (or-right (mentions i (erase c)) (mentions i (erase o)) m)))
  stood-fits (tree (bound of_lifetime k v) c o) s f = (stood-fits c s.1 (λ i m. f i (or-left (mentions i (erase c)) (mentions i (erase o)) m)), stood-fits o s.2 (λ i m. f i (or-right (mentions i (erase c)) (mentions i (erase o)) m)))
  stood-fits (tree l c o) s f = (stood-fits c s.1 (λ i m. f i (or-left (mentions i (erase c)) (mentions i (erase o)) m)), stood-fits o s.2 (λ i m. f i (or-right (mentions i (erase c)) (mentions i (erase o)) m)))

  pub clause-fits : (h t : Trees) → Speaks I h → Speaks I t → Fits A (erase h) → ((i : ℕ) → mentions i (erase t) ≡ true → mentions i (erase h) ≡ true) → Fits A (erase t)
  clause-fits h t s r f m = stood-fits t r (λ i e. stand h s f i (m i e))
