-- The canonical forms of nested goals that a goal without inference variables determines: they have no inference variables, and
-- their placeholders have different values.
use Rattle.std.proofs.Common.{◌≡◌, ℕ, zero, suc, Bool, true, false, ◌||◌, List, [], ◌∷◌, ◌++◌, map, refl, sym, ◌∙◌, ap, subst, Some, None, if◌then◌else◌, is_some, inl, inr}
use Rattle.type_terms.specs.Promised.Label.{Label, Sort, of_type, of_const, of_lifetime, infer, param, placeholder, static}
use Rattle.type_terms.specs.Promised.Trees.{Trees, none, tree, leaf, ◌+++◌, is_sort}
use Rattle.type_terms.specs.Codes.{same_label}
use Rattle.type_terms.proofs.Matching.{same-label-sound}
use Rattle.infer_table.specs.Canonical.{OpenKinds, StandsInGoal, kind_of_leaf, kind_in_clause, is_label_among, with_label, leaves, goal_leaves}
use Rattle.infer_table.specs.Solutions.{resolved}
use Rattle.infer_table.specs.declared.canonical.CanonicalVarKind.{CanonicalVarKind}
use Rattle.infer_table.specs.declared.canonical.CanonicalVarKind.TheVariants.{Ty, PlaceholderTy, Const, PlaceholderConst, Region}
use Rattle.infer_table.proofs.CanonicalLaws.{same_label-self}
use Rattle.type_terms.specs.Made.{terms, is_made}
use Rattle.goal_evaluator.specs.Lists.{Every}
use Rattle.goal_evaluator.specs.Instances.{put_in, is_place, as_place, first_term, other_terms, term_at}
use Rattle.goal_evaluator.specs.Content.{ChosenTerms, fits, reading_of}
use Rattle.goal_evaluator.specs.FrameTables.{FrameTable, IsMadeFrame, Allows, Nested, good_in, goal_in, question, values_at, slot_at, kind_at, is_placeholder_of}
use Rattle.goal_evaluator.specs.Finite.{IsDetermined}
use Rattle.type_terms.proofs.Made.{false-true, left}
use Rattle.type_terms.proofs.TreeLaws.{append-none}
use Rattle.goal_evaluator.proofs.Questions.{is-place}
use Rattle.goal_evaluator.proofs.Nodes.{AreNodes, nodes-put, nodes-resolved, IsOpenNode, open-node, every-leaf}
use Rattle.goal_evaluator.proofs.Applying.{goal-leaves}
use Rattle.solver_completeness.specs.ClosedTables.{Kinds, IsClosedKind, AreClosed, kind_in, FitPlaces, TellPlaces, ArePlaces}
use Rattle.solver_completeness.proofs.FreeTables.{no-unknown}
use Rattle.type_terms.proofs.BooleanBasics.{or-right, both-true}
use Rattle.goal_evaluator.proofs.FirstAnswers.{among-has, or-false}
use Rattle.goal_evaluator.proofs.Determined.{open-in-clause}

module _ (t : FrameTable) (m : IsMadeFrame t) (closed : AreClosed (map Some t.kinds)) (n : Nested) (determined : IsDetermined t n) where
  nodes : (x : Trees) → AreNodes (resolved t.content.bindings (put_in (slot_at t.labels) x))
  nodes x = nodes-resolved t.kinds t.content.ty_vars t.content.const_vars t.content.bindings m.table.values (put_in (slot_at t.labels) x) (nodes-put t.kinds t.content.ty_vars t.content.const_vars t.labels m.leaves x)

  leaf-node : (l : Label) → StandsInGoal (goal_in t n) l → IsOpenNode kind_of_leaf l
  leaf-node l (inl i) = open-in-clause l (open-node kind_in_clause (goal_in t n).environment (nodes n.goal.environment) l i)
  leaf-node l (inr i) = open-node kind_of_leaf (goal_in t n).predicate (nodes n.goal.predicate) l i

  leaf-closed : (l : Label) → StandsInGoal (goal_in t n) l → IsClosedKind (kind_of_leaf l)
  leaf-closed l i = by l (leaf-node l i) i
    where
      by : (l : Label) → IsOpenNode kind_of_leaf l → StandsInGoal (goal_in t n) l → IsClosedKind (kind_of_leaf l)
      by (infer of_type v) x i = no-unknown t m closed n determined of_type tt v i
      by (infer of_const v) x i = no-unknown t m closed n determined of_const tt v i
      by (infer of_lifetime v) x i = tt
      by (param of_type v) x i = tt
      by (param of_const v) x i = tt
      by (param of_lifetime v) x i = tt
      by (placeholder of_type v) x i = tt
      by (placeholder of_const v) x i = tt
      by (placeholder of_lifetime v) x i = tt
      by static x i = tt
      by l x i = absurd (false-true x.is_open)

  every-kind : (ls : List Label) → Every (λ l. IsClosedKind (kind_of_leaf l)) ls → AreClosed (map kind_of_leaf ls)
  every-kind [] h = tt
  every-kind (l ∷ ls) h = (h.0, every-kind ls h.1)

  pub question-closed : AreClosed (question t n).form.kinds
  question-closed =
      every-kind (goal_leaves (goal_in t n))
      (every-leaf kind_of_leaf (λ l. IsClosedKind (kind_of_leaf l)) (leaves kind_in_clause [] (goal_in t n).environment) (goal_in t n).predicate
      (every-leaf kind_in_clause (λ l. IsClosedKind (kind_of_leaf l)) [] (goal_in t n).environment tt (λ l i. leaf-closed l (inl i)))
      (λ l i. leaf-closed l (inr i)))

-- ---- leaves stand once
abbrev pub AreOnce : List Label → Type 0
AreOnce [] = Unit {0}
AreOnce (l ∷ ls) = (is_label_among l ls ≡ false) × AreOnce ls

or-both : (a b : Bool) → a ≡ false → b ≡ false → (a || b) ≡ false
or-both a b e f = ap (λ x. x || b) e ∙ f

-- labels that are not the same in one order are not in the other
not-same : (l m : Label) → same_label l m ≡ false → same_label m l ≡ false
not-same l m h = by (same_label m l) refl
  where
    by : (b : Bool) → same_label m l ≡ b → b ≡ false
    by true e = absurd (false-true (sym h ∙ subst (λ z. same_label l z ≡ true) (sym (same-label-sound m l e)) (same_label-self l)))
    by false e = refl

among-end : (l m : Label) (ls : List Label) → is_label_among l ls ≡ false → same_label m l ≡ false → is_label_among l (ls ++ m ∷ []) ≡ false
among-end l m [] h e = or-both (same_label m l) false e refl
among-end l m (x ∷ ls) h e = let y = or-false (same_label x l) (is_label_among l ls) h in or-both (same_label x l) (is_label_among l (ls ++ m ∷ [])) y.0 (among-end l m ls y.1 e)

once-end : (ls : List Label) (m : Label) → AreOnce ls → is_label_among m ls ≡ false → AreOnce (ls ++ m ∷ [])
once-end [] m h e = (refl, tt)
once-end (l ∷ ls) m h e =
    let x = or-false (same_label l m) (is_label_among m ls) e in
    (among-end l m ls h.0 (not-same l m x.0), once-end ls m h.1 x.1)

once-label : (b : Bool) (l : Label) (ls : List Label) → AreOnce ls → AreOnce (if b then with_label l ls else ls)
once-label false l ls h = h
once-label true l ls h = by (is_label_among l ls) refl
  where
    by : (b : Bool) → is_label_among l ls ≡ b → AreOnce (if b then ls else ls ++ l ∷ [])
    by true e = h
    by false e = once-end ls l h e

pub once-leaves : (kind : OpenKinds) (seen : List Label) (t : Trees) → AreOnce seen → AreOnce (leaves kind seen t)
once-leaves kind seen none h = h
once-leaves kind seen (tree l c o) h =
    let a = if is_some (kind l) then with_label l seen else seen in
    once-leaves kind (leaves kind a c) o (once-leaves kind a c (once-label (is_some (kind l)) l seen h))

-- ---- which leaf stands at a place
abbrev pub IsAt : Label → List Label → ℕ → Type 0
IsAt l [] i = ⊥
IsAt l (m ∷ ls) zero = m ≡ l
IsAt l (m ∷ ls) (suc i) = IsAt l ls i

pub record StandsAt (l : Label) (ls : List Label) (i : ℕ) : Type 0 where
  pub kind : kind_in (map kind_of_leaf ls) i ≡ kind_of_leaf l
  pub term : (s : ChosenTerms) → term_at (map (reading_of s) ls) i ≡ reading_of s l
  pub among : is_label_among l ls ≡ true
  pub at : IsAt l ls i

-- a placeholder stands at each place of that kind
abbrev HasPlaceholder : Sort → List Label → ℕ → Type 0
HasPlaceholder k ls i = (a : ℕ) × StandsAt (placeholder k a) ls i

among-first : (l : Label) (ls : List Label) → is_label_among l (l ∷ ls) ≡ true
among-first l ls = ap (λ b. b || is_label_among l ls) (same_label-self l)

here : (l : Label) (ls : List Label) → StandsAt l (l ∷ ls) zero
here l ls = record { kind = refl; term = λ s. refl; among = among-first l ls; at = refl }

there : (l m : Label) (ls : List Label) (i : ℕ) → StandsAt l ls i → StandsAt l (m ∷ ls) (suc i)
there l m ls i h = record { kind = h.kind; term = λ s. h.term s; among = or-right (same_label m l) (is_label_among l ls) h.among; at = h.at }

pub placeholder-at : (good : Label → Bool) → ((k : Sort) (i : ℕ) → is_sort k of_lifetime ≡ false → good (param k i) ≡ true → ⊥) → (k : Sort) → is_sort k of_lifetime ≡ false → (ls : List Label)
    → Every (λ l. good l ≡ true) ls → (i : ℕ) → is_placeholder_of k (kind_in (map kind_of_leaf ls) i) ≡ true → HasPlaceholder k ls i
placeholder-at good n of_lifetime g ls h i e = absurd (false-true (sym g))
placeholder-at good n of_type g [] h i e = absurd (false-true e)
placeholder-at good n of_const g [] h i e = absurd (false-true e)
placeholder-at good n k g (m ∷ ls) h (suc i) e = let x = placeholder-at good n k g ls h.1 i e in (x.0, there (placeholder k x.0) m ls i x.1)
placeholder-at good n of_type g (m ∷ ls) h zero e = by m h.0 e
  where
    by : (m : Label) → good m ≡ true → is_placeholder_of of_type (kind_of_leaf m) ≡ true → HasPlaceholder of_type (m ∷ ls) zero
    by (placeholder of_type a) h e = (a, here (placeholder of_type a) ls)
    by (param of_type a) h e = absurd (n of_type a refl h)
    by (infer of_type a) h e = absurd (false-true e)
    by (infer of_const a) h e = absurd (false-true e)
    by (infer of_lifetime a) h e = absurd (false-true e)
    by (param of_const a) h e = absurd (false-true e)
    by (param of_lifetime a) h e = absurd (false-true e)
    by (placeholder of_const a) h e = absurd (false-true e)
    by (placeholder of_lifetime a) h e = absurd (false-true e)
    by static h e = absurd (false-true e)
    by l h e = absurd (false-true e)
placeholder-at good n of_const g (m ∷ ls) h zero e = by m h.0 e
  where
    by : (m : Label) → good m ≡ true → is_placeholder_of of_const (kind_of_leaf m) ≡ true → HasPlaceholder of_const (m ∷ ls) zero
    by (placeholder of_const a) h e = (a, here (placeholder of_const a) ls)
    by (param of_const a) h e = absurd (n of_const a refl h)
    by (infer of_type a) h e = absurd (false-true e)
    by (infer of_const a) h e = absurd (false-true e)
    by (infer of_lifetime a) h e = absurd (false-true e)
    by (param of_type a) h e = absurd (false-true e)
    by (param of_lifetime a) h e = absurd (false-true e)
    by (placeholder of_type a) h e = absurd (false-true e)
    by (placeholder of_lifetime a) h e = absurd (false-true e)
    by static h e = absurd (false-true e)
    by l h e = absurd (false-true e)

-- a leaf stands at one place
at-among : (l : Label) (ls : List Label) (i : ℕ) → IsAt l ls i → is_label_among l ls ≡ true
at-among l [] i h = absurd h
at-among l (m ∷ ls) zero h = subst (λ z. is_label_among z (m ∷ ls) ≡ true) h (among-first m ls)
at-among l (m ∷ ls) (suc i) h = or-right (same_label m l) (is_label_among l ls) (at-among l ls i h)

pub one-place : (l : Label) (ls : List Label) (i j : ℕ) → AreOnce ls → IsAt l ls i → IsAt l ls j → i ≡ j
one-place l [] i j o h g = absurd h
one-place l (m ∷ ls) zero zero o h g = refl
one-place l (m ∷ ls) zero (suc j) o h g = absurd (false-true (sym (subst (λ z. is_label_among z ls ≡ false) h o.0) ∙ at-among l ls j g))
one-place l (m ∷ ls) (suc i) zero o h g = absurd (false-true (sym (subst (λ z. is_label_among z ls ≡ false) g o.0) ∙ at-among l ls i h))
one-place l (m ∷ ls) (suc i) (suc j) o h g = ap suc (one-place l ls i j o.1 h g)

-- ---- places of terms
same-place : (k : Sort) (t : Trees) → as_place k (as_place k t +++ none) ≡ as_place k t
same-place k t = ap (as_place k) (append-none (as_place k t)) ∙ ap (λ b. if b then as_place k t else leaf (placeholder k 0)) (is-place k t)

fit-leaves : (s : ChosenTerms) (ls : List Label) → FitPlaces (map kind_of_leaf ls) (map (reading_of s) ls)
fit-leaves s [] = tt
fit-leaves s (infer of_type v ∷ ls) = fit-leaves s ls
fit-leaves s (infer of_const v ∷ ls) = fit-leaves s ls
fit-leaves s (infer of_lifetime v ∷ ls) = fit-leaves s ls
fit-leaves s (param of_type v ∷ ls) = (refl, fit-leaves s ls)
fit-leaves s (param of_const v ∷ ls) = (refl, fit-leaves s ls)
fit-leaves s (param of_lifetime v ∷ ls) = fit-leaves s ls
fit-leaves s (placeholder of_type v ∷ ls) = (ap (is_place of_type) (append-none (as_place of_type (term_at s.own.terms v))) ∙ is-place of_type (term_at s.own.terms v), fit-leaves s ls)
fit-leaves s (placeholder of_const v ∷ ls) = (ap (is_place of_const) (append-none (as_place of_const (term_at s.own.terms v))) ∙ is-place of_const (term_at s.own.terms v), fit-leaves s ls)
fit-leaves s (placeholder of_lifetime v ∷ ls) = fit-leaves s ls
fit-leaves s (static ∷ ls) = fit-leaves s ls
fit-leaves s (l ∷ ls) = fit-leaves s ls

pub places-fit : (ks : Kinds) (ts : List Trees) → AreClosed ks → FitPlaces ks ts → fits ks ts ≡ true
places-fit [] ts c f = refl
places-fit (None ∷ ks) ts c f = absurd c.0
places-fit (Some Ty ∷ ks) ts c f = absurd c.0
places-fit (Some Const ∷ ks) ts c f = absurd c.0
places-fit (Some PlaceholderTy ∷ ks) ts c f = both-true (is_place of_type (first_term ts)) (fits ks (other_terms ts)) f.0 (places-fit ks (other_terms ts) c.1 f.1)
places-fit (Some PlaceholderConst ∷ ks) ts c f = both-true (is_place of_const (first_term ts)) (fits ks (other_terms ts)) f.0 (places-fit ks (other_terms ts) c.1 f.1)
places-fit (Some Region ∷ ks) ts c f = places-fit ks (other_terms ts) c.1 f

pub kind-same : (ks : List CanonicalVarKind) (i : ℕ) → kind_in (map Some ks) i ≡ kind_at ks i
kind-same [] i = refl
kind-same (k ∷ ks) zero = refl
kind-same (k ∷ ks) (suc i) = kind-same ks i

-- ---- the question's placeholders stand for different places
module _ (t : FrameTable) (closed : AreClosed (map Some t.kinds)) (n : Nested) (s : ChosenTerms) (a : Allows t s) (p : ArePlaces (map Some t.kinds) s.own) where
  abbrev ls : List Label
  ls = goal_leaves (goal_in t n)

  abbrev is_theirs : Label → Bool
  is_theirs l = is_made (good_in t) terms (leaf l)

  no-param : (k : Sort) (i : ℕ) → is_sort k of_lifetime ≡ false → is_theirs (param k i) ≡ true → ⊥
  no-param of_type i g h = false-true h
  no-param of_const i g h = false-true h
  no-param of_lifetime i g h = false-true (sym g)

  place-good : (k : Sort) (i : ℕ) → is_sort k of_lifetime ≡ false → is_theirs (placeholder k i) ≡ true → is_placeholder_of k (kind_at t.kinds i) ≡ true
  place-good of_type i g h = left (is_placeholder_of of_type (kind_at t.kinds i)) true h
  place-good of_const i g h = left (is_placeholder_of of_const (kind_at t.kinds i)) true h
  place-good of_lifetime i g h = refl

  reading-place : (k : Sort) (i : ℕ) → is_sort k of_lifetime ≡ false → as_place k (reading_of s (placeholder k i)) ≡ as_place k (term_at s.own.terms i)
  reading-place of_type i g = same-place of_type (term_at s.own.terms i)
  reading-place of_const i g = same-place of_const (term_at s.own.terms i)
  reading-place of_lifetime i g = absurd (false-true (sym g))

  apart : TellPlaces (map kind_of_leaf ls) (map (reading_of s) ls)
  apart k i j e f same g =
      let x = placeholder-at is_theirs no-param k g ls (goal-leaves t a.made n) i e in
      let y = placeholder-at is_theirs no-param k g ls (goal-leaves t a.made n) j f in
      let good = λ (c : ℕ) (h : is_label_among (placeholder k c) ls ≡ true).
      ap (is_placeholder_of k) (kind-same t.kinds c) ∙ place-good k c g (among-has (λ l. is_theirs l ≡ true) (placeholder k c) ls (goal-leaves t a.made n) h) in
      let one : x.0 ≡ y.0 =
      p.apart k x.0 y.0 (good x.0 x.1.among) (good y.0 y.1.among)
      (sym (reading-place k x.0 g) ∙ ap (as_place k) (sym (x.1.term s)) ∙ same ∙ ap (as_place k) (y.1.term s) ∙ reading-place k y.0 g) g in
      one-place (placeholder k y.0) ls i j (once-leaves kind_of_leaf (leaves kind_in_clause [] (goal_in t n).environment) (goal_in t n).predicate (once-leaves kind_in_clause [] (goal_in t n).environment tt))
      (subst (λ c. IsAt (placeholder k c) ls i) one x.1.at) y.1.at

  pub question-apart : ArePlaces (question t n).form.kinds (values_at t n s)
  question-apart = record {
    proper = a.proper ∙ both-true s.own.proper (fits (map Some t.kinds) s.own.terms) p.proper (places-fit (map Some t.kinds) s.own.terms closed p.fit);
    fit = fit-leaves s ls;
    apart = apart;
  }
