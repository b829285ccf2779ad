-- If a table's own variables are free and determine a nested goal, the goal's variables have only values made of theirs.
use Rattle.std.proofs.Common.{◌≡◌, ℕ, zero, suc, Bool, true, false, ◌&&◌, ◌||◌, List, [], ◌∷◌, ◌++◌, map, refl, sym, ◌∙◌, ap, subst, Some, if◌then◌else◌, ◌⊎◌, inl, inr}
use Rattle.type_terms.specs.Promised.Label.{Label, Sort, of_type, of_const, of_lifetime, bool, char, value, infer, param, placeholder, canonical, bound, static}
use Rattle.type_terms.specs.Promised.Trees.{Trees, none, tree, leaf, sort_of}
use Rattle.type_terms.specs.Trees.{is_a}
use Rattle.infer_table.specs.Content.{IsProper}
use Rattle.infer_table.specs.Canonical.{StandsInGoal, kind_of_leaf, kind_in_clause, leaves, goal_leaves}
use Rattle.infer_table.specs.Solutions.{Assignment, Binding, tree_of, is_same_variable, resolved, occurs, HasValues, is_rigid}
use Rattle.infer_table.specs.declared.canonical.CanonicalVarKind.{CanonicalVarKind}
use Rattle.infer_table.specs.declared.canonical.CanonicalVarKind.TheVariants.{Ty, Const}
use Rattle.infer_table.proofs.SolutionLaws.{is_variable-equal, is_variable-self}
use Rattle.goal_evaluator.specs.Lists.{Every, IsAmong}
use Rattle.goal_evaluator.specs.Instances.{read_with, put_in, default_label, of_sort, is_place, as_place, first_term, other_terms, term_at}
use Rattle.goal_evaluator.specs.Content.{Values, Fact, ChosenTerms, given, fits, standing, reading_of}
use Rattle.goal_evaluator.specs.FrameTables.{good_in, AreOwn, FrameTable, IsMadeFrame, HaveValues, Allows, Nested, slot_at, goal_in, question, fact}
use Rattle.goal_evaluator.specs.Finite.{default_terms, IsFree, IsDetermined, OwnDetermine}
use Rattle.type_terms.proofs.Made.{false-true}
use Rattle.goal_evaluator.proofs.Reading.{append-none, read-put, reads-same, same-map, same-hold}
use Rattle.goal_evaluator.proofs.Questions.{read-resolved, sort-of-sort, is-place, put-in-slots}
use Rattle.goal_evaluator.proofs.Free.{resolved-one, based, completed, completed-reads, completed-holds, completed-sorted}
use Rattle.goal_evaluator.proofs.Equating.{default-sort}
use Rattle.goal_evaluator.proofs.Finite.{AreOf, made-hold, default-made, of-sort-made, place-made}
use Rattle.goal_evaluator.proofs.Nodes.{AreNodes, nodes-proper, nodes-put, nodes-resolved, IsOpenNode, open-node, every-leaf, read-at, read-absent}

-- ---- variables that can be all terms of their sort
abbrev CanBeAll : FrameTable → Sort → Label → Type 0
CanBeAll t j m = (x : Trees) → is_a j x ≡ true → (r : ChosenTerms) × Allows t r × (reading_of r m ≡ x)

one-root : (l : Label) (c d : Trees) (a b : Label) → tree l c none ≡ leaf a → tree l d none ≡ leaf b → a ≡ b
one-root l c d a b e f = cc

-- what does not begin with an unknown is read with one root, or as a placeholder
rigid-root : (p q : ChosenTerms) (x : Label) (d : Trees) (a b : Label) → is_rigid x ≡ true → ((k : Sort) → is_place k (leaf a) ≡ false) → read_with (standing p) (tree x d none) ≡ leaf a → read_with (standing q) (tree x d none) ≡ leaf b → a ≡ b
rigid-root p q (infer i w) d a b h n e f = absurd (false-true h)
rigid-root p q (placeholder of_type i) d a b h n e f =
    let x = as_place of_type (term_at p.own.terms i) in
    absurd (false-true (sym (n of_type) ∙ ap (is_place of_type) (sym e ∙ append-none x) ∙ is-place of_type (term_at p.own.terms i)))
rigid-root p q (placeholder of_const i) d a b h n e f =
    let x = as_place of_const (term_at p.own.terms i) in
    absurd (false-true (sym (n of_const) ∙ ap (is_place of_const) (sym e ∙ append-none x) ∙ is-place of_const (term_at p.own.terms i)))
rigid-root p q (placeholder of_lifetime i) d a b h n e f = one-root _ _ _ a b e f
rigid-root p q (param of_type i) d a b h n e f = one-root _ _ _ a b e f
rigid-root p q (param of_const i) d a b h n e f = one-root _ _ _ a b e f
rigid-root p q (param of_lifetime i) d a b h n e f = one-root _ _ _ a b e f
rigid-root p q (canonical of_type i) d a b h n e f = one-root _ _ _ a b e f
rigid-root p q (canonical of_const i) d a b h n e f = one-root _ _ _ a b e f
rigid-root p q (canonical of_lifetime i) d a b h n e f = one-root _ _ _ a b e f
rigid-root p q (bound of_type i j) d a b h n e f = one-root _ _ _ a b e f
rigid-root p q (bound of_const i j) d a b h n e f = one-root _ _ _ a b e f
rigid-root p q (bound of_lifetime i j) d a b h n e f = one-root _ _ _ a b e f
rigid-root p q l d a b h n e f = one-root _ _ _ a b e f

-- what can be all terms begins with an unknown
never-rigid : (t : FrameTable) (j : Sort) (m : Label) (x : Label) (d : Trees) → HasValues j → CanBeAll t j m → resolved t.content.bindings (leaf m) ≡ tree x d none → is_rigid x ≡ true → ⊥
never-rigid t j m x d g can e h = by j g can
  where
    read-as : (r : ChosenTerms) (z : Trees) → Allows t r → reading_of r m ≡ z → read_with (standing r) (tree x d none) ≡ z
    read-as r z a q = ap (read_with (standing r)) (sym e) ∙ read-resolved (good_in t) r t.content.bindings a.made.table.values a.hold (leaf m) ∙ q

    apart : bool ≡ char → ⊥
    apart q = cc

    apart-too : value 0 ≡ value 1 → ⊥
    apart-too q = cc

    by : (j : Sort) → HasValues j → CanBeAll t j m → ⊥
    by of_type g can =
        let p = can (leaf bool) refl in
        let q = can (leaf char) refl in
        apart (rigid-root p.0 q.0 x d bool char h (λ k. refl) (read-as p.0 (leaf bool) p.1 p.2) (read-as q.0 (leaf char) q.1 q.2))
    by of_const g can =
        let p = can (leaf (value 0)) refl in
        let q = can (leaf (value 1)) refl in
        apart-too (rigid-root p.0 q.0 x d (value 0) (value 1) h (λ k. refl) (read-as p.0 (leaf (value 0)) p.1 p.2) (read-as q.0 (leaf (value 1)) q.1 q.2))
    by of_lifetime g can = absurd g

leaf-proper : (l : Label) → IsProper (leaf l)
leaf-proper (infer k v) = (refl, tt)
leaf-proper l = (tt, tt)

-- ---- one unknown, and an assignment that gives it its default
abbrev with_default : Sort → ℕ → Assignment → Assignment
with_default k v u j w = if is_same_variable j w k v then (default_label k, none) else u j w

with-default-sorted : (k : Sort) (v : ℕ) (u : Assignment) → ((j : Sort) (w : ℕ) → sort_of (u j w).0 ≡ j) → (j : Sort) (w : ℕ) → sort_of (with_default k v u j w).0 ≡ j
with-default-sorted k v u h j w = by (is_same_variable j w k v) refl
  where
    by : (b : Bool) → is_same_variable j w k v ≡ b → sort_of (if b then (default_label k, none) else u j w).0 ≡ j
    by true e = default-sort k ∙ sym (is_variable-equal j k w v e).0
    by false e = h j w

reading-unknown : (s : ChosenTerms) (k : Sort) → HasValues k → (v : ℕ) → reading_of s (infer k v) ≡ tree_of (s.unknowns k v)
reading-unknown s of_type g v = refl
reading-unknown s of_const g v = refl
reading-unknown s of_lifetime g v = absurd g

-- the goal that is asked, part by part
goal-nodes : (t : FrameTable) → IsMadeFrame t → (x : Trees) → AreNodes (resolved t.content.bindings (put_in (slot_at t.labels) x))
goal-nodes t made x =
    nodes-resolved t.kinds t.content.ty_vars t.content.const_vars t.content.bindings made.table.values (put_in (slot_at t.labels) x) (nodes-put t.kinds t.content.ty_vars t.content.const_vars t.labels made.leaves x)

module _ (t : FrameTable) (s : ChosenTerms) (a : Allows t s) (k : Sort) (g : HasValues k) (v : ℕ) where
  abbrev bindings : List Binding
  bindings = t.content.bindings

  abbrev base : Assignment
  base = with_default k v s.unknowns

  base-sorted : (j : Sort) (w : ℕ) → sort_of (base j w).0 ≡ j
  base-sorted j w = with-default-sorted k v s.unknowns a.sorted j w

  abbrev low : ChosenTerms
  low = based (good_in t) t.content a.made.table.values a.made.table.acyclic s.own base base-sorted

  abbrev filled : ChosenTerms
  filled = completed (good_in t) t.content a.made.table.values a.made.table.acyclic s.own base base-sorted

  abbrev other : ChosenTerms
  other = record { own = s.own; slots = map (reading_of filled) t.labels; unknowns = filled.unknowns; proper = s.own.proper && fits (map Some t.kinds) s.own.terms }

  other-reads : (x : Trees) → IsProper x → read_with (standing other) x ≡ read_with (standing low) (resolved bindings x)
  other-reads x h = reads-same other filled refl refl x ∙ completed-reads (good_in t) t.content a.made.table.values a.made.table.acyclic s.own base base-sorted x h

  -- the unknown is read as its default
  low-reads : reading_of low (infer k v) ≡ leaf (default_label k)
  low-reads = reading-unknown low k g v ∙ ap tree_of (ap (λ (b : Bool). if b then (default_label k, none) else s.unknowns k v) (is_variable-self k v))

  -- elsewhere readings stay
  low-same : (x : Trees) → occurs k v x ≡ false → read_with (standing s) x ≡ read_with (standing low) x
  low-same x h = read-absent s low refl k v others x h
    where
      others : (j : Sort) (w : ℕ) → is_same_variable j w k v ≡ false → s.unknowns j w ≡ base j w
      others j w e = sym (ap (λ (b : Bool). if b then (default_label k, none) else s.unknowns j w) e)

  -- a variable of the goal is this unknown, or is read as before
  own-at : (j : Sort) (m : Label) → HasValues j → CanBeAll t j m → (reading_of s m ≡ reading_of s (infer k v)) ⊎ (reading_of s m ≡ reading_of other m)
  own-at j m h can = by (occurs k v (resolved bindings (leaf m))) refl
    where
      as-resolved : reading_of s m ≡ read_with (standing s) (resolved bindings (leaf m))
      as-resolved = sym (read-resolved (good_in t) s bindings a.made.table.values a.hold (leaf m))

      or-none : (b : Bool) → (b || false) ≡ b
      or-none true = refl
      or-none false = refl

      same-unknown : (i : Sort) (w : ℕ) (d : Trees) → i ≡ k → w ≡ v → read_with (standing s) (tree (infer i w) d none) ≡ reading_of s (infer k v)
      same-unknown of_type w d e f = ap (λ z. reading_of s (infer of_type z)) f ∙ ap (λ z. reading_of s (infer z v)) e
      same-unknown of_const w d e f = ap (λ z. reading_of s (infer of_const z)) f ∙ ap (λ z. reading_of s (infer z v)) e
      same-unknown of_lifetime w d e f = absurd (subst HasValues (sym e) g)

      root : (x : Label) (d : Trees) → resolved bindings (leaf m) ≡ tree x d none → occurs k v (resolved bindings (leaf m)) ≡ true → reading_of s m ≡ reading_of s (infer k v)
      root (infer i w) d e o =
          let y = is_variable-equal i k w v (sym (or-none (is_same_variable i w k v)) ∙ sym (ap (occurs k v) e) ∙ o) in
          as-resolved ∙ ap (read_with (standing s)) e ∙ same-unknown i w d y.0 y.1
      root l d e o = absurd (never-rigid t j m l d h can e refl)

      by : (b : Bool) → occurs k v (resolved bindings (leaf m)) ≡ b → (reading_of s m ≡ reading_of s (infer k v)) ⊎ (reading_of s m ≡ reading_of other m)
      by true o = let y = resolved-one (good_in t) bindings a.made.table.values (leaf m) refl in inl (root y.label y.children y.is o)
      by false o = inr (as-resolved ∙ low-same (resolved bindings (leaf m)) o ∙ sym (other-reads (leaf m) (leaf-proper m)))

  -- the unknown is read as one of the own values
  abbrev IsOwnValue : List Trees → Type 0
  IsOwnValue ts = (j : Sort) × (i : ℕ) × (reading_of s (infer k v) ≡ of_sort j (term_at ts i))

  abbrev AreFreeFrom : List CanonicalVarKind → List Label → Type 0
  AreFreeFrom ks labels = (x : Trees) → (r : ChosenTerms) × Allows t r × HaveValues ks (map (λ z. x) ks) (map (reading_of r) labels)

  later : (ts : List Trees) (T : Type 0) → IsOwnValue (other_terms ts) ⊎ T → IsOwnValue ts ⊎ T
  later ts T (inl x) = inl (x.0, suc x.1, x.2)
  later ts T (inr y) = inr y

  here-or-later : (j : Sort) (m : Label) (ts : List Trees) (T : Type 0) → of_sort j (first_term ts) ≡ reading_of s m → (reading_of s m ≡ reading_of s (infer k v)) ⊎ (reading_of s m ≡ reading_of other m)
      → IsOwnValue (other_terms ts) ⊎ T → IsOwnValue ts ⊎ ((of_sort j (first_term ts) ≡ reading_of other m) × T)
  here-or-later j m ts T h (inl e) r = inl (j, zero, sym e ∙ sym h)
  here-or-later j m ts T h (inr e) (inl x) = inl (x.0, suc x.1, x.2)
  here-or-later j m ts T h (inr e) (inr y) = inr (h ∙ e, y)

  own-or-kept : (place : ℕ) (ks : List CanonicalVarKind) (labels : List Label) (ts : List Trees) → AreOwn place ks labels → HaveValues ks ts (map (reading_of s) labels) → AreFreeFrom ks labels
      → IsOwnValue ts ⊎ HaveValues ks ts (map (reading_of other) labels)
  own-or-kept place [] labels ts o h f = inr tt
  own-or-kept place (x ∷ ks) [] ts o h f = absurd o
  own-or-kept place (Ty ∷ ks) (m ∷ labels) ts o h f =
      here-or-later of_type m ts (HaveValues ks (other_terms ts) (map (reading_of other) labels)) h.0
      (own-at of_type m tt (λ x q. let y = f x in (y.0, y.1, sym y.2.0 ∙ sort-of-sort of_type x q)))
      (own-or-kept (suc place) ks labels (other_terms ts) o.1 h.1 (λ x. let y = f x in (y.0, y.1, y.2.1)))
  own-or-kept place (Const ∷ ks) (m ∷ labels) ts o h f =
      here-or-later of_const m ts (HaveValues ks (other_terms ts) (map (reading_of other) labels)) h.0
      (own-at of_const m tt (λ x q. let y = f x in (y.0, y.1, sym y.2.0 ∙ sort-of-sort of_const x q)))
      (own-or-kept (suc place) ks labels (other_terms ts) o.1 h.1 (λ x. let y = f x in (y.0, y.1, y.2.1)))
  own-or-kept place (x ∷ ks) (m ∷ labels) ts o h f =
      later ts (HaveValues ks (other_terms ts) (map (reading_of other) labels)) (own-or-kept (suc place) ks labels (other_terms ts) o.1 h (λ x. let y = f x in (y.0, y.1, y.2)))

  free-from : IsFree t → AreFreeFrom t.kinds t.labels
  free-from free x =
      let y = free (record { proper = true; terms = map (λ z. x) t.kinds }) in
      (y.0, y.1, subst (λ z. HaveValues t.kinds z (map (reading_of y.0) t.labels)) (ap (λ (o : Values). o.terms) y.2) (subst (HaveValues t.kinds y.0.own.terms) y.1.slots y.1.own))

  other-allowed : HaveValues t.kinds s.own.terms (map (reading_of other) t.labels) → Allows t other
  other-allowed h = record {
    made = a.made;
    sorted = completed-sorted (good_in t) t.content a.made.table.values a.made.table.acyclic s.own base base-sorted;
    hold = same-hold filled other refl refl bindings (completed-holds (good_in t) t.content a.made.table.values a.made.table.acyclic s.own base base-sorted);
    slots = same-map filled other refl refl t.labels;
    own = subst (HaveValues t.kinds s.own.terms) (sym (same-map filled other refl refl t.labels)) h;
    proper = refl;
  }

  -- ---- the goal
  module _ (n : Nested) where
    part-reads : (x : Trees) → Allows t other → read_with (given s.slots) x ≡ read_with (given other.slots) x
        → read_with (standing s) (resolved bindings (put_in (slot_at t.labels) x)) ≡ read_with (standing low) (resolved bindings (put_in (slot_at t.labels) x))
    part-reads x b e =
        read-resolved (good_in t) s bindings a.made.table.values a.hold (put_in (slot_at t.labels) x)
        ∙ read-put (standing s) (given s.slots) (slot_at t.labels) (put-in-slots s a.sorted t.labels a.slots) x
        ∙ e
        ∙ sym (read-put (standing other) (given other.slots) (slot_at t.labels) (put-in-slots other b.sorted t.labels b.slots) x)
        ∙ other-reads (put_in (slot_at t.labels) x) (nodes-proper (put_in (slot_at t.labels) x) (nodes-put t.kinds t.content.ty_vars t.content.const_vars t.labels a.made.leaves x))

    default-read : Allows t other → fact n s ≡ fact n other → StandsInGoal (goal_in t n) (infer k v) → reading_of s (infer k v) ≡ leaf (default_label k)
    default-read b e (inl i) =
        read-at s low a.sorted base-sorted kind_in_clause k v (goal_in t n).environment (goal-nodes t a.made n.goal.environment) (part-reads n.goal.environment b (ap (λ (z : Fact). z.goal.environment) e)) i
        ∙ low-reads
    default-read b e (inr i) =
        read-at s low a.sorted base-sorted kind_of_leaf k v (goal_in t n).predicate (goal-nodes t a.made n.goal.predicate) (part-reads n.goal.predicate b (ap (λ (z : Fact). z.goal.predicate) e)) i
        ∙ low-reads

    pub unknown-made : IsFree t → IsDetermined t n → StandsInGoal (goal_in t n) (infer k v) → IsAmong (reading_of s (infer k v)) (s.own.terms ++ default_terms)
    unknown-made free determined i = by (own-or-kept 0 t.kinds t.labels s.own.terms a.made.own (subst (HaveValues t.kinds s.own.terms) a.slots a.own) (free-from free))
      where
        by : IsOwnValue s.own.terms ⊎ HaveValues t.kinds s.own.terms (map (reading_of other) t.labels) → IsAmong (reading_of s (infer k v)) (s.own.terms ++ default_terms)
        by (inl x) = subst (λ z. IsAmong z (s.own.terms ++ default_terms)) (sym x.2) (of-sort-made x.0 s.own.terms x.1)
        by (inr h) =
            let b = other-allowed h in
            subst (λ z. IsAmong z (s.own.terms ++ default_terms)) (sym (default-read b (determined s other a b refl) i)) (default-made k s.own.terms)

-- ---- all leaves
-- an open leaf, also where `'static` stands for itself
pub open-in-clause : (l : Label) → IsOpenNode kind_in_clause l → IsOpenNode kind_of_leaf l
open-in-clause static x = record { children = none; node = refl; is_open = refl }
open-in-clause (infer k v) x = record { children = x.children; node = x.node; is_open = x.is_open }
open-in-clause (param k v) x = record { children = x.children; node = x.node; is_open = x.is_open }
open-in-clause (placeholder k v) x = record { children = x.children; node = x.node; is_open = x.is_open }
open-in-clause l x = absurd (false-true x.is_open)

module _ (t : FrameTable) (n : Nested) (free : IsFree t) (determined : IsDetermined t n) (s : ChosenTerms) (a : Allows t s) where
  leaf-node : (l : Label) → StandsInGoal (goal_in t n) l → IsOpenNode kind_of_leaf l
  leaf-node l (inl i) = open-in-clause l (open-node kind_in_clause (goal_in t n).environment (goal-nodes t a.made n.goal.environment) l i)
  leaf-node l (inr i) = open-node kind_of_leaf (goal_in t n).predicate (goal-nodes t a.made n.goal.predicate) l i

  leaf-made : (l : Label) → StandsInGoal (goal_in t n) l → IsAmong (reading_of s l) (s.own.terms ++ default_terms)
  leaf-made l i = by l (leaf-node l i) i
    where
      lifetime : IsAmong (leaf static) (s.own.terms ++ default_terms)
      lifetime = default-made of_lifetime s.own.terms

      by : (l : Label) → IsOpenNode kind_of_leaf l → StandsInGoal (goal_in t n) l → IsAmong (reading_of s l) (s.own.terms ++ default_terms)
      by (infer of_type v) x i = unknown-made t s a of_type tt v n free determined i
      by (infer of_const v) x i = unknown-made t s a of_const tt v n free determined i
      by (infer of_lifetime v) x i = lifetime
      by (param of_type v) x i = absurd x.node
      by (param of_const v) x i = absurd x.node
      by (param of_lifetime v) x i = lifetime
      by (placeholder of_type v) x i = subst (λ z. IsAmong z (s.own.terms ++ default_terms)) (sym (append-none (as_place of_type (term_at s.own.terms v)))) (place-made of_type s.own.terms v tt)
      by (placeholder of_const v) x i = subst (λ z. IsAmong z (s.own.terms ++ default_terms)) (sym (append-none (as_place of_const (term_at s.own.terms v)))) (place-made of_const s.own.terms v tt)
      by (placeholder of_lifetime v) x i = lifetime
      by static x i = lifetime
      by l x i = absurd (false-true x.is_open)

  leaves-made : Every (λ l. IsAmong (reading_of s l) (s.own.terms ++ default_terms)) (goal_leaves (goal_in t n))
  leaves-made =
      every-leaf kind_of_leaf (λ l. IsAmong (reading_of s l) (s.own.terms ++ default_terms)) (leaves kind_in_clause [] (goal_in t n).environment) (goal_in t n).predicate
      (every-leaf kind_in_clause (λ l. IsAmong (reading_of s l) (s.own.terms ++ default_terms)) [] (goal_in t n).environment tt (λ l i. leaf-made l (inl i)))
      (λ l i. leaf-made l (inr i))

terms-of : (s : ChosenTerms) (choices : List Trees) (ls : List Label) → Every (λ l. IsAmong (reading_of s l) choices) ls → AreOf choices (map kind_of_leaf ls) (map (reading_of s) ls)
terms-of s choices [] h = tt
terms-of s choices (l ∷ ls) h = (h.0, terms-of s choices ls h.1)

pub own-determine : OwnDetermine
own-determine t n free determined s a =
    made-hold (question t n) s.own s.proper (map (reading_of s) (goal_leaves (goal_in t n)))
    (terms-of s (s.own.terms ++ default_terms) (goal_leaves (goal_in t n)) (leaves-made t n free determined s a))
