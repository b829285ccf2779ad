-- A table of a goal without inference variables has solutions, for all values of the goal's placeholders and of one variable.
use Rattle.std.proofs.Common.{◌≡◌, ℕ, Bool, true, false, ◌&&◌, List, [], ◌∷◌, map, refl, sym, ◌∙◌, ap, Some, if◌then◌else◌, inl, inr}
use Rattle.type_terms.specs.Promised.Label.{Label, Sort, of_type, of_const, of_lifetime, infer, bool, value}
use Rattle.type_terms.specs.Promised.Trees.{Trees, none, leaf, sort_of}
use Rattle.infer_table.specs.Canonical.{StandsInGoal, kind_of_leaf, kind_in_clause}
use Rattle.infer_table.specs.Solutions.{Assignment, tree_of, is_same_variable, resolved, HasValues}
use Rattle.infer_table.specs.declared.canonical.CanonicalVarKind.{CanonicalVarKind}
use Rattle.infer_table.specs.declared.canonical.CanonicalVarKind.TheVariants.{Ty, PlaceholderTy, Const, PlaceholderConst, Region}
use Rattle.infer_table.proofs.SolutionLaws.{is_variable-equal, is_variable-self}
use Rattle.goal_evaluator.specs.Instances.{read_with, put_in, default_label, other_terms}
use Rattle.goal_evaluator.specs.Content.{Values, Fact, ChosenTerms, given, fits, standing, reading_of}
use Rattle.goal_evaluator.specs.FrameTables.{good_in, FrameTable, IsMadeFrame, HaveValues, Allows, Nested, slot_at, goal_in, fact}
use Rattle.goal_evaluator.specs.Finite.{IsFree, IsDetermined}
use Rattle.type_terms.proofs.TreeLaws.{append-none}
use Rattle.goal_evaluator.proofs.Reading.{read-put, reads-same, same-map, same-hold}
use Rattle.goal_evaluator.proofs.Questions.{put-in-slots}
use Rattle.goal_evaluator.proofs.Free.{based, completed, completed-reads, completed-holds, completed-sorted}
use Rattle.goal_evaluator.proofs.Nodes.{AreNodes, nodes-proper, nodes-put, nodes-resolved, read-at}
use Rattle.infer_table.specs.Content.{IsProper}
use Rattle.solver_completeness.specs.ClosedTables.{AreClosed}
use Rattle.goal_evaluator.proofs.Equating.{default-sort}

-- no variable of the goal is an unknown, so nothing is asked of its values
have-any : (ks : List CanonicalVarKind) → AreClosed (map Some ks) → (ts slots : List Trees) → HaveValues ks ts slots
have-any [] c ts slots = tt
have-any (Ty ∷ ks) c ts slots = absurd c.0
have-any (Const ∷ ks) c ts slots = absurd c.0
have-any (PlaceholderTy ∷ ks) c ts slots = have-any ks c.1 (other_terms ts) (other_terms slots)
have-any (PlaceholderConst ∷ ks) c ts slots = have-any ks c.1 (other_terms ts) (other_terms slots)
have-any (Region ∷ ks) c ts slots = have-any ks c.1 (other_terms ts) (other_terms slots)

-- ---- terms by what stands for each unknown without value
module _ (t : FrameTable) (m : IsMadeFrame t) (closed : AreClosed (map Some t.kinds)) (own : Values) (base : Assignment) (base-sorted : (k : Sort) (v : ℕ) → sort_of (base k v).0 ≡ k) where
  abbrev pub low : ChosenTerms
  low = based (good_in t) t.content m.table.values m.table.acyclic own base base-sorted

  abbrev pub filled : ChosenTerms
  filled = completed (good_in t) t.content m.table.values m.table.acyclic own base base-sorted

  abbrev pub whole : ChosenTerms
  whole = record { own = own; slots = map (reading_of filled) t.labels; unknowns = filled.unknowns; proper = own.proper && fits (map Some t.kinds) own.terms }

  pub whole-allowed : Allows t whole
  whole-allowed = record {
    made = m;
    sorted = completed-sorted (good_in t) t.content m.table.values m.table.acyclic own base base-sorted;
    hold = same-hold filled whole refl refl t.content.bindings (completed-holds (good_in t) t.content m.table.values m.table.acyclic own base base-sorted);
    slots = same-map filled whole refl refl t.labels;
    own = have-any t.kinds closed own.terms (map (reading_of filled) t.labels);
    proper = refl;
  }

  pub whole-reads : (x : Trees) → IsProper x → read_with (standing whole) x ≡ read_with (standing low) (resolved t.content.bindings x)
  whole-reads x h = reads-same whole filled refl refl x ∙ completed-reads (good_in t) t.content m.table.values m.table.acyclic own base base-sorted x h

-- one node for each unknown, and the default for all others
abbrev pub with_node : Sort → ℕ → Label → Assignment
with_node k v x j w = if is_same_variable j w k v then (x, none) else (default_label j, none)

pub node-sorted : (k : Sort) (v : ℕ) (x : Label) → sort_of x ≡ k → (j : Sort) (w : ℕ) → sort_of (with_node k v x j w).0 ≡ j
node-sorted k v x h j w = by (is_same_variable j w k v) refl
  where
    first : Bool → Label × Trees
    first b = if b then (x, none) else (default_label j, none)

    by : (b : Bool) → is_same_variable j w k v ≡ b → sort_of (first b).0 ≡ j
    by true e = h ∙ sym (is_variable-equal j k w v e).0
    by false e = default-sort j

pub free : (t : FrameTable) → IsMadeFrame t → AreClosed (map Some t.kinds) → IsFree t
free t m closed v =
    let sorted = node-sorted of_type 0 bool refl in
    (whole t m closed v (with_node of_type 0 bool) sorted, whole-allowed t m closed v (with_node of_type 0 bool) sorted, refl)

-- ---- what the goal determines holds no unknown
reading-unknown : (s : ChosenTerms) (k : Sort) → HasValues k → (v : ℕ) → reading_of s (infer k v) ≡ tree_of (s.unknowns k v)
reading-unknown s of_type g v = append-none (tree_of (s.unknowns of_type v))
reading-unknown s of_const g v = append-none (tree_of (s.unknowns of_const v))
reading-unknown s of_lifetime g v = absurd g

module _ (t : FrameTable) (m : IsMadeFrame t) (closed : AreClosed (map Some t.kinds)) (n : Nested) (determined : IsDetermined t n) (own : Values) (k : Sort) (g : HasValues k) (v : ℕ) where
  module _ (x : Label) (h : sort_of x ≡ k) where
    abbrev at : ChosenTerms
    at = low t m closed own (with_node k v x) (node-sorted k v x h)

    abbrev terms_at : ChosenTerms
    terms_at = whole t m closed own (with_node k v x) (node-sorted k v x h)

    at-allowed : Allows t terms_at
    at-allowed = whole-allowed t m closed own (with_node k v x) (node-sorted k v x h)

    at-reads : reading_of at (infer k v) ≡ leaf x
    at-reads = reading-unknown at k g v ∙ ap (λ (b : Bool). tree_of (if b then (x, none) else (default_label k, none))) (is_variable-self k v)

    part-reads : (y : Trees) → read_with (given terms_at.slots) y ≡ read_with (standing at) (resolved t.content.bindings (put_in (slot_at t.labels) y))
    part-reads y =
        sym (read-put (standing terms_at) (given terms_at.slots) (slot_at t.labels) (put-in-slots terms_at at-allowed.sorted t.labels at-allowed.slots) y)
        ∙ whole-reads t m closed own (with_node k v x) (node-sorted k v x h) (put_in (slot_at t.labels) y)
        (nodes-proper (put_in (slot_at t.labels) y) (nodes-put t.kinds t.content.ty_vars t.content.const_vars t.labels m.leaves y))

  goal-nodes : (y : Trees) → AreNodes (resolved t.content.bindings (put_in (slot_at t.labels) y))
  goal-nodes y =
      nodes-resolved t.kinds t.content.ty_vars t.content.const_vars t.content.bindings m.table.values (put_in (slot_at t.labels) y)
      (nodes-put t.kinds t.content.ty_vars t.content.const_vars t.labels m.leaves y)

  one-reading : (x y : Label) (h : sort_of x ≡ k) (i : sort_of y ≡ k) → StandsInGoal (goal_in t n) (infer k v) → leaf x ≡ leaf y
  one-reading x y h i s = sym (at-reads x h) ∙ by s ∙ at-reads y i
    where
      same : fact n (terms_at x h) ≡ fact n (terms_at y i)
      same = determined (terms_at x h) (terms_at y i) (at-allowed x h) (at-allowed y i) refl

      by : StandsInGoal (goal_in t n) (infer k v) → reading_of (at x h) (infer k v) ≡ reading_of (at y i) (infer k v)
      by (inl z) =
          read-at (at x h) (at y i) (node-sorted k v x h) (node-sorted k v y i) kind_in_clause k v (goal_in t n).environment (goal-nodes n.goal.environment)
          (sym (part-reads x h n.goal.environment) ∙ ap (λ (f : Fact). f.goal.environment) same ∙ part-reads y i n.goal.environment) z
      by (inr z) =
          read-at (at x h) (at y i) (node-sorted k v x h) (node-sorted k v y i) kind_of_leaf k v (goal_in t n).predicate (goal-nodes n.goal.predicate)
          (sym (part-reads x h n.goal.predicate) ∙ ap (λ (f : Fact). f.goal.predicate) same ∙ part-reads y i n.goal.predicate) z

-- so no unknown stands in it
pub no-unknown : (t : FrameTable) → IsMadeFrame t → AreClosed (map Some t.kinds) → (n : Nested) → IsDetermined t n → (k : Sort) → HasValues k → (v : ℕ) → StandsInGoal (goal_in t n) (infer k v) → ⊥
no-unknown t m closed n determined of_type g v s = apart (one-reading t m closed n determined (record { proper = true; terms = [] }) of_type g v bool (default_label of_type) refl refl s)
  where
    apart : leaf bool ≡ leaf (default_label of_type) → ⊥
    apart e = cc
no-unknown t m closed n determined of_const g v s = apart (one-reading t m closed n determined (record { proper = true; terms = [] }) of_const g v (value 1) (value 0) refl refl s)
  where
    apart : leaf (value 1) ≡ leaf (value 0) → ⊥
    apart e = cc
no-unknown t m closed n determined of_lifetime g v s = absurd g
