-- The frames of a goal that is asked again and again.
use Rattle.std.proofs.Common.{◌≡◌, ◌≤◌, ◌<◌, ◌+◌, ◌-◌, inl, inr, ℕ, zero, suc, List, [], ◌∷◌, Some, arith, subst}
use Rattle.std.proofs.Math.Nat.{le_refl, le_trans, le-add_right, add-le-add}
use Rattle.type_terms.specs.Promised.Label.{Sort}
use Rattle.infer_table.specs.Canonical.{GoalTrees, canonical_form}
use Rattle.infer_table.specs.Content.{Table, AreOlder}
use Rattle.infer_table.specs.Goals.{GoalHeld, goal_trees, goal_resolved}
use Rattle.infer_table.specs.Responses.{AnswerTrees}
use Rattle.infer_table.specs.Solutions.{Binding}
use Rattle.infer_table.specs.Unification.{TableTrees, table_trees}
use Rattle.infer_table.specs.declared.certainty.TypingMode.{TypingMode}
use Rattle.infer_table.specs.declared.goal.Goal.{Goal}
use Rattle.infer_table.proofs.Numbers.{goal-trees-later}
use Rattle.type_terms.specs.Promised.Handles.{Keeps}
use Rattle.search_graph.specs.SearchState.{SearchState}
use Rattle.solver_graph.specs.Contexts.{entries_of}
use Rattle.solver_graph.specs.Evaluations.{IsFoundBySearch}
use Rattle.solver_graph.specs.Roots.{left_by}
use Rattle.solver_graph.specs.Searching.{solver_meaning}
use Rattle.solver_graph.specs.declared.context.SolverCx.{SolverCx}
use Rattle.goal_frames.specs.Meanings.{HandlerMeaning}
use Rattle.solver_graph.specs.Askings.{AreTermsOfSorts, frames_for, AskingsStartFrames, AskingsOf, StartsFramesOfAsking, IsLeftByAnswer}
use Rattle.solver_graph.specs.declared.settling.TheConstants.{MAX_ASKINGS}

-- an asking less is left
pub one-less : (i : ℕ) → i < MAX_ASKINGS → suc (MAX_ASKINGS - (i + 1)) ≡ MAX_ASKINGS - i
one-less i h = omega (arith, h)

wider : (a b c x : ℕ) → a ≤ b + x → b ≤ c → a ≤ c + x
wider a b c x h k = omega (arith, h, k)

-- the values of a table
pub older-are-terms : (counts : Sort → ℕ) (bs : List Binding) → AreOlder counts bs → AreTermsOfSorts bs
older-are-terms counts [] h = tt
older-are-terms counts (b ∷ bs) h = (h.1, older-are-terms counts bs h.3)

module _ {Handler : Type 0} (handler : HandlerMeaning Handler) (mode : TypingMode) where
  module _ (w : handler.goals.World) (depth : ℕ) (g : GoalTrees) where
    abbrev Started : ℕ → TableTrees → ℕ → ℕ → Type 0
    Started = AskingsStartFrames handler mode w depth g

    abbrev bound : TableTrees → ℕ
    bound t = frames_for handler w depth (mode, canonical_form (goal_resolved t.bindings g))

    pub asked-one : (k : ℕ) (t : TableTrees) (b a : ℕ) → a ≤ b + bound t → Started (suc k) t b a
    unfolding AskingsStartFrames
    asked-one k t b a h = inl h

    pub asked-none : (k : ℕ) (t : TableTrees) (b : ℕ) → Started k t b b
    unfolding AskingsStartFrames
    asked-none zero t b = le_refl b
    asked-none (suc k) t b = inl (le-add_right b (bound t))

    from-more : (k : ℕ) (t : TableTrees) (b c a : ℕ) → b ≤ c → Started k t b a → Started k t c a
    unfolding AskingsStartFrames
    from-more zero t b c a h s = le_trans s h
    from-more (suc k) t b c a h (inl s) = inl (wider a b c (bound t) s h)
    from-more (suc k) t b c a h (inr s) = inr (s.0, s.1, (s.2.0, s.2.1, s.2.2, from-more k s.2.0 (b + bound t) (c + bound t) a (add-le-add h (le_refl (bound t))) s.2.3))

    pub asked-more : (k : ℕ) (t u : TableTrees) (b mid a : ℕ) (x : AnswerTrees) → IsFoundBySearch (solver_meaning handler) w depth (mode, canonical_form (goal_resolved t.bindings g)) (Some x)
        → left_by t (goal_resolved t.bindings g) (Some x) ≡ Some u → AreTermsOfSorts u.bindings → mid ≤ b + bound t → Started k u mid a → Started (suc k) t b a
    unfolding AskingsStartFrames
    asked-more k t u b mid a x found left terms h s = inr (x, found, (u, left, terms, from-more k u mid (b + bound t) a h s))

  -- ---- in contexts
  pub once : (k : ℕ) (c : SolverCx Handler) (f g : SearchState) (t : Table) (q : Goal) → StartsFramesOfAsking handler c f t mode q g → AskingsOf handler (suc k) c f t mode q g
  once k c f g t q h = asked-one (handler.world c.handler (entries_of c)) f.root_depth (goal_trees (entries_of c) q) k (table_trees (entries_of c) t) f.frames g.frames h

  same : (v w : handler.goals.World) (m n : ℕ) (g h : GoalTrees) (k : ℕ) (t : TableTrees) (b a : ℕ) → v ≡ w → m ≡ n → g ≡ h → AskingsStartFrames handler mode v m g k t b a → AskingsStartFrames handler mode w n h k t b a
  same v w m n g h k t b a e f i s =
      subst (λ z. AskingsStartFrames handler mode w n z k t b a) i (subst (λ z. AskingsStartFrames handler mode w z g k t b a) f (subst (λ z. AskingsStartFrames handler mode z m g k t b a) e s))

  -- what is asked of a goal after an asking is asked of the goal as it was
  pub again : (k : ℕ) (c d : SolverCx Handler) (f g h : SearchState) (t u : Table) (q : Goal) → GoalHeld (entries_of c) q → Keeps (entries_of c) (entries_of d)
      → handler.world d.handler (entries_of d) ≡ handler.world c.handler (entries_of c) → g.root_depth ≡ f.root_depth
      → StartsFramesOfAsking handler c f t mode q g → IsLeftByAnswer handler c f t mode q d u → AskingsOf handler k d g u mode q h → AskingsOf handler (suc k) c f t mode q h
  again k c d f g h t u q held keeps world depth first left s =
      asked-more (handler.world c.handler (entries_of c)) f.root_depth (goal_trees (entries_of c) q) k (table_trees (entries_of c) t) (table_trees (entries_of d) u) f.frames g.frames h.frames
      left.0 left.1 left.2 left.3 first
      (same _ _ _ _ _ _ k (table_trees (entries_of d) u) g.frames h.frames world depth (goal-trees-later (entries_of c) (entries_of d) keeps q held) s)

  -- as many are left
  pub as-many : (k l : ℕ) (c : SolverCx Handler) (f g : SearchState) (t : Table) (q : Goal) → k ≡ l → AskingsOf handler k c f t mode q g → AskingsOf handler l c f t mode q g
  as-many k l c f g t q e s = subst (λ n. AskingsOf handler n c f t mode q g) e s
