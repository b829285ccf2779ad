-- Resumed candidates: the rest of their evaluation does not change as the interner grows, and each step is one of the script.
use Rattle.std.proofs.Common.{◌≡◌, ℕ, suc, not, ◌&&◌, ◌||◌, Bool, true, false, List, [], ◌∷◌, ◌++◌, map, Option, Some, sym, ◌∙◌, ap, subst}
use Rattle.goal_evaluator.proofs.Contexts.{every-more, nested-later}
use Rattle.infer_table.specs.Kept.{ready-later}
use Rattle.type_terms.specs.Kept.{args-held-later}
use Rattle.std.proofs.lemmas.List.{map-append}
use Rattle.type_terms.specs.Promised.Handles.{Entry, Keeps}
use Rattle.infer_table.proofs.PairFacts.{table-kept}
use Rattle.infer_table.specs.Certainties.{joined, is_certain}
use Rattle.infer_table.specs.Content.{Table, Ready}
use Rattle.infer_table.specs.Goals.{goal_resolved}
use Rattle.infer_table.specs.Unification.{TableTrees, table_trees}
use Rattle.infer_table.specs.Values.{values_of, values-later}
use Rattle.infer_table.specs.Responses.{AnswerTrees, ResponseHeld, answer_trees}
use Rattle.infer_table.specs.declared.certainty.Certainty.TheVariants.{Yes}
use Rattle.infer_table.specs.declared.goal.Goal.{Goal}
use Rattle.infer_table.specs.declared.input.CanonicalInput.{CanonicalInput}
use Rattle.infer_table.specs.declared.response.CanonicalResponse.{CanonicalResponse}
use Rattle.goal_evaluator.specs.declared.goal.GoalSource.{GoalSource}
use Rattle.goal_evaluator.specs.declared.resuming.Evaluation.{Evaluation}
use Rattle.goal_evaluator.specs.declared.resuming.OpenRound.{OpenRound}
use Rattle.goal_evaluator.specs.declared.resuming.OpenCandidate.{OpenCandidate}
use Rattle.goal_evaluator.specs.Context.{NestedGoal, NestedHeld, GoalIsHeld, nested_goal}
use Rattle.goal_evaluator.specs.Evaluating.{AskedQuestion, question_of, nested_trees, put_into, evaluation, goal_values, values_asked, IsAskedBy}
use Rattle.goal_evaluator.specs.OpenRounds.{SoFar, with_goal, rest_of_round, after_answer}
use Rattle.goal_evaluator.specs.Operations.{is_yes}
use Rattle.goal_evaluator.specs.Responses.{is_identity_modulo_regions}
use Rattle.goal_evaluator.specs.Rounds.{Rounds}
use Rattle.goal_evaluator.specs.Runs.{with_response}
use Rattle.goal_evaluator.specs.Script.{ask, followed}
use Rattle.goal_evaluator.specs.Trial.{premises_trees}
use Rattle.goal_evaluator.specs.OpenCandidates.{CandidateAsking, finished, so_far, rest_script, after_reply, EvaluationHeld, OpenHeld, brings_values, is_definite}
use Rattle.goal_evaluator.proofs.LaterTrees.{goal-trees-later, goals-trees-later}
use Rattle.goal_evaluator.proofs.OpenRounds.{rounds-go-on}

module _ (old new : List Entry) (k : Keeps old new) where
  pub after-later : (o : OpenCandidate) → OpenHeld old o → (a : Option AnswerTrees) → after_reply new o a ≡ after_reply old o a
  after-later o h a =
      let pv = values-later old new k o.evaluation.own.items h.evaluation.own in
      let pl = goals-trees-later old new k (map nested_goal o.round.left.items) h.left in
      let pg = goals-trees-later old new k (map nested_goal o.goals.items) h.goals in
      let pn = goal-trees-later old new k (nested_goal o.goal) h.goal in
      let pt = table-kept old new k o.evaluation.table h.evaluation.table in
      λ i. followed (finished o.evaluation.mode o.evaluation.variables.items (pv i) o.evaluation.certainty)
      (after_answer (evaluation o.evaluation.mode) (record { limit = o.rounds_left; left = pl i; changed = o.round.changed; certainty = o.round.certainty }) (pt i) (pn i) (pg i) a)

  -- the values of a goal's question stay the same
  pub asked-later : (t : Table) → Ready old t → (n : NestedGoal) → GoalIsHeld old n → values_asked old t n ≡ values_asked new t n
  asked-later t d n h =
      let pt = table-kept old new k t d in
      let pn = goal-trees-later old new k n h in
      let there : values_asked new t n ≡ values_asked old t n = λ i. goal_values (goal_resolved (pt i).bindings (pn i).goal) in
      sym there

  -- a candidate that waits stays the interner's
  pub open-held-later : (o : OpenCandidate) → OpenHeld old o → OpenHeld new o
  open-held-later o h = record {
    evaluation = record { table = ready-later old new o.evaluation.table k h.evaluation.table; own = args-held-later old new k o.evaluation.own.items h.evaluation.own };
    left = nested-later old new k (map nested_goal o.round.left.items) h.left;
    goal = (nested-later old new k (nested_goal o.goal ∷ []) (h.goal, tt)).0;
    goals = nested-later old new k (map nested_goal o.goals.items) h.goals;
    values = args-held-later old new k o.values.items h.values;
    values_are = values-later old new k o.values.items h.values ∙ h.values_are ∙ asked-later o.evaluation.table h.evaluation.table (nested_goal o.goal) h.goal;
  }

  -- the goal that is next is asked
  pub asks-next : (o : OpenCandidate) → EvaluationHeld old o.evaluation → NestedHeld old (map nested_goal o.round.left.items) → GoalIsHeld old (nested_goal o.goal) → NestedHeld old (map nested_goal o.goals.items)
      → (input : CanonicalInput) → IsAskedBy o.evaluation.mode old o.evaluation.table (nested_goal o.goal) new input
      → rest_script old o.evaluation o.rounds_left o.round (o.goal ∷ o.goals.items) ≡ ask (question_of new input o.goal.0) (after_reply new o)
  asks-next o he hl hn hg input q =
      let pv = values-later old new k o.evaluation.own.items he.own in
      let pl = goals-trees-later old new k (map nested_goal o.round.left.items) hl in
      let pg = goals-trees-later old new k (map nested_goal o.goals.items) hg in
      let pn = goal-trees-later old new k (nested_goal o.goal) hn in
      let pt = table-kept old new k o.evaluation.table he.table in
      let later : (a : Option AnswerTrees) → after_reply new o a ≡ after_reply old o a = λ a i. followed (finished o.evaluation.mode o.evaluation.variables.items (pv i) o.evaluation.certainty)
      (after_answer (evaluation o.evaluation.mode) (record { limit = o.rounds_left; left = pl i; changed = o.round.changed; certainty = o.round.certainty }) (pt i) (pn i) (pg i) a) in
      ap (λ (z : AskedQuestion). ask z (after_reply old o)) q ∙ sym (ap (ask (question_of new input o.goal.0)) (λ i a. later a i))

-- ---- the end of a round
module _ (es : List Entry) (e : Evaluation) (limit : ℕ) (r : OpenRound) where
  abbrev this-round : SoFar (evaluation e.mode)
  this-round = so_far e.mode es limit r

  abbrev after-rounds : Option (Rounds (evaluation e.mode)) → CandidateAsking
  after-rounds = finished e.mode e.variables.items (values_of es e.own.items) e.certainty

  -- values came: the next round
  pub next-round : (m : ℕ) (next : OpenRound) → r.changed ≡ true → limit ≡ suc m → next.left.items ≡ [] → next.changed ≡ false → next.certainty ≡ Yes
      → rest_script es e limit r [] ≡ rest_script es e m next r.left.items
  next-round m next f z a b c =
      ap (followed after-rounds)
      ((rounds-go-on (evaluation e.mode)).again this-round m (table_trees es e.table) f z
      ∙ λ i. rest_of_round (evaluation e.mode) (record { limit = m; left = premises_trees es (sym a i); changed = sym b i; certainty = sym c i }) (premises_trees es r.left.items) (table_trees es e.table))

-- ---- an answer
module _ (old new : List Entry) (k : Keeps old new) (o : OpenCandidate) (h : OpenHeld old o) (r : CanonicalResponse) (hr : ResponseHeld old r) where
  abbrev the-answer : AnswerTrees
  the-answer = answer_trees old r

  abbrev before : SoFar (evaluation o.evaluation.mode)
  before = so_far o.evaluation.mode old o.rounds_left o.round

  abbrev at-end : Option (Rounds (evaluation o.evaluation.mode)) → CandidateAsking
  at-end = finished o.evaluation.mode o.evaluation.variables.items (values_of old o.evaluation.own.items) o.evaluation.certainty

  applies : (u : Option TableTrees) → with_response old o.evaluation.table o.values.items r ≡ u
      → (evaluation o.evaluation.mode).apply (table_trees old o.evaluation.table) (nested_trees old (nested_goal o.goal)) the-answer ≡ u
  applies u e = sym (ap (λ vs. put_into (table_trees old o.evaluation.table) vs the-answer) h.values_are) ∙ e

  module _ (T : Table) (put : with_response old o.evaluation.table o.values.items r ≡ Some (table_trees new T)) where
    -- what is left, in the terms of before
    abbrev earlier : SoFar (evaluation o.evaluation.mode) → CandidateAsking
    earlier s = followed at-end (rest_of_round (evaluation o.evaluation.mode) s (premises_trees old o.goals.items) (table_trees new T))

    definite-later : (b : Bool) → is_definite new r ≡ b → is_yes (evaluation o.evaluation.mode) the-answer ≡ b
    definite-later b e = ap (λ vs. is_certain r.certainty && not (not (is_identity_modulo_regions 0 vs))) (sym (values-later old new k r.var_values.items hr.values)) ∙ e

    dropped-so : is_definite new r ≡ true → after_reply old o (Some the-answer) ≡ earlier before
    dropped-so y =
        ap (followed at-end)
        ((rounds-go-on (evaluation o.evaluation.mode)).dropped before (nested_trees old (nested_goal o.goal)) (premises_trees old o.goals.items) (table_trees old o.evaluation.table) (table_trees new T) the-answer
        (applies (Some (table_trees new T)) put) (definite-later true y))

    kept-so : is_definite new r ≡ false → after_reply old o (Some the-answer) ≡ earlier (with_goal (evaluation o.evaluation.mode) before (nested_trees old (nested_goal o.goal)) the-answer)
    kept-so y =
        ap (followed at-end)
        ((rounds-go-on (evaluation o.evaluation.mode)).kept before (nested_trees old (nested_goal o.goal)) (premises_trees old o.goals.items) (table_trees old o.evaluation.table) (table_trees new T) the-answer
        (applies (Some (table_trees new T)) put) (definite-later false y))

    -- with the new table, in the terms of now
    abbrev now : OpenRound → CandidateAsking
    now s = rest_script new (record o.evaluation { table = T }) o.rounds_left s o.goals.items

    pg : premises_trees new o.goals.items ≡ premises_trees old o.goals.items
    pg = goals-trees-later old new k (map nested_goal o.goals.items) h.goals

    pl : premises_trees new o.round.left.items ≡ premises_trees old o.round.left.items
    pl = goals-trees-later old new k (map nested_goal o.round.left.items) h.left

    in-new-terms : (s : OpenRound) (b : SoFar (evaluation o.evaluation.mode)) → so_far o.evaluation.mode new o.rounds_left s ≡ b → now s ≡ earlier b
    in-new-terms s b e = λ i. followed (finished o.evaluation.mode o.evaluation.variables.items (values-later old new k o.evaluation.own.items h.evaluation.own i) o.evaluation.certainty)
        (rest_of_round (evaluation o.evaluation.mode) (e i) (pg i) (table_trees new T))

    same-so-far : (s : OpenRound) → s ≡ o.round → so_far o.evaluation.mode new o.rounds_left s ≡ before
    same-so-far s e = ap (so_far o.evaluation.mode new o.rounds_left) e ∙ (λ i. record { limit = o.rounds_left; left = pl i; changed = o.round.changed; certainty = o.round.certainty })

    one-kept : (ls : List (GoalSource × Goal)) → ls ≡ o.round.left.items ++ o.goal ∷ [] → premises_trees new ls ≡ premises_trees old o.round.left.items ++ nested_trees old (nested_goal o.goal) ∷ []
    one-kept ls e =
        ap (premises_trees new) e
        ∙ ap (map (nested_trees new)) (map-append nested_goal o.round.left.items (o.goal ∷ []))
        ∙ map-append (nested_trees new) (map nested_goal o.round.left.items) (nested_goal o.goal ∷ [])
        ∙ (λ i. pl i ++ goal-trees-later old new k (nested_goal o.goal) h.goal i ∷ [])

    kept-so-far : (s : OpenRound) → s.left.items ≡ o.round.left.items ++ o.goal ∷ [] → s.changed ≡ o.round.changed || brings_values new r → s.certainty ≡ joined o.round.certainty r.certainty
        → so_far o.evaluation.mode new o.rounds_left s ≡ with_goal (evaluation o.evaluation.mode) before (nested_trees old (nested_goal o.goal)) the-answer
    kept-so-far s l c q =
        let came : s.changed ≡ o.round.changed || brings_values old r = c ∙ ap (λ vs. o.round.changed || not (is_identity_modulo_regions 0 vs)) (values-later old new k r.var_values.items hr.values) in
        λ i. record { limit = o.rounds_left; left = one-kept s.left.items l i; changed = came i; certainty = q i }

    -- it goes on with the round that this leaves
    pub resumed : (s : OpenRound) (b : Bool) → is_definite new r ≡ b
        → (is_definite new r ≡ true → s ≡ o.round)
        → (is_definite new r ≡ false → s.left.items ≡ o.round.left.items ++ o.goal ∷ [])
        → (is_definite new r ≡ false → s.changed ≡ o.round.changed || brings_values new r)
        → (is_definite new r ≡ false → s.certainty ≡ joined o.round.certainty r.certainty)
        → after_reply old o (Some the-answer) ≡ now s
    resumed s true y d l c q = dropped-so y ∙ sym (in-new-terms s before (same-so-far s (d y)))
    resumed s false y d l c q = kept-so y ∙ sym (in-new-terms s (with_goal (evaluation o.evaluation.mode) before (nested_trees old (nested_goal o.goal)) the-answer) (kept-so-far s (l y) (c y) (q y)))

-- the goals that stay are an interner's
pub left-held : (es : List Entry) (o : OpenCandidate) (s : OpenRound) (d b : Bool) → d ≡ b → (d ≡ true → s ≡ o.round) → (d ≡ false → s.left.items ≡ o.round.left.items ++ o.goal ∷ [])
    → NestedHeld es (map nested_goal o.round.left.items) → GoalIsHeld es (nested_goal o.goal) → NestedHeld es (map nested_goal s.left.items)
left-held es o s d true y same more h hg = subst (λ (x : OpenRound). NestedHeld es (map nested_goal x.left.items)) (sym (same y)) h
left-held es o s d false y same more h hg =
    subst (NestedHeld es) (sym (ap (map nested_goal) (more y) ∙ map-append nested_goal o.round.left.items (o.goal ∷ [])))
    (every-more (GoalIsHeld es) (map nested_goal o.round.left.items) (nested_goal o.goal) h hg)
