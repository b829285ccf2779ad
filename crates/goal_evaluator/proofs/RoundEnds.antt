-- How a round ends, goal by goal.
use Rattle.std.proofs.Common.{◌≡◌, Bool, true, false, ◌||◌, List, [], ◌∷◌, ◌++◌, refl, sym, ◌∙◌, ap, subst, Option, Some, None, Result, Ok, Err}
use Rattle.std.specs.Borrow.{Bor}
use Rattle.type_terms.specs.Promised.Handles.{Entry, Keeps}
use Rattle.type_terms.specs.declared.kinds.GenericArgKind.{GenericArgKind}
use Rattle.infer_table.specs.Certainties.{joined}
use Rattle.infer_table.specs.Content.{Table, Ready}
use Rattle.infer_table.specs.Unification.{TableTrees, table_trees}
use Rattle.infer_table.specs.declared.certainty.Certainty.{Certainty}
use Rattle.infer_table.specs.declared.certainty.TypingMode.{TypingMode}
use Rattle.infer_table.proofs.PairFacts.{table-kept}
use Rattle.infer_table.specs.Values.{Value, values_of}
use Rattle.infer_table.specs.declared.input.CanonicalInput.{CanonicalInput}
use Rattle.infer_table.specs.declared.response.CanonicalResponse.{CanonicalResponse}
use Rattle.goal_evaluator.specs.Lists.{Every}
use Rattle.goal_evaluator.specs.declared.goal.GoalSource.{GoalSource}
use Rattle.goal_evaluator.specs.Operations.{is_yes}
use Rattle.infer_table.specs.Responses.{ResponseHeld}
use Rattle.goal_evaluator.specs.Readings.{ResultHeld}
use Rattle.goal_evaluator.specs.Replays.{Run, ready, waits, run, onward}
use Rattle.goal_evaluator.specs.Rounds.{Round, kept, round}
use Rattle.infer_table.specs.Responses.{AnswerTrees, answer_trees}
use Rattle.goal_evaluator.specs.Context.{NestedGoal, NestedHeld}
use Rattle.goal_evaluator.specs.Evaluating.{AskedQuestion, NestedTrees, nested_trees, goals_trees, replies_trees, put_into, evaluation, values_asked}
use Rattle.goal_evaluator.specs.Steps.{RoundEnds}
use Rattle.goal_evaluator.specs.declared.error.EvalError.{EvalError}
use Rattle.goal_evaluator.specs.declared.error.EvalError.TheVariants.{NoSolution, Fault}
use Rattle.goal_evaluator.specs.declared.rounds.RoundStep.{RoundStep}
use Rattle.goal_evaluator.specs.declared.rounds.RoundStep.TheVariants as Of
use Rattle.goal_evaluator.proofs.LaterTrees.{goals-trees-later, replies-trees-later, answer-trees-later}
use Rattle.goal_evaluator.proofs.RunRounds.{run-unapplied, run-dropped, run-kept}

same-put : (t u : TableTrees) (vs ws : List Value) (a b : AnswerTrees) → t ≡ u → vs ≡ ws → a ≡ b → put_into t vs a ≡ put_into u ws b
same-put t u vs ws a b e f g = cc

-- what an answer leaves does not depend on what the interner has besides
pub put-earlier : (old new : List Entry) → Keeps old new → (t : Table) → Ready old t → (n : NestedGoal) (vs : List GenericArgKind) (r : CanonicalResponse) → ResponseHeld old r
    → values_of new vs ≡ values_asked old t n → (o : Option TableTrees) → put_into (table_trees new t) (values_of new vs) (answer_trees new r) ≡ o
    → put_into (table_trees old t) (values_asked old t n) (answer_trees old r) ≡ o
put-earlier old new k t d n vs r h v o e =
    sym (same-put _ _ _ _ _ _ (table-kept old new k t d) v (answer-trees-later old new k r h)) ∙ e

module _ (mode : TypingMode) where
  abbrev RoundRun : Type 0
  RoundRun = Run AskedQuestion (Option AnswerTrees) (Option (Round (evaluation mode)))

  module _ (es : List Entry) (T : Table) where
    -- the answer cannot be put into the table
    pub round-unapplied : (n : NestedTrees) (ns : List NestedTrees) (t : TableTrees) (before after : List NestedGoal) (a : AnswerTrees) (more : List (Option AnswerTrees)) (e : EvalError)
        → (e ≡ NoSolution → (evaluation mode).apply t n a ≡ None)
        → RoundEnds mode es T before after (run (round (evaluation mode) (n ∷ ns) t) (Some a ∷ more)) (Err e)
    round-unapplied n ns t before after a more (Fault fault) h = tt
    round-unapplied n ns t before after a more NoSolution h =
        subst (λ x. RoundEnds mode es T before after x (Err NoSolution)) (sym (run-unapplied (evaluation mode) n ns t a more (h refl))) tt

    -- ---- a goal that stays, in front of those that stay of the rest of the round
    front : (before : List NestedGoal) (m : NestedGoal) (n : NestedTrees) (rest : List NestedTrees) → nested_trees es m ≡ n → goals_trees es (before ++ m ∷ []) ++ rest ≡ goals_trees es before ++ n ∷ rest
    front [] m n rest e = ap (λ x. x ∷ rest) e
    front (b ∷ bs) m n rest e = ap (λ xs. nested_trees es b ∷ xs) (front bs m n rest e)

    module _ (before after : List NestedGoal) (m : NestedGoal) (n : NestedTrees) (a : AnswerTrees) (same : nested_trees es m ≡ n) where
      kept-fault : (r : RoundRun) (e : EvalError) → RoundEnds mode es T (before ++ m ∷ []) after r (Err e) → RoundEnds mode es T before after (onward (kept (evaluation mode) n a) r) (Err e)
      kept-fault r (Fault fault) h = tt
      kept-fault (ready None more) NoSolution h = h
      kept-fault (ready (Some o) more) NoSolution h = absurd h
      kept-fault (waits q) NoSolution h = absurd h

      kept-waits : (r : RoundRun) (input : CanonicalInput) (source : GoalSource) → RoundEnds mode es T (before ++ m ∷ []) after r (Ok (Of.Waits input source))
          → RoundEnds mode es T before after (onward (kept (evaluation mode) n a) r) (Ok (Of.Waits input source))
      kept-waits (ready o more) input source h = absurd h
      kept-waits (waits q) input source h = h

      kept-ended : (r : RoundRun) (changed more : Bool) (sure certainty : Certainty) (replies : Bor (List (Option CanonicalResponse)))
          → changed ≡ (evaluation mode).has_values a || more → sure ≡ joined a.certainty certainty
          → RoundEnds mode es T (before ++ m ∷ []) after r (Ok (Of.Ended more certainty replies))
          → RoundEnds mode es T before after (onward (kept (evaluation mode) n a) r) (Ok (Of.Ended changed sure replies))
      kept-ended (ready None left) changed more sure certainty replies e f h = absurd h
      kept-ended (waits q) changed more sure certainty replies e f h = absurd h
      kept-ended (ready (Some o) left) changed more sure certainty replies e f h = (
        record {
          table = h.0.table;
          left = h.0.left ∙ front before m n o.left same;
          changed_is = ap (λ b. (evaluation mode).has_values a || b) h.0.changed_is ∙ sym e;
          certainty_is = ap (joined a.certainty) h.0.certainty_is ∙ sym f;
        },
        h.1,
      )

    -- ---- the rest of a round, in the table with the first answer
    module _ (old mid : List Entry) (T0 T1 : Table) (n : NestedGoal) (ns before after : List NestedGoal) (r : CanonicalResponse) (rs : List (Option CanonicalResponse)) (k : Keeps old mid)
        (hn : NestedHeld old ns) (hr : Every (ResultHeld old) rs) (put : put_into (table_trees old T0) (values_asked old T0 n) (answer_trees old r) ≡ Some (table_trees mid T1)) where
      rest-later : run (round (evaluation mode) (goals_trees mid ns) (table_trees mid T1)) (replies_trees mid rs) ≡ run (round (evaluation mode) (goals_trees old ns) (table_trees mid T1)) (replies_trees old rs)
      rest-later =
          ap (λ gs. run (round (evaluation mode) gs (table_trees mid T1)) (replies_trees mid rs)) (goals-trees-later old mid k ns hn)
          ∙ ap (λ xs. run (round (evaluation mode) (goals_trees old ns) (table_trees mid T1)) xs) (replies-trees-later old mid k rs hr)

      -- a definite yes drops the goal
      pub round-dropped : (e : Result RoundStep EvalError) → is_yes (evaluation mode) (answer_trees old r) ≡ true
          → RoundEnds mode es T before after (run (round (evaluation mode) (goals_trees mid ns) (table_trees mid T1)) (replies_trees mid rs)) e
          → RoundEnds mode es T before after (run (round (evaluation mode) (goals_trees old (n ∷ ns)) (table_trees old T0)) (replies_trees old (Some r ∷ rs))) e
      round-dropped e y h =
          subst (λ x. RoundEnds mode es T before after x e)
          (rest-later ∙ sym (run-dropped (evaluation mode) (nested_trees old n) (goals_trees old ns) (table_trees old T0) (table_trees mid T1) (answer_trees old r) (replies_trees old rs) put y)) h

      module _ (m : NestedGoal) (same : nested_trees es m ≡ nested_trees old n) (y : is_yes (evaluation mode) (answer_trees old r) ≡ false) where
        whole : onward (kept (evaluation mode) (nested_trees old n) (answer_trees old r)) (run (round (evaluation mode) (goals_trees mid ns) (table_trees mid T1)) (replies_trees mid rs))
            ≡ run (round (evaluation mode) (goals_trees old (n ∷ ns)) (table_trees old T0)) (replies_trees old (Some r ∷ rs))
        whole =
            ap (onward (kept (evaluation mode) (nested_trees old n) (answer_trees old r))) rest-later
            ∙ sym (run-kept (evaluation mode) (nested_trees old n) (goals_trees old ns) (table_trees old T0) (table_trees mid T1) (answer_trees old r) (replies_trees old rs) put y)

        pub round-kept-fault : (e : EvalError) → RoundEnds mode es T (before ++ m ∷ []) after (run (round (evaluation mode) (goals_trees mid ns) (table_trees mid T1)) (replies_trees mid rs)) (Err e)
            → RoundEnds mode es T before after (run (round (evaluation mode) (goals_trees old (n ∷ ns)) (table_trees old T0)) (replies_trees old (Some r ∷ rs))) (Err e)
        round-kept-fault e h = subst (λ x. RoundEnds mode es T before after x (Err e)) whole (kept-fault before after m (nested_trees old n) (answer_trees old r) same (run (round (evaluation mode) (goals_trees mid ns) (table_trees mid T1)) (replies_trees mid rs)) e h)

        pub round-kept-waits : (input : CanonicalInput) (source : GoalSource)
            → RoundEnds mode es T (before ++ m ∷ []) after (run (round (evaluation mode) (goals_trees mid ns) (table_trees mid T1)) (replies_trees mid rs)) (Ok (Of.Waits input source))
            → RoundEnds mode es T before after (run (round (evaluation mode) (goals_trees old (n ∷ ns)) (table_trees old T0)) (replies_trees old (Some r ∷ rs))) (Ok (Of.Waits input source))
        round-kept-waits input source h =
            subst (λ x. RoundEnds mode es T before after x (Ok (Of.Waits input source))) whole (kept-waits before after m (nested_trees old n) (answer_trees old r) same (run (round (evaluation mode) (goals_trees mid ns) (table_trees mid T1)) (replies_trees mid rs)) input source h)

        pub round-kept-ended : (changed more : Bool) (sure certainty : Certainty) (replies : Bor (List (Option CanonicalResponse)))
            → changed ≡ (evaluation mode).has_values (answer_trees old r) || more → sure ≡ joined r.certainty certainty
            → RoundEnds mode es T (before ++ m ∷ []) after (run (round (evaluation mode) (goals_trees mid ns) (table_trees mid T1)) (replies_trees mid rs)) (Ok (Of.Ended more certainty replies))
            → RoundEnds mode es T before after (run (round (evaluation mode) (goals_trees old (n ∷ ns)) (table_trees old T0)) (replies_trees old (Some r ∷ rs))) (Ok (Of.Ended changed sure replies))
        round-kept-ended changed more sure certainty replies e f h =
            subst (λ x. RoundEnds mode es T before after x (Ok (Of.Ended changed sure replies))) whole
            (kept-ended before after m (nested_trees old n) (answer_trees old r) same (run (round (evaluation mode) (goals_trees mid ns) (table_trees mid T1)) (replies_trees mid rs)) changed more sure certainty replies e f h)
