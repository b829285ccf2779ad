-- How the rounds end, round by round.
use Rattle.std.proofs.Common.{◌≡◌, ℕ, suc, Bool, true, false, List, [], ◌∷◌, refl, sym, ◌∙◌, ap, subst, Option, Some, None, Ok, Err}
use Rattle.std.specs.Borrow.{Bor}
use Rattle.type_terms.specs.Promised.Handles.{Entry}
use Rattle.infer_table.specs.Content.{Table}
use Rattle.infer_table.specs.Unification.{TableTrees, table_trees}
use Rattle.infer_table.specs.declared.certainty.Certainty.{Certainty}
use Rattle.infer_table.specs.declared.certainty.TypingMode.{TypingMode}
use Rattle.infer_table.specs.declared.response.CanonicalResponse.{CanonicalResponse}
use Rattle.goal_evaluator.specs.Replays.{Run, ready, waits, run, onward}
use Rattle.goal_evaluator.specs.Rounds.{Round, Rounds, round, rounds, settled, next_round}
use Rattle.infer_table.specs.Responses.{AnswerTrees}
use Rattle.goal_evaluator.specs.Context.{NestedGoal}
use Rattle.goal_evaluator.specs.Evaluating.{AskedQuestion, NestedTrees, goals_trees, replies_trees, evaluation, certainty_with}
use Rattle.goal_evaluator.specs.Ends.{RunIsRefused, Awaits, EndsIn}
use Rattle.goal_evaluator.specs.Steps.{RoundEnds, RoundsEnd, SameRounds}
use Rattle.goal_evaluator.specs.declared.error.EvalError.{EvalError}
use Rattle.goal_evaluator.specs.declared.error.EvalError.TheVariants.{NoSolution, Fault}
use Rattle.goal_evaluator.specs.declared.rounds.RoundStep.TheVariants as Of
use Rattle.goal_evaluator.proofs.RunRounds.{run-rounds}

module _ (mode : TypingMode) where
  abbrev RoundRun : Type 0
  RoundRun = Run AskedQuestion (Option AnswerTrees) (Option (Round (evaluation mode)))

  abbrev RoundsRun : Type 0
  RoundsRun = Run AskedQuestion (Option AnswerTrees) (Option (Rounds (evaluation mode)))

  -- ---- after the first round, of more than `limit`
  module _ (limit : ℕ) where
    abbrev rest : RoundRun → RoundsRun
    rest r = onward (next_round (evaluation mode) (rounds (evaluation mode) limit)) r

    refused-rest : (r : RoundRun) → RunIsRefused r → RunIsRefused (rest r)
    refused-rest (ready None more) h = h
    refused-rest (ready (Some o) more) h = absurd h
    refused-rest (waits q) h = absurd h

    awaits-rest : (r : RoundRun) (q : AskedQuestion) → Awaits r q → Awaits (rest r) q
    awaits-rest (ready o more) q h = absurd h
    awaits-rest (waits p) q h = h

    settle-again : (c : Certainty) (ns ms : List NestedTrees) (t u : TableTrees) (more rs : List (Option AnswerTrees)) (b : Bool) → b ≡ true → ns ≡ ms → t ≡ u → more ≡ rs
        → run (settled (evaluation mode) (rounds (evaluation mode) limit) ns t c b) more ≡ run (rounds (evaluation mode) limit ms u) rs
    settle-again c ns ms t u more rs b eb en et em =
        ap (λ x. run (settled (evaluation mode) (rounds (evaluation mode) limit) ns t c x) more) eb
        ∙ ap (λ x. run (rounds (evaluation mode) limit x t) more) en
        ∙ ap (λ x. run (rounds (evaluation mode) limit ms x) more) et
        ∙ ap (λ x. run (rounds (evaluation mode) limit ms u) x) em

    -- values came: the next round
    again : (es : List Entry) (T : Table) (left : List NestedGoal) (r : RoundRun) (changed : Bool) (certainty : Certainty) (replies : Bor (List (Option CanonicalResponse))) → changed ≡ true
        → RoundEnds mode es T [] left r (Ok (Of.Ended changed certainty replies))
        → rest r ≡ run (rounds (evaluation mode) limit (goals_trees es left) (table_trees es T)) (replies_trees es replies.now)
    again es T left (ready None more) changed certainty replies e h = absurd h
    again es T left (waits q) changed certainty replies e h = absurd h
    again es T left (ready (Some o) more) changed certainty replies e h =
        settle-again o.certainty o.left (goals_trees es left) o.table (table_trees es T) more (replies_trees es replies.now) o.changed (h.0.changed_is ∙ e) (sym h.0.left) h.0.table h.1

    settle-last : (es : List Entry) (T : Table) (left : List NestedGoal) (c : Certainty) (more : List (Option AnswerTrees))
        → EndsIn (λ o rs. SameRounds mode es T left (certainty_with left c) o) (run (settled (evaluation mode) (rounds (evaluation mode) limit) (goals_trees es left) (table_trees es T) c false) more)
    settle-last es T [] c more = record { table = refl; left_is = refl; certainty_is = refl }
    settle-last es T (n ∷ ns) c more = record { table = refl; left_is = refl; certainty_is = refl }

    -- none came: the end
    last : (es : List Entry) (T : Table) (left : List NestedGoal) (r : RoundRun) (changed : Bool) (certainty : Certainty) (replies : Bor (List (Option CanonicalResponse))) → changed ≡ false
        → RoundEnds mode es T [] left r (Ok (Of.Ended changed certainty replies))
        → EndsIn (λ o more. SameRounds mode es T left (certainty_with left certainty) o) (rest r)
    last es T left (ready None more) changed certainty replies e h = absurd h
    last es T left (waits q) changed certainty replies e h = absurd h
    last es T left (ready (Some o) more) changed certainty replies e h =
        let P : RoundsRun → Type 0 = λ x. EndsIn (λ o rs. SameRounds mode es T left (certainty_with left certainty) o) x in
        let go : List NestedTrees → TableTrees → Certainty → Bool → RoundsRun = λ ns t c b. run (settled (evaluation mode) (rounds (evaluation mode) limit) ns t c b) more in
        let same : go (goals_trees es left) (table_trees es T) certainty false ≡ go o.left o.table o.certainty o.changed =
        sym (ap (go o.left o.table o.certainty) (h.0.changed_is ∙ e)
        ∙ ap (λ c. go o.left o.table c false) h.0.certainty_is
        ∙ ap (λ t. go o.left t certainty false) h.0.table
        ∙ ap (λ ns. go ns (table_trees es T) certainty false) (sym h.0.left)) in
        subst P same (settle-last es T left certainty more)

  module _ (limit before : ℕ) (e : limit ≡ suc before) (ns : List NestedTrees) (t : TableTrees) (rs : List (Option AnswerTrees)) where
    whole : rest before (run (round (evaluation mode) ns t) rs) ≡ run (rounds (evaluation mode) limit ns t) rs
    whole = sym (ap (λ n. run (rounds (evaluation mode) n ns t) rs) e ∙ run-rounds (evaluation mode) before ns t rs)

    -- a refused goal
    pub rounds-refused : RunIsRefused (run (round (evaluation mode) ns t) rs) → RunIsRefused (run (rounds (evaluation mode) limit ns t) rs)
    rounds-refused h = subst (λ (x : RoundsRun). RunIsRefused x) whole (refused-rest before (run (round (evaluation mode) ns t) rs) h)

    -- a refusal, or a fault
    pub rounds-fault : (es : List Entry) (T : Table) (left : List NestedGoal) (x : EvalError) → RoundEnds mode es T [] left (run (round (evaluation mode) ns t) rs) (Err x)
        → RoundsEnd mode es T (run (rounds (evaluation mode) limit ns t) rs) (Err x)
    rounds-fault es T left (Fault fault) h = tt
    rounds-fault es T left NoSolution h = rounds-refused h

    -- no reply is there
    pub rounds-waits : (q : AskedQuestion) → Awaits (run (round (evaluation mode) ns t) rs) q → Awaits (run (rounds (evaluation mode) limit ns t) rs) q
    rounds-waits q h = subst (λ (x : RoundsRun). Awaits x q) whole (awaits-rest before (run (round (evaluation mode) ns t) rs) q h)

    module _ (es : List Entry) (T : Table) (left : List NestedGoal) (changed : Bool) (certainty : Certainty) (replies : Bor (List (Option CanonicalResponse)))
        (ended : RoundEnds mode es T [] left (run (round (evaluation mode) ns t) rs) (Ok (Of.Ended changed certainty replies))) where
      pub rounds-again : changed ≡ true → run (rounds (evaluation mode) limit ns t) rs ≡ run (rounds (evaluation mode) before (goals_trees es left) (table_trees es T)) (replies_trees es replies.now)
      rounds-again c = sym whole ∙ again before es T left (run (round (evaluation mode) ns t) rs) changed certainty replies c ended

      pub rounds-last : changed ≡ false → EndsIn (λ o more. SameRounds mode es T left (certainty_with left certainty) o) (run (rounds (evaluation mode) limit ns t) rs)
      rounds-last c = subst (λ (x : RoundsRun). EndsIn (λ o more. SameRounds mode es T left (certainty_with left certainty) o) x) whole (last before es T left (run (round (evaluation mode) ns t) rs) changed certainty replies c ended)
