-- How candidates begin, and that a waiting candidate is where its evaluation anew would be.
use Rattle.std.proofs.Common.{◌≡◌, false, List, [], ◌∷◌, ◌++◌, map, Option, Some, None, Result, Ok, Err, refl, sym, ◌∙◌, ap, subst}
use Rattle.type_terms.specs.Promised.Handles.{Entry, Keeps}
use Rattle.infer_table.specs.Unification.{table_trees}
use Rattle.infer_table.specs.Values.{values_of}
use Rattle.infer_table.specs.declared.canonical.CanonicalVarKind.{CanonicalVarKind}
use Rattle.infer_table.specs.declared.certainty.Certainty.TheVariants.{Yes}
use Rattle.infer_table.specs.declared.goal.Goal.{Goal}
use Rattle.goal_evaluator.specs.declared.TheConstants.{FIXPOINT_STEP_LIMIT}
use Rattle.goal_evaluator.specs.declared.goal.GoalSource.{GoalSource}
use Rattle.goal_evaluator.specs.declared.resuming.Evaluation.{Evaluation}
use Rattle.goal_evaluator.specs.declared.resuming.OpenRound.{OpenRound}
use Rattle.goal_evaluator.specs.OpenRounds.{rest_of_round}
use Rattle.infer_table.specs.Responses.{AnswerTrees, answer_trees}
use Rattle.goal_evaluator.specs.Ends.{RunIsRefused, Awaits, EndsIn}
use Rattle.goal_evaluator.specs.Replays.{ready, waits, run}
use Rattle.goal_evaluator.specs.declared.error.EvalError.{EvalError}
use Rattle.goal_evaluator.specs.declared.error.EvalError.TheVariants.{NoSolution, Fault}
use Rattle.goal_evaluator.specs.declared.resuming.CandidateStep.{CandidateStep}
use Rattle.goal_evaluator.specs.declared.resuming.CandidateStep.TheVariants.{Ready as IsReady, Ask}
use Rattle.infer_table.specs.declared.certainty.TypingMode.{TypingMode}
use Rattle.infer_table.specs.declared.certainty.Certainty.{Certainty}
use Rattle.goal_evaluator.specs.declared.resuming.OpenCandidate.{OpenCandidate}
use Rattle.goal_evaluator.specs.Evaluating.{NestedTrees, question_of, evaluation}
use Rattle.goal_evaluator.specs.Frames.{FrameTrees, begun, fresh, equate, nested_filled}
use Rattle.goal_evaluator.specs.Rounds.{Rounds, rounds}
use Rattle.goal_evaluator.specs.Script.{Script, done, ask, followed}
use Rattle.goal_evaluator.specs.Trial.{SpecTrees, premises_trees, answered, asked_in_rounds, candidate}
use Rattle.goal_evaluator.specs.OpenCandidates.{CandidateAsking, finished, rest_script, rounds_script, after_reply, StandsAt, OpenHeld}
use Rattle.goal_evaluator.specs.Replayed.{after, IsReplayed, EndsAsReplayed, ResumingReplays, BeginningReplays}
use Rattle.goal_evaluator.proofs.Ending.{script-refused}
use Rattle.goal_evaluator.proofs.OpenCandidates.{after-later}
use Rattle.goal_evaluator.proofs.OpenRounds.{followed-alike, rounds-go-on}
use Rattle.goal_evaluator.proofs.Basics.{after-none}

-- ---- replies
after-more : {Q A X : Type 0} (s : Script Q A X) (replies : List A) (a : A) → after s (replies ++ a ∷ []) ≡ after (after s replies) (a ∷ [])
after-more (done x) replies a = refl
after-more (ask q k) [] a = refl
after-more (ask q k) (b ∷ replies) a = after-more (k b) replies a

-- ---- beginnings
one-end : (mode : TypingMode) (t : FrameTrees) (c : Certainty) (o : Option (Rounds (evaluation mode))) → answered mode t c o ≡ finished mode t.kinds t.own c o
one-end mode t c None = refl
one-end mode t c (Some o) = refl

-- ---- a script after answers, and its run over them
run-after-ask : {Q A X : Type 0} (s : Script Q A X) (replies : List A) (q : Q) (k : A → Script Q A X) → after s replies ≡ ask q k → run s replies ≡ waits q
run-after-ask (done x) replies q k e = absurd (cc)
run-after-ask (ask p l) [] q k e = ap waits (cc)
run-after-ask (ask p l) (a ∷ replies) q k e = run-after-ask (l a) replies q k e

run-after-done : {Q A X : Type 0} (s : Script Q A X) (replies : List A) (x : X) → after s replies ≡ done x → (more : List A) × (run s replies ≡ ready x more)
run-after-done (done y) replies x e = (replies, ap (λ z. ready z replies) (cc))
run-after-done (ask p l) [] x e = absurd (cc)
run-after-done (ask p l) (a ∷ replies) x e = run-after-done (l a) replies x e

module _ (mode : TypingMode) (kinds : List CanonicalVarKind) (s : SpecTrees) where
  abbrev whole : CandidateAsking
  whole = candidate mode (begun kinds) s

  as-replayed : (es : List Entry) (replies : List (Option AnswerTrees)) (result : Result CandidateStep EvalError) → StandsAt es (after whole replies) result
      → EndsAsReplayed mode kinds s es replies result
  as-replayed es replies (Err (Fault fault)) h = tt
  as-replayed es replies (Err NoSolution) h =
      let there = run-after-done whole replies None h in subst RunIsRefused (sym there.1) tt
  as-replayed es replies (Ok (IsReady answer)) h =
      let there = run-after-done whole replies (Some (answer_trees es answer)) h in subst (EndsIn (λ a more. answer_trees es answer ≡ a)) (sym there.1) refl
  as-replayed es replies (Ok (Ask waiting input source)) h = (
    subst (λ r. Awaits r (question_of es input source)) (sym (run-after-ask whole replies (question_of es input source) (after_reply es waiting) h)) refl,
    record { question = question_of es input source; waits = h },
  )

pub resuming-replays : ResumingReplays
resuming-replays mode kinds s old new replies o a result w h =
    let on = after-more (candidate mode (begun kinds) s) replies a ∙ ap (λ z. after z (a ∷ [])) w.waits ∙ after-none (after_reply old o a) in
    as-replayed mode kinds s new (replies ++ a ∷ []) result (subst (λ z. StandsAt new z result) (sym on) h)

pub beginning-replays : BeginningReplays
beginning-replays mode kinds s es result h = as-replayed mode kinds s es [] result (subst (λ z. StandsAt es z result) (sym (after-none (candidate mode (begun kinds) s))) h)

-- what waits stays so while the interner grows
pub replayed-later : (mode : TypingMode) (kinds : List CanonicalVarKind) (s : SpecTrees) (old new : List Entry) (k : Keeps old new) (replies : List (Option AnswerTrees)) (o : OpenCandidate) → OpenHeld old o
    → IsReplayed mode kinds s old replies o → IsReplayed mode kinds s new replies o
replayed-later mode kinds s old new k replies o h r = record {
  question = r.question;
  waits = r.waits ∙ ap (ask r.question) (λ i a. sym (after-later old new k o h a) i);
}

-- where all rounds are still to come
pub rounds-begin : (es : List Entry) (e : Evaluation) (r : OpenRound) → r.left.items ≡ [] → r.changed ≡ false → r.certainty ≡ Yes → (goals : List (GoalSource × Goal))
    → rounds_script es e goals ≡ rest_script es e 7 r goals
rounds-begin es e r none-left unchanged sure goals =
    ap (followed (finished e.mode e.variables.items (values_of es e.own.items) e.certainty))
    ((rounds-go-on (evaluation e.mode)).begins 7 (premises_trees es goals) (table_trees es e.table)
    ∙ λ i. rest_of_round (evaluation e.mode) (record { limit = 7; left = premises_trees es (sym none-left i); changed = sym unchanged i; certainty = sym sure i }) (premises_trees es goals) (table_trees es e.table))

-- an equation is refused
pub begin-refused : (mode : TypingMode) (kinds : List CanonicalVarKind) (s : SpecTrees) (es : List Entry) (e : EvalError) → (e ≡ NoSolution → equate (fresh (begun kinds) s.kinds) s.equations ≡ None)
    → StandsAt es (candidate mode (begun kinds) s) (Err e)
begin-refused mode kinds s es (Fault fault) h = tt
begin-refused mode kinds s es NoSolution h = script-refused mode kinds s (h refl)

-- the nested goals, with the values put in
pub nested-begin : (es : List Entry) (t : FrameTrees) (ns : List NestedTrees) (e : Evaluation) (goals : List (GoalSource × Goal))
    → e.variables.items ≡ t.kinds → values_of es e.own.items ≡ t.own → table_trees es e.table ≡ t.table → premises_trees es goals ≡ map (nested_filled t.values) ns
    → rounds_script es e goals ≡ asked_in_rounds e.mode ns e.certainty t
nested-begin es t ns e goals a b d f =
    (λ i. followed (finished e.mode (a i) (b i) e.certainty) (rounds (evaluation e.mode) FIXPOINT_STEP_LIMIT (f i) (d i)))
    ∙ sym (followed-alike (answered e.mode t e.certainty) (finished e.mode t.kinds t.own e.certainty) (one-end e.mode t e.certainty) (rounds (evaluation e.mode) FIXPOINT_STEP_LIMIT (map (nested_filled t.values) ns) t.table))
