-- How a candidate's evaluation ends.
use Rattle.std.proofs.Common.{◌≡◌, List, map, refl, ap, sym, ◌∙◌, subst, Option, Some, None, Result, Ok, Err}
use Rattle.type_terms.specs.Promised.Handles.{Entry}
use Rattle.infer_table.specs.Unification.{TableTrees, table_trees}
use Rattle.infer_table.specs.declared.certainty.Certainty.{Certainty}
use Rattle.infer_table.specs.declared.certainty.TypingMode.{TypingMode}
use Rattle.infer_table.specs.Certainties.{joined}
use Rattle.infer_table.specs.Values.{values_of}
use Rattle.infer_table.specs.declared.response.CanonicalResponse.{CanonicalResponse}
use Rattle.infer_table.specs.Responses.{AnswerTrees, answer_trees}
use Rattle.goal_evaluator.specs.Replays.{Run, ready, waits, run, onward}
use Rattle.goal_evaluator.specs.Rounds.{Rounds, rounds}
use Rattle.goal_evaluator.specs.declared.TheConstants.{FIXPOINT_STEP_LIMIT}
use Rattle.goal_evaluator.proofs.Replays.{run-followed}
use Rattle.goal_evaluator.specs.declared.context.EvalStep.{EvalStep}
use Rattle.goal_evaluator.specs.declared.context.EvalStep.TheVariants.{Ready, Ask}
use Rattle.goal_evaluator.specs.declared.error.EvalError.{EvalError}
use Rattle.goal_evaluator.specs.declared.error.EvalError.TheVariants.{NoSolution, Fault}
use Rattle.goal_evaluator.specs.Context.{Context}
use Rattle.goal_evaluator.specs.Ends.{RunIsRefused, Awaits, EndsIn, ContextIsAnswered, AnswerEnds}
use Rattle.goal_evaluator.specs.Evaluating.{AskedQuestion, NestedTrees, evaluation, question_of, goals_trees, replies_trees}
use Rattle.goal_evaluator.proofs.OwnAnswers.{same-answer}
use Rattle.goal_evaluator.specs.Frames.{FrameTrees, begun, fresh, equate, nested_filled}
use Rattle.goal_evaluator.specs.Trial.{SpecTrees, answered, asked_in_rounds, equated, candidate}
use Rattle.goal_evaluator.specs.TrialEnds.{IsTried, CandidateEnds}
use Rattle.goal_evaluator.specs.Script.{done}
use Rattle.infer_table.specs.declared.canonical.CanonicalVarKind.{CanonicalVarKind}

module _ (mode : TypingMode) (es : List Entry) (old new : Context) (t : FrameTrees) (c : Certainty) (kinds : old.variables ≡ t.kinds) (own : values_of es old.values ≡ t.own) where
  abbrev RoundsRun : Type 0
  RoundsRun = Run AskedQuestion (Option AnswerTrees) (Option (Rounds (evaluation mode)))

  refused-so : (r : RoundsRun) → RunIsRefused r → RunIsRefused (onward (answered mode t c) r)
  refused-so (ready None more) h = tt
  refused-so (ready (Some o) more) h = absurd h
  refused-so (waits q) h = absurd h

  waits-so : (r : RoundsRun) (q : AskedQuestion) → Awaits r q → Awaits (onward (answered mode t c) r) q
  waits-so (ready o more) q h = absurd h
  waits-so (waits p) q h = h

  ready-so : (answer : CanonicalResponse) (r : RoundsRun) → EndsIn (λ o more. ContextIsAnswered mode es old new c answer o) r
      → EndsIn (λ a more. answer_trees es answer ≡ a) (onward (answered mode t c) r)
  ready-so answer (ready None more) h = absurd h
  ready-so answer (ready (Some o) more) h = h.is ∙ same-answer _ _ _ _ o.table o.table (joined c o.certainty) (joined c o.certainty) kinds own refl refl
  ready-so answer (waits q) h = absurd h

  -- as its rounds end
  ends-so : (r : RoundsRun) (x : Result (EvalStep CanonicalResponse) EvalError) → AnswerEnds mode es old new c r x → CandidateEnds es (onward (answered mode t c) r) x
  ends-so r (Err (Fault fault)) h = tt
  ends-so r (Err NoSolution) h = refused-so r h.0
  ends-so r (Ok (Ask input source)) h = waits-so r (question_of es input source) h.0
  ends-so r (Ok (Ready answer)) h = ready-so answer r h

  pub asked-ends : (ns goals : List NestedTrees) (rs replies : List (Option AnswerTrees)) (table : TableTrees) (x : Result (EvalStep CanonicalResponse) EvalError)
      → goals ≡ map (nested_filled t.values) ns → table ≡ t.table → replies ≡ rs
      → AnswerEnds mode es old new c (run (rounds (evaluation mode) FIXPOINT_STEP_LIMIT goals table) replies) x
      → CandidateEnds es (run (asked_in_rounds mode ns c t) rs) x
  asked-ends ns goals rs replies table x e f g h =
      let there = subst (λ z. AnswerEnds mode es old new c (run (rounds (evaluation mode) FIXPOINT_STEP_LIMIT (map (nested_filled t.values) ns) t.table) z) x) g
      (subst (λ (z : TableTrees). AnswerEnds mode es old new c (run (rounds (evaluation mode) FIXPOINT_STEP_LIMIT (map (nested_filled t.values) ns) z) replies) x) f
      (subst (λ z. AnswerEnds mode es old new c (run (rounds (evaluation mode) FIXPOINT_STEP_LIMIT z table) replies) x) e h)) in
      subst (λ z. CandidateEnds es z x) (sym (run-followed (answered mode t c) (rounds (evaluation mode) FIXPOINT_STEP_LIMIT (map (nested_filled t.values) ns) t.table) rs))
      (ends-so (run (rounds (evaluation mode) FIXPOINT_STEP_LIMIT (map (nested_filled t.values) ns) t.table) rs) x there)

-- ---- the nested goals
module _ (es1 es2 : List Entry) (mid after : Context) (t : FrameTrees) (c : Certainty) (kinds : mid.variables ≡ t.kinds) (own : values_of es2 mid.values ≡ t.own) where
  -- a context with the goals and the replies, and how it ends
  pub nested-ends : (mode : TypingMode) (ns : List NestedTrees) (rs : List (Option AnswerTrees)) (x : Result (EvalStep CanonicalResponse) EvalError)
      → mid.mode ≡ mode → goals_trees es1 mid.nested ≡ map (nested_filled t.values) ns → table_trees es1 mid.table ≡ t.table → replies_trees es1 mid.replies ≡ rs
      → AnswerEnds mid.mode es2 mid after c (run (rounds (evaluation mid.mode) FIXPOINT_STEP_LIMIT (goals_trees es1 mid.nested) (table_trees es1 mid.table)) (replies_trees es1 mid.replies)) x
      → CandidateEnds es2 (run (asked_in_rounds mode ns c t) rs) x
  nested-ends mode ns rs x e f g h r =
      subst (λ (m : TypingMode). CandidateEnds es2 (run (asked_in_rounds m ns c t) rs) x) e
      (asked-ends mid.mode es2 mid after t c kinds own ns (goals_trees es1 mid.nested) rs (replies_trees es1 mid.replies) (table_trees es1 mid.table) x f g h r)

-- ---- before the nested goals
module _ (mode : TypingMode) (kinds : List CanonicalVarKind) (s : SpecTrees) where
  -- an equation is refused
  pub script-refused : equate (fresh (begun kinds) s.kinds) s.equations ≡ None → candidate mode (begun kinds) s ≡ done None
  script-refused e = ap (equated mode s) e

  -- all hold
  pub script-tried : (t : FrameTrees) → IsTried kinds s t → candidate mode (begun kinds) s ≡ asked_in_rounds mode s.nested s.certainty t
  script-tried t h = ap (equated mode s) h.holds ∙ ap (λ (z : FrameTrees). asked_in_rounds mode s.nested s.certainty z) (sym h.is)

  pub trial-refused : (es : List Entry) (rs : List (Option AnswerTrees)) (e : EvalError) → (e ≡ NoSolution → equate (fresh (begun kinds) s.kinds) s.equations ≡ None)
      → CandidateEnds es (run (candidate mode (begun kinds) s) rs) (Err e)
  trial-refused es rs (Fault fault) h = tt
  trial-refused es rs NoSolution h = subst (λ c. CandidateEnds es (run c rs) (Err NoSolution)) (sym (script-refused (h refl))) tt
