-- The state of a frame.
use Rattle.std.specs.Prelude.{◌≡◌, ℕ, suc, ◌+◌, List, [], ◌∷◌, ◌++◌, length, drop, Option, Result}
use Rattle.type_terms.specs.Promised.Handles.{Entry}
use Rattle.infer_table.specs.declared.canonical.CanonicalVarKind.{CanonicalVarKind}
use Rattle.infer_table.specs.declared.input.CanonicalInput.{CanonicalInput}
use Rattle.infer_table.specs.Responses.{AnswerTrees}
use Rattle.goal_evaluator.specs.declared.candidate.CandidateSource.{CandidateSource}
use Rattle.goal_evaluator.specs.declared.error.EvalError.{EvalError}
use Rattle.goal_evaluator.specs.declared.resuming.CandidateStep.{CandidateStep}
use Rattle.goal_evaluator.specs.declared.resuming.OpenCandidate.{OpenCandidate}
use Rattle.goal_evaluator.specs.declared.TheConstants.{FIXPOINT_STEP_LIMIT}
use Rattle.goal_evaluator.specs.Candidate.{Spec, Considered, consider, used_numbers, IsHistory, candidate, frame}
use Rattle.goal_evaluator.specs.Candidates.{AreOneCandidate}
use Rattle.goal_evaluator.specs.Frame.{Frame, considers, answers, Finished, numbers}
use Rattle.goal_evaluator.specs.Handler.{Handled}
use Rattle.goal_evaluator.specs.History.{Position, between, inside}
use Rattle.goal_evaluator.specs.Lists.{Every}
use Rattle.goal_evaluator.specs.Replayed.{after, IsReplayed, EndsAsReplayed}
use Rattle.goal_evaluator.specs.Script.{Script, done, ask}
use Rattle.goal_evaluator.specs.Table.{workings}
use Rattle.goal_evaluator.specs.Content.{NestedQuestion}
use Rattle.goal_evaluator.specs.Tables.{frame_tables}
use Rattle.goal_evaluator.specs.StepReadings.{ShownCandidate, Shows, spec_read, result_read}
use Rattle.goal_evaluator.specs.Trial.{SpecTrees}
use Rattle.goal_frames.specs.Fitting.{AnswerFits}
use Rattle.goal_frames.specs.declared.frame.Place.{Place}
use Rattle.goal_frames.specs.declared.frame.Place.TheVariants as InCode

abbrev pub Heard : Type 0
Heard = List (Finished NestedQuestion (Option AnswerTrees))

abbrev pub FrameStanding : Type 0
FrameStanding = Position NestedQuestion (Option AnswerTrees)

-- the frame has its result, and candidates with these numbers have to be ignored
pub record IsIgnoring (a : Option AnswerTrees) (ns : List ℕ) (p : FrameStanding) : Type 0 where
  pub heard : Heard
  pub gone : List ℕ
  pub at : p ≡ between heard gone (answers a ns)

abbrev pub PlaceAnswers : List Entry → Place → FrameStanding → Type 0
PlaceAnswers es (InCode.Ignoring r ns at) p = IsIgnoring (result_read es r) (drop at ns.items) p
PlaceAnswers es InCode.Over p = (a : Option AnswerTrees) × IsIgnoring a [] p
PlaceAnswers es place p = ⊥

-- the results of these nested goals, given with the newest first, in the order in which they came
abbrev pub answers_in : List (NestedQuestion × Option AnswerTrees) → List (Option AnswerTrees)
answers_in [] = []
answers_in (t ∷ told) = answers_in told ++ t.1 ∷ []

module _ (h : Handled frame_tables) where
  abbrev pub candidate_of : Spec (workings frame_tables) → Script NestedQuestion (Option AnswerTrees) (Option AnswerTrees)
  candidate_of s = candidate (workings frame_tables) FIXPOINT_STEP_LIMIT h.begin s

  abbrev pub frame_with : ℕ → List (Considered (workings frame_tables)) → Frame NestedQuestion (Option AnswerTrees)
  frame_with fuel seen = frame (workings frame_tables) FIXPOINT_STEP_LIMIT h.begin h.next fuel seen

  -- a history of the handler that shows these candidates, and the greatest number of further ones
  pub record Past (xs : List ShownCandidate) : Type 0 where
    pub seen : List (Considered (workings frame_tables))
    pub shows : Shows xs seen
    pub history : IsHistory (workings frame_tables) h.next seen
    pub fuel : ℕ
    pub left : fuel + length seen ≡ h.candidates
    pub heard : Heard
    pub numbers_are : numbers heard ≡ used_numbers (workings frame_tables) seen

  -- the frame calls its handler
  pub record IsBetween (xs : List ShownCandidate) (p : FrameStanding) : Type 0 where
    pub past : Past xs
    pub gone : List ℕ
    pub at : p ≡ between past.heard gone (frame_with (suc past.fuel) past.seen)

  -- the handler requests this candidate
  pub record IsNextCandidate (xs : List ShownCandidate) (s : Spec (workings frame_tables)) : Type 0 where
    pub past : Past xs
    pub is : h.next past.seen ≡ consider s

  -- then it continues with the candidate's result and number
  abbrev pub with_result : {xs : List ShownCandidate} → {s : Spec (workings frame_tables)} → IsNextCandidate xs s → Option AnswerTrees → ℕ → Frame NestedQuestion (Option AnswerTrees)
  with_result {s = s} n a m = frame_with n.past.fuel (record { spec = s; response = a; number = m } ∷ n.past.seen)

  pub record IsEntering (xs : List ShownCandidate) (s : Spec (workings frame_tables)) (p : FrameStanding) : Type 0 where
    pub next : IsNextCandidate xs s
    pub gone : List ℕ
    pub at : p ≡ between next.past.heard gone (considers (candidate_of s) (with_result next))

  pub record IsInside (xs : List ShownCandidate) (s : Spec (workings frame_tables)) (replies : List (Option AnswerTrees)) (p : FrameStanding) : Type 0 where
    pub next : IsNextCandidate xs s
    pub told : List (NestedQuestion × Option AnswerTrees)
    pub replies_are : answers_in told ≡ replies
    pub at : p ≡ inside next.past.heard told (after (candidate_of s) replies) (with_result next)

  -- and it waits for a nested goal
  pub record WaitsAtQuestion (xs : List ShownCandidate) (s : Spec (workings frame_tables)) (replies : List (Option AnswerTrees)) (p : FrameStanding) : Type 0 where
    pub inside : IsInside xs s replies p
    pub question : NestedQuestion
    pub answered : Option AnswerTrees → Script NestedQuestion (Option AnswerTrees) (Option AnswerTrees)
    pub waits : after (candidate_of s) replies ≡ ask question answered

  pub record IsFinishing (xs : List ShownCandidate) (source : CandidateSource) (a : Option AnswerTrees) (p : FrameStanding) : Type 0 where
    pub spec : Spec (workings frame_tables)
    pub next : IsNextCandidate xs spec
    pub source_is : spec.source ≡ source
    pub told : List (NestedQuestion × Option AnswerTrees)
    pub at : p ≡ inside next.past.heard told (done a) (with_result next)

  -- A candidate of a goal with variables of these kinds, from this source, with replies to its nested goals: in a frame, and in
  -- an evaluation.
  pub record Opened (kinds : List CanonicalVarKind) (source : CandidateSource) : Type 0 where
    pub spec : Spec (workings frame_tables)
    pub source_is : spec.source ≡ source
    pub evaluated : SpecTrees
    pub one : AreOneCandidate h.coinductive kinds spec evaluated
    pub replies : List (Option AnswerTrees)
    pub fit : Every AnswerFits replies

  module _ (es : List Entry) (goal : CanonicalInput) (xs : List ShownCandidate) where
    -- the open candidate waits where it waits after the replies to its nested goals
    pub record IsWaiting (source : CandidateSource) (waiting : OpenCandidate) (p : FrameStanding) : Type 0 where
      pub opened : Opened goal.variables.items source
      pub replayed : IsReplayed goal.mode goal.variables.items opened.evaluated es opened.replies waiting
      pub asking : WaitsAtQuestion xs opened.spec opened.replies p

    -- it has this result, which is that of its evaluation with these replies
    pub record ComesTo (source : CandidateSource) (step : Result CandidateStep EvalError) (p : FrameStanding) : Type 0 where
      pub opened : Opened goal.variables.items source
      pub ends : EndsAsReplayed goal.mode goal.variables.items opened.evaluated es opened.replies step
      pub inside : IsInside xs opened.spec opened.replies p

    -- the position of a started frame is in this state, after these candidates
    abbrev pub PositionStands : Place → FrameStanding → Type 0
    PositionStands (InCode.Entering s) p = IsEntering xs (spec_read es h.coinductive s) p
    PositionStands (InCode.Inside source waiting) p = IsWaiting source waiting p
    PositionStands (InCode.Finishing source r) p = IsFinishing xs source (result_read es r) p
    PositionStands place p = PlaceAnswers es place p
