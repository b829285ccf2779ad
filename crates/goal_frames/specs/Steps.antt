-- The number of steps that a frame can still take, by its handler's meaning for its goal.
use Rattle.std.specs.Prelude.{ℕ, suc, ◌+◌, ◌-◌, ◌*◌, ◌<◌, ◌≤◌, length, List, Option}
use Rattle.type_terms.specs.Promised.Handles.{Entry}
use Rattle.infer_table.specs.declared.input.CanonicalInput.{CanonicalInput}
use Rattle.infer_table.specs.declared.response.CanonicalResponse.{CanonicalResponse}
use Rattle.infer_table.specs.Responses.{AnswerTrees}
use Rattle.search_graph.specs.declared.delegate.Request.{Request}
use Rattle.goal_evaluator.specs.declared.TheConstants.{FIXPOINT_STEP_LIMIT}
use Rattle.goal_evaluator.specs.Handler.{Handled}
use Rattle.goal_evaluator.specs.History.{Reply}
use Rattle.goal_evaluator.specs.OpenCandidates.{questions_left}
use Rattle.goal_evaluator.specs.Tables.{frame_tables}
use Rattle.goal_frames.specs.Frames.{ReplyIsDue, FrameSteps}
use Rattle.goal_frames.specs.declared.frame.GoalFrame.{GoalFrame}
use Rattle.goal_frames.specs.declared.frame.Place.{Place}
use Rattle.goal_frames.specs.declared.frame.Place.TheVariants as InCode

-- A candidate that is entered requests at most as many responses as all rounds have nested goals. A resumed one can request fewer
-- than before.
abbrev pub AsksFewer : Place → Place → Type 0
AsksFewer (InCode.Entering s) (InCode.Inside source waiting) = questions_left waiting ≤ FIXPOINT_STEP_LIMIT * length s.nested_goals.items
AsksFewer (InCode.Inside source before) (InCode.Inside other waiting) = questions_left waiting < questions_left before
AsksFewer before place = Unit {0}

module _ (h : Handled frame_tables) where
  -- the greatest number of nested goals of a frame
  abbrev pub most_questions : ℕ
  most_questions = FIXPOINT_STEP_LIMIT * h.number

  -- After `considered` finished candidates. Each further candidate is entered, gets its replies and is finished, and each may be
  -- ignored.
  abbrev pub steps_after : ℕ → ℕ
  steps_after considered = (h.candidates - considered) * (most_questions + 2) + h.candidates

  abbrev pub steps_at : ℕ → Place → ℕ
  steps_at considered InCode.Begun = suc (steps_after considered)
  steps_at considered (InCode.Entering s) = steps_after considered
  steps_at considered (InCode.Inside source waiting) = questions_left waiting + suc (steps_after (suc considered))
  steps_at considered (InCode.Finishing source r) = suc (steps_after (suc considered))
  steps_at considered (InCode.Ignoring r numbers at) = length numbers.items - at
  steps_at considered InCode.Over = 0

  -- the greatest number of steps that the frame can still take
  abbrev pub steps_left : GoalFrame → ℕ
  steps_left f = steps_at (length f.considered.items) f.place

  -- each step decreases it, as the open candidate can request fewer responses
  abbrev pub StepsFall : Type 0
  StepsFall =
      (old new : List Entry) (before after : GoalFrame) (reply : Reply (Option AnswerTrees)) (q : Request CanonicalInput (Option CanonicalResponse))
      → ReplyIsDue old h before reply → FrameSteps old h before reply new after q → AsksFewer before.place after.place → steps_left after < steps_left before
