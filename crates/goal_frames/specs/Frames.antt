-- The replies and requests of frames in code.
use Rattle.std.specs.Prelude.{◌≡◌, ℕ, List, [], ◌∷◌, map, Option, option_map, Result, Ok, IfOk}
use Rattle.type_terms.specs.Promised.Handles.{Entry, Keeps}
use Rattle.infer_table.specs.declared.certainty.Certainty.{Certainty}
use Rattle.infer_table.specs.declared.certainty.TypingMode.{TypingMode}
use Rattle.infer_table.specs.declared.input.CanonicalInput.{CanonicalInput}
use Rattle.infer_table.specs.declared.response.CanonicalResponse.{CanonicalResponse}
use Rattle.infer_table.specs.Goals.{GoalHeld}
use Rattle.infer_table.specs.Inputs.{form_of}
use Rattle.infer_table.specs.Responses.{AnswerTrees}
use Rattle.search_graph.specs.declared.delegate.Reply as Replies
use Rattle.search_graph.specs.declared.delegate.Reply.TheVariants as Replied
use Rattle.search_graph.specs.declared.delegate.Request as Requests
use Rattle.search_graph.specs.declared.delegate.Request.TheVariants as Requested
use Rattle.goal_evaluator.specs.declared.candidate.CandidateSource.{CandidateSource}
use Rattle.goal_evaluator.specs.declared.candidate.Considered.{Considered}
use Rattle.goal_evaluator.specs.declared.error.EvalError.{EvalError}
use Rattle.goal_evaluator.specs.declared.resuming.CandidateStep.{CandidateStep}
use Rattle.goal_evaluator.specs.declared.resuming.CandidateStep.TheVariants.{Ask}
use Rattle.goal_evaluator.specs.Handler.{Handled}
use Rattle.goal_evaluator.specs.History.{Request, evaluate, enter_candidate, finish_candidate, ignore_candidate, returns, Reply, begin, entered, ignored, evaluated, finished, position, request, asks, CameInOrder}
use Rattle.goal_evaluator.specs.OpenCandidates.{OpenHeld, CandidateHeld}
use Rattle.goal_evaluator.specs.Promises.{frame_of_goal, Anything}
use Rattle.goal_evaluator.specs.Readings.{ResultHeld, ConsideredHeld, SpecHeld}
use Rattle.goal_evaluator.specs.Content.{NestedQuestion}
use Rattle.goal_evaluator.specs.Tables.{frame_tables}
use Rattle.goal_frames.specs.Searches.{step_kind}
use Rattle.goal_evaluator.specs.StepReadings.{result_read, shown_by}
use Rattle.goal_frames.specs.Fitting.{ResultFits, ConsideredFits, IsOver}
use Rattle.goal_frames.specs.Places.{FrameStanding, ComesTo, PositionStands, PlaceAnswers, IsBetween, IsIgnoring}
use Rattle.goal_frames.specs.declared.frame.GoalFrame.{GoalFrame}
use Rattle.goal_frames.specs.declared.frame.Place.{Place}
use Rattle.goal_frames.specs.declared.frame.Place.TheVariants as InCode

-- ---- replies and requests
abbrev pub reply_read : List Entry → Replies.Reply (Option CanonicalResponse) → Reply (Option AnswerTrees)
reply_read es Replied.Begin = begin
reply_read es (Replied.Result r) = evaluated (result_read es r)
reply_read es Replied.Entered = entered
reply_read es (Replied.Finished n) = finished n
reply_read es Replied.Ignored = ignored

-- a result's handles are of this interner, and its values are terms over its own variables
abbrev pub ReplyIsMade : List Entry → Replies.Reply (Option CanonicalResponse) → Type 0
ReplyIsMade es (Replied.Result r) = ResultHeld es r × ResultFits es r
ReplyIsMade es reply = Unit {0}

-- the request in code is this one, with nested goals in this typing mode
abbrev pub IsRequestOf : TypingMode → List Entry → Requests.Request CanonicalInput (Option CanonicalResponse) → Request NestedQuestion (Option AnswerTrees) → Type 0
IsRequestOf mode es (Requested.Evaluate input kind) (evaluate q) = (input.mode ≡ mode) × (form_of es input ≡ q.form) × (kind ≡ step_kind q.coinductive)
IsRequestOf mode es Requested.EnterCandidate enter_candidate = Unit {0}
IsRequestOf mode es Requested.FinishCandidate finish_candidate = Unit {0}
IsRequestOf mode es (Requested.IgnoreCandidate n) (ignore_candidate m) = n ≡ m
IsRequestOf mode es (Requested.Done r) (returns a) = result_read es r ≡ a
IsRequestOf mode es request other = ⊥

-- the handles of a nested goal or response are of this interner, and the response is well-formed
abbrev pub RequestHeld : List Entry → Requests.Request CanonicalInput (Option CanonicalResponse) → Type 0
RequestHeld es (Requested.Evaluate input kind) = GoalHeld es input.goal
RequestHeld es (Requested.Done r) = ResultHeld es r × ResultFits es r
RequestHeld es request = Unit {0}

-- ---- frames
abbrev pub PlaceHeld : CanonicalInput → List Entry → Place → Type 0
PlaceHeld goal es InCode.Begun = Unit {0}
PlaceHeld goal es (InCode.Entering s) = SpecHeld es s × IsOver goal.variables.items es s
PlaceHeld goal es (InCode.Inside source waiting) = OpenHeld es waiting
PlaceHeld goal es (InCode.Finishing source r) = ResultHeld es r × ResultFits es r
PlaceHeld goal es (InCode.Ignoring r ns at) = ResultHeld es r × ResultFits es r
PlaceHeld goal es InCode.Over = Unit {0}

-- the handles of the frame are of this interner
pub record FrameHeld (es : List Entry) (f : GoalFrame) : Type 0 where
  pub goal : GoalHeld es f.goal.goal
  pub considered : ConsideredHeld es f.considered.items
  pub fits : ConsideredFits es f.considered.items
  pub place : PlaceHeld f.goal es f.place

abbrev pub FrameHistory : Type 0
FrameHistory = List (Reply (Option AnswerTrees))

-- no reply has come yet, or replies came in order and led to the frame's state
abbrev pub HasCome : List Entry → Handled frame_tables → CanonicalInput → List Considered → Place → FrameHistory → Type 0
HasCome es h goal considered InCode.Begun heard = (heard ≡ []) × (considered ≡ [])
HasCome es h goal considered place heard =
    CameInOrder (Anything frame_tables h) (frame_of_goal frame_tables h) heard
    × PositionStands h es goal (map (shown_by es) considered) place (position (frame_of_goal frame_tables h) heard)

-- the frame of a goal, for which its handler means `h`, has had these replies, the newest first
pub record HasHeard (es : List Entry) (h : Handled frame_tables) (f : GoalFrame) (heard : FrameHistory) : Type 0 where
  pub held : FrameHeld es f
  pub came : HasCome es h f.goal f.considered.items f.place heard

-- the reply is one for which the frame waits
abbrev pub ReplyIsDue : List Entry → Handled frame_tables → GoalFrame → Reply (Option AnswerTrees) → Type 0
ReplyIsDue es h f reply = (heard : FrameHistory) × HasHeard es h f heard × CameInOrder (Anything frame_tables h) (frame_of_goal frame_tables h) (reply ∷ heard)

-- with this reply, the old frame becomes the new one and makes the request
abbrev pub FrameSteps : List Entry → Handled frame_tables → GoalFrame → Reply (Option AnswerTrees) → List Entry → GoalFrame → Requests.Request CanonicalInput (Option CanonicalResponse) → Type 0
FrameSteps old h before reply new after request =
    (heard : FrameHistory) → HasHeard old h before heard → CameInOrder (Anything frame_tables h) (frame_of_goal frame_tables h) (reply ∷ heard)
    → HasHeard new h after (reply ∷ heard) × IsRequestOf before.goal.mode new request (asks (frame_of_goal frame_tables h) (reply ∷ heard))

-- ---- frames in progress, at a position
-- the frame calls its handler
abbrev pub AsksHandler : List Entry → Handled frame_tables → GoalFrame → FrameStanding → Type 0
AsksHandler es h f p = IsBetween h (map (shown_by es) f.considered.items) p

-- the frame makes this request in this typing mode, and is in the state that follows
abbrev pub AsksAt : TypingMode → List Entry → Handled frame_tables → GoalFrame → Requests.Request CanonicalInput (Option CanonicalResponse) → FrameStanding → Type 0
AsksAt mode es h f q p = IsRequestOf mode es q (request p) × PositionStands h es f.goal (map (shown_by es) f.considered.items) f.place p

-- after this step of the open candidate, from this source, the new frame makes this request and is in the state that follows
abbrev pub GoesOnWith : List Entry → List Entry → Handled frame_tables → GoalFrame → CandidateSource → Result CandidateStep EvalError → GoalFrame → Requests.Request CanonicalInput (Option CanonicalResponse) → Type 0
GoesOnWith old new h before source step after q =
    (p : FrameStanding) → Keeps old new → FrameHeld old before → IfOk step (CandidateHeld new) → ComesTo h new before.goal (map (shown_by old) before.considered.items) source step p
    → FrameHeld new after × RequestHeld new q × AsksAt before.goal.mode new h after q p

-- the waiting candidate is the open one, or no candidate is open
abbrev pub IsAtStep : Result CandidateStep EvalError → Place → Type 0
IsAtStep (Ok (Ask waiting input asked_for)) place = (source : CandidateSource) × (place ≡ InCode.Inside source waiting)
IsAtStep step place = (source : CandidateSource) × (r : Option CanonicalResponse) × (place ≡ InCode.Finishing source r)

-- a frame with this result and these numbers to ignore makes this request and is in this state
abbrev pub IgnoresAt : Option CanonicalResponse → List ℕ → Requests.Request CanonicalInput (Option CanonicalResponse) → Place → Type 0
IgnoresAt answer numbers q place =
    (es : List Entry) (mode : TypingMode) (p : FrameStanding) → IsIgnoring (result_read es answer) numbers p → IsRequestOf mode es q (request p) × PlaceAnswers es place p

-- the frame's candidate, from this source, ended with a response of this certainty, or without a solution
abbrev pub IsFinishingWith : CandidateSource → Option Certainty → Place → Type 0
IsFinishingWith source certainty place = (r : Option CanonicalResponse) × (place ≡ InCode.Finishing source r) × (option_map (λ (a : CanonicalResponse). a.certainty) r ≡ certainty)
