-- The frames of goals in a search graph: the meaning of its contexts, inputs, results and frames.
use Rattle.std.specs.Prelude.{◌≡◌, ◌*◌, Bool, true, false, ◌&&◌, not, List, map, Option, Some, None}
use Rattle.search_graph.specs.SearchPaths.declared.path_kind.PathKind.{PathKind}
use Rattle.search_graph.specs.SearchPaths.declared.path_kind.PathKind.TheVariants.{Unknown, Coinductive}
use Rattle.search_graph.specs.declared.delegate.Request.{Request}
use Rattle.search_graph.specs.declared.delegate.Request.TheVariants.{Evaluate, EnterCandidate, FinishCandidate, IgnoreCandidate, Done}
use Rattle.search_graph.specs.declared.delegate.Reply.{Reply}
use Rattle.search_graph.specs.declared.delegate.Reply.TheVariants.{Begin, Result, Entered, Finished, Ignored}
use Rattle.search_graph.specs.Meaning.{Meaning}
use Rattle.infer_table.specs.Certainties.{is_certain}
use Rattle.goal_evaluator.specs.declared.TheConstants.{FIXPOINT_STEP_LIMIT}
use Rattle.goal_evaluator.specs.Lists.{IsAmong}
use Rattle.goal_evaluator.specs.Operations.{is_yes}
use Rattle.goal_evaluator.specs.Table.{Tables, operations}
use Rattle.goal_evaluator.specs.Law.{AgreesTo, IsInstance}
use Rattle.goal_evaluator.specs.Handler.{AnswerWithin, FollowsFrom}
use Rattle.goal_evaluator.specs.History as Frames
use Rattle.goal_evaluator.specs.Promises.{frame_of_goal}
use Rattle.goal_frames.specs.Programs.{Programs}

-- ---- requests and replies of frames and of searches
abbrev pub reply_of : {A : Type 0} → Reply A → Frames.Reply A
reply_of Begin = Frames.begin
reply_of (Result a) = Frames.evaluated a
reply_of Entered = Frames.entered
reply_of (Finished n) = Frames.finished n
reply_of Ignored = Frames.ignored

abbrev pub replies_of : {A : Type 0} → List (Reply A) → List (Frames.Reply A)
replies_of heard = map reply_of heard

-- each nested goal is a goal with a kind of step
abbrev pub request_of : {Q G A : Type 0} → (Q → G) → (Q → PathKind) → Frames.Request Q A → Request G A
request_of goal kind (Frames.evaluate q) = Evaluate (goal q) (kind q)
request_of goal kind Frames.enter_candidate = EnterCandidate
request_of goal kind Frames.finish_candidate = FinishCandidate
request_of goal kind (Frames.ignore_candidate n) = IgnoreCandidate n
request_of goal kind (Frames.returns a) = Done a

abbrev pub step_kind : Bool → PathKind
step_kind true = Coinductive
step_kind false = Unknown

-- what contexts C, inputs I, results R and frames F represent
pub record Handles (C I R F World Goal Answer : Type 0) : Type 1 where
  pub world : C → World
  -- a table of the context has as many entries as its limit allows
  pub IsFull : C → Type 0
  pub IsInput : C → I → Type 0
  pub goal_of : C → I → Goal
  pub IsResult : C → R → Type 0
  pub answer_of : C → R → Answer
  -- the frame was started for the goal and has had these replies, the newest first
  pub HasHeard : C → Goal → List (Reply Answer) → F → Type 0
  -- the rest of a context's content
  pub Held : Type 0
  pub Holds : C → Held → Type 0

module _ {Question Response : Type 0} (t : Tables Question Response) where
  -- the kind of the step to a nested goal
  abbrev pub kind_of : Question → PathKind
  kind_of q = step_kind (t.is_coinductive q)

  abbrev pub is_yes_answer : Option Response → Bool
  is_yes_answer None = false
  is_yes_answer (Some r) = is_yes (operations t) r

  -- `Maybe` without values and constraints
  abbrev pub is_ambiguous_answer : Option Response → Bool
  is_ambiguous_answer None = false
  is_ambiguous_answer (Some r) = not (is_certain (t.certainty r)) && not (t.has_values r) && not (t.has_regions r)

  module _ (p : Programs t) where
    -- a goal with its typing mode
    abbrev pub GoalInMode : Type 0
    GoalInMode = p.Mode × p.Goal

    abbrev pub goal_in : p.Mode → Question → GoalInMode
    goal_in mode q = (mode, p.goal_of q)

    -- the request of the goal's frame after these replies
    abbrev pub asks : p.World → GoalInMode → List (Reply (Option Response)) → Request GoalInMode (Option Response)
    asks w g heard = request_of (goal_in g.0) kind_of (Frames.asks (frame_of_goal t (p.handled w g.0 g.1)) (replies_of heard))

    -- each instance of the goal follows by a rule from instances of these nested goals, by terms of its own values
    abbrev pub FollowsInMode : p.World → GoalInMode → List (GoalInMode × PathKind) → Type 0
    FollowsInMode w g premises =
        (v : t.Values)
        → FollowsFrom t (p.handled w g.0 g.1)
        (IsInstance t (λ q. IsAmong (goal_in g.0 q, kind_of q) premises × (t.is_coinductive q ≡ (p.handled w g.0 g.1).coinductive)) v) v

    -- each solution of the goal agrees with the response
    abbrev pub CoversGoal : p.World → GoalInMode → Option Response → Type 0
    CoversGoal w g a =
        (x : (p.handled w g.0 g.1).World) (v : t.Values) → (p.handled w g.0 g.1).Proves x ((p.handled w g.0 g.1).goal v) → AgreesTo t a v

    -- each solution of the goal agrees with the response, whose terms are no wider than those of the goal's frame
    pub record AnswersGoal (w : p.World) (g : GoalInMode) (a : Option Response) : Type 0 where
      pub covers : CoversGoal w g a
      pub within : AnswerWithin t (p.handled w g.0 g.1).widest a

    module _ {C I R F : Type 0} (handles : Handles C I R F p.World GoalInMode (Option Response)) where
      abbrev pub meaning : Meaning C I R F
      meaning = record {
        World = p.World;
        Goal = GoalInMode;
        Answer = Option Response;
        world = handles.world;
        IsFull = handles.IsFull;
        IsInput = handles.IsInput;
        goal_of = handles.goal_of;
        IsResult = handles.IsResult;
        answer_of = handles.answer_of;
        HasHeard = handles.HasHeard;
        Held = handles.Held;
        Holds = handles.Holds;
        asks = asks;
        is_yes = is_yes_answer;
        is_ambiguous = is_ambiguous_answer;
        Follows = FollowsInMode;
        initial = λ w g k. p.initial w g.0 g.1 k;
        stack_overflow = λ w g. p.overflow w g.0 g.1;
        fixpoint_overflow = λ w g. p.overflow w g.0 g.1;
        Covers = AnswersGoal;
        -- The greatest number of nested goals of the goal's frame. The width of a response is part of what it covers.
        number_of = λ w g. FIXPOINT_STEP_LIMIT * (p.handled w g.0 g.1).number;
        number_in = λ w a. 0;
      }
