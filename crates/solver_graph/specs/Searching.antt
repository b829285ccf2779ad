-- The meaning of the solver's contexts, numbers and frames for a search.
use Rattle.std.specs.Prelude.{◌≡◌, ℕ, List, Option, Some, slice_get}
use Rattle.type_terms.specs.Promised.Handles.{Entry}
use Rattle.search_graph.specs.declared.delegate.Reply.{Reply}
use Rattle.search_graph.specs.declared.delegate.Reply.TheVariants as Replied
use Rattle.search_graph.specs.Meaning.{Meaning, AreReplies}
use Rattle.infer_table.specs.Inputs.{form_of}
use Rattle.infer_table.specs.Responses.{AnswerTrees}
use Rattle.goal_evaluator.specs.Lists.{Every}
use Rattle.goal_evaluator.specs.Tables.{frame_tables}
use Rattle.goal_frames.specs.Programs.{Programs}
use Rattle.goal_frames.specs.Searches.{Handles, replies_of, meaning}
use Rattle.goal_frames.specs.Stores.{limit_of}
use Rattle.goal_frames.specs.declared.store.InputId.{InputId}
use Rattle.goal_frames.specs.declared.store.ResponseId.{ResponseId}
use Rattle.goal_frames.specs.declared.frame.GoalFrame.{GoalFrame}
use Rattle.goal_frames.specs.Frames as Frames
use Rattle.goal_frames.specs.Meanings.{Goals, HandlerMeaning, StayNotes}
use Rattle.goal_frames.specs.HandlerPrograms.{programs_of}
use Rattle.goal_frames.specs.Steps as Steps
use Rattle.solver_graph.specs.declared.context.SolverCx.{SolverCx}
use Rattle.solver_graph.specs.Contexts.{Asked, entries_of, goal_of, answer_of, IsReady, IsInput, ResponseIsMade, IsKeptAnswer}
use Rattle.solver_graph.specs.Shortages.{ContextIsFull}

-- without any requirement on the results
abbrev pub AnyAnswer : Asked → Option AnswerTrees → Type 0
AnyAnswer g a = Unit {0}

-- a result among the replies satisfies P
abbrev pub RepliedResultIs : (Option AnswerTrees → Type 0) → Reply (Option AnswerTrees) → Type 0
RepliedResultIs P (Replied.Result a) = P a
RepliedResultIs P reply = Unit {0}

module _ (goals : Goals) where
  abbrev pub programs : Programs frame_tables
  programs = programs_of goals

  -- A search whose context is the handler's declarations. Its goals and responses represent themselves.
  abbrev pub bare_handles : Handles goals.World Asked (Option AnswerTrees) (Unit {0}) goals.World Asked (Option AnswerTrees)
  bare_handles = record {
    world = λ w. w;
    IsFull = λ w. ⊥;
    IsInput = λ w g. Unit {0};
    goal_of = λ w g. g;
    IsResult = λ w a. Unit {0};
    answer_of = λ w a. a;
    HasHeard = λ w g heard f. Unit {0};
    Held = Unit {0};
    Holds = λ w x. Unit {0};
  }

  abbrev pub bare : Meaning goals.World Asked (Option AnswerTrees) (Unit {0})
  bare = meaning frame_tables programs bare_handles

-- What does not change in a context: the interner's terms with their numbers, and the limits of the interner and of the store.
pub data Lasting : Type 0 where
  of_term : ℕ → Entry → Lasting
  of_limits : ℕ → ℕ → Lasting

abbrev pub HasLasting : {Handler : Type 0} → SolverCx Handler → Lasting → Type 0
HasLasting c (of_term i e) = slice_get (entries_of c) i ≡ Some e
HasLasting c (of_limits terms kept) = (c.interner.limit ≡ terms) × (limit_of c.store ≡ kept)

module _ {Handler : Type 0} (m : HandlerMeaning Handler) where
  -- the declarations of the context's handler
  abbrev pub world_in : SolverCx Handler → m.goals.World
  world_in c = m.world c.handler (entries_of c)

  -- the frame is the goal's, in its typing mode, and has had these replies, each of which was due, the newest first
  pub record FrameHasHeard (c : SolverCx Handler) (g : Asked) (heard : List (Reply (Option AnswerTrees))) (f : GoalFrame) : Type 0 where
    pub ready : IsReady m.IsReady c
    pub mode : f.goal.mode ≡ g.0
    pub form : form_of (entries_of c) f.goal ≡ g.1
    -- the goal is stored, and so is each result among the replies
    pub kept : (i : InputId) × IsInput m.IsReady c i × (goal_of c i ≡ g)
    pub replies : Every (RepliedResultIs (IsKeptAnswer m.IsReady c)) heard
    pub due : AreReplies (bare m.goals) AnyAnswer (world_in c) g heard
    pub frame : Frames.HasHeard (entries_of c) (m.goals.handled (world_in c) g.0 g.1) f (replies_of heard)
    pub notes : StayNotes m c.handler (entries_of c) f.notes.items

  abbrev pub handles : Handles (SolverCx Handler) InputId (Option ResponseId) GoalFrame m.goals.World Asked (Option AnswerTrees)
  handles = record {
    world = world_in;
    IsFull = ContextIsFull;
    IsInput = IsInput m.IsReady;
    goal_of = goal_of;
    IsResult = ResponseIsMade m.IsReady;
    answer_of = answer_of;
    HasHeard = FrameHasHeard;
    Held = Lasting;
    Holds = HasLasting;
  }

  abbrev pub solver_meaning : Meaning (SolverCx Handler) InputId (Option ResponseId) GoalFrame
  solver_meaning = meaning frame_tables (programs m.goals) handles

  -- the greatest number of steps of a frame
  abbrev pub steps_left : SolverCx Handler → GoalFrame → ℕ
  steps_left c f = Steps.steps_left (m.goals.handled (world_in c) f.goal.mode (form_of (entries_of c) f.goal)) f
