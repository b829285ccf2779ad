-- What is proved of frames, for every lawful handler over every lawful table. A history is the list of replies to a frame's
-- requests, the newest first.
use Rattle.std.specs.Prelude.{◌≡◌, ℕ, suc, ◌*◌, ◌≤◌, ◌<◌, Bool, List, [], Option}
use Rattle.goal_evaluator.specs.declared.TheConstants.{FIXPOINT_STEP_LIMIT}
use Rattle.goal_evaluator.specs.Lists.{IsAmong, IsNoneOf}
use Rattle.goal_evaluator.specs.Table.{Tables, workings}
use Rattle.goal_evaluator.specs.Frame.{Frame, numbers}
use Rattle.goal_evaluator.specs.Candidate.{frame}
use Rattle.goal_evaluator.specs.Law.{IsYes, Counts, IsInstance, AgreesTo, AnswerCovers}
use Rattle.goal_evaluator.specs.Handler.{Handled, AnswerWithin, FollowsFrom}
use Rattle.goal_evaluator.specs.Merge.{TellsResponsesApart, IsTest, merge_or_flounder, IsMergeOfResponses}
use Rattle.goal_evaluator.specs.History.{Request, evaluate, ignore_candidate, returns, Reply, asks, CameInOrder, finished_in, ignored_in, results, others}

module _ {Question Response : Type 0} (t : Tables Question Response) (h : Handled t) where
  abbrev pub frame_of_goal : Frame Question (Option Response)
  frame_of_goal = frame (workings t) FIXPOINT_STEP_LIMIT h.begin h.next (suc h.candidates) []

  abbrev pub History : Type 0
  History = List (Reply (Option Response))

  abbrev pub asked_after : History → Request Question (Option Response)
  asked_after heard = asks frame_of_goal heard

  -- without any requirement on the results
  abbrev pub Anything : Question → Option Response → Type 0
  Anything q a = Unit {0}

  -- If the frame returns a definite yes, each instance of the goal follows by a rule. The premises are instances of nested goals
  -- with a definite yes in candidates that are not ignored, and their values are terms among those of the goal's variables. The
  -- steps to them are coinductive exactly if the goal's trait is.
  abbrev pub DefiniteYesFollows : Type 0
  DefiniteYesFollows =
      (heard : History) (a : Option Response) → CameInOrder Anything frame_of_goal heard → asked_after heard ≡ returns a → IsYes t a
      → (v : t.Values) → FollowsFrom t h (IsInstance t (λ q. Counts t (finished_in frame_of_goal heard) (ignored_in frame_of_goal heard) q × (t.is_coinductive q ≡ h.coinductive)) v) v

  -- if each result covers its nested goal, the frame's result covers the goal: each solution agrees with it
  abbrev pub AnswerCoversGoal : Type 0
  AnswerCoversGoal =
      (w : h.World) (heard : History) (a : Option Response) → CameInOrder (AnswerCovers t (h.Proves w)) frame_of_goal heard → asked_after heard ≡ returns a
      → (v : t.Values) → h.Proves w (h.goal v) → AgreesTo t a v

  -- a frame has at most 8 times as many nested goals as the handler states, and makes at most three other requests for each
  -- candidate
  pub record IsBounded : Type 0 where
    pub questions : (heard : History) (q : Question) → CameInOrder Anything frame_of_goal heard → asked_after heard ≡ evaluate q → results heard < FIXPOINT_STEP_LIMIT * h.number
    pub replies : (heard : History) → CameInOrder Anything frame_of_goal heard → (results heard ≤ FIXPOINT_STEP_LIMIT * h.number) × (others heard ≤ 3 * h.candidates)

  -- the result is at most as wide as the handler states, if the nested goal is
  abbrev pub Fair : Question → Option Response → Type 0
  Fair q a = t.number_of q ≤ h.widest → AnswerWithin t h.widest a

  pub record KeepsNumber : Type 0 where
    pub questions : (heard : History) (q : Question) → CameInOrder Fair frame_of_goal heard → asked_after heard ≡ evaluate q → t.number_of q ≤ h.widest
    pub answer : (heard : History) (a : Option Response) → CameInOrder Fair frame_of_goal heard → asked_after heard ≡ returns a → AnswerWithin t h.widest a

  -- a number that is to be ignored is that of a finished candidate, and was not ignored before
  abbrev pub IgnoresFinishedOnce : Type 0
  IgnoresFinishedOnce =
      (heard : History) (n : ℕ) → CameInOrder Anything frame_of_goal heard → asked_after heard ≡ ignore_candidate n
      → IsAmong n (numbers (finished_in frame_of_goal heard)) × IsNoneOf n (ignored_in frame_of_goal heard)

  -- for each test that only definite yeses pass, and each sound test of equality, the merge of responses is one
  abbrev pub MergesResponses : Type 0
  MergesResponses =
      (applicable : Response → Bool) → IsTest t applicable → (same : Response → Response → Bool) → TellsResponsesApart same
      → (rs : List Response) → IsMergeOfResponses t h.begin rs (merge_or_flounder t applicable same h.begin rs)
