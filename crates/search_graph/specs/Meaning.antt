-- What a delegate means: its goals, their rules, and the requests of its frames.
use Rattle.std.specs.Prelude.{◌≡◌, ◌≤◌, ◌<◌, ◌+◌, length, ℕ, Bool, true, false, cond, List, [], ◌∷◌, ◌++◌, Some, unwrap_or, slice_get, slice_set}
use Rattle.search_paths.specs.declared.path_kind.PathKind.{PathKind}
use Rattle.search_paths.specs.declared.path_kind.PathKind.TheVariants.{Coinductive}
use Rattle.search_graph.specs.declared.delegate.Request.{Request}
use Rattle.search_graph.specs.declared.delegate.Request.TheVariants.{Evaluate, EnterCandidate, FinishCandidate, IgnoreCandidate, Done}
use Rattle.search_graph.specs.declared.delegate.Reply.{Reply}
use Rattle.search_graph.specs.declared.delegate.Reply.TheVariants.{Begin, Result, Entered, Finished, Ignored}

-- the meaning of contexts C, inputs I, results R and frames F
pub record Meaning (C I R F : Type 0) : Type 1 where
  -- what a context declares, and the meaning of inputs and results
  pub World : Type 0
  pub Goal : Type 0
  pub Answer : Type 0
  pub world : C → World
  -- a table of the context has as many entries as its limit allows
  pub IsFull : C → Type 0
  pub IsInput : C → I → Type 0
  pub goal_of : C → I → Goal
  pub IsResult : C → R → Type 0
  pub answer_of : C → R → Answer
  -- the frame was started for the goal and has received these replies, the newest first
  pub HasHeard : C → Goal → List (Reply Answer) → F → Type 0
  -- what else a context stores
  pub Held : Type 0
  pub Holds : C → Held → Type 0
  -- the request of the frame of a goal after these replies
  pub asks : World → Goal → List (Reply Answer) → Request Goal Answer
  pub is_yes : Answer → Bool
  pub is_ambiguous : Answer → Bool
  -- a goal follows from these nested goals, each with the kind of the step to it
  pub Follows : World → Goal → List (Goal × PathKind) → Type 0
  pub initial : World → Goal → PathKind → Answer
  pub stack_overflow : World → Goal → Answer
  pub fixpoint_overflow : World → Goal → Answer
  -- each solution of the goal agrees with the answer
  pub Covers : World → Goal → Answer → Type 0
  -- the size of a goal and of an answer
  pub number_of : World → Goal → ℕ
  pub number_in : World → Answer → ℕ

module _ {C I R F : Type 0} (m : Meaning C I R F) where
  -- the second context declares the same as the first one, and the inputs, results and frames of the first one mean the same in it
  pub record KeepsContext (c d : C) : Type 0 where
    pub world : m.world d ≡ m.world c
    pub inputs : (i : I) → m.IsInput c i → m.IsInput d i × (m.goal_of d i ≡ m.goal_of c i)
    pub results : (r : R) → m.IsResult c r → m.IsResult d r × (m.answer_of d r ≡ m.answer_of c r)
    pub frames : (g : m.Goal) (heard : List (Reply m.Answer)) (f : F) → m.HasHeard c g heard f → m.HasHeard d g heard f
    pub held : (x : m.Held) → m.Holds c x → m.Holds d x

  abbrev pub IsReply : C → Reply R → Type 0
  IsReply c Begin = Unit {0}
  IsReply c (Result r) = m.IsResult c r
  IsReply c Entered = Unit {0}
  IsReply c (Finished n) = Unit {0}
  IsReply c Ignored = Unit {0}

  abbrev pub reply_of : C → Reply R → Reply m.Answer
  reply_of c Begin = Begin
  reply_of c (Result r) = Result (m.answer_of c r)
  reply_of c Entered = Entered
  reply_of c (Finished n) = Finished n
  reply_of c Ignored = Ignored

  abbrev pub IsRequest : C → Request I R → Type 0
  IsRequest c (Evaluate i k) = m.IsInput c i
  IsRequest c EnterCandidate = Unit {0}
  IsRequest c FinishCandidate = Unit {0}
  IsRequest c (IgnoreCandidate n) = Unit {0}
  IsRequest c (Done r) = m.IsResult c r

  abbrev pub request_of : C → Request I R → Request m.Goal m.Answer
  request_of c (Evaluate i k) = Evaluate (m.goal_of c i) k
  request_of c EnterCandidate = EnterCandidate
  request_of c FinishCandidate = FinishCandidate
  request_of c (IgnoreCandidate n) = IgnoreCandidate n
  request_of c (Done r) = Done (m.answer_of c r)

  -- whether a candidate is open after these replies
  abbrev pub has_open_candidate : List (Reply m.Answer) → Bool
  has_open_candidate [] = false
  has_open_candidate (Begin ∷ heard) = has_open_candidate heard
  has_open_candidate (Result a ∷ heard) = has_open_candidate heard
  has_open_candidate (Entered ∷ heard) = true
  has_open_candidate (Finished n ∷ heard) = false
  has_open_candidate (Ignored ∷ heard) = has_open_candidate heard

  -- the candidates after a reply to a request to ignore one of them
  abbrev pub ignoring : Request m.Goal m.Answer → List Bool → List Bool
  ignoring (IgnoreCandidate n) candidates = slice_set candidates n true
  ignoring (Evaluate g k) candidates = candidates
  ignoring EnterCandidate candidates = candidates
  ignoring FinishCandidate candidates = candidates
  ignoring (Done a) candidates = candidates

  -- for each finished candidate, the oldest first, whether it was ignored since
  abbrev pub finished : m.World → m.Goal → List (Reply m.Answer) → List Bool
  finished w g [] = []
  finished w g (Begin ∷ heard) = finished w g heard
  finished w g (Result a ∷ heard) = finished w g heard
  finished w g (Entered ∷ heard) = finished w g heard
  finished w g (Finished n ∷ heard) = finished w g heard ++ false ∷ []
  finished w g (Ignored ∷ heard) = ignoring (m.asks w g heard) (finished w g heard)

  -- A request is in order: a candidate is entered if none is open, and finished if one is open. A candidate is ignored
  -- if it was finished and not ignored since. A frame is done if no candidate is open
  abbrev pub IsInOrder : m.World → m.Goal → List (Reply m.Answer) → Request m.Goal m.Answer → Type 0
  IsInOrder w g heard (Evaluate h k) = Unit {0}
  IsInOrder w g heard EnterCandidate = has_open_candidate heard ≡ false
  IsInOrder w g heard FinishCandidate = has_open_candidate heard ≡ true
  IsInOrder w g heard (IgnoreCandidate n) = slice_get (finished w g heard) n ≡ Some false
  IsInOrder w g heard (Done a) = has_open_candidate heard ≡ false

  -- the reply fits the request: a nested goal gets a result, and a finished candidate its number
  abbrev pub IsReplyTo : m.World → m.Goal → List (Reply m.Answer) → Request m.Goal m.Answer → Reply m.Answer → Type 0
  IsReplyTo w g heard (Evaluate h k) (Result a) = Unit {0}
  IsReplyTo w g heard EnterCandidate Entered = Unit {0}
  IsReplyTo w g heard FinishCandidate (Finished n) = n ≡ length (finished w g heard)
  IsReplyTo w g heard (IgnoreCandidate n) Ignored = Unit {0}
  IsReplyTo w g heard request reply = ⊥

  -- the request is in order, and the reply fits it
  abbrev pub IsDueAt : m.World → m.Goal → List (Reply m.Answer) → Request m.Goal m.Answer → Reply m.Answer → Type 0
  IsDueAt w g heard request reply = IsInOrder w g heard request × IsReplyTo w g heard request reply

  -- the first reply is Begin, and each later one fits the request before it
  abbrev pub IsDueAfter : m.World → m.Goal → List (Reply m.Answer) → Reply m.Answer → Type 0
  IsDueAfter w g [] reply = reply ≡ Begin
  IsDueAfter w g (last ∷ heard) reply = IsDueAt w g (last ∷ heard) (m.asks w g (last ∷ heard)) reply

  -- the frame was started, and it waits for this reply
  abbrev pub IsDue : C → F → Reply R → Type 0
  IsDue c f reply = (g : m.Goal) × (heard : List (Reply m.Answer)) × m.HasHeard c g heard f × IsDueAfter (m.world c) g heard (reply_of c reply)

  -- given a reply in the context c, the frame f becomes g in the context d and makes the request q
  abbrev pub Steps : C → F → Reply R → C → F → Request I R → Type 0
  Steps c f reply d g q =
      IsRequest d q
      × ((goal : m.Goal) (heard : List (Reply m.Answer)) → m.HasHeard c goal heard f → IsDueAfter (m.world c) goal heard (reply_of c reply)
      → m.HasHeard d goal (reply_of c reply ∷ heard) g
      × (request_of d q ≡ m.asks (m.world c) goal (reply_of c reply ∷ heard)))

  -- the others, with the nested goal in front if it was answered by a yes
  abbrev pub premise_of : Request m.Goal m.Answer → m.Answer → List (m.Goal × PathKind) → List (m.Goal × PathKind)
  premise_of (Evaluate g k) a others = cond (m.is_yes a) ((g, k) ∷ others) others
  premise_of EnterCandidate a others = others
  premise_of FinishCandidate a others = others
  premise_of (IgnoreCandidate n) a others = others
  premise_of (Done b) a others = others

  -- From the newest reply back, the nested goals that were answered by a yes outside ignored candidates. The list has
  -- for each candidate whether it was ignored. The flag is that of the candidate at the current reply
  abbrev pub premises_back : m.World → m.Goal → List Bool → Bool → List (Reply m.Answer) → List (m.Goal × PathKind)
  premises_back w g candidates ignored [] = []
  premises_back w g candidates ignored (Begin ∷ heard) = premises_back w g candidates ignored heard
  premises_back w g candidates ignored (Result a ∷ heard) =
      cond ignored (premises_back w g candidates ignored heard) (premise_of (m.asks w g heard) a (premises_back w g candidates ignored heard))
  premises_back w g candidates ignored (Entered ∷ heard) = premises_back w g candidates false heard
  premises_back w g candidates ignored (Finished n ∷ heard) = premises_back w g candidates (unwrap_or (slice_get candidates n) false) heard
  premises_back w g candidates ignored (Ignored ∷ heard) = premises_back w g candidates ignored heard

  -- the nested goals that were answered by a yes outside ignored candidates
  abbrev pub premises : m.World → m.Goal → List (Reply m.Answer) → List (m.Goal × PathKind)
  premises w g heard = premises_back w g (finished w g heard) false heard

  -- the number of nested goals that were answered
  abbrev pub answer_count : List (Reply m.Answer) → ℕ
  answer_count [] = 0
  answer_count (Begin ∷ heard) = answer_count heard
  answer_count (Result a ∷ heard) = answer_count heard + 1
  answer_count (Entered ∷ heard) = answer_count heard
  answer_count (Finished n ∷ heard) = answer_count heard
  answer_count (Ignored ∷ heard) = answer_count heard

  -- P is true of the nested goal and its answer, if the reply is one
  abbrev pub IsReplyBy : (m.Goal → m.Answer → Type 0) → Request m.Goal m.Answer → Reply m.Answer → Type 0
  IsReplyBy P (Evaluate g k) (Result a) = P g a
  IsReplyBy P request reply = Unit {0}

  -- these replies came in order, the newest first, and P is true of each nested goal and its answer
  abbrev pub AreReplies : (m.Goal → m.Answer → Type 0) → m.World → m.Goal → List (Reply m.Answer) → Type 0
  AreReplies P w g [] = Unit {0}
  AreReplies P w g (reply ∷ heard) = IsDueAfter w g heard reply × IsReplyBy P (m.asks w g heard) reply × AreReplies P w g heard

  -- an answer that covers its goal and is at most as large
  pub record IsFair (w : m.World) (g : m.Goal) (a : m.Answer) : Type 0 where
    pub covers : m.Covers w g a
    pub within : m.number_in w a ≤ m.number_of w g

  -- the laws of a delegate, which the search needs
  pub record IsLawful : Type 0 where
    pub sound : (w : m.World) (g : m.Goal) (heard : List (Reply m.Answer)) (a : m.Answer) → AreReplies (IsFair w) w g heard → m.asks w g heard ≡ Done a → m.is_yes a ≡ true → m.Follows w g (premises w g heard)
    pub initial : (w : m.World) (g : m.Goal) (k : PathKind) → m.is_yes (m.initial w g k) ≡ true → k ≡ Coinductive
    pub stack_overflow : (w : m.World) (g : m.Goal) → m.is_yes (m.stack_overflow w g) ≡ false
    pub fixpoint_overflow : (w : m.World) (g : m.Goal) → m.is_yes (m.fixpoint_overflow w g) ≡ false
    pub initial_fair : (w : m.World) (g : m.Goal) (k : PathKind) → IsFair w g (m.initial w g k)
    pub stack_overflow_fair : (w : m.World) (g : m.Goal) → IsFair w g (m.stack_overflow w g)
    pub fixpoint_overflow_fair : (w : m.World) (g : m.Goal) → IsFair w g (m.fixpoint_overflow w g)
    -- if each reply is fair, the nested goals and the result are fair too
    pub done_fair : (w : m.World) (g : m.Goal) (heard : List (Reply m.Answer)) (a : m.Answer) → AreReplies (IsFair w) w g heard → m.asks w g heard ≡ Done a → IsFair w g a
    pub asks_fair : (w : m.World) (g q : m.Goal) (k : PathKind) (heard : List (Reply m.Answer)) → AreReplies (IsFair w) w g heard → m.asks w g heard ≡ Evaluate q k → (answer_count heard < m.number_of w g) × (m.number_of w q ≤ m.number_of w g)
