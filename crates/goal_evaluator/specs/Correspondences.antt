-- Corresponding operations and workings. If their tables, goals and responses correspond, so do the nested goals and results of
-- all rounds, candidates and frames over them.
use Rattle.std.specs.Prelude.{◌≡◌, ℕ, List, [], ◌∷◌, Option}
use Rattle.infer_table.specs.declared.certainty.Certainty.{Certainty}
use Rattle.goal_evaluator.specs.Lists.{Pairwise, OnBoth}
use Rattle.goal_evaluator.specs.Operations.{Operations, Workings}
use Rattle.goal_evaluator.specs.Replays.{Run, ready, waits, run}
use Rattle.goal_evaluator.specs.Rounds.{Round, Rounds, round, rounds}
use Rattle.goal_evaluator.specs.Candidate.{Spec, Considered, Next, consider, answer, IsHistory, candidate, frame}
use Rattle.goal_evaluator.specs.Script.{Script, done, ask}
use Rattle.goal_evaluator.specs.Frame.{Frame}
use Rattle.goal_evaluator.specs.History.{Request, evaluate, enter_candidate, finish_candidate, ignore_candidate, returns, Reply, begin, entered, ignored, evaluated, finished, Position, inside, position, asks, CameInOrder}

-- ---- rounds
module _ {Question Response OtherQuestion OtherResponse : Type 0} (one : Operations Question Response) (other : Operations OtherQuestion OtherResponse) where
  -- a correspondence between two kinds of operations
  pub record Correspondence : Type 1 where
    pub Tables : one.Table → other.Table → Type 0
    pub Goals : one.Nested → other.Nested → Type 0
    pub Questions : Question → OtherQuestion → Type 0
    -- correspondence of responses to this nested goal
    pub Responses : Question → Response → OtherResponse → Type 0

  module _ (c : Correspondence) where
    -- both have no solution, or the responses correspond
    abbrev pub AnswersCorrespond : Question → Option Response → Option OtherResponse → Type 0
    AnswersCorrespond q a b = OnBoth (c.Responses q) a b

    -- Corresponding goals have corresponding canonical forms. Corresponding responses change tables alike, are equally certain,
    -- and both have values or none.
    pub record IsCorrespondence : Type 0 where
      pub question : (T : one.Table) (U : other.Table) (n : one.Nested) (m : other.Nested) → c.Tables T U → c.Goals n m → c.Questions (one.question T n) (other.question U m)
      pub apply : (T : one.Table) (U : other.Table) (n : one.Nested) (m : other.Nested) (r : Response) (s : OtherResponse)
          → c.Tables T U → c.Goals n m → c.Responses (one.question T n) r s → OnBoth c.Tables (one.apply T n r) (other.apply U m s)
      pub certainty : (q : Question) (r : Response) (s : OtherResponse) → c.Responses q r s → one.certainty r ≡ other.certainty s
      pub has_values : (q : Question) (r : Response) (s : OtherResponse) → c.Responses q r s → one.has_values r ≡ other.has_values s

    -- these responses, the oldest first, correspond as responses to the script's nested goals, as long as both lists last
    abbrev pub AreAnswers : {X : Type 0} → Script Question (Option Response) X → List (Option Response) → List (Option OtherResponse) → Type 0
    AreAnswers (done x) answers others = Unit {0}
    AreAnswers (ask q k) [] [] = Unit {0}
    AreAnswers (ask q k) (a ∷ answers) (b ∷ others) = AnswersCorrespond q a b × AreAnswers (k a) answers others
    AreAnswers (ask q k) [] (b ∷ others) = ⊥
    AreAnswers (ask q k) (a ∷ answers) [] = ⊥

    -- both wait for corresponding nested goals, or both end with corresponding results
    abbrev pub Runs : {X Y : Type 0} → (X → Y → Type 0) → Run Question (Option Response) X → Run OtherQuestion (Option OtherResponse) Y → Type 0
    Runs R (ready x left) (ready y rest) = R x y
    Runs R (waits p) (waits q) = c.Questions p q
    Runs R (ready x left) (waits q) = ⊥
    Runs R (waits p) (ready y rest) = ⊥

    pub record RoundEndsTogether (x : Round one) (y : Round other) : Type 0 where
      pub table : c.Tables x.table y.table
      pub left : Pairwise c.Goals x.left y.left
      pub changed : x.changed ≡ y.changed
      pub certainty : x.certainty ≡ y.certainty

    pub record RoundsEndTogether (x : Rounds one) (y : Rounds other) : Type 0 where
      pub table : c.Tables x.table y.table
      pub left : Pairwise c.Goals x.left y.left
      pub certainty : x.certainty ≡ y.certainty

    -- if tables, goals and responses correspond, so do the ends of a round and of all rounds
    pub record RoundsCorrespond : Type 0 where
      pub of_round : (ns : List one.Nested) (ms : List other.Nested) (T : one.Table) (U : other.Table) (answers : List (Option Response)) (others : List (Option OtherResponse))
          → Pairwise c.Goals ns ms → c.Tables T U → AreAnswers (round one ns T) answers others → Runs (OnBoth RoundEndsTogether) (run (round one ns T) answers) (run (round other ms U) others)
      pub of_rounds : (limit : ℕ) (ns : List one.Nested) (ms : List other.Nested) (T : one.Table) (U : other.Table) (answers : List (Option Response)) (others : List (Option OtherResponse))
          → Pairwise c.Goals ns ms → c.Tables T U → AreAnswers (rounds one limit ns T) answers others → Runs (OnBoth RoundsEndTogether) (run (rounds one limit ns T) answers) (run (rounds other limit ms U) others)

-- ---- candidates and frames
module _ {Question Response OtherQuestion OtherResponse : Type 0} (one : Workings Question Response) (other : Workings OtherQuestion OtherResponse) where
  pub record CandidateCorrespondence : Type 1 where
    pub rounds : Correspondence one.operations other.operations
    -- correspondence of responses of the candidate itself
    pub Responses : Response → OtherResponse → Type 0
    pub Equations : one.Equation → other.Equation → Type 0
    pub Kinds : one.Kinds → other.Kinds → Type 0
    pub Regions : one.Regions → other.Regions → Type 0

  module _ (c : CandidateCorrespondence) where
    -- operations make corresponding tables from corresponding ones, and these have corresponding responses
    pub record IsCandidateCorrespondence : Type 0 where
      pub rounds : IsCorrespondence one.operations other.operations c.rounds
      pub fresh : (T : one.operations.Table) (U : other.operations.Table) (j : one.Kinds) (k : other.Kinds) → c.rounds.Tables T U → c.Kinds j k → c.rounds.Tables (one.fresh T j) (other.fresh U k)
      pub equate : (T : one.operations.Table) (U : other.operations.Table) (es : List one.Equation) (fs : List other.Equation)
          → c.rounds.Tables T U → Pairwise c.Equations es fs → OnBoth c.rounds.Tables (one.equate T es) (other.equate U fs)
      pub recorded : (T : one.operations.Table) (U : other.operations.Table) (p : one.Regions) (q : other.Regions)
          → c.rounds.Tables T U → c.Regions p q → c.rounds.Tables (one.recorded T p) (other.recorded U q)
      pub respond : (T : one.operations.Table) (U : other.operations.Table) (sure : Certainty) → c.rounds.Tables T U → c.Responses (one.respond T sure) (other.respond U sure)

    abbrev pub Results : Option Response → Option OtherResponse → Type 0
    Results a b = OnBoth c.Responses a b

    pub record Specs (x : Spec one) (y : Spec other) : Type 0 where
      pub source : x.source ≡ y.source
      pub kinds : c.Kinds x.kinds y.kinds
      pub equations : Pairwise c.Equations x.equations y.equations
      pub regions : c.Regions x.regions y.regions
      pub nested : Pairwise c.rounds.Goals x.nested y.nested
      pub certainty : x.certainty ≡ y.certainty

    -- if tables, candidates and responses correspond, so do the results
    abbrev pub CandidatesCorrespond : Type 0
    CandidatesCorrespond =
        (limit : ℕ) (T : one.operations.Table) (U : other.operations.Table) (x : Spec one) (y : Spec other) (answers : List (Option Response)) (others : List (Option OtherResponse))
        → c.rounds.Tables T U → Specs x y → AreAnswers one.operations other.operations c.rounds (candidate one limit T x) answers others
        → Runs one.operations other.operations c.rounds Results (run (candidate one limit T x) answers) (run (candidate other limit U y) others)

    -- evaluated candidates that correspond, with corresponding responses and the same number
    pub record BothConsidered (x : Considered one) (y : Considered other) : Type 0 where
      pub spec : Specs x.spec y.spec
      pub response : Results x.response y.response
      pub number : x.number ≡ y.number

    -- corresponding candidates come next, or corresponding results with the same numbers to ignore
    abbrev pub BothNext : Next one → Next other → Type 0
    BothNext (consider x) (consider y) = Specs x y
    BothNext (answer a ns) (answer b ms) = Results a b × (ns ≡ ms)
    BothNext (consider x) (answer b ms) = ⊥
    BothNext (answer a ns) (consider y) = ⊥

    -- after corresponding histories the requests correspond
    abbrev pub Handlers : (List (Considered one) → Next one) → (List (Considered other) → Next other) → Type 0
    Handlers next then =
        (seen : List (Considered one)) (known : List (Considered other)) → Pairwise BothConsidered seen known → IsHistory one next seen → IsHistory other then known → BothNext (next seen) (then known)

    -- the results correspond as responses to the nested goal for which the frame waits
    abbrev pub AnswersAt : Position Question (Option Response) → Option Response → Option OtherResponse → Type 0
    AnswersAt (inside heard replies (ask q k) go) a b = AnswersCorrespond one.operations other.operations c.rounds q a b
    AnswersAt position a b = ⊥

    abbrev pub Replies : Position Question (Option Response) → Reply (Option Response) → Reply (Option OtherResponse) → Type 0
    Replies place begin begin = Unit {0}
    Replies place entered entered = Unit {0}
    Replies place ignored ignored = Unit {0}
    Replies place (evaluated a) (evaluated b) = AnswersAt place a b
    Replies place (finished n) (finished m) = n ≡ m
    Replies place _ _ = ⊥

    -- the replies to the frame, the newest first, correspond one by one
    abbrev pub RepliesCorrespond : Frame Question (Option Response) → List (Reply (Option Response)) → List (Reply (Option OtherResponse)) → Type 0
    RepliesCorrespond f [] [] = Unit {0}
    RepliesCorrespond f (x ∷ heard) (y ∷ replies) = Replies (position f heard) x y × RepliesCorrespond f heard replies
    RepliesCorrespond f [] (y ∷ replies) = ⊥
    RepliesCorrespond f (x ∷ heard) [] = ⊥

    abbrev pub Requests : Request Question (Option Response) → Request OtherQuestion (Option OtherResponse) → Type 0
    Requests (evaluate p) (evaluate q) = c.rounds.Questions p q
    Requests enter_candidate enter_candidate = Unit {0}
    Requests finish_candidate finish_candidate = Unit {0}
    Requests (ignore_candidate n) (ignore_candidate m) = n ≡ m
    Requests (returns a) (returns b) = Results a b
    Requests _ _ = ⊥

    -- after corresponding replies in order, the newest first, frames of corresponding handlers make corresponding requests
    abbrev pub FramesCorrespond : Type 0
    FramesCorrespond =
        (limit fuel : ℕ) (T : one.operations.Table) (U : other.operations.Table) (next : List (Considered one) → Next one) (then : List (Considered other) → Next other)
        (heard : List (Reply (Option Response))) (replies : List (Reply (Option OtherResponse)))
        → c.rounds.Tables T U → Handlers next then → RepliesCorrespond (frame one limit T next fuel []) heard replies → CameInOrder (λ q a. Unit {0}) (frame one limit T next fuel []) heard
        → Requests (asks (frame one limit T next fuel []) heard) (asks (frame other limit U then fuel []) replies)
