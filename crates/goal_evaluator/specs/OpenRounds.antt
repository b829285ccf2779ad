-- Rounds in progress, as data: the rest of them as a script.
use Rattle.std.specs.Prelude.{ℕ, Bool, false, ◌||◌, List, [], ◌∷◌, ◌++◌, Option, Some, None}
use Rattle.infer_table.specs.declared.certainty.Certainty.{Certainty}
use Rattle.infer_table.specs.declared.certainty.Certainty.TheVariants.{Yes}
use Rattle.infer_table.specs.Certainties.{joined}
use Rattle.goal_evaluator.specs.Script.{done, followed}
use Rattle.goal_evaluator.specs.Operations.{Operations}
use Rattle.goal_evaluator.specs.Rounds.{Round, Rounds, RoundAsking, replied, round, next_round, rounds}

module _ {Question Response : Type 0} (t : Operations Question Response) where
  -- A round in progress: the greatest number of rounds after it, the goals that stay, the oldest first, whether a response had
  -- values, and the joined certainty of the responses to the goals that stay.
  pub record SoFar : Type 0 where
    pub limit : ℕ
    pub left : List t.Nested
    pub changed : Bool
    pub certainty : Certainty

  -- a round without any response
  abbrev pub new_round : ℕ → SoFar
  new_round limit = record { limit = limit; left = []; changed = false; certainty = Yes }

  -- with this goal, which stays after this response
  abbrev pub with_goal : SoFar → t.Nested → Response → SoFar
  with_goal s n r = record { limit = s.limit; left = s.left ++ n ∷ []; changed = s.changed || t.has_values r; certainty = joined s.certainty (t.certainty r) }

  -- the result of the rest of a round, after what it has so far
  abbrev pub behind : SoFar → Option (Round t) → RoundAsking t (Option (Round t))
  behind s None = done None
  behind s (Some o) = done (Some (record { table = o.table; left = s.left ++ o.left; changed = s.changed || o.changed; certainty = joined s.certainty o.certainty }))

  -- the rest of the round, and the rounds after it
  abbrev pub onward_from : SoFar → RoundAsking t (Option (Round t)) → RoundAsking t (Option (Rounds t))
  onward_from s rest = followed (next_round t (rounds t s.limit)) (followed (behind s) rest)

  -- these goals follow in the round, in this table
  abbrev pub rest_of_round : SoFar → List t.Nested → t.Table → RoundAsking t (Option (Rounds t))
  rest_of_round s ns T = onward_from s (round t ns T)

  -- the goal n waits for its response, and these goals follow
  abbrev pub after_answer : SoFar → t.Table → t.Nested → List t.Nested → Option Response → RoundAsking t (Option (Rounds t))
  after_answer s T n ns a = onward_from s (replied t (round t ns) T n a)
