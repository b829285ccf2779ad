-- A search, as clauses of public calls describe it.
use Rattle.std.specs.Prelude.{ℕ, Bool}

pub record SearchState : Type 0 where
  -- the depth of a root goal
  pub root_depth : ℕ
  -- the number of goals that are being evaluated
  pub current_depth : ℕ
  -- the number of frames that were started
  pub frames : ℕ
  -- whether the limit of the depth or of the runs gave a result, or a call was given up
  pub limits_met : Bool
  -- what calls have counted, less what each takes off the count of earlier ones
  pub spent : ℕ
