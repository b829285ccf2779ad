-- What a search needs of frames in addition to their laws: requests in order, and an end.
use Rattle.std.specs.Prelude.{suc, ◌+◌, ◌*◌, ◌≤◌, length, List, Option}
use Rattle.search_graph.specs.declared.delegate.Reply.{Reply}
use Rattle.search_graph.specs.Meaning.{AreReplies, IsFair}
use Rattle.search_graph.specs.Computed.{MakesMisstep}
use Rattle.goal_evaluator.specs.declared.TheConstants.{FIXPOINT_STEP_LIMIT}
use Rattle.goal_evaluator.specs.Table.{Tables}
use Rattle.goal_frames.specs.Programs.{Programs, SaysNothing}
use Rattle.goal_frames.specs.Searches.{Handles, GoalInMode, meaning}

module _ {Question Response : Type 0} (t : Tables Question Response) (p : Programs t) {C I R F : Type 0} (handles : Handles C I R F p.World (GoalInMode t p) (Option Response)) where
  -- no frame makes a request out of order
  abbrev pub KeepOrder : Type 0
  KeepOrder = (w : p.World) (g : GoalInMode t p) → MakesMisstep (meaning t p handles) w g → ⊥

  -- whatever the replies, a frame has at most this many
  abbrev pub End : Type 0
  End =
      (w : p.World) (g : GoalInMode t p) (heard : List (Reply (Option Response))) → AreReplies (meaning t p handles) (λ q a. Unit {0}) w g heard
      → length heard ≤ suc (FIXPOINT_STEP_LIMIT * (p.handled w g.0 g.1).number + 3 * (p.handled w g.0 g.1).candidates)

  -- a response without values is fair
  abbrev pub SilentIsFair : Type 0
  SilentIsFair = (w : p.World) (g : GoalInMode t p) (a : Option Response) → SaysNothing t p (p.handled w g.0 g.1) a → IsFair (meaning t p handles) w g a
