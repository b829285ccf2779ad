-- The frames of a goal that is asked again and again.
use Rattle.std.proofs.Common.{◌≡◌, ℕ, List, subst}
use Rattle.type_terms.specs.Promised.Label.{Sort}
use Rattle.infer_table.specs.Canonical.{GoalTrees}
use Rattle.search_graph.specs.SearchState.{SearchState}
use Rattle.goal_frames.specs.Meanings.{HandlerMeaning}
use Rattle.sessions.specs.Frames.{SettlesInFrames}

module _ {Handler : Type 0} (handler : HandlerMeaning Handler) where
  -- what settles one goal settles an equal one
  pub settles-same : (v w : handler.goals.World) (depth : ℕ) (ks ls : List Sort) (g h : GoalTrees) (a b : SearchState) → v ≡ w → ks ≡ ls → g ≡ h
      → SettlesInFrames handler v depth ks g a b → SettlesInFrames handler w depth ls h a b
  settles-same v w depth ks ls g h a b e f i s =
      subst (λ z. SettlesInFrames handler w depth ls z a b) i (subst (λ z. SettlesInFrames handler w depth z g a b) f (subst (λ z. SettlesInFrames handler z depth ks g a b) e s))
