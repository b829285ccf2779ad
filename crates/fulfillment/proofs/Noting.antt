-- An obligation whose goal was evaluated, or was not.
use Rattle.std.proofs.Common.{◌≡◌, ◌<◌, arith, ◌⊎◌, refl, inl, inr}
use Rattle.infer_table.specs.Content.{Table}
use Rattle.infer_table.specs.declared.certainty.MaybeCause.{MaybeCause}
use Rattle.infer_table.specs.declared.certainty.TypingMode.{TypingMode}
use Rattle.goal_frames.specs.Meanings.{HandlerMeaning}
use Rattle.search_graph.specs.SearchState.{SearchState}
use Rattle.solver_graph.specs.Searching.{world_in}
use Rattle.solver_graph.specs.Settling.{IsProvedBy, IsUnsettled}
use Rattle.solver_graph.specs.declared.context.SolverCx.{SolverCx}
use Rattle.fulfillment.specs.Obligations.{ObligationIsSettled, noted, step_of}
use Rattle.fulfillment.specs.Selecting.{StandsAfter}
use Rattle.fulfillment.specs.declared.evaluating.Answer.{Answer}
use Rattle.fulfillment.specs.declared.evaluating.Answer.TheVariants.{Holds, Narrows, IsOpen, IsRefused}
use Rattle.fulfillment.specs.declared.obligation.Obligation.{Obligation}
use Rattle.fulfillment.specs.declared.obligation.Standing.TheVariants.{Done}
use Rattle.fulfillment.specs.declared.obligation.Step.TheVariants as step

-- an answer with values is one of those that are allowed
pub fewer-left : (o : Obligation) (a : Answer) → 0 < o.left → step_of a ≡ step.Narrowed → (noted o a).left < o.left
fewer-left o Holds h e = absurd cc
fewer-left o Narrows h e = omega (arith, h)
fewer-left o (IsOpen cause) h e = absurd cc
fewer-left o IsRefused h e = absurd cc

pub refused-step : (a : Answer) → step_of a ≡ step.Refused → a ≡ IsRefused
refused-step Holds e = cc
refused-step Narrows e = cc
refused-step (IsOpen cause) e = cc
refused-step IsRefused e = refl

module _ {Handler : Type 0} (handler : HandlerMeaning Handler) (f : SearchState) (c d : SolverCx Handler) (t u : Table) (mode : TypingMode) (o : Obligation) where
  -- it was not evaluated
  pub stands-still : StandsAfter handler f c t mode d u o o
  stands-still = record { goal = refl; stays = λ e. e; done = λ e. inl e; left = omega arith; unsettled = inl refl }

  -- its goal has had this answer
  pub stands-noted : (o.standing ≡ Done → ⊥) → (a : Answer) → (a ≡ Holds → IsProvedBy handler (world_in handler c) c t d u o.goal) → (a ≡ Narrows → IsUnsettled handler c f t mode o.goal) → StandsAfter handler f c t mode d u o (noted o a)
  stands-noted unsettled Holds p n = record { goal = refl; stays = λ e. refl; done = λ e. inr (p refl); left = omega arith; unsettled = inl refl }
  stands-noted unsettled Narrows p n = record { goal = refl; stays = λ e. absurd (unsettled e); done = λ e. absurd cc; left = omega arith; unsettled = inr (n refl) }
  stands-noted unsettled (IsOpen cause) p n = record { goal = refl; stays = λ e. absurd (unsettled e); done = λ e. absurd cc; left = omega arith; unsettled = inl refl }
  stands-noted unsettled IsRefused p n = record { goal = refl; stays = λ e. absurd (unsettled e); done = λ e. absurd cc; left = omega arith; unsettled = inl refl }

  pub quiet-noted : (a : Answer) → step_of a ≡ step.Quiet → ((cause : MaybeCause) → a ≡ IsOpen cause → IsUnsettled handler c f t mode o.goal) → ObligationIsSettled (noted o a) ⊎ IsUnsettled handler c f t mode o.goal
  quiet-noted Holds e n = inl (inl refl)
  quiet-noted Narrows e n = absurd cc
  quiet-noted (IsOpen cause) e n = inr (n cause refl)
  quiet-noted IsRefused e n = absurd cc
