-- The requests of lawful programs come in order, whatever the replies.
use Rattle.std.proofs.Common.{◌≡◌, List, [], ◌∷◌, refl, sym, ap, subst, Option}
use Rattle.search_graph.specs.declared.delegate.Request.TheVariants.{Evaluate, EnterCandidate, FinishCandidate, IgnoreCandidate, Done}
use Rattle.search_graph.specs.declared.delegate.Request.{Request}
use Rattle.search_graph.specs.declared.delegate.Reply.{Reply}
use Rattle.search_graph.specs.declared.delegate.Reply.TheVariants.{Begin}
use Rattle.search_graph.specs.Meaning.{Meaning, IsInOrder, IsReplyBy, AreReplies}
use Rattle.goal_evaluator.specs.Table.{Tables}
use Rattle.goal_evaluator.specs.Handler.{Handled}
use Rattle.goal_evaluator.specs.Frame.{Frame}
use Rattle.goal_evaluator.specs.History.{CameInOrder}
use Rattle.goal_evaluator.specs.Promises.{frame_of_goal, Anything}
use Rattle.goal_evaluator.proofs.Ends.{ignores_finished}
use Rattle.goal_frames.specs.Programs.{Programs, ArePrograms}
use Rattle.goal_frames.specs.Searches.{replies_of, request_of, Handles, kind_of, GoalInMode, goal_in, asks, meaning}
use Rattle.goal_frames.proofs.Histories.{came, in_order, told-begin}
use Rattle.goal_evaluator.specs.History as Frames

module _ {C I R F : Type 0} (m : Meaning C I R F) where
  -- before the first reply a request is in order where it is so after it
  before_begin : (w : m.World) (g : m.Goal) (q : Request m.Goal m.Answer) → IsInOrder m w g (Begin ∷ []) q → IsInOrder m w g [] q
  before_begin w g (Evaluate h k) i = i
  before_begin w g EnterCandidate i = i
  before_begin w g FinishCandidate i = i
  before_begin w g (IgnoreCandidate n) i = i
  before_begin w g (Done a) i = i

  begin_by : (P : m.Goal → m.Answer → Type 0) (q : Request m.Goal m.Answer) → IsReplyBy m P q Begin
  begin_by P (Evaluate h k) = tt
  begin_by P EnterCandidate = tt
  begin_by P FinishCandidate = tt
  begin_by P (IgnoreCandidate n) = tt
  begin_by P (Done a) = tt

module _ {Question Response : Type 0} (t : Tables Question Response) (p : Programs t) (laws : ArePrograms t p)
    {C I R F : Type 0} (handles : Handles C I R F p.World (GoalInMode t p) (Option Response)) (w : p.World) (g : GoalInMode t p) where
  abbrev m : Meaning C I R F
  m = meaning t p handles

  abbrev handled : Handled t
  handled = p.handled w g.0 g.1

  abbrev frame : Frame Question (Option Response)
  frame = frame_of_goal t handled

  module _ (P : GoalInMode t p → Option Response → Type 0) where
    came_anyhow : (last : Reply (Option Response)) (heard : List (Reply (Option Response))) → AreReplies m P w g (last ∷ heard) → CameInOrder (Anything t handled) frame (replies_of (last ∷ heard))
    came_anyhow last heard r = came m Question (goal_in t p g.0) (kind_of t) w g frame (λ h. refl) P (Anything t handled) (λ before q a c e fair. tt) last heard r

    ordered_after : (last : Reply (Option Response)) (heard : List (Reply (Option Response))) → AreReplies m P w g (last ∷ heard) → IsInOrder m w g (last ∷ heard) (asks t p w g (last ∷ heard))
    ordered_after last heard r =
        in_order m Question (goal_in t p g.0) (kind_of t) w g frame (λ h. refl) P last heard r
        (λ n e. ignores_finished t handled (laws.handlers w g.0 g.1) (replies_of (last ∷ heard)) n (came_anyhow last heard r) e)

    begins : asks t p w g [] ≡ asks t p w g (Begin ∷ [])
    begins = ap (λ x. request_of (goal_in t p g.0) (kind_of t) (Frames.request x)) (sym (told-begin (Frames.between [] [] frame)))

    pub in_order_by : (heard : List (Reply (Option Response))) → AreReplies m P w g heard → IsInOrder m w g heard (asks t p w g heard)
    in_order_by [] r =
        before_begin m w g (asks t p w g [])
        (subst (IsInOrder m w g (Begin ∷ [])) (sym begins) (ordered_after Begin [] (refl, begin_by m P (asks t p w g []), tt)))
    in_order_by (last ∷ heard) r = ordered_after last heard r
