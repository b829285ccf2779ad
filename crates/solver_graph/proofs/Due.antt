-- Which reply is due does not depend on the handles by which a search refers to goals and responses.
use Rattle.std.proofs.Common.{◌≡◌, Bool, false, List, [], ◌∷◌, ◌++◌, length, refl, sym, ◌∙◌, ap, Option, slice_get}
use Rattle.search_graph.specs.declared.delegate.Request.{Request}
use Rattle.search_graph.specs.declared.delegate.Request.TheVariants.{Evaluate, EnterCandidate, FinishCandidate, IgnoreCandidate, Done}
use Rattle.search_graph.specs.declared.delegate.Reply.{Reply}
use Rattle.search_graph.specs.declared.delegate.Reply.TheVariants.{Begin, Result, Entered, Finished, Ignored}
use Rattle.search_graph.specs.Meaning.{Meaning, has_open_candidate, ignoring, finished, IsInOrder, IsReplyTo, IsReplyBy, IsDueAfter, AreReplies}
use Rattle.goal_evaluator.specs.History.{CameInOrder}
use Rattle.goal_evaluator.specs.Promises as Frames
use Rattle.goal_evaluator.specs.Promises.{frame_of_goal}
use Rattle.goal_evaluator.specs.Table.{Tables}
use Rattle.goal_frames.specs.Programs.{Programs}
use Rattle.goal_frames.specs.Searches.{Handles, GoalInMode, asks, goal_in, kind_of, meaning, replies_of}
use Rattle.goal_frames.proofs.Histories.{came}

module _ {Question Response : Type 0} (t : Tables Question Response) (p : Programs t) where
  abbrev Answer : Type 0
  Answer = Option Response

  module _ {C I R F D J S G : Type 0} (one : Handles C I R F p.World (GoalInMode t p) Answer) (other : Handles D J S G p.World (GoalInMode t p) Answer) where
    abbrev m : Meaning C I R F
    m = meaning t p one

    abbrev n : Meaning D J S G
    n = meaning t p other

    open-same : (heard : List (Reply Answer)) → has_open_candidate n heard ≡ has_open_candidate m heard
    open-same [] = refl
    open-same (Begin ∷ heard) = open-same heard
    open-same (Result a ∷ heard) = open-same heard
    open-same (Entered ∷ heard) = refl
    open-same (Finished k ∷ heard) = refl
    open-same (Ignored ∷ heard) = open-same heard

    ignoring-same : (q : Request (GoalInMode t p) Answer) (bs : List Bool) → ignoring n q bs ≡ ignoring m q bs
    ignoring-same (Evaluate g k) bs = refl
    ignoring-same EnterCandidate bs = refl
    ignoring-same FinishCandidate bs = refl
    ignoring-same (IgnoreCandidate k) bs = refl
    ignoring-same (Done a) bs = refl

    module _ (w : p.World) (g : GoalInMode t p) where
      finished-same : (heard : List (Reply Answer)) → finished n w g heard ≡ finished m w g heard
      finished-same [] = refl
      finished-same (Begin ∷ heard) = finished-same heard
      finished-same (Result a ∷ heard) = finished-same heard
      finished-same (Entered ∷ heard) = finished-same heard
      finished-same (Finished k ∷ heard) = ap (λ bs. bs ++ false ∷ []) (finished-same heard)
      finished-same (Ignored ∷ heard) = ap (ignoring n (asks t p w g heard)) (finished-same heard) ∙ ignoring-same (asks t p w g heard) (finished m w g heard)

      order-same : (heard : List (Reply Answer)) (q : Request (GoalInMode t p) Answer) → IsInOrder m w g heard q → IsInOrder n w g heard q
      order-same heard (Evaluate h k) i = i
      order-same heard EnterCandidate i = open-same heard ∙ i
      order-same heard FinishCandidate i = open-same heard ∙ i
      order-same heard (IgnoreCandidate k) i = ap (λ bs. slice_get bs k) (finished-same heard) ∙ i
      order-same heard (Done a) i = open-same heard ∙ i

      reply-same : (heard : List (Reply Answer)) (q : Request (GoalInMode t p) Answer) (reply : Reply Answer) → IsReplyTo m w g heard q reply → IsReplyTo n w g heard q reply
      reply-same heard (Evaluate h k) (Result a) i = tt
      reply-same heard EnterCandidate Entered i = tt
      reply-same heard FinishCandidate (Finished k) i = i ∙ ap length (sym (finished-same heard))
      reply-same heard (IgnoreCandidate k) Ignored i = tt
      reply-same heard q reply i = absurd i

      pub due-same : (heard : List (Reply Answer)) (reply : Reply Answer) → IsDueAfter m w g heard reply → IsDueAfter n w g heard reply
      due-same [] reply d = d
      due-same (last ∷ heard) reply d = (order-same (last ∷ heard) (asks t p w g (last ∷ heard)) d.0, reply-same (last ∷ heard) (asks t p w g (last ∷ heard)) reply d.1)

  module _ {C I R F : Type 0} (handles : Handles C I R F p.World (GoalInMode t p) Answer) where
    abbrev Heard : p.World → GoalInMode t p → List (Reply Answer) → Type 0
    Heard w g heard = AreReplies (meaning t p handles) (λ q a. Unit {0}) w g heard

    whatever : (q : Request (GoalInMode t p) Answer) (reply : Reply Answer) → IsReplyBy (meaning t p handles) (λ q a. Unit {0}) q reply
    whatever (Evaluate h k) Begin = tt
    whatever (Evaluate h k) (Result a) = tt
    whatever (Evaluate h k) Entered = tt
    whatever (Evaluate h k) (Finished j) = tt
    whatever (Evaluate h k) Ignored = tt
    whatever EnterCandidate reply = tt
    whatever FinishCandidate reply = tt
    whatever (IgnoreCandidate j) reply = tt
    whatever (Done a) reply = tt

    -- one more reply that was due
    pub heard-more : (w : p.World) (g : GoalInMode t p) (heard : List (Reply Answer)) (reply : Reply Answer) → Heard w g heard → IsDueAfter (meaning t p handles) w g heard reply → Heard w g (reply ∷ heard)
    heard-more w g heard reply before due = (due, whatever (asks t p w g heard) reply, before)

    -- replies that were due came in order
    pub came-anyhow : (w : p.World) (g : GoalInMode t p) (last : Reply Answer) (heard : List (Reply Answer)) → Heard w g (last ∷ heard)
        → CameInOrder (Frames.Anything t (p.handled w g.0 g.1)) (frame_of_goal t (p.handled w g.0 g.1)) (replies_of (last ∷ heard))
    came-anyhow w g last heard r =
        came (meaning t p handles) Question (goal_in t p g.0) (kind_of t) w g (frame_of_goal t (p.handled w g.0 g.1)) (λ h. refl) (λ q a. Unit {0})
        (Frames.Anything t (p.handled w g.0 g.1)) (λ before q a c e fair. tt) last heard r
