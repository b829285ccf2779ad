-- Replies that came in order did so without any requirement on the results.
use Rattle.std.proofs.Common.{List, [], ◌∷◌}
use Rattle.goal_evaluator.specs.Frame.{Frame}
use Rattle.goal_evaluator.specs.History.{Reply, begin, entered, ignored, evaluated, finished, Position, position, IsAwaitedReply, CameInOrder}
use Rattle.goal_evaluator.proofs.Histories.{step}

module _ {Q A : Type 0} (R : Q → A → Type 0) where
  abbrev Any : Q → A → Type 0
  Any q a = Unit {0}

  reply_anyhow : (p : Position Q A) (reply : Reply A) → IsAwaitedReply R p reply → IsAwaitedReply Any p reply
  reply_anyhow =
      step R (λ p reply after. IsAwaitedReply Any p reply) (λ heard gone s go. tt) (λ heard gone a n ns. tt) (λ heard replies q k go a r. tt) (λ heard replies a go n new. new)

  pub anyhow : (f : Frame Q A) (heard : List (Reply A)) → CameInOrder R f heard → CameInOrder Any f heard
  anyhow f [] h = h
  anyhow f (begin ∷ []) h = tt
  anyhow f (begin ∷ last ∷ heard) h = (reply_anyhow (position f (last ∷ heard)) begin h.0, anyhow f (last ∷ heard) h.1)
  anyhow f (entered ∷ heard) h = (reply_anyhow (position f heard) entered h.0, anyhow f heard h.1)
  anyhow f (ignored ∷ heard) h = (reply_anyhow (position f heard) ignored h.0, anyhow f heard h.1)
  anyhow f (evaluated a ∷ heard) h = (reply_anyhow (position f heard) (evaluated a) h.0, anyhow f heard h.1)
  anyhow f (finished n ∷ heard) h = (reply_anyhow (position f heard) (finished n) h.0, anyhow f heard h.1)
