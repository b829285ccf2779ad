-- Plain recursion over frames, without stack, cycles, reruns, cache and limit.
use Rattle.std.specs.Prelude.{◌≡◌, ◌≤◌, ◌<◌, ℕ, List, [], ◌∷◌}
use Rattle.std.proofs.Common.{suc, zero}
use Rattle.search_graph.specs.declared.delegate.Request.TheVariants.{Done}
use Rattle.search_graph.specs.declared.delegate.Reply.{Reply}
use Rattle.search_graph.specs.declared.delegate.Reply.TheVariants.{Begin}
use Rattle.search_graph.specs.Meaning.{Meaning, IsDueAt, IsReplyBy}

module _ {C I R F : Type 0} (m : Meaning C I R F) where
  -- After the replies `heard`, the newest first, these replies come in order, and the frame ends with a. P is true of each
  -- nested goal and its answer
  abbrev pub Completes : m.World → (m.Goal → m.Answer → Type 0) → m.Goal → List (Reply m.Answer) → List (Reply m.Answer) → m.Answer → Type 0
  Completes w P g heard [] a = m.asks w g heard ≡ Done a
  Completes w P g heard (reply ∷ rest) a = IsDueAt m w g heard (m.asks w g heard) reply × IsReplyBy m P (m.asks w g heard) reply × Completes w P g (reply ∷ heard) rest a

  -- plain recursion gives the goal this answer, in chains of fewer than n nested goals
  abbrev pub IsPlain : m.World → ℕ → m.Goal → m.Answer → Type 0
  IsPlain w zero g a = ⊥
  IsPlain w (suc n) g a = (rest : List (Reply m.Answer)) × Completes w (IsPlain w n) g (Begin ∷ []) rest a

  abbrev pub IsNotPlain : m.World → ℕ → m.Goal → Type 0
  IsNotPlain w limit g = (n : ℕ) (b : m.Answer) → n ≤ limit → IsPlain w n g b → ⊥

  -- plain recursion on h evaluates g, in a shorter chain
  abbrev pub Descends : m.World → ℕ → m.Goal → m.Goal → Type 0
  Descends w limit h g = (n : ℕ) (b : m.Answer) → n ≤ limit → IsPlain w n h b → (k : ℕ) × (c : m.Answer) × (k < n) × IsPlain w k g c

  -- the replies are the first ones of plain recursion that ends with a, in chains of at most n nested goals
  abbrev pub IsOnTrack : m.World → ℕ → m.Goal → List (Reply m.Answer) → m.Answer → Type 0
  IsOnTrack w n g heard a = (rest : List (Reply m.Answer)) × Completes w (IsPlain w n) g heard rest a
