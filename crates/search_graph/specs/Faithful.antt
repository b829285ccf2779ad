-- Answers that are those of plain recursion, by the heads that they depend on.
use Rattle.std.specs.Prelude.{◌≡◌, ◌≤◌, ◌+◌, ℕ, Bool, false, List, [], ◌⊎◌, Some, slice_get}
use Rattle.std.proofs.Common.{suc}
use Rattle.search_paths.specs.declared.path_kind.PathKind.{PathKind}
use Rattle.search_graph.specs.declared.delegate.Reply.{Reply}
use Rattle.search_graph.specs.Meaning.{Meaning}
use Rattle.search_paths.specs.Heads.{IsHead}
use Rattle.search_graph.specs.Plain.{IsPlain, Descends, IsOnTrack}

module _ {C I R F : Type 0} (m : Meaning C I R F) where
  -- plain recursion on each head descends to g
  abbrev pub HeadsDescend : m.World → ℕ → List ℕ → List (m.Goal × PathKind) → m.Goal → Type 0
  HeadsDescend w limit heads steps g = (place : ℕ) (s : m.Goal × PathKind) → IsHead place heads → slice_get steps place ≡ Some s → Descends m w limit s.0 g

  -- plain recursion on each goal of the stack descends to g
  abbrev pub AllDescend : m.World → ℕ → List (m.Goal × PathKind) → m.Goal → Type 0
  AllDescend w limit steps g = (place : ℕ) (s : m.Goal × PathKind) → slice_get steps place ≡ Some s → Descends m w limit s.0 g

  -- a goal that plain recursion answers has its answer, met no overflow, and read no goal of the stack
  pub record IsTold (answer given : m.Answer) (overflowed : Bool) (heads : List ℕ) : Type 0 where
    pub same : answer ≡ given
    pub within : overflowed ≡ false
    pub unread : heads ≡ []

  -- plain recursion answers a head, in chains of fewer than n nested goals
  pub record HasPlainHead (w : m.World) (n : ℕ) (heads : List ℕ) (steps : List (m.Goal × PathKind)) : Type 0 where
    pub place : ℕ
    pub step : m.Goal × PathKind
    pub head : IsHead place heads
    pub there : slice_get steps place ≡ Some step
    pub chain : ℕ
    pub answer : m.Answer
    pub within : chain ≤ n
    pub plain : IsPlain m w chain step.0 answer

  -- up to `reach`, and beyond it if there was no overflow, plain recursion answers the goal only if it answers a head
  abbrev pub NeedsHead : m.World → ℕ → List (m.Goal × PathKind) → m.Goal → Bool → List ℕ → Type 0
  NeedsHead w reach steps g overflowed heads = (n : ℕ) (b : m.Answer) → (n ≤ reach) ⊎ (overflowed ≡ false) → IsPlain m w n g b → HasPlainHead w n heads steps

  -- or else the answer is that of plain recursion
  abbrev pub IsFaithful : m.World → ℕ → List (m.Goal × PathKind) → m.Goal → m.Answer → Bool → List ℕ → Type 0
  IsFaithful w reach steps g a overflowed heads =
      (n : ℕ) (b : m.Answer) → (n ≤ reach) ⊎ (overflowed ≡ false) → IsPlain m w n g b → IsTold b a overflowed heads ⊎ HasPlainHead w n heads steps

  -- the same of a goal that is still evaluated
  abbrev pub IsUntouched : m.World → ℕ → List (m.Goal × PathKind) → m.Goal → Bool → List ℕ → Type 0
  IsUntouched w reach steps g overflowed heads =
      (n : ℕ) (b : m.Answer) → (n ≤ reach) ⊎ (overflowed ≡ false) → IsPlain m w n g b → IsTold b b overflowed heads ⊎ HasPlainHead w n heads steps

  -- and of its frame after these replies
  pub record IsTracking (w : m.World) (g : m.Goal) (overflowed : Bool) (heads : List ℕ) (heard : List (Reply m.Answer)) (n : ℕ) (b : m.Answer) : Type 0 where
    pub track : IsOnTrack m w n g heard b
    pub told : IsTold b b overflowed heads

  abbrev pub IsOnPlainTrack : m.World → ℕ → List (m.Goal × PathKind) → m.Goal → Bool → List ℕ → List (Reply m.Answer) → Type 0
  IsOnPlainTrack w reach steps g overflowed heads heard =
      (n : ℕ) (b : m.Answer) → (suc n ≤ reach) ⊎ (overflowed ≡ false) → IsPlain m w (suc n) g b → IsTracking w g overflowed heads heard n b ⊎ HasPlainHead w (suc n) heads steps

  -- a cached result of this depth is that of plain recursion
  abbrev pub IsKept : m.World → m.Goal → m.Answer → ℕ → Bool → Type 0
  IsKept w g a depth overflowed =
      (limit : ℕ) → (limit ≤ depth + 1) ⊎ (overflowed ≡ false) → (n : ℕ) (b : m.Answer) → n ≤ limit → IsPlain m w n g b → (b ≡ a) × (overflowed ≡ false)
