-- How answers are computed: by frames that make their requests in order.
use Rattle.std.specs.Prelude.{◌≡◌, false, List, [], ◌∷◌, ◌⊎◌}
use Rattle.search_paths.specs.declared.path_kind.PathKind.{PathKind}
use Rattle.search_graph.specs.declared.delegate.Request.TheVariants.{Evaluate, Done}
use Rattle.search_graph.specs.declared.delegate.Reply.{Reply}
use Rattle.search_graph.specs.declared.delegate.Reply.TheVariants.{Begin, Result, Entered, Finished, Ignored}
use Rattle.search_graph.specs.Meaning.{Meaning, IsDueAfter, IsInOrder, has_open_candidate}
use Rattle.search_graph.specs.Proof.{IsAmong}

-- an answer that no frame computed: an overflow by depth or by runs, or a goal's initial result
abbrev pub IsGiven : {C I R F : Type 0} → (m : Meaning C I R F) → m.World → m.Goal → m.Answer → Type 0
IsGiven m w g a = (a ≡ m.stack_overflow w g) ⊎ ((a ≡ m.fixpoint_overflow w g) ⊎ ((k : PathKind) × (a ≡ m.initial w g k)))

-- an answer that neither a frame nor a limit gave: a goal's initial result, or an answer that was known before
abbrev pub IsGivenWithin : {C I R F : Type 0} → (m : Meaning C I R F) → m.World → List (m.Goal × m.Answer) → m.Goal → m.Answer → Type 0
IsGivenWithin m w before g a = ((k : PathKind) × (a ≡ m.initial w g k)) ⊎ IsAmong (g, a) before

abbrev pub HoldsNoResult : {A : Type 0} → Reply A → Type 0
HoldsNoResult Begin = Unit {0}
HoldsNoResult (Result a) = ⊥
HoldsNoResult Entered = Unit {0}
HoldsNoResult (Finished n) = Unit {0}
HoldsNoResult Ignored = Unit {0}

-- The frame of the goal makes its requests in order and receives these replies, the newest first. The answer of a nested goal
-- is given, or computed by a frame in the same way
pub data Hears {C I R F : Type 0} (m : Meaning C I R F) (w : m.World) (Given : m.Goal → m.Answer → Type 0) : m.Goal → List (Reply m.Answer) → Type 0 where
  nothing : {g : m.Goal} → Hears m w Given g []
  also : {g : m.Goal} {heard : List (Reply m.Answer)} {reply : Reply m.Answer} → Hears m w Given g heard → IsDueAfter m w g heard reply → HoldsNoResult reply → Hears m w Given g (reply ∷ heard)
  given : {g q : m.Goal} {k : PathKind} {heard : List (Reply m.Answer)} {a : m.Answer} → Hears m w Given g heard → m.asks w g heard ≡ Evaluate q k → IsDueAfter m w g heard (Result a)
      → Given q a → Hears m w Given g (Result a ∷ heard)
  computed : {g q : m.Goal} {k : PathKind} {heard nested : List (Reply m.Answer)} {a : m.Answer} → Hears m w Given g heard → m.asks w g heard ≡ Evaluate q k → IsDueAfter m w g heard (Result a)
      → Hears m w Given q nested → m.asks w q nested ≡ Done a → has_open_candidate m nested ≡ false → Hears m w Given g (Result a ∷ heard)

-- the answer is given, or a frame of the goal ends with it, and all its requests are in order
pub record IsComputed {C I R F : Type 0} (m : Meaning C I R F) (w : m.World) (Given : m.Goal → m.Answer → Type 0) (g : m.Goal) (a : m.Answer) : Type 0 where
  pub how : Given g a ⊎ ((heard : List (Reply m.Answer)) × Hears m w Given g heard × (m.asks w g heard ≡ Done a) × (has_open_candidate m heard ≡ false))

-- the answer is given, or frames computed it, and all their requests are in order
abbrev pub IsComputedOrGiven : {C I R F : Type 0} → (m : Meaning C I R F) → m.World → m.Goal → m.Answer → Type 0
IsComputedOrGiven m w g a = IsComputed m w (IsGiven m w) g a

-- the frame of the goal, or of one that is evaluated under it, makes a request out of order
pub data MakesMisstep {C I R F : Type 0} (m : Meaning C I R F) (w : m.World) : m.Goal → Type 0 where
  here : {g : m.Goal} {heard : List (Reply m.Answer)} → Hears m w (IsGiven m w) g heard → (IsInOrder m w g heard (m.asks w g heard) → ⊥) → MakesMisstep m w g
  below : {g q : m.Goal} {k : PathKind} {heard : List (Reply m.Answer)} → Hears m w (IsGiven m w) g heard → m.asks w g heard ≡ Evaluate q k → MakesMisstep m w q → MakesMisstep m w g
