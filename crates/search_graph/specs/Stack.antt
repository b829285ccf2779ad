-- The meaning of the stack of a search.
use Rattle.std.specs.Prelude.{◌≡◌, ◌≤◌, ◌+◌, ℕ, true, cond, nat_eq, length, find, drop, slice_get, List, [], ◌∷◌, ◌++◌, ◌⊎◌, MatchOption, Option, Some, None, IsSome}
use Rattle.search_paths.specs.declared.path_kind.PathKind.{PathKind}
use Rattle.search_paths.specs.declared.path_kind.PathKind.TheVariants.{Inductive}
use Rattle.search_graph.specs.declared.delegate.Request.{Request}
use Rattle.search_graph.specs.declared.delegate.Reply.{Reply}
use Rattle.search_graph.specs.declared.delegate.Reply.TheVariants.{Begin, Result, Entered, Finished, Ignored}
use Rattle.search_graph.specs.declared.stack.StackEntry.{StackEntry}
use Rattle.search_graph.specs.declared.stack.Cycle.{Cycle}
use Rattle.search_paths.specs.declared.path_kind.PathsToNested.{PathsToNested}
use Rattle.search_graph.specs.declared.cache.CacheEntry.{CacheEntry}
use Rattle.search_graph.specs.declared.cache.Asked.{Asked}
use Rattle.search_paths.specs.declared.nested_goals.Span.{Span}
use Rattle.search_paths.specs.Nested.{no_goal}
use Rattle.search_paths.specs.Path.{greater}
use Rattle.search_graph.specs.Chain.{IsWithinDepth, IsAskedUnder}
use Rattle.search_graph.specs.Meaning.{Meaning, premise_of, answer_count, request_of, IsRequest, IsFair, AreReplies}
use Rattle.search_graph.specs.Computed.{Hears, IsComputed, IsGiven, IsGivenWithin}
use Rattle.search_paths.specs.KeptPaths.{AreBelow}
use Rattle.search_graph.specs.Rests.{ShownFor, DerivedFor, RunShownFor}
use Rattle.search_graph.specs.Faithful.{IsKept}

-- the greatest kind of the steps of these entries and of a last step
abbrev pub kind_after : {I R : Type 0} → List (StackEntry I R) → PathKind → PathKind
kind_after [] k = k
kind_after (e ∷ es) k = greater e.step_kind (kind_after es k)

-- the index of the oldest of these entries with the number, if the first one has the index `place`
abbrev pub place_from : {I R : Type 0} → ℕ → List (StackEntry I R) → ℕ → Option ℕ
place_from place [] number = None
place_from place (e ∷ es) number = cond (nat_eq number e.number) (Some place) (place_from (place + 1) es number)

-- the index of the oldest goal of a stack with the number
abbrev pub place_of : {I R : Type 0} → List (StackEntry I R) → ℕ → Option ℕ
place_of es number = place_from 0 es number

-- a goal of the stack has the number
abbrev pub IsOnStack : {I R : Type 0} → List (StackEntry I R) → ℕ → Type 0
IsOnStack es number = IsSome (place_of es number)

-- the goal, reached by a step of this kind, closes the cycle
abbrev pub IsClosedBy : {I R : Type 0} → List (StackEntry I R) → I → PathKind → Cycle → Type 0
IsClosedBy {I} {R} es input k cycle = (e : StackEntry I R) × (slice_get es cycle.index ≡ Some e) × (e.input ≡ input) × (cycle.path_kind ≡ kind_after (drop (cycle.index + 1) es) k)

-- P is true if a cache has a result of the goal that may be used at this depth over the stack
abbrev pub IfUsable : {I R : Type 0} → List (CacheEntry I R) → List Asked → List (StackEntry I R) → I → ℕ → Type 0 → Type 0
IfUsable {I} {R} es asked stack input depth P =
    (place : ℕ) (e : CacheEntry I R) → slice_get es place ≡ Some e → e.input ≡ input → IsWithinDepth e.encountered_overflow e.depth depth
    → ((n : ℕ) → IsAskedUnder asked e.asked n → IsOnStack stack n → ⊥) → P

-- the same if the stack is empty
abbrev pub IfUsableAlone : {I R : Type 0} → List (CacheEntry I R) → List Asked → List (StackEntry I R) → I → ℕ → Type 0 → Type 0
IfUsableAlone es asked stack input depth P = stack ≡ [] → IfUsable es asked stack input depth P

-- the goal's own result was not read in its run
abbrev pub IsUnread : Option PathsToNested → Type 0
IsUnread read = MatchOption read (Unit {0}) (λ paths. paths.0 ≡ 0)

-- the oldest goal of a stack with the number
abbrev pub oldest_of : {I R : Type 0} → List (StackEntry I R) → ℕ → Option (StackEntry I R)
oldest_of es number = find (λ e. nat_eq number e.number) es

-- the range of the newest goal of a stack, which contains the numbers of all its goals
abbrev pub span_of_newest : {I R : Type 0} → List (StackEntry I R) → Span
span_of_newest [] = no_goal
span_of_newest (e ∷ []) = e.span
span_of_newest (e ∷ d ∷ es) = span_of_newest (d ∷ es)

-- the entry for the next run of the goal, after a run with this result, which depends on these goals
pub record IsNextRun {I R : Type 0} (e : StackEntry I R) (last : R) (heads : List ℕ) (next : StackEntry I R) : Type 0 where
  pub input : next.input ≡ e.input
  pub kind : next.step_kind ≡ e.step_kind
  pub result : next.provisional_result ≡ Some last
  pub rests : next.heads.items ≡ heads
  pub number : next.number ≡ e.number
  pub span : next.span ≡ e.span

module _ {C I R F : Type 0} (m : Meaning C I R F) where
  abbrev pub question_of : C → StackEntry I R → m.Goal × PathKind
  question_of c e = (m.goal_of c e.input, e.step_kind)

  -- the goals of a stack with the steps to them, the oldest first
  abbrev pub steps_of : C → List (StackEntry I R) → List (m.Goal × PathKind)
  steps_of c [] = []
  steps_of c (e ∷ es) = question_of c e ∷ steps_of c es

  -- a result of a run of the goal of q over these steps, which depends on these heads: a yes is derived
  pub record IsProvisional (w : m.World) (steps : List (m.Goal × PathKind)) (q : m.Goal × PathKind) (heads : List ℕ) (c : C) (r : R) : Type 0 where
    pub known : m.IsResult c r
    pub fair : IsFair m w q.0 (m.answer_of c r)
    pub source : IsComputed m w (IsGiven m w) q.0 (m.answer_of c r)
    pub yes : m.is_yes (m.answer_of c r) ≡ true → DerivedFor m.Goal (m.Follows w) heads steps q.0 q.1

  pub record IsEntry (w : m.World) (steps : List (m.Goal × PathKind)) (c : C) (e : StackEntry I R) : Type 0 where
    pub known : m.IsInput c e.input
    pub below : AreBelow (length steps) e.heads.items
    pub last : MatchOption e.provisional_result (Unit {0}) (IsProvisional w steps (question_of c e) e.heads.items c)

  abbrev pub IsStack : m.World → List (m.Goal × PathKind) → C → List (StackEntry I R) → Type 0
  IsStack w steps c [] = Unit {0}
  IsStack w steps c (e ∷ es) = IsEntry w steps c e × IsStack w (steps ++ question_of c e ∷ []) c es

  -- After such a result a goal whose own result was read is not run again: the result is ambiguous, or that of the
  -- previous run, or in the first run the initial result for a kind of path
  abbrev pub IsSettled : C → StackEntry I R → R → Type 0
  IsSettled c e r = (m.is_ambiguous (m.answer_of c r) ≡ true)
      ⊎ MatchOption e.provisional_result ((k : PathKind) × (m.answer_of c r ≡ m.initial (m.world c) (m.goal_of c e.input) k)) (λ last. last ≡ r)

  -- a result of the nested goal q over these steps, which depends on these heads: a yes is shown
  pub record IsAnswer (w : m.World) (steps : List (m.Goal × PathKind)) (q : m.Goal × PathKind) (heads : List ℕ) (c : C) (r : R) : Type 0 where
    pub known : m.IsResult c r
    pub fair : IsFair m w q.0 (m.answer_of c r)
    pub source : IsComputed m w (IsGiven m w) q.0 (m.answer_of c r)
    pub below : AreBelow (length steps) heads
    pub yes : m.is_yes (m.answer_of c r) ≡ true → ShownFor m.Goal (m.Follows w) heads steps q.0 q.1

  -- the nested goals that were answered by a yes, in ignored candidates too
  abbrev pub yes_questions : m.World → m.Goal → List (Reply m.Answer) → List (m.Goal × PathKind)
  yes_questions w g [] = []
  yes_questions w g (Begin ∷ heard) = yes_questions w g heard
  yes_questions w g (Result a ∷ heard) = premise_of m (m.asks w g heard) a (yes_questions w g heard)
  yes_questions w g (Entered ∷ heard) = yes_questions w g heard
  yes_questions w g (Finished n ∷ heard) = yes_questions w g heard
  yes_questions w g (Ignored ∷ heard) = yes_questions w g heard

  -- a frame of the goal g, which was reached by a step of the kind j, made this request, and the nested goals with a yes are shown
  pub record IsRunning (w : m.World) (steps : List (m.Goal × PathKind)) (g : m.Goal) (j : PathKind) (heads : List ℕ) (c : C) (f : F) (q : Request I R) : Type 0 where
    pub heard : List (Reply m.Answer)
    pub begun : heard ≡ [] → ⊥
    pub frame : m.HasHeard c g heard f
    pub request : request_of m c q ≡ m.asks w g heard
    pub known : IsRequest m c q
    pub below : AreBelow (length steps + 1) heads
    pub fair : AreReplies m (IsFair m w) w g heard
    pub hears : Hears m w (IsGiven m w) g heard
    pub count : answer_count m heard ≤ m.number_of w g
    pub shown : RunShownFor m.Goal (m.Follows w) heads steps g j (yes_questions w g heard)

  -- a frame of the goal was started, and this is its first request
  abbrev pub HasBegun : C → I → C → F → Request I R → Type 0
  HasBegun c input d f q = m.HasHeard d (m.goal_of c input) (Begin ∷ []) f × IsRequest m d q × (request_of m d q ≡ m.asks (m.world c) (m.goal_of c input) (Begin ∷ []))

  -- a result that depends on no goal of the stack
  pub record IsCached (w : m.World) (c : C) (e : CacheEntry I R) : Type 0 where
    pub known : m.IsInput c e.input
    pub result : IsProvisional w [] (m.goal_of c e.input, Inductive) [] c e.result
    pub kept : IsKept m w (m.goal_of c e.input) (m.answer_of c e.result) e.depth e.encountered_overflow

  abbrev pub AreCached : m.World → C → List (CacheEntry I R) → Type 0
  AreCached w c [] = Unit {0}
  AreCached w c (e ∷ es) = IsCached w c e × AreCached w c es

  -- the answer depends on no limit, except through answers that were known before
  abbrev pub IsWithin : m.World → List (m.Goal × m.Answer) → m.Goal → m.Answer → Type 0
  IsWithin w before g a = IsComputed m w (IsGivenWithin m w before) g a

  -- the same of the result of the entry's last run, if there was one
  abbrev pub IsLastWithin : m.World → List (m.Goal × m.Answer) → C → StackEntry I R → Type 0
  IsLastWithin w before c e = MatchOption e.provisional_result (Unit {0}) (λ r. IsWithin w before (m.goal_of c e.input) (m.answer_of c r))

  abbrev pub AreLastWithin : m.World → List (m.Goal × m.Answer) → C → List (StackEntry I R) → Type 0
  AreLastWithin w before c [] = Unit {0}
  AreLastWithin w before c (e ∷ es) = IsLastWithin w before c e × AreLastWithin w before c es

  -- and of all results of a cache
  abbrev pub AreCachedWithin : m.World → List (m.Goal × m.Answer) → C → List (CacheEntry I R) → Type 0
  AreCachedWithin w before c [] = Unit {0}
  AreCachedWithin w before c (e ∷ es) = IsWithin w before (m.goal_of c e.input) (m.answer_of c e.result) × AreCachedWithin w before c es
