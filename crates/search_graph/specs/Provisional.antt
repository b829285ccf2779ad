-- Provisional entries: results that depend on goals of the stack, stored during the runs of those goals.
use Rattle.std.specs.Prelude.{◌≡◌, ◌≤◌, ◌+◌, ◌↔◌, ◌||◌, ◌⊎◌, ℕ, true, length, min, take, drop, List, [], ◌∷◌, ◌++◌, Option, Some, slice_get}
use Rattle.std.specs.Global.{Vec}
use Rattle.search_paths.specs.declared.path_kind.PathKind.{PathKind}
use Rattle.search_paths.specs.declared.path_kind.PathKind.TheVariants.{ForcedAmbiguity}
use Rattle.search_paths.specs.declared.dependencies.EvaluationResult.{EvaluationResult}
use Rattle.search_paths.specs.Path.{greater, HasPath, IsExtended}
use Rattle.search_paths.specs.Heads.{RestsOn, paths_to, first_paths}
use Rattle.search_graph.specs.declared.cache.Asked.{Asked}
use Rattle.search_graph.specs.declared.cache.CacheEntry.{CacheEntry}
use Rattle.search_graph.specs.declared.stack.StackEntry.{StackEntry}
use Rattle.search_graph.specs.declared.provisional.ProvisionalEntry.{ProvisionalEntry}
use Rattle.search_paths.specs.KeptPaths.{indices, AreBelow}
use Rattle.search_graph.specs.Meaning.{Meaning, IsFair}
use Rattle.search_graph.specs.Computed.{IsComputed, IsGiven}
use Rattle.search_graph.specs.Stack.{kind_after, IsWithin, AreCachedWithin}
use Rattle.search_graph.specs.Rests.{ShownFor}
use Rattle.search_graph.specs.Faithful.{NeedsHead}

module _ {I R : Type 0} where
  -- the entry is of this goal, for a path of this kind, and is used at this depth
  pub record IsServing (number : ℕ) (input : I) (path : PathKind) (depth : ℕ) (e : ProvisionalEntry I R) : Type 0 where
    pub numbered : e.number ≡ number
    pub same : e.input ≡ input
    pub alike : e.kind ≡ path
    pub within : e.required_depth ≤ depth
    pub reached : depth ≤ e.reach

  -- the entry has the index `place` in the list of the goal with the index `head` in the stack
  abbrev pub IsEntryAt : List (Vec (ProvisionalEntry I R)) → ℕ → ℕ → ProvisionalEntry I R → Type 0
  IsEntryAt lists head place e = (list : Vec (ProvisionalEntry I R)) × (slice_get lists head ≡ Some list) × (slice_get list.items place ≡ Some e)

  -- there is no entry
  abbrev pub NoneIsLeft : List (Vec (ProvisionalEntry I R)) → Type 0
  NoneIsLeft lists = (head place : ℕ) (e : ProvisionalEntry I R) → IsEntryAt lists head place e → ⊥

  -- an entry with this position can be used: it is of the goal, and of the kind of the path from its head to the goal
  abbrev pub IsServingAt : List (Vec (ProvisionalEntry I R)) → List (StackEntry I R) → ℕ → I → PathKind → ℕ → ℕ → ℕ → Type 0
  IsServingAt lists stack number input k depth head place =
      (e : ProvisionalEntry I R) × IsEntryAt lists head place e × IsServing number input (kind_after (drop (head + 1) stack) k) depth e

  -- no entry can be used
  abbrev pub NoneServes : List (Vec (ProvisionalEntry I R)) → List (StackEntry I R) → ℕ → I → PathKind → ℕ → Type 0
  NoneServes lists stack number input k depth = (head place : ℕ) → IsServingAt lists stack number input k depth head place → ⊥

  -- an entry is added to the list of the goal with this index, and nothing else changes
  pub record AddsEntry (old new : List (Vec (ProvisionalEntry I R))) (head : ℕ) (e : ProvisionalEntry I R) : Type 0 where
    pub added : (list : Vec (ProvisionalEntry I R)) → slice_get old head ≡ Some list → (more : Vec (ProvisionalEntry I R)) × (slice_get new head ≡ Some more) × (more.items ≡ list.items ++ e ∷ [])
    pub others : (other : ℕ) → (other ≡ head → ⊥) → slice_get new other ≡ slice_get old other
    pub goals : length new ≡ length old

  -- An entry moves from the list of the goal that ended over this stack to that of the goal with the index `next`. The goal
  -- that ended was reached by a step of the kind j, and its result is used up to `reach`. Its nested goals have the index
  -- `asked` in the cache
  pub record IsMoved (stack : List (StackEntry I R)) (j : PathKind) (ended : EvaluationResult R) (reach asked next : ℕ) (old new : ProvisionalEntry I R) : Type 0 where
    pub input : new.input ≡ old.input
    pub number : new.number ≡ old.number
    pub result : new.result ≡ old.result
    pub depth : new.required_depth ≡ old.required_depth
    -- it met each overflow that either met, and is used as far as both are
    pub overflow : new.encountered_overflow ≡ (old.encountered_overflow || ended.dependencies.encountered_overflow)
    pub reached : new.reach ≡ min old.reach reach
    pub asked_under : new.asked ≡ asked
    -- the entry's result is that of the goal that ended
    pub same : old.result ≡ ended.result
    -- it depends on what both depend on, except the goal that ended. The newest of these is its nearest head
    pub rests : (place : ℕ) → RestsOn new.heads.items place ↔ ((RestsOn old.heads.items place × (place ≡ length stack → ⊥)) ⊎ RestsOn ended.dependencies.heads.items place)
    pub nearest : RestsOn new.heads.items next × AreBelow (next + 1) (indices new.heads.items)
    -- it has its own reads, and through its reads of the goal that ended the reads of that goal
    pub reads : (place : ℕ) → (place ≡ length stack → ⊥) → (path : Option PathKind)
        → HasPath (paths_to new.heads.items place) path ↔ (HasPath (paths_to old.heads.items place) path ⊎ IsExtended (first_paths old.heads.items (length stack)) (paths_to ended.dependencies.heads.items place) path)
    -- no forced step on the path from there hides a coinductive one
    pub kind : new.kind ≡ kind_after (drop (next + 1) stack) (greater j old.kind)
    pub free : new.kind ≡ ForcedAmbiguity → ⊥

  -- some of these entries moved into the lists, and nothing else was added
  abbrev pub AreMoved : List (StackEntry I R) → List (ProvisionalEntry I R) → PathKind → EvaluationResult R → ℕ → ℕ → List (Vec (ProvisionalEntry I R)) → List (Vec (ProvisionalEntry I R)) → Type 0
  AreMoved stack left j ended reach asked old new =
      (head place : ℕ) (e : ProvisionalEntry I R) → IsEntryAt new head place e
      → IsEntryAt old head place e ⊎ ((i : ℕ) × (from : ProvisionalEntry I R) × (slice_get left i ≡ Some from) × IsMoved stack j ended reach asked head from e)

module _ {C I R F : Type 0} (m : Meaning C I R F) where
  -- An entry over the goals of the stack up to its nearest head, the oldest first. It is a result of its goal, and depends
  -- on its heads alone: a yes is shown for the goal as a nested goal of the newest of these goals, by a step of the entry's
  -- kind. Plain recursion, as far as the entry is used, answers the goal only if it answers a head. Its nested goals are listed
  -- in the cache
  pub record IsProvisionalEntry (w : m.World) (c : C) (asked : List Asked) (before : List (m.Goal × PathKind)) (e : ProvisionalEntry I R) : Type 0 where
    pub input : m.IsInput c e.input
    pub known : m.IsResult c e.result
    pub fair : IsFair m w (m.goal_of c e.input) (m.answer_of c e.result)
    pub source : IsComputed m w (IsGiven m w) (m.goal_of c e.input) (m.answer_of c e.result)
    pub some : e.heads.items ≡ [] → ⊥
    pub below : AreBelow (length before) (indices e.heads.items)
    pub yes : m.is_yes (m.answer_of c e.result) ≡ true → ShownFor m.Goal (m.Follows w) (indices e.heads.items) before (m.goal_of c e.input) e.kind
    pub needs : NeedsHead m w (e.reach + 1) before (m.goal_of c e.input) e.encountered_overflow (indices e.heads.items)
    pub listed : (a : Asked) × (slice_get asked e.asked ≡ Some a)

  -- the same of each entry in the list of a goal of the stack, over the stack up to that goal
  abbrev pub AreProvisional : m.World → C → List Asked → List (m.Goal × PathKind) → List (Vec (ProvisionalEntry I R)) → Type 0
  AreProvisional w c asked steps lists =
      (head place : ℕ) (e : ProvisionalEntry I R) → IsEntryAt lists head place e → IsProvisionalEntry w c asked (take (head + 1) steps) e

  -- the same of each entry in the list of the newest goal, after that goal was popped
  abbrev pub AreLeft : m.World → C → List Asked → List (m.Goal × PathKind) → List (ProvisionalEntry I R) → Type 0
  AreLeft w c asked steps left = (place : ℕ) (e : ProvisionalEntry I R) → slice_get left place ≡ Some e → IsProvisionalEntry w c asked steps e

  -- their results depend on no limit, except through answers that were known before
  abbrev pub AreEntriesWithin : m.World → List (m.Goal × m.Answer) → C → List (Vec (ProvisionalEntry I R)) → Type 0
  AreEntriesWithin w before c lists =
      (head place : ℕ) (e : ProvisionalEntry I R) → IsEntryAt lists head place e → IsWithin m w before (m.goal_of c e.input) (m.answer_of c e.result)

  -- the same of these and the results of a cache
  abbrev pub AreKeptWithin : m.World → List (m.Goal × m.Answer) → C → List (CacheEntry I R) → List (Vec (ProvisionalEntry I R)) → Type 0
  AreKeptWithin w before c es lists = AreCachedWithin m w before c es × AreEntriesWithin w before c lists
