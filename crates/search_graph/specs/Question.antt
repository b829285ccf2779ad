-- What is promised of a nested goal over a stack. It is evaluated in the context c, and its result is in the context d.
use Rattle.std.specs.Prelude.{◌≡◌, ◌≤◌, ◌+◌, ◌++◌, ◌⊎◌, ℕ, Bool, false, List, [], ◌∷◌, length}
use Rattle.search_paths.specs.declared.path_kind.PathKind.{PathKind}
use Rattle.search_graph.specs.declared.stack.StackEntry.{StackEntry}
use Rattle.search_graph.specs.declared.stack.Cycle.{Cycle}
use Rattle.search_graph.specs.declared.cache.CacheEntry.{CacheEntry}
use Rattle.search_paths.specs.declared.dependencies.CycleHead.{CycleHead}
use Rattle.search_paths.specs.declared.dependencies.Dependencies.{Dependencies}
use Rattle.search_paths.specs.declared.dependencies.EvaluationResult.{EvaluationResult}
use Rattle.std.specs.Global.{Vec}
use Rattle.search_graph.specs.declared.cache.Asked.{Asked}
use Rattle.search_graph.specs.declared.provisional.ProvisionalEntry.{ProvisionalEntry}
use Rattle.search_graph.specs.Provisional.{AreProvisional, AreLeft, AreEntriesWithin, AreKeptWithin}
use Rattle.search_graph.specs.Meaning.{Meaning}
use Rattle.search_graph.specs.Cache.{KnownResult, answers_in}
use Rattle.search_graph.specs.Plain.{IsNotPlain}
use Rattle.search_graph.specs.Faithful.{AllDescend, IsFaithful, IsUntouched, IsKept}
use Rattle.search_paths.specs.KeptPaths.{AreBelow, indices}
use Rattle.search_paths.specs.Heads.{AreHeadsBut}
use Rattle.search_graph.specs.Stack.{question_of, steps_of, IsAnswer, IsProvisional, IsWithin, IsLastWithin, AreLastWithin, AreCachedWithin}

module _ {C I R F : Type 0} (m : Meaning C I R F) where
  -- a result of the nested goal, which depends on these goals of the stack
  abbrev pub IsReplyOver : C → List (StackEntry I R) → I → PathKind → List CycleHead → C → R → Type 0
  IsReplyOver c es input k heads d r = IsAnswer m (m.world c) (steps_of m c es) (m.goal_of c input, k) (indices heads) d r

  -- a result that is read from the entry with this index, which depends on it and on what its last result depends on
  abbrev pub IsReadOver : C → List (StackEntry I R) → I → PathKind → ℕ → StackEntry I R → C → R → Type 0
  IsReadOver c es input k place e d r = IsAnswer m (m.world c) (steps_of m c es) (m.goal_of c input, k) (place ∷ e.heads.items) d r

  -- a result of a run of the entry's goal, which depends on these goals. The goal itself may be one of them
  abbrev pub IsRunOver : C → List (StackEntry I R) → StackEntry I R → List CycleHead → C → R → Type 0
  IsRunOver c es entry heads d r =
      AreBelow (length es + 1) (indices heads)
      × ((less : List ℕ) → AreHeadsBut (length es) less (indices heads) → IsProvisional m (m.world c) (steps_of m c es) (question_of m c entry) less d r)

  -- the goal's initial result for the cycle
  abbrev pub IsInitial : C → I → Cycle → C → R → Type 0
  IsInitial c input cycle d r = m.answer_of d r ≡ m.initial (m.world c) (m.goal_of c input) cycle.path_kind

  -- up to `reach`, and beyond it if there was no overflow, the result is that of plain recursion
  abbrev pub IsFaithfulOver : C → List (StackEntry I R) → I → ℕ → C → EvaluationResult R → Type 0
  IsFaithfulOver c es input reach d o =
      IsFaithful m (m.world c) reach (steps_of m c es) (m.goal_of c input) (m.answer_of d o.result) o.dependencies.encountered_overflow (indices o.dependencies.heads.items)

  -- the same of a goal that is still evaluated
  abbrev pub IsUntouchedOver : C → List (StackEntry I R) → I → ℕ → Dependencies → Type 0
  IsUntouchedOver c es input reach found = IsUntouched m (m.world c) reach (steps_of m c es) (m.goal_of c input) found.encountered_overflow (indices found.heads.items)

  -- the same of a cached result of this depth, which depends on no goal of the stack
  abbrev pub IsKeptResult : C → I → R → ℕ → Bool → Type 0
  IsKeptResult c input r depth overflowed = IsKept m (m.world c) (m.goal_of c input) (m.answer_of c r) depth overflowed

  -- up to `reach`, plain recursion has no answer for the goal, if that on each goal of the stack descends to it
  abbrev pub IsNotPlainOver : C → List (StackEntry I R) → I → ℕ → Type 0
  IsNotPlainOver c es input reach =
      (limit : ℕ) → limit ≤ reach → AllDescend m (m.world c) limit (steps_of m c es) (m.goal_of c input) → IsNotPlain m (m.world c) limit (m.goal_of c input)

  -- it has none up to `reach`, whatever the stack
  abbrev pub IsNotPlainUpTo : C → I → ℕ → Type 0
  IsNotPlainUpTo c input reach = (limit : ℕ) → limit ≤ reach → IsNotPlain m (m.world c) limit (m.goal_of c input)

  -- it has none up to the depth, nor beyond it if there was no overflow
  abbrev pub IsNotPlainAt : C → I → ℕ → Bool → Type 0
  IsNotPlainAt c input depth overflowed = (limit : ℕ) → (limit ≤ depth + 1) ⊎ (overflowed ≡ false) → IsNotPlain m (m.world c) limit (m.goal_of c input)

  -- at most as many frames as the bound, for each width that is at least the goal's number
  abbrev pub AreFramesWithin : C → I → ℕ → ℕ → (ℕ → ℕ) → Type 0
  AreFramesWithin c input old new bound = (width : ℕ) → m.number_of (m.world c) (m.goal_of c input) ≤ width → new ≤ old + bound width

  -- the result depends on no limit, except through results that were cached before
  abbrev pub IsWithinKnown : C → List (KnownResult I R) → I → C → R → Type 0
  IsWithinKnown c ks input d r = IsWithin m (m.world c) (answers_in m c ks) (m.goal_of c input) (m.answer_of d r)

  -- the result depends on no limit, if no cached result does
  abbrev pub IsWithinAsCached : C → List (CacheEntry I R) → I → R → Type 0
  IsWithinAsCached c es input r =
      (before : List (m.Goal × m.Answer)) → AreCachedWithin m (m.world c) before c es → IsWithin m (m.world c) before (m.goal_of c input) (m.answer_of c r)

  -- it depends on none, if no result of the last runs does
  abbrev pub IsWithinAsStack : C → List (StackEntry I R) → I → C → R → Type 0
  IsWithinAsStack c es input d r =
      (before : List (m.Goal × m.Answer)) → AreLastWithin m (m.world c) before c es → IsWithin m (m.world c) before (m.goal_of c input) (m.answer_of d r)

  -- the new cached results depend on no limit, if the old ones and this result do not
  abbrev pub KeepsWithin : C → List (CacheEntry I R) → I → R → List (CacheEntry I R) → Type 0
  KeepsWithin c old input r new =
      (before : List (m.Goal × m.Answer)) → AreCachedWithin m (m.world c) before c old → IsWithin m (m.world c) before (m.goal_of c input) (m.answer_of c r) → AreCachedWithin m (m.world c) before c new

  -- if no limit was met, the result and the new cached results depend on none, if the old ones and those of the last runs do not
  abbrev pub StaysWithin : C → List (StackEntry I R) → List (CacheEntry I R) → I → Bool → C → List (CacheEntry I R) → R → Type 0
  StaysWithin c es old input met d new r =
      (before : List (m.Goal × m.Answer)) → met ≡ false → AreLastWithin m (m.world c) before c es → AreCachedWithin m (m.world c) before c old
      → AreCachedWithin m (m.world c) before d new × IsWithin m (m.world c) before (m.goal_of c input) (m.answer_of d r)

  -- the result depends on no limit, if the results of the cache and of the entries do not
  abbrev pub IsWithinAsKept : C → List (CacheEntry I R) → List (Vec (ProvisionalEntry I R)) → I → R → Type 0
  IsWithinAsKept c es lists input r =
      (before : List (m.Goal × m.Answer)) → AreKeptWithin m (m.world c) before c es lists → IsWithin m (m.world c) before (m.goal_of c input) (m.answer_of c r)

  -- if no limit was met, the result and those of the cache and the entries afterwards depend on none, if those of the cache and the
  -- entries before and of the last runs do not
  abbrev pub AllStayWithin : C → List (StackEntry I R) → List (CacheEntry I R) → List (Vec (ProvisionalEntry I R)) → I → Bool
      → C → List (CacheEntry I R) → List (Vec (ProvisionalEntry I R)) → R → Type 0
  AllStayWithin c es old lists input met d new more r =
      (before : List (m.Goal × m.Answer)) → met ≡ false → AreLastWithin m (m.world c) before c es → AreKeptWithin m (m.world c) before c old lists
      → AreKeptWithin m (m.world c) before d new more × IsWithin m (m.world c) before (m.goal_of c input) (m.answer_of d r)

  -- the same of a run of the entry's goal
  abbrev pub RunStaysWithin : C → List (StackEntry I R) → List (CacheEntry I R) → List (Vec (ProvisionalEntry I R)) → StackEntry I R → Bool
      → C → List (CacheEntry I R) → List (Vec (ProvisionalEntry I R)) → R → Type 0
  RunStaysWithin c es old lists entry met d new more r =
      (before : List (m.Goal × m.Answer)) → met ≡ false → AreLastWithin m (m.world c) before c es → IsLastWithin m (m.world c) before c entry → AreKeptWithin m (m.world c) before c old lists
      → AreKeptWithin m (m.world c) before d new more × IsWithin m (m.world c) before (m.goal_of c entry.input) (m.answer_of d r)

  -- the entries in these lists are entries over the stack
  abbrev pub AreEntriesOver : C → List (StackEntry I R) → List Asked → List (Vec (ProvisionalEntry I R)) → Type 0
  AreEntriesOver c es asked lists = AreProvisional m (m.world c) c asked (steps_of m c es) lists

  -- the entries afterwards are entries over the stack as it was in the context c
  abbrev pub AreEntriesStill : C → List (StackEntry I R) → C → List Asked → List (Vec (ProvisionalEntry I R)) → Type 0
  AreEntriesStill c es d asked lists = AreProvisional m (m.world c) d asked (steps_of m c es) lists

  -- the entries of a goal that was popped are entries over the stack with the goal, which was reached by a step of this kind
  abbrev pub AreLeftOver : C → List (StackEntry I R) → I → PathKind → C → List Asked → List (ProvisionalEntry I R) → Type 0
  AreLeftOver c es input k d asked left = AreLeft m (m.world c) d asked (steps_of m c es ++ (m.goal_of c input, k) ∷ []) left

  -- the result depends on no limit, if no entry does
  abbrev pub IsWithinAsEntries : C → List (Vec (ProvisionalEntry I R)) → I → R → Type 0
  IsWithinAsEntries c lists input r =
      (before : List (m.Goal × m.Answer)) → AreEntriesWithin m (m.world c) before c lists → IsWithin m (m.world c) before (m.goal_of c input) (m.answer_of c r)

  -- the new entries depend on no limit, if the old ones and this result do not
  abbrev pub EntriesStayWithin : C → List (Vec (ProvisionalEntry I R)) → I → R → List (Vec (ProvisionalEntry I R)) → Type 0
  EntriesStayWithin c old input r new =
      (before : List (m.Goal × m.Answer)) → AreEntriesWithin m (m.world c) before c old → IsWithin m (m.world c) before (m.goal_of c input) (m.answer_of c r)
      → AreEntriesWithin m (m.world c) before c new

  -- a result of the goal over the stack, after it was popped. It was reached by a step of this kind
  abbrev pub IsResultOver : C → List (StackEntry I R) → I → PathKind → EvaluationResult R → Type 0
  IsResultOver c es input k o = IsProvisional m (m.world c) (steps_of m c es) (m.goal_of c input, k) (indices o.dependencies.heads.items) c o.result
