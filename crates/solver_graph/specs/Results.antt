-- What a search promises of its frames, its limits and cached responses, in terms of goals.
use Rattle.std.specs.Prelude.{◌≡◌, ◌+◌, ◌≤◌, ℕ, true, false, List, Some, slice_get}
use Rattle.goal_evaluator.specs.declared.TheConstants.{FIXPOINT_STEP_LIMIT}
use Rattle.search_graph.specs.Promised.FrameBound.{frame_bound}
use Rattle.search_graph.specs.Cache.{KnownResult, answers_in}
use Rattle.search_graph.specs.Chain.{IsWithinDepth}
use Rattle.search_graph.specs.Computed.{IsComputed, IsGivenWithin}
use Rattle.search_graph.specs.Meaning.{Meaning}
use Rattle.search_graph.specs.Plain.{IsNotPlain}
use Rattle.search_graph.specs.SearchState.{SearchState}
use Rattle.solver_graph.specs.Evaluations.{IsFoundBySearch}

module _ {C I R F : Type 0} (m : Meaning C I R F) where
  -- the cache has this response to the goal, and a goal of this depth may use it
  pub record IsCachedAnswer (c : C) (ks : List (KnownResult I R)) (depth : ℕ) (g : m.Goal) (a : m.Answer) : Type 0 where
    pub place : ℕ
    pub result : KnownResult I R
    pub there : slice_get ks place ≡ Some result
    pub goal : m.goal_of c result.input ≡ g
    pub answer : m.answer_of c result.result ≡ a
    pub within : IsWithinDepth result.overflowed result.depth depth

  -- the number of frames that were started for the goal is bounded by its number and the depth
  abbrev pub FramesAreBounded : C → m.Goal → SearchState → SearchState → Type 0
  FramesAreBounded c g old new = (width : ℕ) → m.number_of (m.world c) g ≤ width → new.frames ≤ old.frames + frame_bound FIXPOINT_STEP_LIMIT width old.root_depth

  -- a goal whose response is cached starts no frame, and leaves the cache unchanged
  abbrev pub KnownIsFree : C → List (KnownResult I R) → m.Goal → SearchState → SearchState → List (KnownResult I R) → Type 0
  KnownIsFree c ks g old new ls = (a : m.Answer) → IsCachedAnswer c ks old.root_depth g a → (new.frames ≡ old.frames) × (ls ≡ ks)

  -- plain recursion within the graph's depth has no result for the goal
  abbrev pub IsNotPlainWithin : C → SearchState → m.Goal → Type 0
  IsNotPlainWithin c s g = IsNotPlain m (m.world c) (s.root_depth + 1) g

  -- A limit that was reached stays noted. None is reached for a goal that plain recursion answers within the depth.
  pub record LimitsAreNoted (c : C) (g : m.Goal) (old new : SearchState) : Type 0 where
    pub noted : old.limits_met ≡ true → new.limits_met ≡ true
    pub not_plain : old.limits_met ≡ false → new.limits_met ≡ true → IsNotPlainWithin c old g

  -- the search with the cache ks gives the goal this response, and leaves the cache ls
  pub record IsResult (c : C) (ks : List (KnownResult I R)) (old : SearchState) (d : C) (ls : List (KnownResult I R)) (new : SearchState) (g : m.Goal) (a : m.Answer) : Type 0 where
    pub found : IsFoundBySearch m (m.world c) old.root_depth g a
    -- if the first cache had a response to the goal, it is this one
    pub known : (b : m.Answer) → IsCachedAnswer c ks old.root_depth g b → IsCachedAnswer c ks old.root_depth g a
    -- the second cache has it
    pub kept : IsCachedAnswer d ls old.root_depth g a
    -- if no limit was reached, the response depends on none, except through responses of the first cache
    pub limits : new.limits_met ≡ false → IsComputed m (m.world c) (IsGivenWithin m (m.world c) (answers_in m c ks)) g a
