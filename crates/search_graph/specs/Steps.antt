-- What a step of a search promises: the evaluation of a nested goal, or one run of a goal. `c`, `old` and `known` are the context, the
-- search and the cache before it, `d`, `new` and `more` are those after it.
use Rattle.std.specs.declared.cmp.PartialEq
use Rattle.std.specs.declared.hash.Hash
use Rattle.search_graph.specs.declared.delegate.Delegate
use Rattle.std.specs.Prelude.{◌≡◌, ◌≤◌, ℕ, true, false, Result, Err, IfOk, OnOk}
use Rattle.search_paths.specs.declared.path_kind.PathKind.{PathKind}
use Rattle.search_paths.specs.declared.dependencies.EvaluationResult.{EvaluationResult}
use Rattle.search_graph.specs.declared.fault.Stop.{Stop}
use Rattle.search_graph.specs.declared.fault.Stop.TheVariants.{Fault, Exhausted}
use Rattle.search_graph.specs.declared.fault.GraphFault.TheVariants.{Conflict, Protocol, Full}
use Rattle.search_graph.specs.declared.search.Search.{Search}
use Rattle.search_graph.specs.declared.cache.CachedResults.{CachedResults}
use Rattle.search_graph.specs.Meaning.{Meaning, KeepsContext}
use Rattle.search_graph.specs.Computed.{MakesMisstep}
use Rattle.search_graph.specs.Chain.{AreInRange}
use Rattle.search_graph.specs.Bound.{IsCounted}
use Rattle.search_graph.specs.Cache.{known_results, HasConflict, KeepsNumbers, KeepsResults}
use Rattle.search_graph.specs.Stack.{AreCached}
use Rattle.search_graph.specs.Question.{AreEntriesStill, IsReplyOver, IsFaithfulOver, IsNotPlainOver, AreFramesWithin}
use Rattle.search_graph.specs.Unlimited.{SearchStaysWithin}

module _ {D C F I R A : Type 0} {delegate : Delegate.Ghosts D C F I R A} {eq : PartialEq.Ghosts I} {hash : Hash.Ghosts I} {same : PartialEq.Ghosts R} (m : Meaning C I R F) where
  -- what holds after a step for this goal, also if it fails. The goal has no plain answer up to `reach` where a limit is met, and starts
  -- at most as many frames as `bound` says of the width
  pub record IsSearchStep {T : Type 0} (c : C) (old : Search D C F I R A delegate eq hash same) (known : CachedResults D C F I R A delegate eq hash same) (input : I) (reach : ℕ) (bound : ℕ → ℕ)
      (d : C) (new : Search D C F I R A delegate eq hash same) (more : CachedResults D C F I R A delegate eq hash same) (result : Result T Stop) : Type 0 where
    -- the context keeps its goals and results
    pub keeps : KeepsContext m c d
    -- the goals of the stack are the same
    pub stack : OnOk result (new.stack.items ≡ old.stack.items)
    -- the provisional entries are entries over this stack
    pub entries : OnOk result (AreEntriesStill m c old.stack.items d more.asked.items new.entries.lists.items)
    -- each cached result depends on no goal of the stack
    pub cache : AreCached m (m.world d) d more.entries.items
    -- each goal keeps its number
    pub goals : KeepsNumbers eq.eq known.goals.keys more.goals.keys
    -- each cached result stays at its place
    pub results : KeepsResults known.entries.items more.entries.items
    -- so does what was asked under each goal
    pub asked_before : KeepsResults known.asked.items more.asked.items
    -- after a conflict the goal has no plain answer
    pub no_conflict : result ≡ Err (Fault Conflict) → IsNotPlainOver m c old.stack.items input reach
    -- nor has it one if the call is given up
    pub exhausted : result ≡ Err Exhausted → IsNotPlainOver m c old.stack.items input reach
    -- a frame made a request out of order, if that is the fault
    pub protocol : result ≡ Err (Fault Protocol) → MakesMisstep m (m.world c) (m.goal_of c input)
    -- the cache has a result that another one contradicts, if a conflict is the fault
    pub conflict : result ≡ Err (Fault Conflict) → HasConflict m d (known_results more.entries.items)
    -- at most so many frames were started
    pub frames : AreFramesWithin m c input old.frames new.frames bound
    -- the count of frames never decreases
    pub rises : old.frames ≤ new.frames
    -- a frame was started, if the call is given up
    pub spent : result ≡ Err Exhausted → IsCounted old.frames new.frames
    -- a table of the context is full, if that is the fault
    pub full : result ≡ Err (Fault Full) → m.IsFull d
    -- that a limit was met stays known
    pub limits : old.limits_met ≡ true → new.limits_met ≡ true
    -- if a limit is met in the step, the goal has no plain answer
    pub no_limit : old.limits_met ≡ false → new.limits_met ≡ true → IsNotPlainOver m c old.stack.items input reach

  -- what the result of a nested goal says, which was reached by a step of this kind
  pub record IsEvaluation (c : C) (old : Search D C F I R A delegate eq hash same) (known : CachedResults D C F I R A delegate eq hash same) (input : I) (k : PathKind) (reach : ℕ)
      (d : C) (new : Search D C F I R A delegate eq hash same) (more : CachedResults D C F I R A delegate eq hash same) (result : Result (EvaluationResult R) Stop) : Type 0 where
    -- its nested goals are in the range of what was asked
    pub range : IfOk result (λ o. AreInRange more.asked.items o.dependencies.nested_goals)
    -- a yes is shown, if the heads have it
    pub answer : IfOk result (λ o. IsReplyOver m c old.stack.items input k o.dependencies.heads.items d o.result)
    -- it is that of plain recursion up to `reach`, and beyond it if there was no overflow
    pub faithful : IfOk result (IsFaithfulOver m c old.stack.items input reach d)
    -- if no limit was met, it depends on none
    pub within : IfOk result (λ o. SearchStaysWithin m c old known input d new more o.result)
