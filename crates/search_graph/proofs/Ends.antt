-- The result of a goal after its last run.
use Rattle.std.proofs.Common.{◌≡◌, ◌∙◌, ◌≤◌, ℕ, Bool, false, List, [], length, sym, Result, Ok, Err}
use Rattle.std.specs.Result.{IfOk, OnOk}
use Rattle.search_paths.specs.declared.path_kind.PathKind.{PathKind}
use Rattle.search_graph.specs.declared.stack.StackEntry.{StackEntry}
use Rattle.search_graph.specs.declared.cache.CacheEntry.{CacheEntry}
use Rattle.search_graph.specs.declared.cache.Asked.{Asked}
use Rattle.search_paths.specs.declared.dependencies.EvaluationResult.{EvaluationResult}
use Rattle.std.specs.Global.{Vec}
use Rattle.search_graph.specs.declared.provisional.ProvisionalEntry.{ProvisionalEntry}
use Rattle.search_graph.specs.Meaning.{Meaning, KeepsContext}
use Rattle.search_graph.specs.Cache.{HoldsResult, AddsEvaluation, SaysSame}
use Rattle.search_graph.specs.Stack.{IsWithin}
use Rattle.search_graph.specs.Question.{IsReplyOver, IsFaithfulOver, AllStayWithin, KeepsWithin, EntriesStayWithin}
use Rattle.search_graph.proofs.Ranges.{at_end}
use Rattle.search_graph.proofs.Depths.{kept_within}

pub depth_after : {R E : Type 0} (r : Result (EvaluationResult R) E) (o : EvaluationResult R) (depth : ℕ) → (o.dependencies.encountered_overflow ≡ false → o.dependencies.required_depth ≤ depth) → IfOk r (SaysSame o)
    → IfOk r (λ p. p.dependencies.encountered_overflow ≡ false → p.dependencies.required_depth ≤ depth)
depth_after (Ok p) o depth within says = rw (says.overflow, says.depth) within
depth_after (Err e) o depth within says = tt

pub held_after : {I R E : Type 0} (r : Result (EvaluationResult R) E) (o : EvaluationResult R) (old new : List (CacheEntry I R)) (asked : List Asked) (input into : I) (number depth : ℕ) → into ≡ input → o.dependencies.heads.items ≡ []
    → (o.dependencies.encountered_overflow ≡ false → o.dependencies.required_depth ≤ depth) → OnOk r (o.dependencies.heads.items ≡ [] → AddsEvaluation old new asked into number depth o) → IfOk r (SaysSame o)
    → IfOk r (λ p. HoldsResult new input depth p.result)
held_after (Ok p) o old new asked input into number depth same alone within keeps says =
    let kept = keeps alone in
    (length old, kept.0, rw kept.1 (at_end old kept.0), kept.2 ∙ same, kept.3 ∙ sym says.result, kept_within o.dependencies.encountered_overflow kept.0.encountered_overflow depth o.dependencies.required_depth kept.0.depth kept.5 kept.4 within)
held_after (Err e) o old new asked input into number depth same alone within keeps says = tt

module _ {C I R F E : Type 0} (m : Meaning C I R F) (c d : C) (es : List (StackEntry I R)) (input : I) where
  pub answer_after : (r : Result (EvaluationResult R) E) (o : EvaluationResult R) (k : PathKind) → IsReplyOver m c es input k o.dependencies.heads.items d o.result → IfOk r (SaysSame o)
      → IfOk r (λ p. IsReplyOver m c es input k p.dependencies.heads.items d p.result)
  answer_after (Ok p) o k answer says = rw (says.heads, says.result) answer
  answer_after (Err e) o k answer says = tt

  pub faithful_after : (r : Result (EvaluationResult R) E) (o : EvaluationResult R) (reach : ℕ) → IsFaithfulOver m c es input reach d o → IfOk r (SaysSame o) → IfOk r (IsFaithfulOver m c es input reach d)
  faithful_after (Ok p) o reach faithful says = rw (says.result, says.heads, says.overflow) faithful
  faithful_after (Err e) o reach faithful says = tt

  pub within_after : (r : Result (EvaluationResult R) E) (o : EvaluationResult R) (old mid new : List (CacheEntry I R)) (lists between more : List (Vec (ProvisionalEntry I R))) (into : I) (met : Bool) → KeepsContext m c d → into ≡ input → m.IsInput c input
      → AllStayWithin m c es old lists input met d mid between o.result → OnOk r (KeepsWithin m d mid into o.result new) → OnOk r (EntriesStayWithin m d between into o.result more) → IfOk r (SaysSame o) → IfOk r (λ p. AllStayWithin m c es old lists input met d new more p.result)
  within_after (Ok p) o old mid new lists between more into met keeps same known stays keep left says = λ before no last cached.
      let told = stays before no last cached in
      let result : IsWithin m (m.world d) before (m.goal_of d into) (m.answer_of d o.result) = rw (keeps.world, same, (keeps.inputs input known).1) told.1 in
      let kept = keep before (rw keeps.world told.0.0) result in
      let entries = left before (rw keeps.world told.0.1) result in
      ((rw keeps.world at kept, rw keeps.world at entries), rw says.result told.1)
  within_after (Err e) o old mid new lists between more into met keeps same known stays keep left says = tt
