use Rattle.std.proofs.Common.{◌<◌, true, false, List, ◌≡◌, ◌≤◌, length, max, ℕ, ◌+◌, ◌*◌, [], ◌∷◌, ◌++◌}
use Rattle.search_graph.specs.Meaning.{KeepsContext, has_open_candidate, finished, answer_count}
use Rattle.search_paths.specs.KeptPaths.{AreBelow, indices}
use Rattle.search_paths.specs.Nested.{covered, one_goal}
use Rattle.search_graph.specs.Chain.{AreInRange}
use Rattle.search_graph.specs.Cache.{KeepsNumbers, KeepsResults}
use Rattle.search_graph.specs.Computed.{Hears, IsGivenWithin}
use Rattle.search_graph.specs.Stack.{question_of, steps_of, span_of_newest, IsEntry, IsRunning, AreCached, IsLastWithin, AreLastWithin}
use Rattle.search_graph.specs.Plain.{IsNotPlain}
use Rattle.search_graph.specs.Faithful.{AllDescend, NeedsHead, IsOnPlainTrack, IsUntouched}
use Rattle.search_graph.specs.Bound.{question_bound, IsCounted}
use Rattle.search_graph.specs.Provisional.{AreProvisional, AreKeptWithin}
use Rattle.search_graph.proofs.evaluation.+search.Given as goal

abbrev pub decreases-ask : goal.decreases-ask
decreases-ask g l = 4 * l.depth

abbrev pub decreases-run_once : goal.decreases-run_once
decreases-run_once g l = 4 * l.depth + 1

abbrev pub decreases-evaluate_new : goal.decreases-evaluate_new
decreases-evaluate_new g l = 4 * l.depth + 2

abbrev pub decreases-evaluate : goal.decreases-evaluate
decreases-evaluate g l = 4 * l.depth + 3

abbrev pub invariant-evaluate_new-loop-run : goal.invariant-evaluate_new-loop-run
invariant-evaluate_new-loop-run g l =
    let m = g.D.Delegate.meaning in
    record {
      keeps : KeepsContext m l.fn.cx l.cx;
      cache : AreCached m (m.world l.cx) l.cx l.cache.entries.items;
      entries : AreProvisional m (m.world l.fn.cx) l.cx l.cache.asked.items (steps_of m l.fn.cx l.fn.search.stack.items) l.search.entries.lists.items;
      goals : KeepsNumbers g.D.Cx.Input.PartialEq.eq l.fn.cache.goals.keys l.cache.goals.keys;
      results : KeepsResults l.fn.cache.entries.items l.cache.entries.items;
      asked_before : KeepsResults l.fn.cache.asked.items l.cache.asked.items;
      range : AreInRange l.cache.asked.items l.dependencies.nested_goals;
      depth : l.dependencies.encountered_overflow ≡ false → l.dependencies.required_depth ≤ l.depth;
      stack : l.search.stack.items ≡ l.fn.search.stack.items;
      span : l.entry.span ≡ covered (span_of_newest l.fn.search.stack.items) (one_goal l.entry.number);
      place : l.index ≡ length l.fn.search.stack.items;
      input : l.entry.input ≡ l.fn.input;
      kind : l.entry.step_kind ≡ l.fn.step_kind;
      entry : IsEntry m (m.world l.fn.cx) (steps_of m l.fn.cx l.fn.search.stack.items) l.cx l.entry;
      below : AreBelow (length l.fn.search.stack.items) (indices l.dependencies.heads.items);
      untouched : IsUntouched m (m.world l.fn.cx) (l.depth + 1) (steps_of m l.fn.cx l.fn.search.stack.items) (m.goal_of l.fn.cx l.fn.input) l.dependencies.encountered_overflow (indices l.dependencies.heads.items);
      frames : (width : ℕ) → m.number_of (m.world l.fn.cx) (m.goal_of l.fn.cx l.fn.input) ≤ width
          → l.search.frames ≤ l.fn.search.frames + l._run * (1 + width * question_bound (max g.D.Delegate.FIXPOINT_STEP_LIMIT 1) width l.depth);
      rises : l.fn.search.frames ≤ l.search.frames;
      counted : 0 < l._run → IsCounted l.fn.search.frames l.search.frames;
      limits : l.fn.search.limits_met ≡ true → l.search.limits_met ≡ true;
      noted : l.fn.search.limits_met ≡ false → l.search.limits_met ≡ true → (limit : ℕ) → limit ≤ l.depth + 1
          → AllDescend m (m.world l.fn.cx) limit (steps_of m l.fn.cx l.fn.search.stack.items) (m.goal_of l.fn.cx l.fn.input) → IsNotPlain m (m.world l.fn.cx) limit (m.goal_of l.fn.cx l.fn.input);
      within : (before : List (m.Goal × m.Answer)) → l.search.limits_met ≡ false → AreLastWithin m (m.world l.fn.cx) before l.fn.cx l.fn.search.stack.items → AreKeptWithin m (m.world l.fn.cx) before l.fn.cx l.fn.cache.entries.items l.fn.search.entries.lists.items
          → AreKeptWithin m (m.world l.fn.cx) before l.cx l.cache.entries.items l.search.entries.lists.items × IsLastWithin m (m.world l.fn.cx) before l.cx l.entry;
      again : 0 < l._run → NeedsHead m (m.world l.fn.cx) (l.depth + 1) (steps_of m l.fn.cx l.fn.search.stack.items) (m.goal_of l.fn.cx l.fn.input) l.dependencies.encountered_overflow (indices l.dependencies.heads.items);
    }

abbrev pub invariant-run_once-loop-candidates : goal.invariant-run_once-loop-candidates
invariant-run_once-loop-candidates g l =
    let m = g.D.Delegate.meaning in
    record {
      keeps : KeepsContext m l.fn.cx l.cx;
      cache : AreCached m (m.world l.cx) l.cx l.cache.entries.items;
      entries : AreProvisional m (m.world l.fn.cx) l.cx l.cache.asked.items (steps_of m l.fn.cx l.fn.search.stack.items ++ question_of m l.fn.cx l.fn.entry ∷ []) l.search.entries.lists.items;
      goals : KeepsNumbers g.D.Cx.Input.PartialEq.eq l.fn.cache.goals.keys l.cache.goals.keys;
      results : KeepsResults l.fn.cache.entries.items l.cache.entries.items;
      asked_before : KeepsResults l.fn.cache.asked.items l.cache.asked.items;
      range : AreInRange l.cache.asked.items l.dependencies.nested_goals;
      depth : l.dependencies.encountered_overflow ≡ false → l.dependencies.required_depth ≤ l.depth;
      stack : l.search.stack.items ≡ l.fn.search.stack.items ++ l.fn.entry ∷ [];
      running : IsRunning m (m.world l.fn.cx) (steps_of m l.fn.cx l.fn.search.stack.items) (m.goal_of l.fn.cx l.fn.entry.input) l.fn.entry.step_kind (indices l.dependencies.heads.items) l.cx l.frame l.request;
      opened : l.candidates.open ≡ has_open_candidate m running.heard;
      listed : l.candidates.finished.items ≡ finished m (m.world l.fn.cx) (m.goal_of l.fn.cx l.fn.entry.input) running.heard;
      frames : (width : ℕ) → m.number_of (m.world l.fn.cx) (m.goal_of l.fn.cx l.fn.entry.input) ≤ width
          → l.search.frames ≤ l.fn.search.frames + 1 + answer_count m running.heard * question_bound (max g.D.Delegate.FIXPOINT_STEP_LIMIT 1) width l.depth;
      rises : l.fn.search.frames ≤ l.search.frames;
      counted : IsCounted l.fn.search.frames l.search.frames;
      limits : l.fn.search.limits_met ≡ true → l.search.limits_met ≡ true;
      noted : l.fn.search.limits_met ≡ false → l.search.limits_met ≡ true → (limit : ℕ) → limit ≤ l.depth + 1
          → AllDescend m (m.world l.fn.cx) limit (steps_of m l.fn.cx l.fn.search.stack.items) (m.goal_of l.fn.cx l.fn.entry.input) → IsNotPlain m (m.world l.fn.cx) limit (m.goal_of l.fn.cx l.fn.entry.input);
      within : (before : List (m.Goal × m.Answer)) → l.search.limits_met ≡ false → AreLastWithin m (m.world l.fn.cx) before l.fn.cx l.fn.search.stack.items → IsLastWithin m (m.world l.fn.cx) before l.fn.cx l.fn.entry
          → AreKeptWithin m (m.world l.fn.cx) before l.fn.cx l.fn.cache.entries.items l.fn.search.entries.lists.items
          → AreKeptWithin m (m.world l.fn.cx) before l.cx l.cache.entries.items l.search.entries.lists.items × Hears m (m.world l.fn.cx) (IsGivenWithin m (m.world l.fn.cx) before) (m.goal_of l.fn.cx l.fn.entry.input) running.heard;
      plain : IsOnPlainTrack m (m.world l.fn.cx) (l.depth + 1) (steps_of m l.fn.cx l.fn.search.stack.items) (m.goal_of l.fn.cx l.fn.entry.input) l.dependencies.encountered_overflow (indices l.dependencies.heads.items) running.heard;
    }

abbrev pub decreases-run_once-loop-candidates : goal.decreases-run_once-loop-candidates
decreases-run_once-loop-candidates g l = g.D.Delegate.steps_left l.cx l.frame
