use Rattle.std.proofs.Common.{Some, slice_get, ◌≡◌, ◌+◌, ◌∙◌, sym, ap, subst, refl, inl, inr, arith}
use Rattle.std.proofs.lemmas.Option.{none-some}
use Rattle.search_paths.specs.KeptPaths.{indices}
use Rattle.search_graph.specs.Cache.{AreJustified, answers_in, known_result, known_results}
use Rattle.search_graph.specs.Chain.{IsWithinDepth}
use Rattle.search_graph.specs.Proof.{IsAmong}
use Rattle.search_graph.proofs.Limits.{AreCachedWithin-among}
use Rattle.search_graph.proofs.Proofs.{sound_answer}
use Rattle.search_graph.proofs.Caches.{AreCached-known, AreJustified-known, known_at, entry_at}
use Rattle.search_graph.proofs.Errors.{err_passed, ok_not_err, empty_of_length}
use Rattle.search_graph.proofs.graph.SearchGraph.evaluate_goal.Goals as goal
use Rattle.search_graph.proofs.graph.SearchGraph.evaluate_goal.Goals.{in-Ok, in-Err}
use Rattle.type_terms.proofs.BooleanBasics.{true-false as true_not_false}

pub evaluate_root-requires-clause-cache : goal.evaluate_root-requires-clause-cache
evaluate_root-requires-clause-cache g c =
    let m = g.D.Delegate.meaning in
    let first = c.args.cx.now in
    AreCached-known m first c.cache.inside.results.entries.items (subst (λ ks. AreJustified m first ks) (sym c.cache.view_is) c.requires.cache)

pub evaluate_root-requires-clause-empty : goal.evaluate_root-requires-clause-empty
evaluate_root-requires-clause-empty g c =
    empty_of_length c.self.inside.search.stack.items (ap (λ s. s.current_depth) c.self.view_is ∙ c.requires.empty)

pub returns-clause-cache : goal.returns-clause-cache
returns-clause-cache g c = AreJustified-known g.D.Delegate.meaning c.evaluate_root.new.cx c.evaluate_root.new.cache.entries.items c.evaluate_root.ensures.cache

pub returns-clause-answer : goal.returns-clause-answer
returns-clause-answer g c =
    let m = g.D.Delegate.meaning in
    let first = c.args.cx.now in
    elim c.match-evaluate_root.branch [
      | in-Ok w ↦ rw w.result-is (sound_answer m (m.world first) (m.goal_of first c.args.input) c.args.step_kind (indices w.in-Ok.evaluation.dependencies.heads.items) c.evaluate_root.new.cx w.in-Ok.evaluation.result
          w.in-Ok.ensures.answer)
      | in-Err w ↦ rw w.result-is tt
    ]

pub returns-clause-plain : goal.returns-clause-plain
returns-clause-plain g c =
    let m = g.D.Delegate.meaning in
    let depth : c.self.inside.root_depth ≡ c.args.self.now.root_depth = ap (λ s. s.root_depth) c.self.view_is in
    elim c.match-evaluate_root.branch [
      | in-Ok w ↦ rw w.result-is (λ a plain. elim (w.in-Ok.ensures.faithful (c.args.self.now.root_depth + 1) a (inl (omega arith)) plain) [ inl told ↦ told.same | inr x ↦ absurd (none-some x.step x.there) ])
      | in-Err w ↦ rw w.result-is tt
    ]

pub returns-clause-no_conflict : goal.returns-clause-no_conflict
returns-clause-no_conflict g c =
    let m = g.D.Delegate.meaning in
    let depth : c.self.inside.root_depth ≡ c.args.self.now.root_depth = ap (λ s. s.root_depth) c.self.view_is in
    elim c.match-evaluate_root.branch [
      | in-Ok w ↦ λ h n b within p. absurd (ok_not_err _ _ (sym w.result-is ∙ h))
      | in-Err w ↦ λ h n b within p. w.in-Err.ensures.no_conflict (err_passed _ _ _ _ w.result-is refl h) (c.args.self.now.root_depth + 1) (omega arith) (λ place s at. absurd (none-some s at)) n b within p
    ]

pub returns-clause-computed : goal.returns-clause-computed
returns-clause-computed g c =
    elim c.match-evaluate_root.branch [
      | in-Ok w ↦ rw w.result-is w.in-Ok.ensures.answer.source
      | in-Err w ↦ rw w.result-is tt
    ]

pub returns-clause-limits : goal.returns-clause-limits
returns-clause-limits g c =
    let m = g.D.Delegate.meaning in
    let first = c.args.cx.now in
    let before = answers_in m first c.args.cache.now in
    elim c.match-evaluate_root.branch [
      | in-Ok w ↦ rw w.result-is (λ no. (w.in-Ok.ensures.within before (rw w.self-is at no) tt
          (AreCachedWithin-among m (m.world first) before first c.cache.inside.results.entries.items (λ x h. subst (λ ks. IsAmong x (answers_in m first ks)) c.cache.view_is h))).1)
      | in-Err w ↦ rw w.result-is tt
    ]

pub returns-clause-no_limit : goal.returns-clause-no_limit
returns-clause-no_limit g c =
    let depth : c.self.inside.root_depth ≡ c.args.self.now.root_depth = ap (λ s. s.root_depth) c.self.view_is in
    let before : c.self.inside.search.limits_met ≡ c.args.self.now.limits_met = ap (λ s. s.limits_met) c.self.view_is in
    let claim = c.evaluate_root.ensures.no_limit in
    elim c.match-evaluate_root.branch [
      | in-Ok w ↦ λ off on n b within p. claim (before ∙ off) (rw w.self-is at on) (c.args.self.now.root_depth + 1) (omega arith) (λ place s at. absurd (none-some s at)) n b within p
      | in-Err w ↦ λ off on n b within p. claim (before ∙ off) (sym w.clear.ensures.limits ∙ (rw w.self-is at on)) (c.args.self.now.root_depth + 1) (omega arith) (λ place s at. absurd (none-some s at)) n b within p
    ]

pub returns-clause-cached : goal.returns-clause-cached
returns-clause-cached g c = λ place k at same within.
    let depth : c.self.inside.root_depth ≡ c.args.self.now.root_depth = ap (λ s. s.root_depth) c.self.view_is in
    let frames : c.self.inside.search.frames ≡ c.args.self.now.frames = ap (λ s. s.frames) c.self.view_is in
    let found = entry_at c.cache.inside.results.entries.items place k (subst (λ ks. slice_get ks place ≡ Some k) (sym c.cache.view_is) at) in
    let usable = subst (λ z. IsWithinDepth z.overflowed z.depth c.self.inside.root_depth) (sym found.2) (subst (λ d. IsWithinDepth k.overflowed k.depth d) (sym depth) within) in
    let told = c.evaluate_root.ensures.cached place found.0 found.1 (ap (λ z. z.input) found.2 ∙ same) usable (λ asked under on. true_not_false (sym on)) in
    let kept = ap (λ v. known_results v.items) told.1 ∙ c.cache.view_is in
    elim c.match-evaluate_root.branch [
      | in-Ok w ↦ (rw w.self-is (told.0 ∙ frames), kept)
      | in-Err w ↦ (rw w.self-is (w.clear.ensures.frames ∙ told.0 ∙ frames), kept)
    ]

pub returns-clause-known : goal.returns-clause-known
returns-clause-known g c = λ place k at same within.
    let depth : c.self.inside.root_depth ≡ c.args.self.now.root_depth = ap (λ s. s.root_depth) c.self.view_is in
    let found = entry_at c.cache.inside.results.entries.items place k (subst (λ ks. slice_get ks place ≡ Some k) (sym c.cache.view_is) at) in
    let usable = subst (λ z. IsWithinDepth z.overflowed z.depth c.self.inside.root_depth) (sym found.2) (subst (λ d. IsWithinDepth k.overflowed k.depth d) (sym depth) within) in
    elim c.match-evaluate_root.branch [
      | in-Ok w ↦ rw w.result-is (
          let told = w.in-Ok.ensures.known place found.0 found.1 (ap (λ z. z.input) found.2 ∙ same) usable (λ asked under on. true_not_false (sym on)) in (
            told.0,
            known_result told.1,
            subst (λ ks. slice_get ks told.0 ≡ Some (known_result told.1)) c.cache.view_is (known_at c.cache.inside.results.entries.items told.0 told.1 told.2),
            told.3,
            told.4,
            subst (λ d. IsWithinDepth told.1.encountered_overflow told.1.depth d) depth told.5,
          ))
      | in-Err w ↦ rw w.result-is tt
    ]

pub returns-clause-results : goal.returns-clause-results
returns-clause-results g c = λ place k at.
    let found = entry_at c.cache.inside.results.entries.items place k (subst (λ ks. slice_get ks place ≡ Some k) (sym c.cache.view_is) at) in
    known_at c.evaluate_root.new.cache.entries.items place found.0 (c.evaluate_root.ensures.results place found.0 found.1) ∙ ap Some found.2

pub returns-clause-kept : goal.returns-clause-kept
returns-clause-kept g c =
    let depth : c.self.inside.root_depth ≡ c.args.self.now.root_depth = ap (λ s. s.root_depth) c.self.view_is in
    elim c.match-evaluate_root.branch [
      | in-Ok w ↦ rw w.result-is (
          let told = w.in-Ok.ensures.kept in (
            told.0,
            known_result told.1,
            known_at c.evaluate_root.new.cache.entries.items told.0 told.1 told.2,
            told.3,
            told.4,
            subst (λ d. IsWithinDepth told.1.encountered_overflow told.1.depth d) depth told.5,
          ))
      | in-Err w ↦ rw w.result-is tt
    ]

pub returns-clause-rises : goal.returns-clause-rises
returns-clause-rises g c =
    let frames : c.self.inside.search.frames ≡ c.args.self.now.frames = ap (λ s. s.frames) c.self.view_is in
    let rises = rw frames at c.evaluate_root.ensures.rises in
    elim c.match-evaluate_root.branch [
      | in-Ok w ↦ rw w.self-is rises
      | in-Err w ↦ rw (w.self-is, w.clear.ensures.frames) rises
    ]

pub returns-clause-counted : goal.returns-clause-counted
returns-clause-counted g c =
    let depth : c.self.inside.root_depth ≡ c.args.self.now.root_depth = ap (λ s. s.root_depth) c.self.view_is in
    let frames : c.self.inside.search.frames ≡ c.args.self.now.frames = ap (λ s. s.frames) c.self.view_is in
    elim c.match-evaluate_root.branch [
      | in-Ok w ↦ rw (w.result-is, w.self-is) (elim w.in-Ok.ensures.counted [
        | inl told ↦ inl (
          told.0,
          known_result told.1,
          subst (λ ks. slice_get ks told.0 ≡ Some (known_result told.1)) c.cache.view_is (known_at c.cache.inside.results.entries.items told.0 told.1 told.2),
          told.3,
          told.4,
          subst (λ d. IsWithinDepth told.1.encountered_overflow told.1.depth d) depth told.5,
        )
        | inr counted ↦ inr (rw frames at counted)
      ])
      | in-Err w ↦ rw w.result-is tt
    ]
