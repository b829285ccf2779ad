use Rattle.std.proofs.Common.{◌≡◌, ◌∙◌, ◌∷◌, ◌++◌, [], ap, inl, inr, slice_get, Some}
use Rattle.std.proofs.lemmas.Result.{err_from_is_err_and}
use Rattle.search_graph.proofs.Errors.{err_passed, list_empty, list_not_empty}
use Rattle.search_graph.specs.declared.cache.Asked.{Asked}
use Rattle.search_paths.specs.declared.nested_goals.NestedGoals.{NestedGoals}
use Rattle.search_paths.specs.Nested.{covered, no_goal, one_goal}
use Rattle.search_graph.proofs.Ranges.{at_end, in_range_cached, in_range_goal}
use Rattle.search_graph.proofs.search.finish.Goals as goal
use Rattle.search_graph.proofs.search.finish.Goals.{then-encountered_overflow, else-encountered_overflow}

pub insert-requires-clause-kept : goal.insert-requires-clause-kept
insert-requires-clause-kept g c = λ limit h n b within p.
    elim c.if-encountered_overflow.branch [
      | then-encountered_overflow w ↦ c.requires.kept (list_empty c.args.evaluation.dependencies.heads.items _ c.is_empty.result c.is_empty.ensures c.args.evaluation.dependencies.heads.ok.0 c.if-not-is_empty.false) limit (elim h [ inl l ↦ inl (rw w.kept_depth-is at l) | inr y ↦ inr y ]) n b within p
      | else-encountered_overflow w ↦ c.requires.kept (list_empty c.args.evaluation.dependencies.heads.items _ c.is_empty.result c.is_empty.ensures c.args.evaluation.dependencies.heads.ok.0 c.if-not-is_empty.false) limit (inr w.if-encountered_overflow.false) n b within p
    ]

pub returns-in_err-asked-clause-no_conflict : goal.returns-in_err-asked-clause-no_conflict
returns-in_err-asked-clause-no_conflict g c =
    let p = err_from_is_err_and c.from_residual-in_err-asked.result c.from_residual-in_err-asked.ensures.1 in
    λ h limit l. c.in_err-asked.ensures.no_conflict (err_passed _ _ _ _ p.1 p.2 h) limit
    (elim c.if-encountered_overflow.branch [
      | then-encountered_overflow w ↦ inl (rw w.kept_depth-is l)
      | else-encountered_overflow w ↦ inr w.if-encountered_overflow.false
    ])

pub returns-in_err-asked-clause-conflict : goal.returns-in_err-asked-clause-conflict
returns-in_err-asked-clause-conflict g c =
    let p = err_from_is_err_and c.from_residual-in_err-asked.result c.from_residual-in_err-asked.ensures.1 in
    λ h. c.in_err-asked.ensures.conflict (err_passed _ _ _ _ p.1 p.2 h)

pub returns-clause-kept : goal.returns-clause-kept
returns-clause-kept g c = λ h.
    let kept = c.in_ok-asked.ensures.kept in (
      kept.0,
      kept.1,
      kept.2,
      kept.3,
      elim c.if-encountered_overflow.branch [
        | then-encountered_overflow w ↦ rw w.if-encountered_overflow.true (kept.4 ∙ w.kept_depth-is)
        | else-encountered_overflow w ↦ rw w.if-encountered_overflow.false (kept.4 ∙ w.kept_depth-is)
      ],
      kept.5,
      kept.6,
      kept.7,
    )

pub returns-in_err-asked-clause-err : goal.returns-in_err-asked-clause-err
returns-in_err-asked-clause-err g c =
    let p = err_from_is_err_and c.from_residual-in_err-asked.result c.from_residual-in_err-asked.ensures.1 in
    rw p.1 (inl c.in_err-asked.ensures.err)

pub returns-in_err-add_cached-clause-err : goal.returns-in_err-add_cached-clause-err
returns-in_err-add_cached-clause-err g c =
    let p = err_from_is_err_and c.from_residual-in_err-add_cached.result c.from_residual-in_err-add_cached.ensures.1 in
    let kept = c.in_ok-asked.ensures.kept in
    rw p.1 (inr (kept.0, kept.1))

pub returns-clause-range : goal.returns-clause-range
returns-clause-range g c =
    let nested = c.args.evaluation.dependencies.nested_goals in
    let here : Asked = record { number = c.args.goal.number; nested_goals = nested } in
    let at : slice_get c.insert.new.self.asked.items c.in_ok-asked.asked ≡ Some here = rw (c.in_ok-asked.ensures.recorded, c.in_ok-asked.ensures.place, c.replace-nested_goals.ensures.value) (at_end c.args.cache.now.asked.items here) in
    let span : c.cover-span.result ≡ covered c.args.evaluation.dependencies.nested_goals.span (one_goal c.args.goal.number) = (rw c.replace-nested_goals.ensures.value at c.cover-span.ensures.is) ∙ ap (covered nested.span) c.of.ensures.is in
    let none = c.replace-nested_goals.ensures.after in
    in_range_cached c.insert.new.self.asked.items c.add_cached.new.self c.in_ok-asked.asked here at
    (ap (λ v. v.items) c.add_cached.ensures.goals ∙ ap (λ (n : NestedGoals). n.goals.items) none ∙ c.new-none.ensures.goals)
    (c.in_ok-add_cached.ensures.added ∙ ap (λ xs. xs ++ c.in_ok-asked.asked ∷ []) (ap (λ (n : NestedGoals). n.cached.items) none ∙ c.new-none.ensures.cached))
    (c.in_ok-add_cached.ensures.span ∙ ap (λ s. covered s c.cover-span.result) (ap (λ (n : NestedGoals). n.span) none ∙ c.new-none.ensures.span) ∙ ap (covered no_goal) span)

pub returns-then-not-is_empty-clause-range : goal.returns-then-not-is_empty-clause-range
returns-then-not-is_empty-clause-range g c = in_range_goal c.args.cache.now.asked.items c.args.evaluation.dependencies.nested_goals c.add_goal.new.self c.args.goal.number
    c.in_ok-add_goal.ensures.added (ap (λ v. v.items) c.add_goal.ensures.cached) c.in_ok-add_goal.ensures.span c.requires.nested

pub returns-clause-found : goal.returns-clause-found
returns-clause-found g c = λ h.
    let none = c.replace-nested_goals.ensures.after in (
      ap (λ v. v.items) c.add_cached.ensures.goals ∙ ap (λ (n : NestedGoals). n.goals.items) none ∙ c.new-none.ensures.goals,
      c.in_ok-add_cached.ensures.added ∙ ap (λ xs. xs ++ c.in_ok-asked.asked ∷ []) (ap (λ (n : NestedGoals). n.cached.items) none ∙ c.new-none.ensures.cached) ∙ ap (λ p. p ∷ []) c.in_ok-asked.ensures.place,
    )

pub returns-clause-unkept : goal.returns-clause-unkept
returns-clause-unkept g c = λ some. absurd (some (list_empty c.args.evaluation.dependencies.heads.items _ c.is_empty.result c.is_empty.ensures c.args.evaluation.dependencies.heads.ok.0 c.if-not-is_empty.false))

pub returns-clause-asked : goal.returns-clause-asked
returns-clause-asked g c = λ some. absurd (some (list_empty c.args.evaluation.dependencies.heads.items _ c.is_empty.result c.is_empty.ensures c.args.evaluation.dependencies.heads.ok.0 c.if-not-is_empty.false))

pub returns-clause-results : goal.returns-clause-results
returns-clause-results g c = c.insert.ensures.results

pub returns-clause-goals : goal.returns-clause-goals
returns-clause-goals g c = c.insert.ensures.goals

pub returns-clause-cache : goal.returns-clause-cache
returns-clause-cache g c = c.insert.ensures.cache

pub returns-in_err-add_cached-clause-results : goal.returns-in_err-add_cached-clause-results
returns-in_err-add_cached-clause-results g c = c.insert.ensures.results

pub returns-clause-asked_before : goal.returns-clause-asked_before
returns-clause-asked_before g c = c.insert.ensures.asked

pub returns-in_err-add_cached-clause-asked_before : goal.returns-in_err-add_cached-clause-asked_before
returns-in_err-add_cached-clause-asked_before g c = c.insert.ensures.asked

pub returns-in_err-asked-clause-asked_before : goal.returns-in_err-asked-clause-asked_before
returns-in_err-asked-clause-asked_before g c = c.insert.ensures.asked

pub returns-in_err-add_cached-clause-goals : goal.returns-in_err-add_cached-clause-goals
returns-in_err-add_cached-clause-goals g c = c.insert.ensures.goals

pub returns-in_err-add_cached-clause-cache : goal.returns-in_err-add_cached-clause-cache
returns-in_err-add_cached-clause-cache g c = c.insert.ensures.cache

pub returns-in_err-asked-clause-results : goal.returns-in_err-asked-clause-results
returns-in_err-asked-clause-results g c = c.insert.ensures.results

pub returns-in_err-asked-clause-goals : goal.returns-in_err-asked-clause-goals
returns-in_err-asked-clause-goals g c = c.insert.ensures.goals

pub returns-in_err-asked-clause-cache : goal.returns-in_err-asked-clause-cache
returns-in_err-asked-clause-cache g c = c.insert.ensures.cache

pub returns-clause-within : goal.returns-clause-within
returns-clause-within g c = c.in_ok-asked.ensures.within

pub returns-then-not-is_empty-clause-asked : goal.returns-then-not-is_empty-clause-asked
returns-then-not-is_empty-clause-asked g c = λ less. (c.in_ok-add_goal.ensures.added, c.add_goal.ensures.cached)

pub returns-then-not-is_empty-clause-kept : goal.returns-then-not-is_empty-clause-kept
returns-then-not-is_empty-clause-kept g c = λ none. absurd (list_not_empty c.args.evaluation.dependencies.heads.items _ c.is_empty.result c.is_empty.ensures c.args.evaluation.dependencies.heads.ok.0 c.if-not-is_empty.true none)

pub returns-then-not-is_empty-clause-found : goal.returns-then-not-is_empty-clause-found
returns-then-not-is_empty-clause-found g c = λ none. absurd (list_not_empty c.args.evaluation.dependencies.heads.items _ c.is_empty.result c.is_empty.ensures c.args.evaluation.dependencies.heads.ok.0 c.if-not-is_empty.true none)

pub insert-requires-clause-nested : goal.insert-requires-clause-nested
insert-requires-clause-nested g c = rw c.replace-nested_goals.ensures.value c.requires.nested
