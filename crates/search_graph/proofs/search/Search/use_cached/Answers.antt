use Rattle.std.proofs.Common.{◌≡◌, ◌∙◌, ◌++◌, ◌∷◌, sym, ap, [], slice_get, Some}
use Rattle.std.proofs.lemmas.Option.{same_Some}
use Rattle.search_paths.specs.Nested.{covered, no_goal}
use Rattle.search_paths.specs.declared.path_kind.PathKind.TheVariants.{Inductive}
use Rattle.search_paths.specs.KeptPaths.{indices}
use Rattle.search_graph.specs.Stack.{steps_of}
use Rattle.search_graph.proofs.Graphs.{cached_answers}
use Rattle.search_graph.proofs.Ranges.{in_range_cached, listed_at}
use Rattle.search_graph.proofs.Faithfuls.{faithful_kept}
use Rattle.search_graph.proofs.search.Search.use_cached.Goals as goal

pub returns-clause-answer : goal.returns-clause-answer
returns-clause-answer g c step_kind =
    let m = g.D.Delegate.meaning in
    let first = c.args.cx.now in
    let es = c.args.self.now.stack.items in
    rw c.new-dependencies.ensures.unread (cached_answers m (m.world first) (steps_of m first es) (m.goal_of first c.args.input.now) Inductive step_kind first c.in_ok-cached.cached.result c.in_ok-cached.ensures.result)

pub returns-clause-faithful : goal.returns-clause-faithful
returns-clause-faithful g c depth alike =
    let m = g.D.Delegate.meaning in
    let first = c.args.cx.now in
    let es = c.args.self.now.stack.items in
    faithful_kept m (m.world first) depth c.in_ok-cached.cached.depth (steps_of m first es) (m.goal_of first c.args.input.now) (m.answer_of first c.in_ok-cached.cached.result) c.in_ok-cached.cached.encountered_overflow (indices c.new-dependencies.result.heads.items)
    alike (ap indices c.new-dependencies.ensures.unread) c.in_ok-cached.ensures.kept

pub returns-clause-same : goal.returns-clause-same
returns-clause-same g c = λ e at.
    let entry = c.in_ok-cached.ensures.entry in
    let is : c.in_ok-cached.ensures.entry.0 ≡ e = same_Some _ _ (sym entry.1 ∙ at) in
    (entry.2 ∙ ap (λ z. z.result) is, entry.3 ∙ ap (λ z. z.depth) is, entry.4 ∙ ap (λ z. z.encountered_overflow) is)

pub returns-clause-unread : goal.returns-clause-unread
returns-clause-unread g c = c.new-dependencies.ensures.unread

pub returns-clause-asked : goal.returns-clause-asked
returns-clause-asked g c = λ e at.
    let entry = c.in_ok-cached.ensures.entry in
    let is : c.in_ok-cached.ensures.entry.0 ≡ e = same_Some _ _ (sym entry.1 ∙ at) in (
      ap (λ v. v.items) c.add_cached.ensures.goals ∙ c.new-dependencies.ensures.unasked.0,
      c.in_ok-add_cached.ensures.added ∙ ap (λ xs. xs ++ c.in_ok-cached.cached.asked ∷ []) c.new-dependencies.ensures.unasked.1 ∙ ap (λ p. p ∷ []) (entry.5 ∙ ap (λ z. z.asked) is),
    )

pub returns-clause-range : goal.returns-clause-range
returns-clause-range g c =
    let entry = c.in_ok-cached.ensures.entry in
    let there = listed_at c.args.cache.now.asked.items entry.0.asked entry.0.number (c.args.cache.now.recorded c.args.place entry.0 entry.1) in
    let at : slice_get c.args.cache.now.asked.items c.in_ok-cached.cached.asked ≡ Some there.0 = rw entry.5 there.1 in
    in_range_cached c.args.cache.now.asked.items c.add_cached.new.self c.in_ok-cached.cached.asked there.0 at
    (ap (λ v. v.items) c.add_cached.ensures.goals ∙ c.new-dependencies.ensures.unasked.0)
    (c.in_ok-add_cached.ensures.added ∙ ap (λ xs. xs ++ c.in_ok-cached.cached.asked ∷ []) c.new-dependencies.ensures.unasked.1)
    (c.in_ok-add_cached.ensures.span ∙ ap (λ s. covered s c.span_of.result) c.new-dependencies.ensures.unasked.2 ∙ ap (covered no_goal) (c.span_of.ensures there.0 at))

pub get-requires-clause-cache : goal.get-requires-clause-cache
get-requires-clause-cache g c = c.requires.cache

pub get-requires-clause-place : goal.get-requires-clause-place
get-requires-clause-place g c = let found = c.requires.place in (found.0, found.1, found.2)
