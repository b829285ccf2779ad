use Rattle.std.proofs.Common.{◌≡◌, ◌<◌, ◌+◌, ◌∙◌, ◌++◌, ◌∷◌, [], Some, slice_get, drop, length, refl, sym, ap, subst}
use Rattle.search_graph.specs.declared.cache.Asked.{Asked}
use Rattle.search_paths.specs.declared.nested_goals.NestedGoals.{NestedGoals}
use Rattle.search_paths.specs.Nested.{covered, no_goal}
use Rattle.search_graph.specs.Stack.{steps_of, kind_after}
use Rattle.search_graph.proofs.Graphs.{Keeps-refl}
use Rattle.search_graph.proofs.Ranges.{at_end, in_range_cached}
use Rattle.search_graph.proofs.Entries.{entries_keep, entries_left, entries_within_left, left_entry}
use Rattle.search_graph.proofs.search.Search.leave.Goals as goal

pub returns-clause-left : goal.returns-clause-left
returns-clause-left g c = (_, c.in_ok-result.ensures.copy, c.in_ok-leave.ensures.added)

pub returns-clause-entries : goal.returns-clause-entries
returns-clause-entries g c =
    let m = g.D.Delegate.meaning in
    let cx = c.args.cx.now in
    let es = c.args.self.now.stack.items in
    let lists = c.args.self.now.entries.lists.items in
    let old = c.args.cache.now.asked.items in
    let asked = c.list.new.self.asked.items in
    let here : Asked = record { number = c.args.goal.number; nested_goals = c.args.evaluation.dependencies.nested_goals } in
    let at : slice_get asked c.in_ok-asked.asked ≡ Some here = rw (c.in_ok-asked.ensures.recorded, c.in_ok-asked.ensures.place, c.replace-nested_goals.ensures.value) (at_end old here) in
    let inside : c.args.nearest < length lists = subst (λ n. c.args.nearest < n) (sym c.args.self.now.listed) c.requires.place in
    let kind = c.kind_of_path-kind.ensures ∙ ap (λ xs. kind_after (drop (c.args.nearest + 1) xs) c.args.goal.step_kind) c.deref.ensures.value in
    let on = c.in_ok-rests_on.ensures.items ∙ c.deref-2.ensures.value in
    entries_left m (m.world cx) cx asked (steps_of m cx es) lists c.leave.new.self.lists.items c.args.nearest _ c.in_ok-leave.ensures.added inside
    (left_entry m cx es c.args.goal.step_kind c.args.nearest c.args.evaluation.dependencies.heads.items c.requires.place c.requires.nearest.0 c.requires.nearest.1
    asked c.args.goal.input c.args.goal.depth c.args.evaluation.dependencies.encountered_overflow c.args.evaluation.result _ here refl c.in_ok-result.ensures.copy on kind at refl c.reach_of.ensures c.requires.input c.requires.result c.requires.faithful)
    (entries_keep m (m.world cx) cx cx old asked (steps_of m cx es) lists (Keeps-refl m cx) c.list.ensures.asked c.requires.entries)

pub returns-clause-within : goal.returns-clause-within
returns-clause-within g c before stay is =
    let m = g.D.Delegate.meaning in
    let cx = c.args.cx.now in
    let lists = c.args.self.now.entries.lists.items in
    let inside : c.args.nearest < length lists = subst (λ n. c.args.nearest < n) (sym c.args.self.now.listed) c.requires.place in
    entries_within_left m (m.world cx) before cx lists c.leave.new.self.lists.items c.args.nearest _ c.in_ok-leave.ensures.added inside (rw c.in_ok-result.ensures.copy is) stay

pub returns-clause-range : goal.returns-clause-range
returns-clause-range g c =
    let old = c.args.cache.now.asked.items in
    let asked = c.list.new.self.asked.items in
    let here : Asked = record { number = c.args.goal.number; nested_goals = c.args.evaluation.dependencies.nested_goals } in
    let at : slice_get asked c.in_ok-asked.asked ≡ Some here = rw (c.in_ok-asked.ensures.recorded, c.in_ok-asked.ensures.place, c.replace-nested_goals.ensures.value) (at_end old here) in
    let none = c.replace-nested_goals.ensures.after in
    in_range_cached asked c.add_cached.new.self c.in_ok-asked.asked here at
    (ap (λ v. v.items) c.add_cached.ensures.goals ∙ ap (λ (n : NestedGoals). n.goals.items) none ∙ c.new-none.ensures.goals)
    (c.in_ok-add_cached.ensures.added ∙ ap (λ xs. xs ++ c.in_ok-asked.asked ∷ []) (ap (λ (n : NestedGoals). n.cached.items) none ∙ c.new-none.ensures.cached))
    (c.in_ok-add_cached.ensures.span ∙ ap (λ s. covered s c.span_of-span.result) (ap (λ (n : NestedGoals). n.span) none ∙ c.new-none.ensures.span) ∙ ap (covered no_goal) (c.span_of-span.ensures here at))

pub returns-clause-listed : goal.returns-clause-listed
returns-clause-listed g c = rw c.replace-nested_goals.ensures.value at c.in_ok-asked.ensures.recorded

pub list-requires : goal.list-requires
list-requires g c = record { nested = rw c.replace-nested_goals.ensures.value c.requires.nested }
