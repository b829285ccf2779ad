use Rattle.std.proofs.Common.{◌≡◌, ◌∙◌, ◌++◌, ◌∷◌, [], sym, ap, subst, slice_get, Some}
use Rattle.search_paths.specs.Nested.{covered, no_goal}
use Rattle.search_graph.proofs.Entries.{entry_read, entry_answers, entry_faithful, entry_within}
use Rattle.search_graph.proofs.Ranges.{in_range_cached}
use Rattle.search_graph.proofs.search.Search.use_entry.Goals as goal

pub returns-clause-heads : goal.returns-clause-heads
returns-clause-heads g c e at =
    let is = entry_read c.args.self.now.entries.lists.items c.args.at.0 c.args.at.1 e at c.index.result.now c.index-entry.result.now c.index.ensures c.index-entry.ensures in
    c.in_ok-dependencies.ensures.items ∙ c.deref.ensures.value ∙ ap (λ z. z.heads.items) (sym is)

pub returns-clause-depth : goal.returns-clause-depth
returns-clause-depth g c e at =
    let is = entry_read c.args.self.now.entries.lists.items c.args.at.0 c.args.at.1 e at c.index.result.now c.index-entry.result.now c.index.ensures c.index-entry.ensures in
    ap (λ z. z.required_depth) (sym is)

pub returns-clause-asked : goal.returns-clause-asked
returns-clause-asked g c e at =
    let is = entry_read c.args.self.now.entries.lists.items c.args.at.0 c.args.at.1 e at c.index.result.now c.index-entry.result.now c.index.ensures c.index-entry.ensures in (
      ap (λ v. v.items) c.add_cached.ensures.goals ∙ c.new-dependencies.ensures.unasked.0,
      c.in_ok-add_cached.ensures.added ∙ ap (λ xs. xs ++ c.index-entry.result.now.asked ∷ []) c.new-dependencies.ensures.unasked.1 ∙ ap (λ z. z.asked ∷ []) (sym is),
    )

pub returns-clause-range : goal.returns-clause-range
returns-clause-range g c =
    let at = c.requires.place.2 in
    let is = entry_read c.args.self.now.entries.lists.items c.args.at.0 c.args.at.1 at.0 at.1 c.index.result.now c.index-entry.result.now c.index.ensures c.index-entry.ensures in
    let listed = (c.requires.entries c.args.at.0 c.args.at.1 at.0 at.1).listed in
    let there : slice_get c.args.cache.now.asked.items c.index-entry.result.now.asked ≡ Some listed.0 = subst (λ z. slice_get c.args.cache.now.asked.items z.asked ≡ Some listed.0) is listed.1 in
    in_range_cached c.args.cache.now.asked.items c.add_cached.new.self c.index-entry.result.now.asked listed.0 there
    (ap (λ v. v.items) c.add_cached.ensures.goals ∙ c.new-dependencies.ensures.unasked.0)
    (c.in_ok-add_cached.ensures.added ∙ ap (λ xs. xs ++ c.index-entry.result.now.asked ∷ []) c.new-dependencies.ensures.unasked.1)
    (c.in_ok-add_cached.ensures.span ∙ ap (λ s. covered s c.span_of.result) c.new-dependencies.ensures.unasked.2 ∙ ap (covered no_goal) (c.span_of.ensures listed.0 there))

pub returns-clause-answer : goal.returns-clause-answer
returns-clause-answer g c =
    let at = c.requires.place.2 in
    let is = entry_read c.args.self.now.entries.lists.items c.args.at.0 c.args.at.1 at.0 at.1 c.index.result.now c.index-entry.result.now c.index.ensures c.index-entry.ensures in
    let on = c.in_ok-dependencies.ensures.items ∙ c.deref.ensures.value ∙ ap (λ z. z.heads.items) (sym is) in
    let copy = c.in_ok-answer.ensures.copy ∙ ap (λ z. z.result) (sym is) in
    rw (on, copy)
    (entry_answers g.D.Delegate.meaning c.args.cx.now c.args.self.now.stack.items c.args.cache.now.asked.items c.args.self.now.entries.lists.items c.requires.entries c.requires.place.0 c.args.input.now c.args.step_kind c.requires.place.1 c.args.at.0 c.args.at.1 at)

pub returns-clause-overflow : goal.returns-clause-overflow
returns-clause-overflow g c e at =
    let is = entry_read c.args.self.now.entries.lists.items c.args.at.0 c.args.at.1 e at c.index.result.now c.index-entry.result.now c.index.ensures c.index-entry.ensures in
    ap (λ z. z.encountered_overflow) (sym is)

pub returns-clause-faithful : goal.returns-clause-faithful
returns-clause-faithful g c e here =
    let at = c.requires.place.2 in
    let lists = c.args.self.now.entries.lists.items in
    let is = entry_read lists c.args.at.0 c.args.at.1 at.0 at.1 c.index.result.now c.index-entry.result.now c.index.ensures c.index-entry.ensures in
    let same = entry_read lists c.args.at.0 c.args.at.1 e here c.index.result.now c.index-entry.result.now c.index.ensures c.index-entry.ensures in
    let on = c.in_ok-dependencies.ensures.items ∙ c.deref.ensures.value ∙ ap (λ z. z.heads.items) (sym is) in
    let copy = c.in_ok-answer.ensures.copy ∙ ap (λ z. z.result) (sym is) in
    rw (on, copy, same ∙ sym is, sym is)
    (entry_faithful g.D.Delegate.meaning c.args.cx.now c.args.self.now.stack.items c.args.cache.now.asked.items lists c.requires.entries c.requires.place.0 c.args.input.now c.args.step_kind c.requires.place.1 c.args.at.0 c.args.at.1 at)

pub returns-clause-within : goal.returns-clause-within
returns-clause-within g c before stay =
    let at = c.requires.place.2 in
    let is = entry_read c.args.self.now.entries.lists.items c.args.at.0 c.args.at.1 at.0 at.1 c.index.result.now c.index-entry.result.now c.index.ensures c.index-entry.ensures in
    let copy = c.in_ok-answer.ensures.copy ∙ ap (λ z. z.result) (sym is) in
    rw copy
    (entry_within g.D.Delegate.meaning c.args.cx.now c.args.self.now.stack.items c.args.cache.now.asked.items c.args.self.now.entries.lists.items c.requires.entries c.requires.place.0 c.args.input.now c.args.step_kind c.requires.place.1 c.args.at.0 c.args.at.1 at
    before stay)
