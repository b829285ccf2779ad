use Rattle.std.proofs.Common.{◌≡◌, ◌∙◌, ◌++◌, ◌∷◌, ap, refl, [], inl, Some, slice_get}
use Rattle.std.proofs.lemmas.Option.{get_or_from_slice_get}
use Rattle.search_paths.specs.declared.nested_goals.NestedGoals.{NestedGoals}
use Rattle.search_paths.specs.Nested.{covered, one_goal}
use Rattle.search_paths.specs.KeptPaths.{indices}
use Rattle.search_graph.specs.Stack.{steps_of}
use Rattle.search_graph.proofs.Faithfuls.{cycle_needs_head, faithful_needs_head}
use Rattle.search_graph.proofs.steps.reply_in_cycle.Goals as goal

pub close_cycle-requires-clause-cycle : goal.close_cycle-requires-clause-cycle
close_cycle-requires-clause-cycle g c = c.requires.cycle

pub returns-clause-asked : goal.returns-clause-asked
returns-clause-asked g c =
    let kept = c.read_head.ensures.goals in (
      c.in_ok-add_goal.ensures.added ∙ ap (λ xs. xs ++ c.args.number ∷ []) (ap (λ (n : NestedGoals). n.goals.items) kept ∙ c.new-dependencies.ensures.unasked.0),
      ap (λ v. v.items) c.add_goal.ensures.cached ∙ ap (λ (n : NestedGoals). n.cached.items) kept ∙ c.new-dependencies.ensures.unasked.1,
      c.in_ok-add_goal.ensures.span ∙ ap (λ s. covered s (one_goal c.args.number)) (ap (λ (n : NestedGoals). n.span) kept ∙ c.new-dependencies.ensures.unasked.2),
    )

pub returns-clause-answer : goal.returns-clause-answer
returns-clause-answer g c =
    let m = g.D.Delegate.meaning in
    let cycle = c.requires.cycle in
    let first = c.args.cx.now in
    let es = c.args.search.now.stack.items in
    let entry = c.index.result.now in
    let at : slice_get es c.args.cycle.index ≡ Some entry = rw (c.index.ensures ∙ get_or_from_slice_get es c.args.cycle.index cycle.0 entry cycle.1) cycle.1 in
    rw (c.in_ok-read_head.ensures.heads, c.deref.ensures.value) (c.in_ok-answer.ensures.reply entry at)

pub returns-clause-faithful : goal.returns-clause-faithful
returns-clause-faithful g c = λ reach.
    let m = g.D.Delegate.meaning in
    let cycle = c.requires.cycle in
    let first = c.args.cx.now in
    let es = c.args.search.now.stack.items in
    faithful_needs_head m (m.world first) reach (steps_of m first es) (m.goal_of first c.args.input.now) (m.answer_of c.close_cycle.new.cx c.in_ok-answer.answer) c.read_head.new.self.encountered_overflow (indices c.read_head.new.self.heads.items)
    (cycle_needs_head m (m.world first) first reach es c.args.cycle.index cycle.0 c.args.input.now c.read_head.new.self.encountered_overflow (indices c.read_head.new.self.heads.items) cycle.1 cycle.2 (rw c.in_ok-read_head.ensures.heads (inl refl)))
