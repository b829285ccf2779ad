use Rattle.std.proofs.Common.{◌≡◌, ◌∙◌, ◌∷◌, [], Some, slice_get, length, inl, inr, not, ap, sym, subst, arith}
use Rattle.std.specs.Prelude.{◌==◌}
use Rattle.std.proofs.lemmas.List.{length-append}
use Rattle.std.proofs.lemmas.Result.{err_from_is_err_and}
use Rattle.search_paths.specs.Heads.{RestsOn}
use Rattle.search_paths.specs.KeptPaths.{indices, AreBelow}
use Rattle.search_graph.specs.declared.cache.Asked.{Asked}
use Rattle.search_graph.specs.Stack.{steps_of}
use Rattle.search_graph.proofs.Errors.{fault_passed}
use Rattle.search_paths.proofs.HeadFacts.{below_head}
use Rattle.search_graph.proofs.Graphs.{Keeps-refl, length-steps_of}
use Rattle.search_graph.proofs.Ranges.{at_end}
use Rattle.search_graph.proofs.Entries.{entries_keep, entries_within_leave}
use Rattle.search_graph.proofs.MovedEntries.{entries_moved, entries_within_moved}
use Rattle.search_graph.proofs.steps.conclude.Goals as goal
use Rattle.search_graph.proofs.steps.conclude.Goals.{then-found, else-found}
use Rattle.type_terms.proofs.BooleanBasics.{true-false as true_not_false}

pub returns-in_err-finish-clause-no_conflict : goal.returns-in_err-finish-clause-no_conflict
returns-in_err-finish-clause-no_conflict g c =
    let p = err_from_is_err_and c.from_residual-in_err-finish.result c.from_residual-in_err-finish.ensures.1 in
    λ h. c.in_err-finish.ensures.no_conflict (fault_passed _ _ _ _ p.1 p.2 h)

pub leave-requires-clause-entries : goal.leave-requires-clause-entries
leave-requires-clause-entries g c = c.requires.entries

pub leave-requires-clause-result : goal.leave-requires-clause-result
leave-requires-clause-result g c = c.requires.result

pub leave-requires-clause-faithful : goal.leave-requires-clause-faithful
leave-requires-clause-faithful g c = c.requires.faithful

pub leave-requires-clause-place : goal.leave-requires-clause-place
leave-requires-clause-place g c =
    let heads = c.args.evaluation.dependencies.heads.items in
    below_head (length c.args.search.now.stack.items) c.in-Some.nearest (indices heads) c.requires.below (rw c.deref.ensures.value at c.in-Some.ensures.head)

pub move_entries-requires-clause-below : goal.move_entries-requires-clause-below
move_entries-requires-clause-below g c = rw (c.leave.ensures.stack, c.in_ok-reply.ensures.reply.heads) c.requires.below

pub move_entries-requires-clause-rests : goal.move_entries-requires-clause-rests
move_entries-requires-clause-rests g c place e at =
    let m = g.D.Delegate.meaning in
    let cx = c.args.cx.now in
    let es = c.args.search.now.stack.items in
    let n = length-append (steps_of m cx es) ((m.goal_of cx c.args.goal.input, c.args.goal.step_kind) ∷ []) in
    let k = length-steps_of m cx es in
    rw c.leave.ensures.stack (subst (λ n. AreBelow n (indices e.heads.items)) (omega (arith, n, k)) (c.requires.left place e at).below)

pub returns-in-Some-clause-entries : goal.returns-in-Some-clause-entries
returns-in-Some-clause-entries g c =
    let m = g.D.Delegate.meaning in
    let cx = c.args.cx.now in
    let es = c.args.search.now.stack.items in
    let reply = c.in_ok-reply.ensures.reply in
    let old = c.args.cache.now.asked.items in
    let asked = c.leave.new.cache.asked.items in
    let listed : Asked = record { number = c.args.goal.number; nested_goals = c.args.evaluation.dependencies.nested_goals } in
    let place : c.len-asked.result ≡ length old = c.len-asked.ensures ∙ c.args.cache.now.asked.ok.0 in
    let here : slice_get asked c.len-asked.result ≡ Some listed = rw (c.in_ok-reply.ensures.listed, place) (at_end old listed) in
    entries_moved m cx es c.args.goal.input c.args.goal.step_kind c.in_ok-reply.reply c.args.goal.depth c.reach_of-reach.result asked old c.len-asked.result listed
    here (rw reply.heads c.requires.below) (λ none. subst (λ l. RestsOn l c.in-Some.nearest) (sym (ap (λ v. v.items) reply.heads) ∙ none) (rw c.deref.ensures.value at c.in-Some.ensures.head)) (rw (reply.heads, reply.result) c.requires.result)
    (rw reply.overflow c.reach_of-reach.ensures) (rw (reply.heads, reply.result, reply.overflow) c.requires.faithful)
    c.args.left.items c.leave.new.self.entries.lists.items c.move_entries.new.self.entries.lists.items c.requires.left
    (rw c.leave.ensures.stack at c.in_ok-move_entries.ensures.moved)
    c.in_ok-reply.ensures.entries

pub returns-in-Some-clause-entries_within : goal.returns-in-Some-clause-entries_within
returns-in-Some-clause-entries_within g c before stay is =
    let m = g.D.Delegate.meaning in
    let cx = c.args.cx.now in
    let lists = c.args.search.now.entries.lists.items in
    let kept = c.in_ok-reply.ensures.within in
    entries_within_moved m (m.world cx) before cx c.leave.new.self.stack.items c.args.goal.step_kind c.in_ok-reply.reply c.reach_of-reach.result c.len-asked.result c.args.left lists c.leave.new.self.entries.lists.items c.move_entries.new.self.entries.lists.items
    c.in_ok-move_entries.ensures.moved stay (kept before (entries_within_leave m (m.world cx) before cx lists c.args.left stay) is)

pub returns-clause-entries : goal.returns-clause-entries
returns-clause-entries g c =
    let m = g.D.Delegate.meaning in
    let cx = c.args.cx.now in
    let es = c.args.search.now.stack.items in
    entries_keep m (m.world cx) cx cx c.args.cache.now.asked.items c.finish.new.cache.asked.items (steps_of m cx es) c.args.search.now.entries.lists.items (Keeps-refl m cx) c.finish.ensures.asked_before c.requires.entries

pub returns-clause-entries_within : goal.returns-clause-entries_within
returns-clause-entries_within g c before stay is =
    let m = g.D.Delegate.meaning in
    let cx = c.args.cx.now in
    entries_within_leave m (m.world cx) before cx c.args.search.now.entries.lists.items c.args.left stay

pub returns-then-not-count_end-clause-exhausted : goal.returns-then-not-count_end-clause-exhausted
returns-then-not-count_end-clause-exhausted g c h =
    elim c.if-found.branch [
      | then-found w ↦ inl w.if-found.true
      | else-found w ↦ inr (λ none.
          let empty = w.is_empty.ensures ∙ ap (λ n. n == 0) (c.args.evaluation.dependencies.heads.ok.0 ∙ ap length none) in
          true_not_false (sym (c.count_end.ensures.uncounted (w.is_open-is ∙ ap not empty)).0 ∙ c.if-not-count_end.true))
    ]
