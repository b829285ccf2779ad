use Rattle.std.proofs.Common.{◌⊎◌, ◌||◌, inl, inr, cond, false, true, rules, ◌≡◌, ℕ, ◌+◌, ◌*◌, ◌<◌, ◌≤◌, [], ◌∷◌, ◌++◌, length, max, sym, subst, ◌∙◌, ap, refl, arith}
use Rattle.std.proofs.lemmas.Result.{IfOk-weaker, err_from_is_err_and}
use Rattle.search_paths.specs.declared.path_kind.PathKind.TheVariants.{Inductive}
use Rattle.search_graph.specs.declared.delegate.Request.TheVariants.{Evaluate, Done}
use Rattle.search_graph.specs.Meaning.{answer_count, request_of}
use Rattle.search_paths.specs.Nested.{covered, one_goal}
use Rattle.search_graph.proofs.Ranges.{in_range_none, in_range_one, in_range_gather, in_range_later}
use Rattle.std.proofs.lemmas.Option.{none-some}
use Rattle.std.proofs.lemmas.List.{length-append, same_from_push}
use Rattle.search_graph.proofs.Depths.{depth_gathered}
use Rattle.search_paths.specs.KeptPaths.{AreBelow, indices}
use Rattle.search_paths.specs.Heads.{AreHeadsBut}
use Rattle.search_graph.specs.Stack.{question_of, steps_of, span_of_newest, IsUnread}
use Rattle.search_graph.specs.Computed.{IsGivenWithin, nothing, also, below}
use Rattle.search_graph.specs.Bound.{question_bound}
use Rattle.search_graph.specs.Cache.{HasConflict, known_results}
use Rattle.search_graph.specs.Question.{IsFaithfulOver, IsNotPlainOver, IsWithinAsStack, AllStayWithin}
use Rattle.search_graph.specs.Faithful.{NeedsHead}
use Rattle.search_graph.proofs.Errors.{err_passed, fault_passed, fault_goes_on, memory_alone, full_passed, stop_refused, ok_not_err, OnOk-always}
use Rattle.search_graph.proofs.Refusals.{IfOk-err, OnOk-err, IfOk-or}
use Rattle.search_graph.proofs.Orders.{from_zero, within_more, less_within, none_started, one_started, none_counted, one_counted, counted_later, not_less}
use Rattle.search_paths.proofs.HeadFacts.{indices-none, both_kept, both_below, below_more, below_last, root_alone}
use Rattle.search_graph.proofs.Graphs.{IsStack-now, steps-now, IsEntry-now, run_ended, next_entry, IsAnswer-then, answer_of_run, running_next_counted, running_begun, running_other, running_done, asked_now, hears_other, hears_next, misstep_now, due_next, due_other, Keeps-refl, Keeps-trans, IsStack-push, steps_pushed, length-steps_of, AreCached-later, provisional_alone, overflow_answers, overflow_stands}
use Rattle.search_graph.proofs.Faithfuls.{or_first, or_either, faithful_marked, not_plain_at_zero, run_plain_head, needs_not_plain, ends_not_plain, conflict_up, plain_first, plain_next_at, plain_done, untouched_first, untouched_needs_head, faithful_needs_head, faithful_taken, faithful_at_zero, kept_of_faithful, IsFaithful-less, reach_within}
use Rattle.search_graph.proofs.Limits.{unnoted, either_noted, not_both, told_within, AreLastWithin-now, AreLastWithin-push, AreCachedWithin-keeps}
use Rattle.search_graph.proofs.Bounds.{frame_bound_runs, nested_within, one_more_run, runs_within, done_within, asked_within, asked_more}
use Rattle.search_graph.proofs.Ends.{depth_after, held_after, answer_after, faithful_after, within_after}
use Rattle.search_graph.proofs.Turns.{asked_in_turn, ended_in_turn, in_order_in_turn, told_in_turn, plain_in_turn}
use Rattle.search_graph.proofs.Entries.{runs_begin, runs_leave, runs_left, entries_keep, entries_same, entries_within_keep, entries_within_begin, entries_within_leave}
use Rattle.search_graph.proofs.evaluation.+search.Goals as goal
use Rattle.type_terms.proofs.BooleanBasics.{true-false as true_not_false}

pub ask-returns-in_default : goal.ask-returns-in_default
ask-returns-in_default g t c =
    let m = g.D.Delegate.meaning in
    let first = c.args.cx.now in
    let es = c.args.search.now.stack.items in
    let w = m.world first in
    let x = m.goal_of first c.args.input in
    let none : cond c.args.overflowed 0 c.args.depth ≡ 0 = rw c.in_default.is at c.depth_for.ensures.none in
    record {
      step = record {
        keeps = c.reply_with_overflow.ensures.keeps;
        stack = OnOk-always c.reply_with_overflow.result c.reply_with_overflow.ensures.stack;
        entries = OnOk-always c.reply_with_overflow.result (entries_same m w first c.reply_with_overflow.new.cx c.args.cache.now.asked.items c.reply_with_overflow.new.cache.asked.items (steps_of m first es) c.args.search.now.entries.lists.items c.reply_with_overflow.new.search.entries.lists.items c.reply_with_overflow.ensures.keeps (ap (λ v. v.items) c.reply_with_overflow.ensures.asked_before) (ap (λ e. e.lists.items) c.reply_with_overflow.ensures.provisional) c.requires.entries);
        cache = c.reply_with_overflow.ensures.cache;
        goals = c.reply_with_overflow.ensures.goals;
        results = λ p x h. rw c.reply_with_overflow.ensures.entries h;
        asked_before = λ p x h. rw c.reply_with_overflow.ensures.asked_before h;
        no_conflict = λ h. absurd (c.reply_with_overflow.ensures.no_conflict h);
        exhausted = λ h. absurd (c.reply_with_overflow.ensures.goes_on h);
        protocol = λ h. absurd (c.reply_with_overflow.ensures.in_order h);
        conflict = λ h. absurd (c.reply_with_overflow.ensures.no_conflict h);
        frames = λ width h. none_started _ _ _ c.reply_with_overflow.ensures.frames;
        rises = none_counted _ _ c.reply_with_overflow.ensures.frames;
        spent = λ h. absurd (c.reply_with_overflow.ensures.goes_on h);
        full = c.reply_with_overflow.ensures.full;
        limits = c.reply_with_overflow.ensures.limits;
        no_limit = λ off on limit l d. not_plain_at_zero m w false limit x (rw none at l);
      };
      evaluation = record {
        range = c.reply_with_overflow.ensures.range;
        answer = c.reply_with_overflow.ensures.answer;
        faithful = rw none (IfOk-weaker c.reply_with_overflow.result (λ o. o.dependencies.encountered_overflow ≡ true) (IsFaithfulOver m first es c.args.input 0 c.reply_with_overflow.new.cx) (λ o told. rw told (faithful_at_zero m w false (steps_of m first es) x (m.answer_of c.reply_with_overflow.new.cx o.result) (indices o.dependencies.heads.items))) c.reply_with_overflow.ensures.told);
        within = IfOk-weaker c.reply_with_overflow.result _ _ (λ o noted before no last cached. absurd (true_not_false (sym noted ∙ no))) c.reply_with_overflow.ensures.noted;
      };
      depth = IfOk-weaker c.reply_with_overflow.result _ _ (λ o told off. absurd (true_not_false (sym told ∙ off))) c.reply_with_overflow.ensures.told;
    }

pub ask-returns-in_err-reply : goal.ask-returns-in_err-reply
ask-returns-in_err-reply g t c =
    let p = err_from_is_err_and c.from_residual.result c.from_residual.ensures.1 in
    let failed = c.in_err-reply.ensures in
    let reach = reach_within c.args.overflowed c.args.depth c.in-Some.nested c.in-Some.ensures.less in
    let limit : ℕ = max g.D.Delegate.FIXPOINT_STEP_LIMIT 1 in
    record {
      step = record {
        keeps = c.evaluate.ensures.step.keeps;
        stack = OnOk-err _ _ _ p.1;
        entries = OnOk-err _ _ _ p.1;
        cache = c.evaluate.ensures.step.cache;
        goals = c.evaluate.ensures.step.goals;
        results = c.evaluate.ensures.step.results;
        asked_before = c.evaluate.ensures.step.asked_before;
        no_conflict = λ h limit l d. failed.step.no_conflict (err_passed _ _ _ _ p.1 p.2 h) limit (omega (arith, reach, l)) d;
        exhausted = λ h limit l d. failed.step.exhausted (err_passed _ _ _ _ p.1 p.2 h) limit (omega (arith, reach, l)) d;
        protocol = λ h. failed.step.protocol (err_passed _ _ _ _ p.1 p.2 h);
        conflict = λ h. failed.step.conflict (err_passed _ _ _ _ p.1 p.2 h);
        frames = λ width h. let within = nested_within limit width c.in-Some.nested c.args.depth c.in-Some.ensures.falls in let run = c.evaluate.ensures.step.frames width h in omega arith;
        rises = c.evaluate.ensures.step.rises;
        spent = λ h. failed.step.spent (err_passed _ _ _ _ p.1 p.2 h);
        full = λ h. failed.step.full (err_passed _ _ _ _ p.1 p.2 h);
        limits = c.evaluate.ensures.step.limits;
        no_limit = λ off on limit l d. c.evaluate.ensures.step.no_limit off on limit (omega (arith, reach, l)) d;
      };
      evaluation = record {
        range = IfOk-err _ _ _ p.1;
        answer = IfOk-err _ _ _ p.1;
        faithful = IfOk-err _ _ _ p.1;
        within = IfOk-err _ _ _ p.1;
      };
      depth = IfOk-err _ _ _ p.1;
    }

pub ask-returns : goal.ask-returns
ask-returns g t c =
    let m = g.D.Delegate.meaning in
    let first = c.args.cx.now in
    let es = c.args.search.now.stack.items in
    let w = m.world first in
    let x = m.goal_of first c.args.input in
    let steps = steps_of m first es in
    let reply = c.in_ok-reply.reply in
    let replied = c.in_ok-reply.ensures in
    let found = reply.dependencies in
    let marked = c.end_nested-marked.result in
    let told = c.is_met-told.result in
    let answer = m.answer_of c.evaluate.new.cx reply.result in
    let near : ℕ = cond c.args.overflowed 0 c.args.depth in
    let reach = reach_within c.args.overflowed c.args.depth c.in-Some.nested c.in-Some.ensures.less in
    let limit : ℕ = max g.D.Delegate.FIXPOINT_STEP_LIMIT 1 in
    let faithful = IsFaithful-less m w (c.in-Some.nested + 1) near steps x answer found.encountered_overflow (indices found.heads.items) reach replied.evaluation.faithful in
    let rests : marked ≡ true → indices found.heads.items ≡ [] → ⊥ = λ on none. c.end_nested-marked.ensures.rests on (indices-none found.heads.items none) in
    let due : told ≡ true → (found.encountered_overflow ≡ true) ⊎ (indices found.heads.items ≡ [] → ⊥) = λ on. elim (or_either found.encountered_overflow marked (sym c.is_met-told.ensures ∙ on)) [ inl before ↦ inl before | inr now ↦ inr (rests now) ] in
    record {
      step = record {
        keeps = c.evaluate.ensures.step.keeps;
        stack = replied.step.stack;
        entries = replied.step.entries;
        cache = c.evaluate.ensures.step.cache;
        goals = c.evaluate.ensures.step.goals;
        results = c.evaluate.ensures.step.results;
        asked_before = c.evaluate.ensures.step.asked_before;
        no_conflict = λ h. absurd {A = IsNotPlainOver m first es c.args.input near} (ok_not_err _ _ h);
        exhausted = λ h. absurd {A = IsNotPlainOver m first es c.args.input near} (ok_not_err _ _ h);
        protocol = λ h. absurd (ok_not_err _ _ h);
        conflict = λ h. absurd (ok_not_err _ _ h);
        frames = λ width h. let within = nested_within limit width c.in-Some.nested c.args.depth c.in-Some.ensures.falls in let run = c.evaluate.ensures.step.frames width h in omega arith;
        rises = c.evaluate.ensures.step.rises;
        spent = λ h. absurd (ok_not_err _ _ h);
        full = λ h. absurd (ok_not_err _ _ h);
        limits = λ on. c.is_met-search.ensures ∙ ap (λ met. met || marked) (c.evaluate.ensures.step.limits on);
        no_limit = λ off on limit l d. elim (or_either c.evaluate.new.search.limits_met marked (sym c.is_met-search.ensures ∙ on)) [
          | inl met ↦ c.evaluate.ensures.step.no_limit off met limit (omega (arith, reach, l)) d
          | inr now ↦ ends_not_plain m w near steps x answer found.encountered_overflow (indices found.heads.items) (inr (rests now)) faithful limit l d
        ];
      };
      evaluation = record {
        range = replied.evaluation.range;
        answer = replied.evaluation.answer;
        faithful = faithful_marked m w near steps x answer found.encountered_overflow told (indices found.heads.items) (λ on. c.is_met-told.ensures ∙ ap (λ before. before || marked) on) due faithful;
        within = λ before no last kept. replied.evaluation.within before (or_first c.evaluate.new.search.limits_met marked (sym c.is_met-search.ensures ∙ no)) last kept;
      };
      depth = λ off. let within = replied.depth (or_first found.encountered_overflow marked (sym c.is_met-told.ensures ∙ off)) in let falls = c.in-Some.ensures.falls in omega (arith, within, falls);
    }

pub evaluate-returns-in_err-number : goal.evaluate-returns-in_err-number
evaluate-returns-in_err-number g t c =
    let p = err_from_is_err_and c.from_residual.result c.from_residual.ensures.1 in
    let alone = memory_alone _ _ p.1 p.2 in
    record {
      step = record {
        keeps = Keeps-refl g.D.Delegate.meaning c.args.cx.now;
        stack = OnOk-always c.from_residual.result refl;
        entries = OnOk-err _ _ _ p.1;
        cache = rw c.look_up.ensures.entries c.requires.cache;
        goals = c.look_up.ensures.goals;
        results = λ p x h. rw c.look_up.ensures.entries h;
        asked_before = λ p x h. rw c.look_up.ensures.asked_before h;
        no_conflict = λ h. absurd {A = IsNotPlainOver g.D.Delegate.meaning c.args.cx.now c.args.search.now.stack.items c.args.input (c.args.depth + 1)} (alone.1 h);
        exhausted = λ h. absurd {A = IsNotPlainOver g.D.Delegate.meaning c.args.cx.now c.args.search.now.stack.items c.args.input (c.args.depth + 1)} (alone.0 h);
        protocol = λ h. absurd (alone.2 h);
        conflict = λ h. absurd (alone.1 h);
        frames = λ width h. none_started _ _ _ refl;
        rises = none_counted _ _ refl;
        spent = λ h. absurd (alone.0 h);
        full = λ h. absurd (alone.3 h);
        limits = λ h. h;
        no_limit = λ off on. not_both c.args.search.now.limits_met off on;
      };
      evaluation = record {
        range = IfOk-err _ _ _ p.1;
        answer = IfOk-err _ _ _ p.1;
        faithful = IfOk-err _ _ _ p.1;
        within = IfOk-err _ _ _ p.1;
      };
      depth = IfOk-err _ _ _ p.1;
      kept = λ empty. IfOk-err _ _ _ p.1;
      counted = λ empty. IfOk-err _ _ _ p.1;
      cached = λ place e at same within clear. (refl, c.look_up.ensures.entries);
      served = λ place e at same within clear. alone.0;
      known = λ empty place e at same within clear. IfOk-err _ _ _ p.1;
    }

pub evaluate-returns-in-Some : goal.evaluate-returns-in-Some
evaluate-returns-in-Some g t c =
    let m = g.D.Delegate.meaning in
    let first = c.args.cx.now in
    let lists = c.args.search.now.entries.lists.items in
    record {
      step = record {
        keeps = Keeps-refl g.D.Delegate.meaning c.args.cx.now;
        stack = refl;
        entries = entries_same m (m.world first) first first c.args.cache.now.asked.items c.look_up.new.cache.asked.items (steps_of m first c.args.search.now.stack.items) lists lists (Keeps-refl m first) (ap (λ v. v.items) c.look_up.ensures.asked_before) refl c.requires.entries;
        cache = rw c.look_up.ensures.entries c.requires.cache;
        goals = c.look_up.ensures.goals;
        results = λ p x h. rw c.look_up.ensures.entries h;
        asked_before = λ p x h. rw c.look_up.ensures.asked_before h;
        no_conflict = λ h. absurd {A = IsNotPlainOver g.D.Delegate.meaning c.args.cx.now c.args.search.now.stack.items c.args.input (c.args.depth + 1)} (ok_not_err _ _ h);
        exhausted = λ h. absurd {A = IsNotPlainOver g.D.Delegate.meaning c.args.cx.now c.args.search.now.stack.items c.args.input (c.args.depth + 1)} (ok_not_err _ _ h);
        protocol = λ h. absurd (ok_not_err _ _ h);
        conflict = λ h. absurd (ok_not_err _ _ h);
        frames = λ width h. none_started _ _ _ refl;
        rises = none_counted _ _ refl;
        spent = λ h. absurd (ok_not_err _ _ h);
        full = λ h. absurd (ok_not_err _ _ h);
        limits = λ h. h;
        no_limit = λ off on. not_both c.args.search.now.limits_met off on;
      };
      evaluation = record {
        range = rw c.look_up.ensures.asked_before (rw c.in-Some.is at c.in_ok-number.ensures.range);
        answer = rw c.in-Some.is at c.in_ok-number.ensures.answer;
        faithful = rw c.in-Some.is at c.in_ok-number.ensures.faithful;
        within = λ before no last cached. (rw c.look_up.ensures.entries cached, (rw c.in-Some.is at c.in_ok-number.ensures.within) before cached);
      };
      depth = rw c.in-Some.is at c.in_ok-number.ensures.depth;
      kept = λ empty. rw c.look_up.ensures.entries (rw c.in-Some.is at c.in_ok-number.ensures.kept empty);
      counted = λ empty. inl ((rw c.in-Some.is at c.in_ok-number.ensures.kept) empty);
      cached = λ place e at same within clear. (refl, c.look_up.ensures.entries);
      served = λ place e at same within clear h. ok_not_err _ _ h;
      known = λ empty place e at same within clear. rw c.in-Some.is at c.in_ok-number.ensures.kept empty;
    }

pub evaluate-reply_in_cycle-requires-clause-cycle : goal.evaluate-reply_in_cycle-requires-clause-cycle
evaluate-reply_in_cycle-requires-clause-cycle g t c =
    c.in-Some-find_cycle.ensures.found

pub evaluate-returns-in-Some-find_cycle : goal.evaluate-returns-in-Some-find_cycle
evaluate-returns-in-Some-find_cycle g t c =
    let m = g.D.Delegate.meaning in
    let first = c.args.cx.now in
    let es = c.args.search.now.stack.items in
    record {
      step = record {
        keeps = c.reply_in_cycle.ensures.keeps;
        stack = OnOk-always c.reply_in_cycle.result refl;
        entries = OnOk-always c.reply_in_cycle.result (entries_same m (m.world first) first c.reply_in_cycle.new.cx c.args.cache.now.asked.items c.look_up.new.cache.asked.items (steps_of m first es) c.args.search.now.entries.lists.items c.args.search.now.entries.lists.items c.reply_in_cycle.ensures.keeps (ap (λ v. v.items) c.look_up.ensures.asked_before) refl c.requires.entries);
        cache = rw c.look_up.ensures.entries (AreCached-later g.D.Delegate.meaning c.args.cx.now c.reply_in_cycle.new.cx c.args.cache.now.entries.items c.reply_in_cycle.ensures.keeps c.requires.cache);
        goals = c.look_up.ensures.goals;
        results = λ p x h. rw c.look_up.ensures.entries h;
        asked_before = λ p x h. rw c.look_up.ensures.asked_before h;
        no_conflict = λ h. absurd (c.reply_in_cycle.ensures.no_conflict h);
        exhausted = λ h. absurd (c.reply_in_cycle.ensures.goes_on h);
        protocol = λ h. absurd (c.reply_in_cycle.ensures.in_order h);
        conflict = λ h. absurd (c.reply_in_cycle.ensures.no_conflict h);
        frames = λ width h. none_started _ _ _ refl;
        rises = none_counted _ _ refl;
        spent = λ h. absurd (c.reply_in_cycle.ensures.goes_on h);
        full = c.reply_in_cycle.ensures.full;
        limits = λ h. h;
        no_limit = λ off on. not_both c.args.search.now.limits_met off on;
      };
      evaluation = record {
        range = IfOk-weaker c.reply_in_cycle.result _ _ (λ o asked. in_range_one c.look_up.new.cache.asked.items o.dependencies.nested_goals c.in_ok-number.number asked.0 asked.1 asked.2) c.reply_in_cycle.ensures.asked;
        answer = c.reply_in_cycle.ensures.answer;
        faithful = IfOk-weaker c.reply_in_cycle.result _ _ (λ o f. f (c.args.depth + 1)) c.reply_in_cycle.ensures.faithful;
        within = IfOk-weaker c.reply_in_cycle.result (λ o. IsWithinAsStack m first es c.args.input c.reply_in_cycle.new.cx o.result)
            (λ o. AllStayWithin m first es c.args.cache.now.entries.items c.args.search.now.entries.lists.items c.args.input c.args.search.now.limits_met c.reply_in_cycle.new.cx c.look_up.new.cache.entries.items c.args.search.now.entries.lists.items o.result)
            (λ o f before no last cached. (
              rw c.look_up.ensures.entries (
                AreCachedWithin-keeps m (m.world first) before (m.world first) first c.reply_in_cycle.new.cx c.args.cache.now.entries.items c.reply_in_cycle.ensures.keeps c.requires.cache cached.0,
                entries_within_keep m (m.world first) (m.world first) before first c.reply_in_cycle.new.cx c.args.cache.now.asked.items (steps_of m first es) c.args.search.now.entries.lists.items c.reply_in_cycle.ensures.keeps c.requires.entries cached.1,
              ),
              f before last,
            )) c.reply_in_cycle.ensures.within;
      };
      depth = IfOk-weaker c.reply_in_cycle.result _ _ (λ o none off. from_zero _ _ none) c.reply_in_cycle.ensures.depth;
      kept = λ empty. absurd (none-some c.in-Some-find_cycle.cycle.index (rw empty at c.in-Some-find_cycle.ensures.place));
      counted = λ empty. absurd (none-some c.in-Some-find_cycle.cycle.index (rw empty at c.in-Some-find_cycle.ensures.place));
      cached = λ place e at same within clear. (refl, c.look_up.ensures.entries);
      served = λ place e at same within clear. c.reply_in_cycle.ensures.goes_on;
      known = λ empty place e at same within clear. absurd (true_not_false (sym (rw c.in_default.is at (c.in_ok-number.ensures.found place e at same within clear))));
    }

pub evaluate-returns-in-None : goal.evaluate-returns-in-None
evaluate-returns-in-None g t c =
    record {
      step = record {
        keeps = c.evaluate_new.ensures.step.keeps;
        stack = c.evaluate_new.ensures.step.stack;
        entries = c.evaluate_new.ensures.step.entries;
        cache = c.evaluate_new.ensures.step.cache;
        goals = λ x n h. c.evaluate_new.ensures.step.goals x n (c.look_up.ensures.goals x n h);
        results = λ p x h. c.evaluate_new.ensures.step.results p x (rw c.look_up.ensures.entries h);
        asked_before = λ p x h. c.evaluate_new.ensures.step.asked_before p x (rw c.look_up.ensures.asked_before h);
        no_conflict = c.evaluate_new.ensures.step.no_conflict;
        exhausted = c.evaluate_new.ensures.step.exhausted;
        protocol = c.evaluate_new.ensures.step.protocol;
        conflict = c.evaluate_new.ensures.step.conflict;
        frames = c.evaluate_new.ensures.step.frames;
        rises = c.evaluate_new.ensures.step.rises;
        spent = c.evaluate_new.ensures.step.spent;
        full = c.evaluate_new.ensures.step.full;
        limits = c.evaluate_new.ensures.step.limits;
        no_limit = c.evaluate_new.ensures.step.no_limit;
      };
      evaluation = record {
        range = c.evaluate_new.ensures.evaluation.range;
        answer = c.evaluate_new.ensures.evaluation.answer;
        faithful = c.evaluate_new.ensures.evaluation.faithful;
        within = IfOk-weaker c.evaluate_new.result _ _ (λ o f before no last cached. f before no last (rw c.look_up.ensures.entries cached)) c.evaluate_new.ensures.evaluation.within;
      };
      depth = c.evaluate_new.ensures.depth;
      kept = c.evaluate_new.ensures.kept;
      counted = λ empty. IfOk-or _ _ c.evaluate_new.result c.evaluate_new.ensures.counted;
      cached = λ place e at same within clear. absurd (true_not_false (sym (rw c.in_default.is at (c.in_ok-number.ensures.found place e at same within clear))));
      served = λ place e at same within clear. absurd (true_not_false (sym (rw c.in_default.is at (c.in_ok-number.ensures.found place e at same within clear))));
      known = λ empty place e at same within clear. absurd (true_not_false (sym (rw c.in_default.is at (c.in_ok-number.ensures.found place e at same within clear))));
    }

pub evaluate-evaluate_new-requires : goal.evaluate-evaluate_new-requires
evaluate-evaluate_new-requires g t c κs within = (
  search rules,
  (
    within.0,
    (
      within.1.0,
      (
        within.1.1.0,
        (
          within.1.1.1.0,
          (
            within.1.1.1.1.0,
            (
              within.1.1.1.1.1,
              (c.requires.stack, (rw c.look_up.ensures.entries c.requires.cache, (rw c.look_up.ensures.asked_before c.requires.entries, (c.requires.input, c.in_ok-number.ensures.number)))),
            ),
          ),
        ),
      ),
    ),
  ),
)

pub evaluate_new-loop-run-init : goal.evaluate_new-loop-run-init
evaluate_new-loop-run-init g t c =
    let m = g.D.Delegate.meaning in
    let first = c.args.cx.now in
    let es = c.args.search.now.stack.items in
    let w = m.world first in
    let x = m.goal_of first c.args.input in
    let steps = steps_of m first es in
    record {
      keeps = Keeps-refl m first;
      cache = c.requires.cache;
      entries = c.requires.entries;
      goals = λ x n h. h;
      results = λ p x h. h;
      asked_before = λ p x h. h;
      range = in_range_none c.args.cache.now.asked.items c.new-dependencies.result.nested_goals c.new-dependencies.ensures.unasked.0 c.new-dependencies.ensures.unasked.1;
      depth = λ off. from_zero _ _ c.new-dependencies.ensures.depth;
      stack = refl;
      span = c.new_entry-entry.ensures.span ∙ ap (λ n. covered (span_of_newest es) (one_goal n)) (sym c.new_entry-entry.ensures.number);
      place = c.len-index.ensures ∙ c.args.search.now.stack.ok.0;
      input = c.new_entry-entry.ensures.input;
      kind = c.new_entry-entry.ensures.kind;
      entry = record { known = rw c.new_entry-entry.ensures.input c.requires.input; below = rw c.new_entry-entry.ensures.heads tt; last = rw c.new_entry-entry.ensures.first tt };
      below = rw c.new-dependencies.ensures.unread tt;
      untouched = untouched_first m w (c.args.depth + 1) steps x c.new-dependencies.result.encountered_overflow (indices c.new-dependencies.result.heads.items)
          c.new-dependencies.ensures.within (ap indices c.new-dependencies.ensures.unread);
      frames = λ width h. omega arith;
      rises = none_counted _ _ refl;
      counted = λ r. absurd (not_less 0 r);
      limits = λ h. h;
      noted = λ off on. not_both {P = IsNotPlainOver m first es c.args.input (c.args.depth + 1)} c.args.search.now.limits_met off on;
      within = λ before no last cached. (cached, rw c.new_entry-entry.ensures.first tt);
      again = λ r. absurd (not_less 0 r);
    }

pub evaluate_new-loop-run-preserved : goal.evaluate_new-loop-run-preserved
evaluate_new-loop-run-preserved g t c =
    let m = g.D.Delegate.meaning in
    let inv = c.loop-run.invariant in
    let first = c.args.cx.now in
    let es = c.args.search.now.stack.items in
    let w = m.world first in
    let x = m.goal_of first c.args.input in
    let steps = steps_of m first es in
    let limit : ℕ = max g.D.Delegate.FIXPOINT_STEP_LIMIT 1 in
    let goal_is = (inv.keeps.inputs c.args.input c.requires.input).1 in
    let heads = c.in_ok-back.outcome.dependencies.heads.items in
    let less = c.take_head-read.new.heads.items in
    let ended = run_ended m first c.loop-run.cx es c.loop-run.search.stack.items inv.keeps inv.stack c.requires.stack c.loop-run.entry c.args.input c.args.step_kind c.len-index.result heads less c.run_once.new.cx c.in_ok-back.outcome.result
    inv.place c.take_head-read.ensures.rests inv.input inv.kind c.requires.input c.in_ok-back.ensures.provisional in
    let now = ended.result in
    let keeps = Keeps-trans m first c.loop-run.cx c.run_once.new.cx inv.keeps c.run_once.ensures.step.keeps in
    let input : c.in_ok-back.back.input ≡ c.args.input = ap (λ e. e.input) c.in_ok-back.ensures.entry ∙ inv.input in
    let kind : c.in_ok-back.back.step_kind ≡ c.args.step_kind = ap (λ e. e.step_kind) c.in_ok-back.ensures.entry ∙ inv.kind in
    let faithful = rw (inv.keeps.world, steps-now m first c.loop-run.cx es c.loop-run.search.stack.items inv.keeps inv.stack c.requires.stack, inv.input, goal_is) at c.in_ok-back.ensures.faithful in
    let needs : NeedsHead m w (c.args.depth + 1) steps x c.in_ok-back.outcome.dependencies.encountered_overflow (indices less)
    = (λ n b h p. elim (faithful n b h p) [
      | inl told ↦
          let last = c.is_last_run.ensures.unread (subst (λ r. IsUnread r) (sym (c.take_head-read.ensures.unread (indices-none heads told.unread)).0) tt) in
          absurd (true_not_false (sym last ∙ c.if-is_last_run.false))
      | inr y ↦ run_plain_head m w n (indices heads) (indices less) steps ended.but y
    ]) in
    record {
      keeps = keeps;
      cache = c.run_once.ensures.step.cache;
      entries = rw (inv.keeps.world, steps-now m first c.loop-run.cx es c.loop-run.search.stack.items inv.keeps inv.stack c.requires.stack) at c.in_ok-back.ensures.step.entries;
      goals = λ x n h. c.run_once.ensures.step.goals x n (inv.goals x n h);
      results = λ p x h. c.run_once.ensures.step.results p x (inv.results p x h);
      asked_before = λ p x h. c.run_once.ensures.step.asked_before p x (inv.asked_before p x h);
      range = c.in_ok-back.ensures.range;
      depth = c.in_ok-back.ensures.depth;
      stack = c.in_ok-back.ensures.step.stack ∙ inv.stack;
      span = rw (c.in_ok-entry.ensures.span, c.in_ok-entry.ensures.number, c.in_ok-back.ensures.entry) inv.span;
      place = inv.place;
      input = c.in_ok-entry.ensures.input ∙ input;
      kind = c.in_ok-entry.ensures.kind ∙ kind;
      entry = next_entry m w steps c.run_once.new.cx c.in_ok-back.back c.in_ok-entry.entry c.args.input c.args.step_kind c.in_ok-back.outcome.result (indices less) c.in_ok-entry.ensures input kind (keeps.inputs c.args.input c.requires.input).0
          ended.within (rw (keeps.inputs c.args.input c.requires.input).1 now);
      below = ended.below;
      untouched = untouched_needs_head m w (c.args.depth + 1) steps x c.in_ok-back.outcome.dependencies.encountered_overflow (indices less) needs;
      frames = λ width h. one_more_run c.args.search.now.frames c.loop-run.search.frames c.run_once.new.search.frames c.loop-run._run (1 + width * question_bound limit width c.args.depth)
          (inv.frames width h) (c.run_once.ensures.step.frames width (rw (inv.keeps.world, inv.input, goal_is) h));
      rises = within_more _ _ _ inv.rises c.run_once.ensures.step.rises;
      counted = λ r. counted_later _ _ _ inv.rises c.in_ok-back.ensures.counted;
      limits = λ h. c.run_once.ensures.step.limits (inv.limits h);
      noted = λ off. either_noted c.loop-run.search.limits_met c.run_once.new.search.limits_met (inv.noted off)
          (rw (inv.keeps.world, steps-now m first c.loop-run.cx es c.loop-run.search.stack.items inv.keeps inv.stack c.requires.stack, inv.input, goal_is) at c.run_once.ensures.step.no_limit);
      within = λ before no last cached.
          let told = told_within m first c.loop-run.cx c.run_once.new.cx es c.loop-run.search.stack.items inv.keeps inv.stack c.requires.stack before c.args.input c.loop-run.entry c.in_ok-back.outcome.result inv.input c.requires.input
          c.loop-run.cache.entries.items c.run_once.new.cache.entries.items c.loop-run.search.entries.lists.items (c.run_once.new.search.entries.lists.items ++ c.in_ok-back.left ∷ []) (c.in_ok-back.ensures.within before no) last
          (inv.within before (unnoted c.loop-run.search.limits_met c.run_once.new.search.limits_met c.run_once.ensures.step.limits no) last cached) in
          ((told.0.0, entries_within_leave m w before c.run_once.new.cx c.run_once.new.search.entries.lists.items c.in_ok-back.left told.0.1), rw (c.in_ok-entry.ensures.result, c.in_ok-entry.ensures.input, input, (keeps.inputs c.args.input c.requires.input).1) told.1);
      again = λ r. needs;
    }

pub evaluate_new-run_once-requires : goal.evaluate_new-run_once-requires
evaluate_new-run_once-requires g t c κs within =
    let m = g.D.Delegate.meaning in
    let inv = c.loop-run.invariant in
    let first = c.args.cx.now in
    let es = c.args.search.now.stack.items in
    let goal_is = (inv.keeps.inputs c.args.input c.requires.input).1 in
    let stack = IsStack-now m first c.loop-run.cx es c.loop-run.search.stack.items inv.keeps inv.stack c.requires.stack in
    let entry = IsEntry-now m first c.loop-run.cx es c.loop-run.search.stack.items inv.keeps inv.stack c.requires.stack c.loop-run.entry inv.entry in (
      search rules,
      (
        within.0,
        (
          within.1.0,
          (
            within.1.1.0,
            (
              within.1.1.1.0,
              (
                within.1.1.1.1.0,
                (
                  within.1.1.1.1.1,
                  (stack, (inv.cache, (rw (inv.keeps.world, steps-now m first c.loop-run.cx es c.loop-run.search.stack.items inv.keeps inv.stack c.requires.stack) inv.entries, (entry, (rw inv.stack inv.below, (rw inv.stack inv.span, (inv.range, (inv.depth, rw (inv.keeps.world, steps-now m first c.loop-run.cx es c.loop-run.search.stack.items inv.keeps inv.stack c.requires.stack, inv.input, goal_is) inv.untouched)))))))),
                ),
              ),
            ),
          ),
        ),
      ),
    )

pub evaluate_new-conclude-requires-clause-alone : goal.evaluate_new-conclude-requires-clause-alone
evaluate_new-conclude-requires-clause-alone g t c =
    let m = g.D.Delegate.meaning in
    let inv = c.loop-run.invariant in
    let first = c.args.cx.now in
    let es = c.args.search.now.stack.items in
    let w = m.world first in
    let x = m.goal_of first c.args.input in
    let steps = steps_of m first es in
    let heads = c.in_ok-back.outcome.dependencies.heads.items in
    let less = c.take_head-read.new.heads.items in
    let ended = run_ended m first c.loop-run.cx es c.loop-run.search.stack.items inv.keeps inv.stack c.requires.stack c.loop-run.entry c.args.input c.args.step_kind c.len-index.result heads less c.run_once.new.cx c.in_ok-back.outcome.result
    inv.place c.take_head-read.ensures.rests inv.input inv.kind c.requires.input c.in_ok-back.ensures.provisional in
    let now = ended.result in
    let keeps = Keeps-trans m first c.loop-run.cx c.run_once.new.cx inv.keeps c.run_once.ensures.step.keeps in
    let input : c.into_input.result ≡ c.args.input = c.into_input.ensures ∙ ap (λ e. e.input) c.in_ok-back.ensures.entry ∙ inv.input in
    λ h. rw (keeps.world, input, (keeps.inputs c.args.input c.requires.input).1)
    (provisional_alone m w steps x c.args.step_kind Inductive (indices less) c.run_once.new.cx c.in_ok-back.outcome.result (ap indices h) now)

pub evaluate_new-conclude-requires-clause-kept : goal.evaluate_new-conclude-requires-clause-kept
evaluate_new-conclude-requires-clause-kept g t c =
    let m = g.D.Delegate.meaning in
    let inv = c.loop-run.invariant in
    let first = c.args.cx.now in
    let es = c.args.search.now.stack.items in
    let w = m.world first in
    let x = m.goal_of first c.args.input in
    let steps = steps_of m first es in
    let goal_is = (inv.keeps.inputs c.args.input c.requires.input).1 in
    let keeps = Keeps-trans m first c.loop-run.cx c.run_once.new.cx inv.keeps c.run_once.ensures.step.keeps in
    let input : c.into_input.result ≡ c.args.input = c.into_input.ensures ∙ ap (λ e. e.input) c.in_ok-back.ensures.entry ∙ inv.input in
    let heads = c.in_ok-back.outcome.dependencies.heads.items in
    let less = c.take_head-read.new.heads.items in
    let ended = run_ended m first c.loop-run.cx es c.loop-run.search.stack.items inv.keeps inv.stack c.requires.stack c.loop-run.entry c.args.input c.args.step_kind c.len-index.result heads less c.run_once.new.cx c.in_ok-back.outcome.result
    inv.place c.take_head-read.ensures.rests inv.input inv.kind c.requires.input c.in_ok-back.ensures.provisional in
    let now = ended.result in
    let faithful = rw (inv.keeps.world, steps-now m first c.loop-run.cx es c.loop-run.search.stack.items inv.keeps inv.stack c.requires.stack, inv.input, goal_is) at c.in_ok-back.ensures.faithful in
    λ h. rw (keeps.world, input, (keeps.inputs c.args.input c.requires.input).1)
    (kept_of_faithful m w c.args.depth steps x (m.answer_of c.run_once.new.cx c.in_ok-back.outcome.result) c.in_ok-back.outcome.dependencies.encountered_overflow (indices less) (ap indices h)
    (faithful_taken m w (c.args.depth + 1) steps x (m.answer_of c.run_once.new.cx c.in_ok-back.outcome.result) c.in_ok-back.outcome.dependencies.encountered_overflow (indices heads) (indices less) (λ e. ap indices (c.take_head-read.ensures.unread (indices-none heads e)).1) ended.but faithful))

pub evaluate_new-conclude-requires-clause-number : goal.evaluate_new-conclude-requires-clause-number
evaluate_new-conclude-requires-clause-number g t c =
    let inv = c.loop-run.invariant in
    let input : c.into_input.result ≡ c.args.input = c.into_input.ensures ∙ ap (λ e. e.input) c.in_ok-back.ensures.entry ∙ inv.input in
    rw input (c.run_once.ensures.step.goals c.args.input c.args.number (inv.goals c.args.input c.args.number c.requires.number))

pub evaluate_new-conclude-requires-clause-input : goal.evaluate_new-conclude-requires-clause-input
evaluate_new-conclude-requires-clause-input g t c =
    let m = g.D.Delegate.meaning in
    let inv = c.loop-run.invariant in
    let first = c.args.cx.now in
    let keeps = Keeps-trans m first c.loop-run.cx c.run_once.new.cx inv.keeps c.run_once.ensures.step.keeps in
    let input : c.into_input.result ≡ c.args.input = c.into_input.ensures ∙ ap (λ e. e.input) c.in_ok-back.ensures.entry ∙ inv.input in
    rw input (keeps.inputs c.args.input c.requires.input).0

pub evaluate_new-conclude-requires-clause-entries : goal.evaluate_new-conclude-requires-clause-entries
evaluate_new-conclude-requires-clause-entries g t c =
    let m = g.D.Delegate.meaning in
    let inv = c.loop-run.invariant in
    let first = c.args.cx.now in
    let es = c.args.search.now.stack.items in
    let keeps = Keeps-trans m first c.loop-run.cx c.run_once.new.cx inv.keeps c.run_once.ensures.step.keeps in
    let now = rw (inv.keeps.world, steps-now m first c.loop-run.cx es c.loop-run.search.stack.items inv.keeps inv.stack c.requires.stack) at c.in_ok-back.ensures.step.entries in
    rw (keeps.world, steps-now m first c.run_once.new.cx es c.run_once.new.search.stack.items keeps (c.in_ok-back.ensures.step.stack ∙ inv.stack) c.requires.stack) now

pub evaluate_new-conclude-requires-clause-left : goal.evaluate_new-conclude-requires-clause-left
evaluate_new-conclude-requires-clause-left g t c =
    let m = g.D.Delegate.meaning in
    let inv = c.loop-run.invariant in
    let first = c.args.cx.now in
    let es = c.args.search.now.stack.items in
    let goal_is = (inv.keeps.inputs c.args.input c.requires.input).1 in
    let keeps = Keeps-trans m first c.loop-run.cx c.run_once.new.cx inv.keeps c.run_once.ensures.step.keeps in
    let input : c.into_input.result ≡ c.args.input = c.into_input.ensures ∙ ap (λ e. e.input) c.in_ok-back.ensures.entry ∙ inv.input in
    let now = rw (inv.keeps.world, steps-now m first c.loop-run.cx es c.loop-run.search.stack.items inv.keeps inv.stack c.requires.stack, inv.input, inv.kind, goal_is) at c.in_ok-back.ensures.left in
    rw (keeps.world, steps-now m first c.run_once.new.cx es c.run_once.new.search.stack.items keeps (c.in_ok-back.ensures.step.stack ∙ inv.stack) c.requires.stack, input, (keeps.inputs c.args.input c.requires.input).1) now

pub evaluate_new-conclude-requires-clause-result : goal.evaluate_new-conclude-requires-clause-result
evaluate_new-conclude-requires-clause-result g t c =
    let m = g.D.Delegate.meaning in
    let inv = c.loop-run.invariant in
    let first = c.args.cx.now in
    let es = c.args.search.now.stack.items in
    let heads = c.in_ok-back.outcome.dependencies.heads.items in
    let less = c.take_head-read.new.heads.items in
    let ended = run_ended m first c.loop-run.cx es c.loop-run.search.stack.items inv.keeps inv.stack c.requires.stack c.loop-run.entry c.args.input c.args.step_kind c.len-index.result heads less c.run_once.new.cx c.in_ok-back.outcome.result
    inv.place c.take_head-read.ensures.rests inv.input inv.kind c.requires.input c.in_ok-back.ensures.provisional in
    let keeps = Keeps-trans m first c.loop-run.cx c.run_once.new.cx inv.keeps c.run_once.ensures.step.keeps in
    let input : c.into_input.result ≡ c.args.input = c.into_input.ensures ∙ ap (λ e. e.input) c.in_ok-back.ensures.entry ∙ inv.input in
    rw (keeps.world, steps-now m first c.run_once.new.cx es c.run_once.new.search.stack.items keeps (c.in_ok-back.ensures.step.stack ∙ inv.stack) c.requires.stack, input, (keeps.inputs c.args.input c.requires.input).1) ended.result

pub evaluate_new-conclude-requires-clause-below : goal.evaluate_new-conclude-requires-clause-below
evaluate_new-conclude-requires-clause-below g t c =
    let m = g.D.Delegate.meaning in
    let inv = c.loop-run.invariant in
    let first = c.args.cx.now in
    let es = c.args.search.now.stack.items in
    let heads = c.in_ok-back.outcome.dependencies.heads.items in
    let less = c.take_head-read.new.heads.items in
    let ended = run_ended m first c.loop-run.cx es c.loop-run.search.stack.items inv.keeps inv.stack c.requires.stack c.loop-run.entry c.args.input c.args.step_kind c.len-index.result heads less c.run_once.new.cx c.in_ok-back.outcome.result
    inv.place c.take_head-read.ensures.rests inv.input inv.kind c.requires.input c.in_ok-back.ensures.provisional in
    rw (c.in_ok-back.ensures.step.stack ∙ inv.stack) ended.below

pub evaluate_new-conclude-requires-clause-faithful : goal.evaluate_new-conclude-requires-clause-faithful
evaluate_new-conclude-requires-clause-faithful g t c =
    let m = g.D.Delegate.meaning in
    let inv = c.loop-run.invariant in
    let first = c.args.cx.now in
    let es = c.args.search.now.stack.items in
    let w = m.world first in
    let x = m.goal_of first c.args.input in
    let steps = steps_of m first es in
    let goal_is = (inv.keeps.inputs c.args.input c.requires.input).1 in
    let heads = c.in_ok-back.outcome.dependencies.heads.items in
    let less = c.take_head-read.new.heads.items in
    let ended = run_ended m first c.loop-run.cx es c.loop-run.search.stack.items inv.keeps inv.stack c.requires.stack c.loop-run.entry c.args.input c.args.step_kind c.len-index.result heads less c.run_once.new.cx c.in_ok-back.outcome.result
    inv.place c.take_head-read.ensures.rests inv.input inv.kind c.requires.input c.in_ok-back.ensures.provisional in
    let keeps = Keeps-trans m first c.loop-run.cx c.run_once.new.cx inv.keeps c.run_once.ensures.step.keeps in
    let input : c.into_input.result ≡ c.args.input = c.into_input.ensures ∙ ap (λ e. e.input) c.in_ok-back.ensures.entry ∙ inv.input in
    let faithful = rw (inv.keeps.world, steps-now m first c.loop-run.cx es c.loop-run.search.stack.items inv.keeps inv.stack c.requires.stack, inv.input, goal_is) at c.in_ok-back.ensures.faithful in
    let faithful_less = faithful_taken m w (c.args.depth + 1) steps x (m.answer_of c.run_once.new.cx c.in_ok-back.outcome.result) c.in_ok-back.outcome.dependencies.encountered_overflow (indices heads) (indices less) (λ e. ap indices (c.take_head-read.ensures.unread (indices-none heads e)).1) ended.but faithful in
    rw (keeps.world, steps-now m first c.run_once.new.cx es c.run_once.new.search.stack.items keeps (c.in_ok-back.ensures.step.stack ∙ inv.stack) c.requires.stack, input, (keeps.inputs c.args.input c.requires.input).1) faithful_less

pub evaluate_new-conclude-requires-2-clause-entries : goal.evaluate_new-conclude-requires-2-clause-entries
evaluate_new-conclude-requires-2-clause-entries g t c =
    let m = g.D.Delegate.meaning in
    let inv = c.loop-run.invariant in
    let first = c.args.cx.now in
    let es = c.args.search.now.stack.items in
    let keeps = Keeps-trans m first c.loop-run.cx c.fixpoint_overflow_result.new.cx inv.keeps c.fixpoint_overflow_result.ensures.keeps in
    rw (keeps.world, steps-now m first c.fixpoint_overflow_result.new.cx es c.loop-run.search.stack.items keeps inv.stack c.requires.stack)
    (entries_same m (m.world first) c.loop-run.cx c.fixpoint_overflow_result.new.cx c.loop-run.cache.asked.items c.loop-run.cache.asked.items (steps_of m first es) c.loop-run.search.entries.lists.items c.loop-run.search.entries.lists.items c.fixpoint_overflow_result.ensures.keeps refl refl inv.entries)

pub evaluate_new-conclude-requires-2-clause-left : goal.evaluate_new-conclude-requires-2-clause-left
evaluate_new-conclude-requires-2-clause-left g t c place e at = absurd (none-some e (rw c.new.ensures.items at at))

pub evaluate_new-conclude-requires-2-clause-result : goal.evaluate_new-conclude-requires-2-clause-result
evaluate_new-conclude-requires-2-clause-result g t c =
    let m = g.D.Delegate.meaning in
    let law = g.met.D.Delegate.lawful in
    let inv = c.loop-run.invariant in
    let first = c.args.cx.now in
    let es = c.args.search.now.stack.items in
    let w = m.world first in
    let x = m.goal_of first c.args.input in
    let goal_is = (inv.keeps.inputs c.args.input c.requires.input).1 in
    let keeps = Keeps-trans m first c.loop-run.cx c.fixpoint_overflow_result.new.cx inv.keeps c.fixpoint_overflow_result.ensures.keeps in
    let is : m.answer_of c.fixpoint_overflow_result.new.cx c.in_ok-answer.answer ≡ m.fixpoint_overflow w x = rw (inv.keeps.world, inv.input, goal_is) at c.in_ok-answer.ensures.is.1 in
    rw (keeps.world, steps-now m first c.fixpoint_overflow_result.new.cx es c.loop-run.search.stack.items keeps inv.stack c.requires.stack, c.into_input-2.ensures ∙ inv.input, (keeps.inputs c.args.input c.requires.input).1)
    (overflow_stands m w (steps_of m first es) (x, c.args.step_kind) (indices c.loop-run.dependencies.heads.items) c.fixpoint_overflow_result.new.cx c.in_ok-answer.answer (m.fixpoint_overflow w x) c.in_ok-answer.ensures.is.0 is (law.fixpoint_overflow w x) (law.fixpoint_overflow_fair w x) (inr (inl refl)))

pub evaluate_new-conclude-requires-2-clause-below : goal.evaluate_new-conclude-requires-2-clause-below
evaluate_new-conclude-requires-2-clause-below g t c =
    rw c.loop-run.invariant.stack c.loop-run.invariant.below

pub evaluate_new-conclude-requires-2-clause-faithful : goal.evaluate_new-conclude-requires-2-clause-faithful
evaluate_new-conclude-requires-2-clause-faithful g t c =
    let ran : 0 < c.loop-run._run = omega arith in
    let m = g.D.Delegate.meaning in
    let inv = c.loop-run.invariant in
    let first = c.args.cx.now in
    let es = c.args.search.now.stack.items in
    let w = m.world first in
    let x = m.goal_of first c.args.input in
    let steps = steps_of m first es in
    let keeps = Keeps-trans m first c.loop-run.cx c.fixpoint_overflow_result.new.cx inv.keeps c.fixpoint_overflow_result.ensures.keeps in
    let faithful = faithful_needs_head m w (c.args.depth + 1) steps x (m.answer_of c.fixpoint_overflow_result.new.cx c.in_ok-answer.answer) c.loop-run.dependencies.encountered_overflow (indices c.loop-run.dependencies.heads.items) (inv.again ran) in
    rw (keeps.world, steps-now m first c.fixpoint_overflow_result.new.cx es c.loop-run.search.stack.items keeps inv.stack c.requires.stack, c.into_input-2.ensures ∙ inv.input, (keeps.inputs c.args.input c.requires.input).1) faithful

pub evaluate_new-conclude-requires-clause-nested : goal.evaluate_new-conclude-requires-clause-nested
evaluate_new-conclude-requires-clause-nested g t c =
    c.in_ok-back.ensures.range

pub evaluate_new-returns-then-is_last_run : goal.evaluate_new-returns-then-is_last_run
evaluate_new-returns-then-is_last_run g t c =
    let counted : c.loop-run._run + 1 ≤ max g.D.Delegate.FIXPOINT_STEP_LIMIT 1 = omega arith in
    let inv = c.loop-run.invariant in
    let m = g.D.Delegate.meaning in
    let first = c.args.cx.now in
    let es = c.args.search.now.stack.items in
    let w = m.world first in
    let x = m.goal_of first c.args.input in
    let steps = steps_of m first es in
    let heads = c.in_ok-back.outcome.dependencies.heads.items in
    let less = c.take_head-read.new.heads.items in
    let ended = run_ended m first c.loop-run.cx es c.loop-run.search.stack.items inv.keeps inv.stack c.requires.stack c.loop-run.entry c.args.input c.args.step_kind c.len-index.result heads less c.run_once.new.cx c.in_ok-back.outcome.result
    inv.place c.take_head-read.ensures.rests inv.input inv.kind c.requires.input c.in_ok-back.ensures.provisional in
    let now = ended.result in
    let goal_is = (inv.keeps.inputs c.args.input c.requires.input).1 in
    let faithful = rw (inv.keeps.world, steps-now m first c.loop-run.cx es c.loop-run.search.stack.items inv.keeps inv.stack c.requires.stack, inv.input, goal_is) at c.in_ok-back.ensures.faithful in
    let keeps = Keeps-trans m first c.loop-run.cx c.run_once.new.cx inv.keeps c.run_once.ensures.step.keeps in
    let input : c.into_input.result ≡ c.args.input = c.into_input.ensures ∙ ap (λ e. e.input) c.in_ok-back.ensures.entry ∙ inv.input in
    let faithful_less = faithful_taken m w (c.args.depth + 1) steps x (m.answer_of c.run_once.new.cx c.in_ok-back.outcome.result) c.in_ok-back.outcome.dependencies.encountered_overflow (indices heads) (indices less) (λ e. ap indices (c.take_head-read.ensures.unread (indices-none heads e)).1) ended.but faithful in
    let claim = rw (keeps.world, input, (keeps.inputs c.args.input c.requires.input).1) at c.conclude.ensures.no_conflict in
    let limit : ℕ = max g.D.Delegate.FIXPOINT_STEP_LIMIT 1 in
    record {
      step = record {
        keeps = Keeps-trans g.D.Delegate.meaning c.args.cx.now c.loop-run.cx c.run_once.new.cx c.loop-run.invariant.keeps c.run_once.ensures.step.keeps;
        stack = OnOk-always c.conclude.result (c.conclude.ensures.stack ∙ c.in_ok-back.ensures.step.stack ∙ c.loop-run.invariant.stack);
        entries = rw (keeps.world, steps-now m first c.run_once.new.cx es c.run_once.new.search.stack.items keeps (c.in_ok-back.ensures.step.stack ∙ inv.stack) c.requires.stack) at c.conclude.ensures.entries;
        cache = c.conclude.ensures.cache;
        goals = λ x n h. rw c.conclude.ensures.goals (c.run_once.ensures.step.goals x n (c.loop-run.invariant.goals x n h));
        results = λ p x h. c.conclude.ensures.results p x (c.run_once.ensures.step.results p x (c.loop-run.invariant.results p x h));
        asked_before = λ p x h. c.conclude.ensures.asked_before p x (c.run_once.ensures.step.asked_before p x (c.loop-run.invariant.asked_before p x h));
        no_conflict = λ h limit l d. claim h limit l;
        exhausted = λ h. ends_not_plain m w (c.args.depth + 1) steps x (m.answer_of c.run_once.new.cx c.in_ok-back.outcome.result) c.in_ok-back.outcome.dependencies.encountered_overflow (indices less)
            (elim (c.conclude.ensures.exhausted h) [ inl over ↦ inl over | inr some ↦ inr (λ e. some (indices-none less e)) ]) faithful_less;
        protocol = λ h. absurd (c.conclude.ensures.in_order h);
        conflict = c.conclude.ensures.conflict;
        frames = λ width h.
            let more = one_more_run c.args.search.now.frames c.loop-run.search.frames c.run_once.new.search.frames c.loop-run._run (1 + width * question_bound limit width c.args.depth)
            (inv.frames width h) (c.run_once.ensures.step.frames width (rw (inv.keeps.world, inv.input, goal_is) h)) in
            rw (c.conclude.ensures.frames, frame_bound_runs limit width c.args.depth) (runs_within c.args.search.now.frames c.run_once.new.search.frames (c.loop-run._run + 1) limit (1 + width * question_bound limit width c.args.depth) counted more);
        rises = rw c.conclude.ensures.frames (within_more _ _ _ inv.rises c.run_once.ensures.step.rises);
        spent = λ h. rw c.conclude.ensures.frames (counted_later _ _ _ inv.rises c.in_ok-back.ensures.counted);
        full = λ h. absurd (c.conclude.ensures.room h);
        limits = λ h. c.conclude.ensures.limits ∙ c.run_once.ensures.step.limits (inv.limits h);
        no_limit = λ off on. either_noted c.loop-run.search.limits_met c.run_once.new.search.limits_met (inv.noted off)
            (rw (inv.keeps.world, steps-now m first c.loop-run.cx es c.loop-run.search.stack.items inv.keeps inv.stack c.requires.stack, inv.input, goal_is) at c.run_once.ensures.step.no_limit) (sym c.conclude.ensures.limits ∙ on);
      };
      evaluation = record {
        range = c.conclude.ensures.range;
        answer = answer_after m first c.run_once.new.cx es c.args.input c.conclude.result _ c.args.step_kind
            (answer_of_run m w steps (x, c.args.step_kind) (indices less) c.run_once.new.cx c.in_ok-back.outcome.result ended.within now) c.conclude.ensures.reply;
        faithful = faithful_after m first c.run_once.new.cx es c.args.input c.conclude.result _ (c.args.depth + 1)
            faithful_less c.conclude.ensures.reply;
        within = rw c.conclude.ensures.limits (within_after m first c.run_once.new.cx es c.args.input c.conclude.result _ c.args.cache.now.entries.items c.run_once.new.cache.entries.items c.conclude.new.cache.entries.items c.args.search.now.entries.lists.items (c.run_once.new.search.entries.lists.items ++ c.in_ok-back.left ∷ []) c.conclude.new.search.entries.lists.items c.into_input.result c.run_once.new.search.limits_met keeps input c.requires.input
            (λ before no last cached.
            told_within m first c.loop-run.cx c.run_once.new.cx es c.loop-run.search.stack.items inv.keeps inv.stack c.requires.stack before c.args.input c.loop-run.entry c.in_ok-back.outcome.result inv.input c.requires.input
            c.loop-run.cache.entries.items c.run_once.new.cache.entries.items c.loop-run.search.entries.lists.items (c.run_once.new.search.entries.lists.items ++ c.in_ok-back.left ∷ []) (c.in_ok-back.ensures.within before no) last
            (inv.within before (unnoted c.loop-run.search.limits_met c.run_once.new.search.limits_met c.run_once.ensures.step.limits no) last cached))
            c.conclude.ensures.within c.conclude.ensures.entries_within c.conclude.ensures.reply);
      };
      depth = depth_after c.conclude.result _ c.args.depth c.in_ok-back.ensures.depth c.conclude.ensures.reply;
      kept = λ empty.
          held_after c.conclude.result _ c.run_once.new.cache.entries.items c.conclude.new.cache.entries.items c.run_once.new.cache.asked.items c.args.input c.into_input.result c.args.number c.args.depth
          (c.into_input.ensures ∙ ap (λ e. e.input) c.in_ok-back.ensures.entry ∙ inv.input) (root_alone (length es) less (ap length empty) ended.below)
          c.in_ok-back.ensures.depth c.conclude.ensures.kept c.conclude.ensures.reply;
      counted = OnOk-always c.conclude.result (rw c.conclude.ensures.frames (counted_later _ _ _ inv.rises c.in_ok-back.ensures.counted));
    }

pub evaluate_new-returns-in_err-back : goal.evaluate_new-returns-in_err-back
evaluate_new-returns-in_err-back g t c =
    let counted : c.loop-run._run + 1 ≤ max g.D.Delegate.FIXPOINT_STEP_LIMIT 1 = omega arith in
    let inv = c.loop-run.invariant in
    let p = err_from_is_err_and c.from_residual.result c.from_residual.ensures.1 in
    let m = g.D.Delegate.meaning in
    let first = c.args.cx.now in
    let es = c.args.search.now.stack.items in
    let goal_is = (inv.keeps.inputs c.args.input c.requires.input).1 in
    let claim = rw (inv.keeps.world, steps-now m first c.loop-run.cx es c.loop-run.search.stack.items inv.keeps inv.stack c.requires.stack, inv.input, goal_is) at c.in_err-back.ensures.step.no_conflict in
    let limit : ℕ = max g.D.Delegate.FIXPOINT_STEP_LIMIT 1 in
    record {
      step = record {
        keeps = Keeps-trans g.D.Delegate.meaning c.args.cx.now c.loop-run.cx c.run_once.new.cx inv.keeps c.run_once.ensures.step.keeps;
        stack = OnOk-err _ _ _ p.1;
        entries = OnOk-err _ _ _ p.1;
        cache = c.run_once.ensures.step.cache;
        goals = λ x n h. c.run_once.ensures.step.goals x n (c.loop-run.invariant.goals x n h);
        results = λ p x h. c.run_once.ensures.step.results p x (c.loop-run.invariant.results p x h);
        asked_before = λ p x h. c.run_once.ensures.step.asked_before p x (c.loop-run.invariant.asked_before p x h);
        no_conflict = λ h. claim (err_passed _ _ _ _ p.1 p.2 h);
        exhausted = let claim = rw (inv.keeps.world, steps-now m first c.loop-run.cx es c.loop-run.search.stack.items inv.keeps inv.stack c.requires.stack, inv.input, goal_is) at c.in_err-back.ensures.step.exhausted in λ h. claim (err_passed _ _ _ _ p.1 p.2 h);
        protocol = let claim = rw (inv.keeps.world, inv.input, goal_is) at c.in_err-back.ensures.step.protocol in λ h. claim (err_passed _ _ _ _ p.1 p.2 h);
        conflict = λ h. c.in_err-back.ensures.step.conflict (err_passed _ _ _ _ p.1 p.2 h);
        frames = λ width h.
            let more = one_more_run c.args.search.now.frames c.loop-run.search.frames c.run_once.new.search.frames c.loop-run._run (1 + width * question_bound limit width c.args.depth)
            (inv.frames width h) (c.run_once.ensures.step.frames width (rw (inv.keeps.world, inv.input, goal_is) h)) in
            rw (frame_bound_runs limit width c.args.depth) (runs_within c.args.search.now.frames c.run_once.new.search.frames (c.loop-run._run + 1) limit (1 + width * question_bound limit width c.args.depth) counted more);
        rises = within_more _ _ _ inv.rises c.run_once.ensures.step.rises;
        spent = λ h. counted_later _ _ _ inv.rises (c.in_err-back.ensures.step.spent (err_passed _ _ _ _ p.1 p.2 h));
        full = λ h. c.in_err-back.ensures.step.full (err_passed _ _ _ _ p.1 p.2 h);
        limits = λ h. c.run_once.ensures.step.limits (inv.limits h);
        no_limit = λ off. either_noted c.loop-run.search.limits_met c.run_once.new.search.limits_met (inv.noted off)
            (rw (inv.keeps.world, steps-now m first c.loop-run.cx es c.loop-run.search.stack.items inv.keeps inv.stack c.requires.stack, inv.input, goal_is) at c.run_once.ensures.step.no_limit);
      };
      evaluation = record {
        range = IfOk-err _ _ _ p.1;
        answer = IfOk-err _ _ _ p.1;
        faithful = IfOk-err _ _ _ p.1;
        within = IfOk-err _ _ _ p.1;
      };
      depth = IfOk-err _ _ _ p.1;
      kept = λ empty. IfOk-err _ _ _ p.1;
      counted = OnOk-err _ _ _ p.1;
    }

pub evaluate_new-returns-in_err-entry : goal.evaluate_new-returns-in_err-entry
evaluate_new-returns-in_err-entry g t c =
    let counted : c.loop-run._run + 1 ≤ max g.D.Delegate.FIXPOINT_STEP_LIMIT 1 = omega arith in
    let inv = c.loop-run.invariant in
    let p = err_from_is_err_and c.from_residual-in_err-entry.result c.from_residual-in_err-entry.ensures.1 in
    let m = g.D.Delegate.meaning in
    let first = c.args.cx.now in
    let es = c.args.search.now.stack.items in
    let goal_is = (inv.keeps.inputs c.args.input c.requires.input).1 in
    let limit : ℕ = max g.D.Delegate.FIXPOINT_STEP_LIMIT 1 in
    let alone = memory_alone _ _ p.1 p.2 in
    record {
      step = record {
        keeps = Keeps-trans g.D.Delegate.meaning c.args.cx.now c.loop-run.cx c.run_once.new.cx inv.keeps c.run_once.ensures.step.keeps;
        stack = OnOk-err _ _ _ p.1;
        entries = OnOk-err _ _ _ p.1;
        cache = c.run_once.ensures.step.cache;
        goals = λ x n h. c.run_once.ensures.step.goals x n (inv.goals x n h);
        results = λ p x h. c.run_once.ensures.step.results p x (inv.results p x h);
        asked_before = λ p x h. c.run_once.ensures.step.asked_before p x (inv.asked_before p x h);
        no_conflict = λ h. absurd {A = IsNotPlainOver g.D.Delegate.meaning c.args.cx.now c.args.search.now.stack.items c.args.input (c.args.depth + 1)} (alone.1 h);
        exhausted = λ h. absurd {A = IsNotPlainOver g.D.Delegate.meaning c.args.cx.now c.args.search.now.stack.items c.args.input (c.args.depth + 1)} (alone.0 h);
        protocol = λ h. absurd (alone.2 h);
        conflict = λ h. absurd (alone.1 h);
        frames = λ width h.
            let more = one_more_run c.args.search.now.frames c.loop-run.search.frames c.run_once.new.search.frames c.loop-run._run (1 + width * question_bound limit width c.args.depth)
            (inv.frames width h) (c.run_once.ensures.step.frames width (rw (inv.keeps.world, inv.input, goal_is) h)) in
            rw (frame_bound_runs limit width c.args.depth) (runs_within c.args.search.now.frames c.run_once.new.search.frames (c.loop-run._run + 1) limit (1 + width * question_bound limit width c.args.depth) counted more);
        rises = within_more _ _ _ inv.rises c.run_once.ensures.step.rises;
        spent = λ h. absurd (alone.0 h);
        full = λ h. absurd (alone.3 h);
        limits = λ h. c.run_once.ensures.step.limits (inv.limits h);
        no_limit = λ off. either_noted c.loop-run.search.limits_met c.run_once.new.search.limits_met (inv.noted off)
            (rw (inv.keeps.world, steps-now m first c.loop-run.cx es c.loop-run.search.stack.items inv.keeps inv.stack c.requires.stack, inv.input, goal_is) at c.run_once.ensures.step.no_limit);
      };
      evaluation = record {
        range = IfOk-err _ _ _ p.1;
        answer = IfOk-err _ _ _ p.1;
        faithful = IfOk-err _ _ _ p.1;
        within = IfOk-err _ _ _ p.1;
      };
      depth = IfOk-err _ _ _ p.1;
      kept = λ empty. IfOk-err _ _ _ p.1;
      counted = OnOk-err _ _ _ p.1;
    }

pub evaluate_new-returns-in_err-answer : goal.evaluate_new-returns-in_err-answer
evaluate_new-returns-in_err-answer g t c =
    let ran : 0 < c.loop-run._run = omega arith in
    let counted : c.loop-run._run ≤ max g.D.Delegate.FIXPOINT_STEP_LIMIT 1 = omega arith in
    let inv = c.loop-run.invariant in
    let p = err_from_is_err_and c.from_residual-in_err-answer.result c.from_residual-in_err-answer.ensures.1 in
    let m = g.D.Delegate.meaning in
    let first = c.args.cx.now in
    let es = c.args.search.now.stack.items in
    let w = m.world first in
    let x = m.goal_of first c.args.input in
    let steps = steps_of m first es in
    let limit : ℕ = max g.D.Delegate.FIXPOINT_STEP_LIMIT 1 in
    record {
      step = record {
        keeps = Keeps-trans m first c.loop-run.cx c.fixpoint_overflow_result.new.cx inv.keeps c.fixpoint_overflow_result.ensures.keeps;
        stack = OnOk-err _ _ _ p.1;
        entries = OnOk-err _ _ _ p.1;
        cache = AreCached-later m c.loop-run.cx c.fixpoint_overflow_result.new.cx c.loop-run.cache.entries.items c.fixpoint_overflow_result.ensures.keeps inv.cache;
        goals = inv.goals;
        results = inv.results;
        asked_before = inv.asked_before;
        no_conflict = λ h. absurd {A = IsNotPlainOver m first es c.args.input (c.args.depth + 1)} (stop_refused _ _ _ p.1 p.2.1 h);
        exhausted = λ h. absurd {A = IsNotPlainOver m first es c.args.input (c.args.depth + 1)} (stop_refused _ _ _ p.1 p.2.0 h);
        protocol = λ h. absurd (stop_refused _ _ _ p.1 p.2.2 h);
        conflict = λ h. absurd (stop_refused _ _ _ p.1 p.2.1 h);
        frames = λ width h. rw (frame_bound_runs limit width c.args.depth) (runs_within c.args.search.now.frames c.loop-run.search.frames c.loop-run._run limit (1 + width * question_bound limit width c.args.depth) counted (inv.frames width h));
        rises = inv.rises;
        spent = λ h. absurd (stop_refused _ _ _ p.1 p.2.0 h);
        full = λ h. c.in_err-answer.ensures.full (full_passed _ _ _ p.1 p.2.3 h);
        limits = λ h. refl;
        no_limit = λ off on. needs_not_plain m w (c.args.depth + 1) steps x c.loop-run.dependencies.encountered_overflow (indices c.loop-run.dependencies.heads.items) (inv.again ran);
      };
      evaluation = record {
        range = IfOk-err _ _ _ p.1;
        answer = IfOk-err _ _ _ p.1;
        faithful = IfOk-err _ _ _ p.1;
        within = IfOk-err _ _ _ p.1;
      };
      depth = IfOk-err _ _ _ p.1;
      kept = λ empty. IfOk-err _ _ _ p.1;
      counted = OnOk-err _ _ _ p.1;
    }

pub evaluate_new-returns : goal.evaluate_new-returns
evaluate_new-returns g t c =
    let ran : 0 < c.loop-run._run = omega arith in
    let counted : c.loop-run._run ≤ max g.D.Delegate.FIXPOINT_STEP_LIMIT 1 = omega arith in
    let inv = c.loop-run.invariant in
    let m = g.D.Delegate.meaning in
    let law = g.met.D.Delegate.lawful in
    let first = c.args.cx.now in
    let es = c.args.search.now.stack.items in
    let w = m.world first in
    let x = m.goal_of first c.args.input in
    let steps = steps_of m first es in
    let goal_is = (inv.keeps.inputs c.args.input c.requires.input).1 in
    let is : m.answer_of c.fixpoint_overflow_result.new.cx c.in_ok-answer.answer ≡ m.fixpoint_overflow w x = rw (inv.keeps.world, inv.input, goal_is) at c.in_ok-answer.ensures.is.1 in
    let faithful = faithful_needs_head m w (c.args.depth + 1) steps x (m.answer_of c.fixpoint_overflow_result.new.cx c.in_ok-answer.answer) c.loop-run.dependencies.encountered_overflow (indices c.loop-run.dependencies.heads.items) (inv.again ran) in
    let keeps = Keeps-trans m first c.loop-run.cx c.fixpoint_overflow_result.new.cx inv.keeps c.fixpoint_overflow_result.ensures.keeps in
    let claim = rw (keeps.world, c.into_input-2.ensures ∙ inv.input, (keeps.inputs c.args.input c.requires.input).1) at c.conclude-2.ensures.no_conflict in
    let limit : ℕ = max g.D.Delegate.FIXPOINT_STEP_LIMIT 1 in
    record {
      step = record {
        keeps = Keeps-trans g.D.Delegate.meaning c.args.cx.now c.loop-run.cx c.fixpoint_overflow_result.new.cx c.loop-run.invariant.keeps c.fixpoint_overflow_result.ensures.keeps;
        stack = OnOk-always c.conclude-2.result (c.conclude-2.ensures.stack ∙ c.loop-run.invariant.stack);
        entries = rw (keeps.world, steps-now m first c.fixpoint_overflow_result.new.cx es c.loop-run.search.stack.items keeps inv.stack c.requires.stack) at c.conclude-2.ensures.entries;
        cache = c.conclude-2.ensures.cache;
        goals = λ x n h. rw c.conclude-2.ensures.goals (c.loop-run.invariant.goals x n h);
        results = λ p x h. c.conclude-2.ensures.results p x (c.loop-run.invariant.results p x h);
        asked_before = λ p x h. c.conclude-2.ensures.asked_before p x (c.loop-run.invariant.asked_before p x h);
        no_conflict = λ h limit l d. claim h limit l;
        exhausted = λ h. needs_not_plain m w (c.args.depth + 1) steps x c.loop-run.dependencies.encountered_overflow (indices c.loop-run.dependencies.heads.items) (inv.again ran);
        protocol = λ h. absurd (c.conclude-2.ensures.in_order h);
        conflict = c.conclude-2.ensures.conflict;
        frames = λ width h. rw (c.conclude-2.ensures.frames, frame_bound_runs limit width c.args.depth) (runs_within c.args.search.now.frames c.loop-run.search.frames c.loop-run._run limit (1 + width * question_bound limit width c.args.depth) counted (inv.frames width h));
        rises = rw c.conclude-2.ensures.frames inv.rises;
        spent = λ h. rw c.conclude-2.ensures.frames (inv.counted ran);
        full = λ h. absurd (c.conclude-2.ensures.room h);
        limits = λ h. c.conclude-2.ensures.limits;
        no_limit = λ off on. needs_not_plain m w (c.args.depth + 1) steps x c.loop-run.dependencies.encountered_overflow (indices c.loop-run.dependencies.heads.items) (inv.again ran);
      };
      evaluation = record {
        range = c.conclude-2.ensures.range;
        answer = answer_after m first c.fixpoint_overflow_result.new.cx es c.args.input c.conclude-2.result _ c.args.step_kind
            (overflow_answers m w steps (x, c.args.step_kind) (indices c.loop-run.dependencies.heads.items) c.fixpoint_overflow_result.new.cx c.in_ok-answer.answer (m.fixpoint_overflow w x)
            (subst (λ n. AreBelow n (indices c.loop-run.dependencies.heads.items)) (sym (length-steps_of m first es)) inv.below) c.in_ok-answer.ensures.is.0 is (law.fixpoint_overflow w x) (law.fixpoint_overflow_fair w x) (inr (inl refl))) c.conclude-2.ensures.reply;
        faithful = faithful_after m first c.fixpoint_overflow_result.new.cx es c.args.input c.conclude-2.result _ (c.args.depth + 1)
            faithful c.conclude-2.ensures.reply;
        within = IfOk-weaker c.conclude-2.result _ _ (λ o s before no. absurd (true_not_false (sym c.conclude-2.ensures.limits ∙ no))) c.conclude-2.ensures.reply;
      };
      depth = depth_after c.conclude-2.result _ c.args.depth c.loop-run.invariant.depth c.conclude-2.ensures.reply;
      kept = λ empty.
          held_after c.conclude-2.result _ c.loop-run.cache.entries.items c.conclude-2.new.cache.entries.items c.loop-run.cache.asked.items c.args.input c.into_input-2.result c.args.number c.args.depth
          (c.into_input-2.ensures ∙ inv.input) (root_alone (length es) c.loop-run.dependencies.heads.items (ap length empty) inv.below)
          inv.depth c.conclude-2.ensures.kept c.conclude-2.ensures.reply;
      counted = OnOk-always c.conclude-2.result (rw c.conclude-2.ensures.frames (inv.counted ran));
    }

pub evaluate_new-conclude-requires-2-clause-cache : goal.evaluate_new-conclude-requires-2-clause-cache
evaluate_new-conclude-requires-2-clause-cache g t c =
    let inv = c.loop-run.invariant in
    AreCached-later g.D.Delegate.meaning c.loop-run.cx c.fixpoint_overflow_result.new.cx c.loop-run.cache.entries.items c.fixpoint_overflow_result.ensures.keeps inv.cache

pub evaluate_new-conclude-requires-2-clause-alone : goal.evaluate_new-conclude-requires-2-clause-alone
evaluate_new-conclude-requires-2-clause-alone g t c =
    let m = g.D.Delegate.meaning in
    let law = g.met.D.Delegate.lawful in
    let inv = c.loop-run.invariant in
    let first = c.args.cx.now in
    let w = m.world first in
    let x = m.goal_of first c.args.input in
    let goal_is = (inv.keeps.inputs c.args.input c.requires.input).1 in
    let keeps = Keeps-trans m first c.loop-run.cx c.fixpoint_overflow_result.new.cx inv.keeps c.fixpoint_overflow_result.ensures.keeps in
    let is : m.answer_of c.fixpoint_overflow_result.new.cx c.in_ok-answer.answer ≡ m.fixpoint_overflow w x =
    rw (inv.keeps.world, inv.input, goal_is) at c.in_ok-answer.ensures.is.1 in
    λ h. rw (keeps.world, c.into_input-2.ensures ∙ inv.input, (keeps.inputs c.args.input c.requires.input).1)
    (overflow_stands m w [] (x, Inductive) [] c.fixpoint_overflow_result.new.cx c.in_ok-answer.answer (m.fixpoint_overflow w x) c.in_ok-answer.ensures.is.0 is (law.fixpoint_overflow w x) (law.fixpoint_overflow_fair w x) (inr (inl refl)))

pub evaluate_new-conclude-requires-2-clause-kept : goal.evaluate_new-conclude-requires-2-clause-kept
evaluate_new-conclude-requires-2-clause-kept g t c =
    let ran : 0 < c.loop-run._run = omega arith in
    let m = g.D.Delegate.meaning in
    let inv = c.loop-run.invariant in
    let first = c.args.cx.now in
    let es = c.args.search.now.stack.items in
    let w = m.world first in
    let x = m.goal_of first c.args.input in
    let steps = steps_of m first es in
    let keeps = Keeps-trans m first c.loop-run.cx c.fixpoint_overflow_result.new.cx inv.keeps c.fixpoint_overflow_result.ensures.keeps in
    let faithful = faithful_needs_head m w (c.args.depth + 1) steps x (m.answer_of c.fixpoint_overflow_result.new.cx c.in_ok-answer.answer) c.loop-run.dependencies.encountered_overflow (indices c.loop-run.dependencies.heads.items) (inv.again ran) in
    λ h. rw (keeps.world, c.into_input-2.ensures ∙ inv.input, (keeps.inputs c.args.input c.requires.input).1)
    (kept_of_faithful m w c.args.depth steps x (m.answer_of c.fixpoint_overflow_result.new.cx c.in_ok-answer.answer) c.loop-run.dependencies.encountered_overflow (indices c.loop-run.dependencies.heads.items) (ap indices h) faithful)

pub evaluate_new-conclude-requires-2-clause-number : goal.evaluate_new-conclude-requires-2-clause-number
evaluate_new-conclude-requires-2-clause-number g t c =
    let inv = c.loop-run.invariant in
    rw (c.into_input-2.ensures ∙ inv.input) (inv.goals c.args.input c.args.number c.requires.number)

pub evaluate_new-conclude-requires-2-clause-nested : goal.evaluate_new-conclude-requires-2-clause-nested
evaluate_new-conclude-requires-2-clause-nested g t c =
    c.loop-run.invariant.range

pub evaluate_new-conclude-requires-2-clause-input : goal.evaluate_new-conclude-requires-2-clause-input
evaluate_new-conclude-requires-2-clause-input g t c =
    let m = g.D.Delegate.meaning in
    let inv = c.loop-run.invariant in
    let keeps = Keeps-trans m c.args.cx.now c.loop-run.cx c.fixpoint_overflow_result.new.cx inv.keeps c.fixpoint_overflow_result.ensures.keeps in
    rw (c.into_input-2.ensures ∙ inv.input) (keeps.inputs c.args.input c.requires.input).0

pub evaluate_new-is_last_run-requires-clause-input : goal.evaluate_new-is_last_run-requires-clause-input
evaluate_new-is_last_run-requires-clause-input g t c =
    let m = g.D.Delegate.meaning in
    let inv = c.loop-run.invariant in
    let first = c.args.cx.now in
    let keeps = Keeps-trans m first c.loop-run.cx c.run_once.new.cx inv.keeps c.run_once.ensures.step.keeps in
    let input : c.in_ok-back.back.input ≡ c.args.input = ap (λ e. e.input) c.in_ok-back.ensures.entry ∙ inv.input in
    rw input (keeps.inputs c.args.input c.requires.input).0

pub evaluate_new-is_last_run-requires-clause-found : goal.evaluate_new-is_last_run-requires-clause-found
evaluate_new-is_last_run-requires-clause-found g t c =
    (c.in_ok-back.ensures.provisional.1 (indices c.in_ok-back.outcome.dependencies.heads.items) (λ other h. inr h)).known

pub run_once-returns-in-End-clause-step : goal.run_once-returns-in-End-clause-step
run_once-returns-in-End-clause-step g t c =
    let m = g.D.Delegate.meaning in
    let inv = c.loop-candidates.invariant in
    let first = c.args.cx.now in
    let es = c.args.search.now.stack.items in
    let w = m.world first in
    let x = m.goal_of first c.args.entry.input in
    let limit : ℕ = max g.D.Delegate.FIXPOINT_STEP_LIMIT 1 in
    let lists = c.pop.new.self.entries.lists.items in
    let size : length lists ≡ length (steps_of m first es) =
    let a = c.loop-candidates.search.listed in
    let b = length-append lists (c.in-Some.left ∷ []) in
    let d = length-append es (c.args.entry ∷ []) in
    let e = length-steps_of m first es in
    let f : length c.loop-candidates.search.entries.lists.items ≡ length (lists ++ c.in-Some.left ∷ []) = ap length c.in-Some.ensures.ended in
    let h : length c.loop-candidates.search.stack.items ≡ length (es ++ c.args.entry ∷ []) = ap length inv.stack in
    omega (arith, a, b, d, e, f, h)
    in
    record {
      keeps = inv.keeps;
      stack = (same_from_push c.pop.new.self.stack.items es c.in-Some.entry c.args.entry (sym c.in-Some.ensures.stack ∙ inv.stack)).0;
      entries = runs_leave m w c.loop-candidates.cx c.loop-candidates.cache.asked.items (steps_of m first es) (question_of m first c.args.entry) lists c.in-Some.left size (rw c.in-Some.ensures.ended at inv.entries);
      cache = inv.cache;
      goals = inv.goals;
      results = inv.results;
      asked_before = inv.asked_before;
      no_conflict = λ h. absurd {A = IsNotPlainOver m first es c.args.entry.input (c.args.depth + 1)} (ok_not_err _ _ h);
      exhausted = λ h. absurd {A = IsNotPlainOver m first es c.args.entry.input (c.args.depth + 1)} (ok_not_err _ _ h);
      protocol = λ h. absurd (ok_not_err _ _ h);
      conflict = λ h. absurd (ok_not_err _ _ h);
      frames = λ width h. rw c.pop.ensures.frames (done_within c.args.search.now.frames c.loop-candidates.search.frames (question_bound limit width c.args.depth) (answer_count m inv.running.heard) (m.number_of w x) width (inv.frames width h) inv.running.count h);
      rises = rw c.pop.ensures.frames inv.rises;
      spent = λ h. absurd (ok_not_err _ _ h);
      full = λ h. absurd (ok_not_err _ _ h);
      limits = λ h. c.pop.ensures.limits ∙ inv.limits h;
      no_limit = λ off on. inv.noted off (sym c.pop.ensures.limits ∙ on);
    }

pub run_once-returns-in_err-frame : goal.run_once-returns-in_err-frame
run_once-returns-in_err-frame g t c =
    let p = err_from_is_err_and c.from_residual.result c.from_residual.ensures.1 in
    record {
      step = record {
        keeps = c.start_run.ensures.keeps;
        stack = OnOk-err _ _ _ p.1;
        entries = OnOk-err _ _ _ p.1;
        cache = AreCached-later g.D.Delegate.meaning c.args.cx.now c.start_run.new.cx c.args.cache.now.entries.items c.start_run.ensures.keeps c.requires.cache;
        goals = λ x n h. h;
        results = λ p x h. h;
        asked_before = λ p x h. h;
        no_conflict = λ h. absurd {A = IsNotPlainOver g.D.Delegate.meaning c.args.cx.now c.args.search.now.stack.items c.args.entry.input (c.args.depth + 1)} (stop_refused _ _ _ p.1 p.2.1 h);
        exhausted = λ h. absurd {A = IsNotPlainOver g.D.Delegate.meaning c.args.cx.now c.args.search.now.stack.items c.args.entry.input (c.args.depth + 1)} (stop_refused _ _ _ p.1 p.2.0 h);
        protocol = λ h. absurd (stop_refused _ _ _ p.1 p.2.2 h);
        conflict = λ h. absurd (stop_refused _ _ _ p.1 p.2.1 h);
        frames = λ width h. one_started _ _ _ c.start_run.ensures.frames;
        rises = c.start_run.ensures.rises;
        spent = λ h. absurd (stop_refused _ _ _ p.1 p.2.0 h);
        full = λ h. c.in_err-frame.ensures.full (full_passed _ _ _ p.1 p.2.3 h);
        limits = λ h. c.start_run.ensures.limits ∙ h;
        no_limit = λ off on. not_both c.args.search.now.limits_met off (sym c.start_run.ensures.limits ∙ on);
      };
      left = IfOk-err _ _ _ p.1;
      range = IfOk-err _ _ _ p.1;
      depth = IfOk-err _ _ _ p.1;
      entry = IfOk-err _ _ _ p.1;
      provisional = IfOk-err _ _ _ p.1;
      faithful = IfOk-err _ _ _ p.1;
      counted = OnOk-err _ _ _ p.1;
      within = IfOk-err _ _ _ p.1;
    }

pub run_once-returns-in_err-request-in-Ask : goal.run_once-returns-in_err-request-in-Ask
run_once-returns-in_err-request-in-Ask g t c =
    let inv = c.loop-candidates.invariant in
    let p = err_from_is_err_and c.from_residual-in_err-request-in-Ask.result c.from_residual-in_err-request-in-Ask.ensures.1 in
    let m = g.D.Delegate.meaning in
    let first = c.args.cx.now in
    let asks = asked_in_turn c.loop-candidates.candidates.open c.take_turn.new.candidates.open c.loop-candidates.candidates.finished.items c.take_turn.new.candidates.finished.items c.loop-candidates.request c.in_ok-turn.turn c.in-Ask.input c.in-Ask.step_kind c.in-Ask.is c.in_ok-turn.ensures.turn in
    let law = g.met.D.Delegate.lawful in
    let es = c.args.search.now.stack.items in
    let w = m.world first in
    let x = m.goal_of first c.args.entry.input in
    let steps = steps_of m first es in
    let limit : ℕ = max g.D.Delegate.FIXPOINT_STEP_LIMIT 1 in
    let request = asked_now m w steps x c.args.entry.step_kind (indices c.loop-candidates.dependencies.heads.items) c.loop-candidates.cx c.loop-candidates.frame c.loop-candidates.request (Evaluate c.in-Ask.input c.in-Ask.step_kind) asks.0 inv.keeps.world inv.running in
    let fair = law.asks_fair w x (m.goal_of c.loop-candidates.cx c.in-Ask.input) c.in-Ask.step_kind inv.running.heard inv.running.fair (sym request) in
    let asked = fair.0 in
    let pushed = IsStack-push m w first es c.args.entry c.requires.stack c.requires.entry in
    let no_limit = rw (inv.keeps.world, steps-now m first c.loop-candidates.cx (es ++ c.args.entry ∷ []) c.loop-candidates.search.stack.items inv.keeps inv.stack pushed, steps_pushed m first es c.args.entry) at c.ask.ensures.step.no_limit in
    record {
      step = record {
        keeps = Keeps-trans m first c.ask.new.cx c.hear.new.cx (Keeps-trans m first c.loop-candidates.cx c.ask.new.cx c.loop-candidates.invariant.keeps c.ask.ensures.step.keeps) c.hear.ensures.keeps;
        stack = OnOk-err _ _ _ p.1;
        entries = OnOk-err _ _ _ p.1;
        cache = AreCached-later g.D.Delegate.meaning c.ask.new.cx c.hear.new.cx c.ask.new.cache.entries.items c.hear.ensures.keeps c.ask.ensures.step.cache;
        goals = λ x n h. c.ask.ensures.step.goals x n (c.loop-candidates.invariant.goals x n h);
        results = λ p x h. c.ask.ensures.step.results p x (c.loop-candidates.invariant.results p x h);
        asked_before = λ p x h. c.ask.ensures.step.asked_before p x (c.loop-candidates.invariant.asked_before p x h);
        no_conflict = λ h. absurd {A = IsNotPlainOver g.D.Delegate.meaning c.args.cx.now c.args.search.now.stack.items c.args.entry.input (c.args.depth + 1)} (stop_refused _ _ _ p.1 p.2.1 h);
        exhausted = λ h. absurd {A = IsNotPlainOver g.D.Delegate.meaning c.args.cx.now c.args.search.now.stack.items c.args.entry.input (c.args.depth + 1)} (stop_refused _ _ _ p.1 p.2.0 h);
        protocol = λ h. absurd (stop_refused _ _ _ p.1 p.2.2 h);
        conflict = λ h. absurd (stop_refused _ _ _ p.1 p.2.1 h);
        frames = λ width h. asked_within c.args.search.now.frames c.loop-candidates.search.frames c.ask.new.search.frames (question_bound limit width c.args.depth) (answer_count m inv.running.heard) (m.number_of w x) width
            (inv.frames width h) (c.ask.ensures.step.frames width (rw inv.keeps.world (within_more _ _ _ fair.1 h))) asked h;
        rises = within_more _ _ _ inv.rises c.ask.ensures.step.rises;
        spent = λ h. within_more _ _ _ inv.counted c.ask.ensures.step.rises;
        full = λ h. c.in_err-request-in-Ask.ensures.full (full_passed _ _ _ p.1 p.2.3 h);
        limits = λ h. c.ask.ensures.step.limits (inv.limits h);
        no_limit = λ off. either_noted c.loop-candidates.search.limits_met c.ask.new.search.limits_met (inv.noted off)
            (λ before now. conflict_up m w c.args.depth steps x (m.goal_of c.loop-candidates.cx c.in-Ask.input) c.args.entry.step_kind c.in-Ask.step_kind c.loop-candidates.dependencies.encountered_overflow (indices c.loop-candidates.dependencies.heads.items) inv.running.heard
            (sym request) inv.plain (no_limit before now));
      };
      left = IfOk-err _ _ _ p.1;
      range = IfOk-err _ _ _ p.1;
      depth = IfOk-err _ _ _ p.1;
      entry = IfOk-err _ _ _ p.1;
      provisional = IfOk-err _ _ _ p.1;
      faithful = IfOk-err _ _ _ p.1;
      counted = OnOk-err _ _ _ p.1;
      within = IfOk-err _ _ _ p.1;
    }

pub run_once-ask-requires : goal.run_once-ask-requires
run_once-ask-requires g t c κs within =
    let asks = asked_in_turn c.loop-candidates.candidates.open c.take_turn.new.candidates.open c.loop-candidates.candidates.finished.items c.take_turn.new.candidates.finished.items c.loop-candidates.request c.in_ok-turn.turn c.in-Ask.input c.in-Ask.step_kind c.in-Ask.is c.in_ok-turn.ensures.turn in
    let m = g.D.Delegate.meaning in
    let inv = c.loop-candidates.invariant in
    let first = c.args.cx.now in
    let es = c.args.search.now.stack.items in
    let w = m.world first in
    let pushed = IsStack-push m w first es c.args.entry c.requires.stack c.requires.entry in
    let known = rw asks.0 at inv.running.known in
    let x = m.goal_of first c.args.entry.input in
    let steps = steps_of m first es in
    let request = asked_now m w steps x c.args.entry.step_kind (indices c.loop-candidates.dependencies.heads.items) c.loop-candidates.cx c.loop-candidates.frame c.loop-candidates.request (Evaluate c.in-Ask.input c.in-Ask.step_kind) asks.0 inv.keeps.world inv.running in (
      search rules,
      (
        within.0,
        (
          within.1.0,
          (
            within.1.1.0,
            (
              within.1.1.1.0,
              (
                within.1.1.1.1.0,
                (
                  within.1.1.1.1.1,
                  (IsStack-now m first c.loop-candidates.cx (es ++ c.args.entry ∷ []) c.loop-candidates.search.stack.items inv.keeps inv.stack pushed, (inv.cache, (rw (inv.keeps.world, steps-now m first c.loop-candidates.cx (es ++ c.args.entry ∷ []) c.loop-candidates.search.stack.items inv.keeps inv.stack pushed, steps_pushed m first es c.args.entry) inv.entries, known))),
                ),
              ),
            ),
          ),
        ),
      ),
    )

pub run_once-loop-candidates-preserved-in-Ask : goal.run_once-loop-candidates-preserved-in-Ask
run_once-loop-candidates-preserved-in-Ask g t c =
    let asks = asked_in_turn c.loop-candidates.candidates.open c.take_turn.new.candidates.open c.loop-candidates.candidates.finished.items c.take_turn.new.candidates.finished.items c.loop-candidates.request c.in_ok-turn.turn c.in-Ask.input c.in-Ask.step_kind c.in-Ask.is c.in_ok-turn.ensures.turn in
    let m = g.D.Delegate.meaning in
    let law = g.met.D.Delegate.lawful in
    let inv = c.loop-candidates.invariant in
    let first = c.args.cx.now in
    let es = c.args.search.now.stack.items in
    let w = m.world first in
    let x = m.goal_of first c.args.entry.input in
    let steps = steps_of m first es in
    let limit : ℕ = max g.D.Delegate.FIXPOINT_STEP_LIMIT 1 in
    let request = asked_now m w steps x c.args.entry.step_kind (indices c.loop-candidates.dependencies.heads.items) c.loop-candidates.cx c.loop-candidates.frame c.loop-candidates.request (Evaluate c.in-Ask.input c.in-Ask.step_kind) asks.0 inv.keeps.world inv.running in
    let fair = law.asks_fair w x (m.goal_of c.loop-candidates.cx c.in-Ask.input) c.in-Ask.step_kind inv.running.heard inv.running.fair (sym request) in
    let asked = fair.0 in
    let pushed = IsStack-push m w first es c.args.entry c.requires.stack c.requires.entry in
    let keeps = Keeps-trans m first c.loop-candidates.cx c.ask.new.cx inv.keeps c.ask.ensures.step.keeps in
    let nested = c.in_ok-nested-in-Ask.nested in
    let answer = IsAnswer-then m first c.loop-candidates.cx (es ++ c.args.entry ∷ []) c.loop-candidates.search.stack.items inv.keeps inv.stack pushed
    (m.goal_of c.loop-candidates.cx c.in-Ask.input, c.in-Ask.step_kind) (indices nested.dependencies.heads.items) c.ask.new.cx nested.result c.in_ok-nested-in-Ask.ensures.evaluation.answer in
    let asked_over = rw (steps_pushed m first es c.args.entry) at answer in
    let rests = c.in_ok-request-in-Ask.ensures.rests in
    let next = running_next_counted m law w steps x c.args.entry.step_kind (indices c.loop-candidates.dependencies.heads.items) (indices nested.dependencies.heads.items) (indices c.hear.new.dependencies.heads.items)
    c.loop-candidates.cx c.ask.new.cx c.hear.new.cx c.loop-candidates.frame c.hear.new.frame c.loop-candidates.request c.in-Ask.input c.in-Ask.step_kind nested.result c.in_ok-request-in-Ask.request
    (both_kept c.loop-candidates.dependencies.heads.items nested.dependencies.heads.items c.hear.new.dependencies.heads.items rests)
    (both_below (length steps + 1) c.loop-candidates.dependencies.heads.items nested.dependencies.heads.items c.hear.new.dependencies.heads.items rests inv.running.below (below_last steps (question_of m first c.args.entry) (indices nested.dependencies.heads.items) asked_over.below))
    asks.0 keeps.world c.ask.ensures.step.keeps inv.running asked_over c.in_ok-request-in-Ask.ensures.steps in
    let faithful = rw (inv.keeps.world, steps-now m first c.loop-candidates.cx (es ++ c.args.entry ∷ []) c.loop-candidates.search.stack.items inv.keeps inv.stack pushed, steps_pushed m first es c.args.entry) at c.in_ok-nested-in-Ask.ensures.evaluation.faithful in
    let no_limit = rw (inv.keeps.world, steps-now m first c.loop-candidates.cx (es ++ c.args.entry ∷ []) c.loop-candidates.search.stack.items inv.keeps inv.stack pushed, steps_pushed m first es c.args.entry) at c.ask.ensures.step.no_limit in
    record {
      keeps = Keeps-trans m first c.ask.new.cx c.hear.new.cx keeps c.hear.ensures.keeps;
      cache = AreCached-later m c.ask.new.cx c.hear.new.cx c.ask.new.cache.entries.items c.hear.ensures.keeps c.ask.ensures.step.cache;
      entries = entries_keep m w c.ask.new.cx c.hear.new.cx c.ask.new.cache.asked.items c.ask.new.cache.asked.items (steps ++ question_of m first c.args.entry ∷ []) c.ask.new.search.entries.lists.items c.hear.ensures.keeps (λ place a at. at) (rw (inv.keeps.world, steps-now m first c.loop-candidates.cx (es ++ c.args.entry ∷ []) c.loop-candidates.search.stack.items inv.keeps inv.stack pushed, steps_pushed m first es c.args.entry) at c.in_ok-nested-in-Ask.ensures.step.entries);
      goals = λ x n h. c.ask.ensures.step.goals x n (inv.goals x n h);
      results = λ p x h. c.ask.ensures.step.results p x (inv.results p x h);
      asked_before = λ p x h. c.ask.ensures.step.asked_before p x (inv.asked_before p x h);
      range = in_range_gather c.ask.new.cache.asked.items c.loop-candidates.dependencies.nested_goals nested.dependencies.nested_goals c.hear.new.dependencies.nested_goals c.in_ok-request-in-Ask.ensures.goals c.in_ok-request-in-Ask.ensures.cached c.in_ok-request-in-Ask.ensures.span
          (in_range_later c.loop-candidates.cache.asked.items c.ask.new.cache.asked.items c.loop-candidates.dependencies.nested_goals c.ask.ensures.step.asked_before inv.range) c.in_ok-nested-in-Ask.ensures.evaluation.range;
      depth = depth_gathered c.loop-candidates.dependencies.encountered_overflow nested.dependencies.encountered_overflow c.hear.new.dependencies.encountered_overflow c.loop-candidates.dependencies.required_depth nested.dependencies.required_depth c.hear.new.dependencies.required_depth c.args.depth
          c.in_ok-request-in-Ask.ensures.overflow c.in_ok-request-in-Ask.ensures.depth inv.depth c.in_ok-nested-in-Ask.ensures.depth;
      stack = c.in_ok-nested-in-Ask.ensures.step.stack ∙ inv.stack;
      running = next.0;
      opened = rw next.1 (asks.1 ∙ inv.opened);
      listed = rw next.1 (asks.2 ∙ inv.listed);
      frames = λ width h. rw next.1 (asked_more c.args.search.now.frames c.loop-candidates.search.frames c.ask.new.search.frames (question_bound limit width c.args.depth) (answer_count m inv.running.heard)
          (inv.frames width h) (c.ask.ensures.step.frames width (rw inv.keeps.world (within_more _ _ _ fair.1 h))));
      rises = within_more _ _ _ inv.rises c.ask.ensures.step.rises;
      counted = within_more _ _ _ inv.counted c.ask.ensures.step.rises;
      limits = λ h. c.ask.ensures.step.limits (inv.limits h);
      noted = λ off. either_noted c.loop-candidates.search.limits_met c.ask.new.search.limits_met (inv.noted off)
          (λ before now. conflict_up m w c.args.depth steps x (m.goal_of c.loop-candidates.cx c.in-Ask.input) c.args.entry.step_kind c.in-Ask.step_kind c.loop-candidates.dependencies.encountered_overflow (indices c.loop-candidates.dependencies.heads.items) inv.running.heard
          (sym request) inv.plain (no_limit before now));
      within = rw next.1 (λ before no last own cached.
          let had = inv.within before (unnoted c.loop-candidates.search.limits_met c.ask.new.search.limits_met c.ask.ensures.step.limits no) last own cached in
          let stack = AreLastWithin-now m w before w first c.loop-candidates.cx (es ++ c.args.entry ∷ []) c.loop-candidates.search.stack.items inv.keeps inv.stack pushed (AreLastWithin-push m w before first es c.args.entry last own) in
          let told = c.in_ok-nested-in-Ask.ensures.evaluation.within before no (rw inv.keeps.world stack) (rw inv.keeps.world had.0) in
          let here = rw inv.keeps.world at told in (
            (
              AreCachedWithin-keeps m w before (m.world c.ask.new.cx) c.ask.new.cx c.hear.new.cx c.ask.new.cache.entries.items c.hear.ensures.keeps c.ask.ensures.step.cache here.0.0,
              entries_within_keep m w w before c.ask.new.cx c.hear.new.cx c.ask.new.cache.asked.items (steps ++ question_of m first c.args.entry ∷ []) c.ask.new.search.entries.lists.items c.hear.ensures.keeps
                  (rw (inv.keeps.world, steps-now m first c.loop-candidates.cx (es ++ c.args.entry ∷ []) c.loop-candidates.search.stack.items inv.keeps inv.stack pushed, steps_pushed m first es c.args.entry) at c.in_ok-nested-in-Ask.ensures.step.entries) here.0.1,
            ),
            hears_next m w steps x c.args.entry.step_kind (indices c.loop-candidates.dependencies.heads.items) c.loop-candidates.cx c.loop-candidates.frame c.loop-candidates.request (Evaluate c.in-Ask.input c.in-Ask.step_kind) asks.0 inv.keeps.world inv.running (IsGivenWithin m w before)
                c.in-Ask.input c.in-Ask.step_kind (m.answer_of c.ask.new.cx nested.result) refl had.1 here.1,
          ));
      plain = rw next.1 (plain_next_at m w c.args.depth steps x (m.goal_of c.loop-candidates.cx c.in-Ask.input) c.args.entry.step_kind c.in-Ask.step_kind
          c.loop-candidates.dependencies.encountered_overflow nested.dependencies.encountered_overflow c.hear.new.dependencies.encountered_overflow
          (indices c.loop-candidates.dependencies.heads.items) (indices nested.dependencies.heads.items) (indices c.hear.new.dependencies.heads.items) inv.running.heard (m.answer_of c.ask.new.cx nested.result)
          c.in_ok-request-in-Ask.ensures.overflow (λ place h. (rests place).1 (inl h)) (λ place h. (rests place).1 (inr h))
          (λ a b. ap indices (c.in_ok-request-in-Ask.ensures.unread (indices-none c.loop-candidates.dependencies.heads.items a) (indices-none nested.dependencies.heads.items b)))
          (sym request) inv.plain faithful);
    }

pub run_once-loop-candidates-smaller-in-Ask : goal.run_once-loop-candidates-smaller-in-Ask
run_once-loop-candidates-smaller-in-Ask g t c =
    let running = c.loop-candidates.invariant.running in
    let x = g.D.Delegate.meaning.goal_of c.args.cx.now c.args.entry.input in
    let kept = g.met.D.Delegate.steps_kept c.loop-candidates.cx c.ask.new.cx x running.heard c.loop-candidates.frame c.ask.ensures.step.keeps running.frame in
    less_within _ _ _ c.in_ok-request-in-Ask.ensures.falls kept

pub run_once-hear-requires-clause-due : goal.run_once-hear-requires-clause-due
run_once-hear-requires-clause-due g t c =
    let asks = asked_in_turn c.loop-candidates.candidates.open c.take_turn.new.candidates.open c.loop-candidates.candidates.finished.items c.take_turn.new.candidates.finished.items c.loop-candidates.request c.in_ok-turn.turn c.in-Ask.input c.in-Ask.step_kind c.in-Ask.is c.in_ok-turn.ensures.turn in
    let m = g.D.Delegate.meaning in
    let inv = c.loop-candidates.invariant in
    let first = c.args.cx.now in
    let es = c.args.search.now.stack.items in
    let w = m.world first in
    let x = m.goal_of first c.args.entry.input in
    let steps = steps_of m first es in
    let keeps = Keeps-trans m first c.loop-candidates.cx c.ask.new.cx inv.keeps c.ask.ensures.step.keeps in
    due_next m w steps x c.args.entry.step_kind (indices c.loop-candidates.dependencies.heads.items) c.loop-candidates.cx c.ask.new.cx c.loop-candidates.frame c.loop-candidates.request
    c.in-Ask.input c.in-Ask.step_kind c.in_ok-nested-in-Ask.nested.result asks.0 keeps.world c.ask.ensures.step.keeps inv.running

pub run_once-returns-in_err-nested-in-Ask : goal.run_once-returns-in_err-nested-in-Ask
run_once-returns-in_err-nested-in-Ask g t c =
    let inv = c.loop-candidates.invariant in
    let p = err_from_is_err_and c.from_residual-in_err-nested-in-Ask.result c.from_residual-in_err-nested-in-Ask.ensures.1 in
    let asks = asked_in_turn c.loop-candidates.candidates.open c.take_turn.new.candidates.open c.loop-candidates.candidates.finished.items c.take_turn.new.candidates.finished.items c.loop-candidates.request c.in_ok-turn.turn c.in-Ask.input c.in-Ask.step_kind c.in-Ask.is c.in_ok-turn.ensures.turn in
    let m = g.D.Delegate.meaning in
    let first = c.args.cx.now in
    let es = c.args.search.now.stack.items in
    let w = m.world first in
    let x = m.goal_of first c.args.entry.input in
    let steps = steps_of m first es in
    let request = asked_now m w steps x c.args.entry.step_kind (indices c.loop-candidates.dependencies.heads.items) c.loop-candidates.cx c.loop-candidates.frame c.loop-candidates.request (Evaluate c.in-Ask.input c.in-Ask.step_kind) asks.0 inv.keeps.world inv.running in
    let pushed = IsStack-push m w first es c.args.entry c.requires.stack c.requires.entry in
    let claim = rw (inv.keeps.world, steps-now m first c.loop-candidates.cx (es ++ c.args.entry ∷ []) c.loop-candidates.search.stack.items inv.keeps inv.stack pushed, steps_pushed m first es c.args.entry) at c.in_err-nested-in-Ask.ensures.step.no_conflict in
    let given_up = rw (inv.keeps.world, steps-now m first c.loop-candidates.cx (es ++ c.args.entry ∷ []) c.loop-candidates.search.stack.items inv.keeps inv.stack pushed, steps_pushed m first es c.args.entry) at c.in_err-nested-in-Ask.ensures.step.exhausted in
    let law = g.met.D.Delegate.lawful in
    let limit : ℕ = max g.D.Delegate.FIXPOINT_STEP_LIMIT 1 in
    let fair = law.asks_fair w x (m.goal_of c.loop-candidates.cx c.in-Ask.input) c.in-Ask.step_kind inv.running.heard inv.running.fair (sym request) in
    let asked = fair.0 in
    let no_limit = rw (inv.keeps.world, steps-now m first c.loop-candidates.cx (es ++ c.args.entry ∷ []) c.loop-candidates.search.stack.items inv.keeps inv.stack pushed, steps_pushed m first es c.args.entry) at c.ask.ensures.step.no_limit in
    record {
      step = record {
        keeps = Keeps-trans g.D.Delegate.meaning c.args.cx.now c.loop-candidates.cx c.ask.new.cx inv.keeps c.ask.ensures.step.keeps;
        stack = OnOk-err _ _ _ p.1;
        entries = OnOk-err _ _ _ p.1;
        cache = c.ask.ensures.step.cache;
        goals = λ x n h. c.ask.ensures.step.goals x n (c.loop-candidates.invariant.goals x n h);
        results = λ p x h. c.ask.ensures.step.results p x (c.loop-candidates.invariant.results p x h);
        asked_before = λ p x h. c.ask.ensures.step.asked_before p x (c.loop-candidates.invariant.asked_before p x h);
        no_conflict = λ h. conflict_up m w c.args.depth steps x (m.goal_of c.loop-candidates.cx c.in-Ask.input) c.args.entry.step_kind c.in-Ask.step_kind c.loop-candidates.dependencies.encountered_overflow (indices c.loop-candidates.dependencies.heads.items) inv.running.heard
            (sym request) inv.plain (claim (err_passed _ _ _ _ p.1 p.2 h));
        exhausted = λ h. conflict_up m w c.args.depth steps x (m.goal_of c.loop-candidates.cx c.in-Ask.input) c.args.entry.step_kind c.in-Ask.step_kind c.loop-candidates.dependencies.encountered_overflow (indices c.loop-candidates.dependencies.heads.items) inv.running.heard
            (sym request) inv.plain (given_up (err_passed _ _ _ _ p.1 p.2 h));
        protocol = let claim = rw inv.keeps.world at c.in_err-nested-in-Ask.ensures.step.protocol in λ h. below inv.running.hears (sym request) (claim (err_passed _ _ _ _ p.1 p.2 h));
        conflict = λ h. c.in_err-nested-in-Ask.ensures.step.conflict (err_passed _ _ _ _ p.1 p.2 h);
        frames = λ width h. asked_within c.args.search.now.frames c.loop-candidates.search.frames c.ask.new.search.frames (question_bound limit width c.args.depth) (answer_count m inv.running.heard) (m.number_of w x) width
            (inv.frames width h) (c.ask.ensures.step.frames width (rw inv.keeps.world (within_more _ _ _ fair.1 h))) asked h;
        rises = within_more _ _ _ inv.rises c.ask.ensures.step.rises;
        spent = λ h. within_more _ _ _ inv.counted c.ask.ensures.step.rises;
        full = λ h. c.in_err-nested-in-Ask.ensures.step.full (err_passed _ _ _ _ p.1 p.2 h);
        limits = λ h. c.ask.ensures.step.limits (inv.limits h);
        no_limit = λ off. either_noted c.loop-candidates.search.limits_met c.ask.new.search.limits_met (inv.noted off)
            (λ before now. conflict_up m w c.args.depth steps x (m.goal_of c.loop-candidates.cx c.in-Ask.input) c.args.entry.step_kind c.in-Ask.step_kind c.loop-candidates.dependencies.encountered_overflow (indices c.loop-candidates.dependencies.heads.items) inv.running.heard
            (sym request) inv.plain (no_limit before now));
      };
      left = IfOk-err _ _ _ p.1;
      range = IfOk-err _ _ _ p.1;
      depth = IfOk-err _ _ _ p.1;
      entry = IfOk-err _ _ _ p.1;
      provisional = IfOk-err _ _ _ p.1;
      faithful = IfOk-err _ _ _ p.1;
      counted = OnOk-err _ _ _ p.1;
      within = IfOk-err _ _ _ p.1;
    }

pub run_once-loop-candidates-init : goal.run_once-loop-candidates-init
run_once-loop-candidates-init g t c =
    let m = g.D.Delegate.meaning in
    let first = c.args.cx.now in
    let es = c.args.search.now.stack.items in
    let w = m.world first in
    let x = m.goal_of first c.args.entry.input in
    let steps = steps_of m first es in
    let keeps = c.start_run.ensures.keeps in
    let low = below_more (length es) (length steps + 1) (indices c.args.earlier.heads.items) (let long = length-steps_of m first es in omega (arith, long)) c.requires.below in
    let start = running_begun m steps c.args.entry.input c.args.entry.step_kind (indices c.args.earlier.heads.items) first c.start_run.new.cx c.in_ok-frame.frame c.in_ok-frame.request low c.in_ok-frame.ensures.begun in
    record {
      keeps = keeps;
      cache = AreCached-later m first c.start_run.new.cx c.args.cache.now.entries.items keeps c.requires.cache;
      entries =
          let none = c.in_ok-frame.ensures.none in
          let begun = runs_begin m w first c.args.cache.now.asked.items steps (question_of m first c.args.entry) c.args.search.now.entries.lists.items none.0 (c.args.search.now.listed ∙ sym (length-steps_of m first es)) none.2 c.requires.entries in
          entries_same m w first c.start_run.new.cx c.args.cache.now.asked.items c.args.cache.now.asked.items (steps ++ question_of m first c.args.entry ∷ []) (c.args.search.now.entries.lists.items ++ none.0 ∷ []) c.start_run.new.search.entries.lists.items keeps refl none.1 begun;
      goals = λ x n h. h;
      results = λ p x h. h;
      asked_before = λ p x h. h;
      range = c.requires.nested;
      depth = c.requires.depth;
      stack = c.in_ok-frame.ensures.stack;
      running = start.0;
      opened = rw start.1 c.new-candidates.ensures.open;
      listed = rw start.1 c.new-candidates.ensures.finished;
      frames = λ width h. rw start.1 (omega (arith, c.start_run.ensures.frames));
      rises = c.start_run.ensures.rises;
      counted = one_counted _ _ c.in_ok-frame.ensures.counted;
      limits = λ h. c.start_run.ensures.limits ∙ h;
      noted = λ off on. not_both {P = IsNotPlainOver m first es c.args.entry.input (c.args.depth + 1)} c.args.search.now.limits_met off (sym c.start_run.ensures.limits ∙ on);
      within = rw start.1 (λ before no last own cached.
          let none = c.in_ok-frame.ensures.none in
          let kept = entries_within_keep m w w before first c.start_run.new.cx c.args.cache.now.asked.items steps c.args.search.now.entries.lists.items keeps c.requires.entries cached.1 in (
            (
              AreCachedWithin-keeps m w before w first c.start_run.new.cx c.args.cache.now.entries.items keeps c.requires.cache cached.0,
              rw none.1 (entries_within_begin m w before c.start_run.new.cx c.args.search.now.entries.lists.items none.0 none.2 kept),
            ),
            also nothing refl tt,
          ));
      plain = rw start.1 (plain_first m w (c.args.depth + 1) steps x c.args.earlier.encountered_overflow (indices c.args.earlier.heads.items) c.requires.earlier);
    }

pub run_once-returns-in_err-turn : goal.run_once-returns-in_err-turn
run_once-returns-in_err-turn g t c =
    let inv = c.loop-candidates.invariant in
    let p = err_from_is_err_and c.from_residual-in_err-turn.result c.from_residual-in_err-turn.ensures.1 in
    let m = g.D.Delegate.meaning in
    let first = c.args.cx.now in
    let es = c.args.search.now.stack.items in
    let w = m.world first in
    let x = m.goal_of first c.args.entry.input in
    let steps = steps_of m first es in
    let limit : ℕ = max g.D.Delegate.FIXPOINT_STEP_LIMIT 1 in
    record {
      step = record {
        keeps = inv.keeps;
        stack = OnOk-err _ _ _ p.1;
        entries = OnOk-err _ _ _ p.1;
        cache = inv.cache;
        goals = inv.goals;
        results = inv.results;
        asked_before = inv.asked_before;
        no_conflict = λ h. absurd {A = IsNotPlainOver g.D.Delegate.meaning c.args.cx.now c.args.search.now.stack.items c.args.entry.input (c.args.depth + 1)} (c.in_err-turn.ensures.no_conflict (fault_passed _ _ _ _ p.1 p.2 h));
        exhausted = λ h. absurd {A = IsNotPlainOver g.D.Delegate.meaning c.args.cx.now c.args.search.now.stack.items c.args.entry.input (c.args.depth + 1)} (fault_goes_on _ _ _ p.1 p.2 h);
        protocol = λ h.
            let told = c.in_err-turn.ensures.protocol (fault_passed _ _ _ _ p.1 p.2 h) in
            misstep_now m w steps x c.args.entry.step_kind (indices c.loop-candidates.dependencies.heads.items) c.loop-candidates.cx c.loop-candidates.frame c.loop-candidates.request c.loop-candidates.request refl inv.keeps.world inv.running
            (λ o. told (in_order_in_turn m w x inv.running.heard c.loop-candidates.cx c.loop-candidates.candidates.open c.loop-candidates.candidates.open c.loop-candidates.candidates.finished.items c.loop-candidates.candidates.finished.items inv.opened inv.listed c.loop-candidates.request o));
        conflict = λ h. absurd {A = HasConflict g.D.Delegate.meaning c.loop-candidates.cx (known_results c.loop-candidates.cache.entries.items)} (c.in_err-turn.ensures.no_conflict (fault_passed _ _ _ _ p.1 p.2 h));
        frames = λ width h. done_within c.args.search.now.frames c.loop-candidates.search.frames (question_bound limit width c.args.depth) (answer_count m inv.running.heard) (m.number_of w x) width (inv.frames width h) inv.running.count h;
        rises = inv.rises;
        spent = λ h. inv.counted;
        full = λ h. absurd (c.in_err-turn.ensures.room (fault_passed _ _ _ _ p.1 p.2 h));
        limits = inv.limits;
        no_limit = c.loop-candidates.invariant.noted;
      };
      left = IfOk-err _ _ _ p.1;
      range = IfOk-err _ _ _ p.1;
      depth = IfOk-err _ _ _ p.1;
      entry = IfOk-err _ _ _ p.1;
      provisional = IfOk-err _ _ _ p.1;
      faithful = IfOk-err _ _ _ p.1;
      counted = OnOk-err _ _ _ p.1;
      within = IfOk-err _ _ _ p.1;
    }

pub run_once-returns-in_err-request-in-Tell : goal.run_once-returns-in_err-request-in-Tell
run_once-returns-in_err-request-in-Tell g t c =
    let inv = c.loop-candidates.invariant in
    let p = err_from_is_err_and c.from_residual-in_err-request-in-Tell.result c.from_residual-in_err-request-in-Tell.ensures.1 in
    let m = g.D.Delegate.meaning in
    let first = c.args.cx.now in
    let es = c.args.search.now.stack.items in
    let x = m.goal_of first c.args.entry.input in
    let limit : ℕ = max g.D.Delegate.FIXPOINT_STEP_LIMIT 1 in
    record {
      step = record {
        keeps = Keeps-trans m first c.loop-candidates.cx c.step.new.cx inv.keeps c.step.ensures.keeps;
        stack = OnOk-err _ _ _ p.1;
        entries = OnOk-err _ _ _ p.1;
        cache = AreCached-later m c.loop-candidates.cx c.step.new.cx c.loop-candidates.cache.entries.items c.step.ensures.keeps inv.cache;
        goals = inv.goals;
        results = inv.results;
        asked_before = inv.asked_before;
        no_conflict = λ h. absurd {A = IsNotPlainOver m first es c.args.entry.input (c.args.depth + 1)} (stop_refused _ _ _ p.1 p.2.1 h);
        exhausted = λ h. absurd {A = IsNotPlainOver m first es c.args.entry.input (c.args.depth + 1)} (stop_refused _ _ _ p.1 p.2.0 h);
        protocol = λ h. absurd (stop_refused _ _ _ p.1 p.2.2 h);
        conflict = λ h. absurd (stop_refused _ _ _ p.1 p.2.1 h);
        frames = λ width h. done_within c.args.search.now.frames c.loop-candidates.search.frames (question_bound limit width c.args.depth) (answer_count m inv.running.heard) (m.number_of (m.world first) x) width (inv.frames width h) inv.running.count h;
        rises = inv.rises;
        spent = λ h. inv.counted;
        full = λ h. c.in_err-request-in-Tell.ensures.full (full_passed _ _ _ p.1 p.2.3 h);
        limits = inv.limits;
        no_limit = inv.noted;
      };
      left = IfOk-err _ _ _ p.1;
      range = IfOk-err _ _ _ p.1;
      depth = IfOk-err _ _ _ p.1;
      entry = IfOk-err _ _ _ p.1;
      provisional = IfOk-err _ _ _ p.1;
      faithful = IfOk-err _ _ _ p.1;
      counted = OnOk-err _ _ _ p.1;
      within = IfOk-err _ _ _ p.1;
    }

pub run_once-step-requires-clause-due : goal.run_once-step-requires-clause-due
run_once-step-requires-clause-due g t c =
    let m = g.D.Delegate.meaning in
    let inv = c.loop-candidates.invariant in
    let first = c.args.cx.now in
    let es = c.args.search.now.stack.items in
    let w = m.world first in
    let x = m.goal_of first c.args.entry.input in
    let steps = steps_of m first es in
    let turn = c.in_ok-turn.ensures.turn in
    let request : request_of m c.loop-candidates.cx c.loop-candidates.request ≡ m.asks w x inv.running.heard = inv.running.request in
    let told = told_in_turn m w x inv.running.heard c.loop-candidates.cx c.loop-candidates.candidates.open c.take_turn.new.candidates.open c.loop-candidates.candidates.finished.items c.take_turn.new.candidates.finished.items inv.opened inv.listed c.loop-candidates.request c.in_ok-turn.turn c.in-Tell.reply c.in-Tell.is turn request in
    due_other m w steps x c.args.entry.step_kind (indices c.loop-candidates.dependencies.heads.items) c.loop-candidates.cx c.loop-candidates.frame c.loop-candidates.request c.loop-candidates.request refl inv.keeps.world inv.running c.in-Tell.reply told.due

pub run_once-step-requires-clause-reply : goal.run_once-step-requires-clause-reply
run_once-step-requires-clause-reply g t c =
    let m = g.D.Delegate.meaning in
    let inv = c.loop-candidates.invariant in
    let first = c.args.cx.now in
    let es = c.args.search.now.stack.items in
    let w = m.world first in
    let x = m.goal_of first c.args.entry.input in
    let steps = steps_of m first es in
    let turn = c.in_ok-turn.ensures.turn in
    let request : request_of m c.loop-candidates.cx c.loop-candidates.request ≡ m.asks w x inv.running.heard = inv.running.request in
    let told = told_in_turn m w x inv.running.heard c.loop-candidates.cx c.loop-candidates.candidates.open c.take_turn.new.candidates.open c.loop-candidates.candidates.finished.items c.take_turn.new.candidates.finished.items inv.opened inv.listed c.loop-candidates.request c.in_ok-turn.turn c.in-Tell.reply c.in-Tell.is turn request in
    told.given

pub run_once-loop-candidates-preserved : goal.run_once-loop-candidates-preserved
run_once-loop-candidates-preserved g t c =
    let m = g.D.Delegate.meaning in
    let inv = c.loop-candidates.invariant in
    let first = c.args.cx.now in
    let es = c.args.search.now.stack.items in
    let w = m.world first in
    let x = m.goal_of first c.args.entry.input in
    let steps = steps_of m first es in
    let turn = c.in_ok-turn.ensures.turn in
    let request : request_of m c.loop-candidates.cx c.loop-candidates.request ≡ m.asks w x inv.running.heard = inv.running.request in
    let told = told_in_turn m w x inv.running.heard c.loop-candidates.cx c.loop-candidates.candidates.open c.take_turn.new.candidates.open c.loop-candidates.candidates.finished.items c.take_turn.new.candidates.finished.items inv.opened inv.listed c.loop-candidates.request c.in_ok-turn.turn c.in-Tell.reply c.in-Tell.is turn request in
    let next = running_other m w steps x c.args.entry.step_kind (indices c.loop-candidates.dependencies.heads.items) c.loop-candidates.cx c.loop-candidates.frame c.loop-candidates.request c.loop-candidates.request refl inv.keeps.world inv.running c.step.new.cx c.step.new.frame c.in-Tell.reply c.in_ok-request-in-Tell.request told.due told.by told.quiet told.counts told.shows c.in_ok-request-in-Tell.ensures.steps in
    record {
      keeps = Keeps-trans m first c.loop-candidates.cx c.step.new.cx inv.keeps c.step.ensures.keeps;
      cache = AreCached-later m c.loop-candidates.cx c.step.new.cx c.loop-candidates.cache.entries.items c.step.ensures.keeps inv.cache;
      entries = entries_keep m w c.loop-candidates.cx c.step.new.cx c.loop-candidates.cache.asked.items c.loop-candidates.cache.asked.items (steps ++ question_of m first c.args.entry ∷ []) c.loop-candidates.search.entries.lists.items c.step.ensures.keeps (λ place a at. at) inv.entries;
      goals = inv.goals;
      results = inv.results;
      asked_before = inv.asked_before;
      range = inv.range;
      depth = inv.depth;
      stack = inv.stack;
      running = next.0;
      opened = rw next.1 told.open_after;
      listed = rw next.1 told.done_after;
      frames = λ width h. rw (next.1, told.counts) (inv.frames width h);
      rises = inv.rises;
      counted = inv.counted;
      limits = inv.limits;
      noted = inv.noted;
      within = rw next.1 (λ before no last own cached.
          let had = inv.within before no last own cached in (
            (
              AreCachedWithin-keeps m w before (m.world c.loop-candidates.cx) c.loop-candidates.cx c.step.new.cx c.loop-candidates.cache.entries.items c.step.ensures.keeps inv.cache had.0.0,
              entries_within_keep m w w before c.loop-candidates.cx c.step.new.cx c.loop-candidates.cache.asked.items (steps ++ question_of m first c.args.entry ∷ []) c.loop-candidates.search.entries.lists.items c.step.ensures.keeps inv.entries had.0.1,
            ),
            hears_other m w steps x c.args.entry.step_kind (indices c.loop-candidates.dependencies.heads.items) c.loop-candidates.cx c.loop-candidates.frame c.loop-candidates.request c.loop-candidates.request refl inv.keeps.world inv.running (IsGivenWithin m w before) c.in-Tell.reply had.1 told.due told.quiet,
          ));
      plain = rw next.1 (plain_in_turn m w x inv.running.heard c.loop-candidates.cx c.loop-candidates.candidates.open c.take_turn.new.candidates.open c.loop-candidates.candidates.finished.items c.take_turn.new.candidates.finished.items inv.opened inv.listed
          (c.args.depth + 1) steps c.loop-candidates.dependencies.encountered_overflow (indices c.loop-candidates.dependencies.heads.items) inv.plain c.loop-candidates.request c.in_ok-turn.turn c.in-Tell.reply c.in-Tell.is turn request);
    }

pub run_once-returns-in-End-clause-provisional : goal.run_once-returns-in-End-clause-provisional
run_once-returns-in-End-clause-provisional g t c =
    let ends = ended_in_turn c.loop-candidates.candidates.open c.take_turn.new.candidates.open c.loop-candidates.candidates.finished.items c.take_turn.new.candidates.finished.items c.loop-candidates.request c.in_ok-turn.turn c.in-End.answer c.in-End.is c.in_ok-turn.ensures.turn in
    let m = g.D.Delegate.meaning in
    let law = g.met.D.Delegate.lawful in
    let inv = c.loop-candidates.invariant in
    let first = c.args.cx.now in
    let es = c.args.search.now.stack.items in
    let w = m.world first in
    let steps = steps_of m first es in
    let heads = indices c.loop-candidates.dependencies.heads.items in
    rw c.count.ensures.same (
      subst (λ n. AreBelow (n + 1) heads) (length-steps_of m first es) inv.running.below,
      λ less but. running_done m law w steps (m.goal_of first c.args.entry.input) c.args.entry.step_kind heads less c.loop-candidates.cx c.loop-candidates.frame c.loop-candidates.request c.in-End.answer ends.0
          (subst (λ n. AreHeadsBut n less heads) (sym (length-steps_of m first es)) but) inv.running (sym inv.opened ∙ ends.1),
    )

pub run_once-returns-in-End-clause-faithful : goal.run_once-returns-in-End-clause-faithful
run_once-returns-in-End-clause-faithful g t c =
    let ends = ended_in_turn c.loop-candidates.candidates.open c.take_turn.new.candidates.open c.loop-candidates.candidates.finished.items c.take_turn.new.candidates.finished.items c.loop-candidates.request c.in_ok-turn.turn c.in-End.answer c.in-End.is c.in_ok-turn.ensures.turn in
    let m = g.D.Delegate.meaning in
    let inv = c.loop-candidates.invariant in
    let first = c.args.cx.now in
    let es = c.args.search.now.stack.items in
    let w = m.world first in
    let x = m.goal_of first c.args.entry.input in
    let steps = steps_of m first es in
    let request = asked_now m w steps x c.args.entry.step_kind (indices c.loop-candidates.dependencies.heads.items) c.loop-candidates.cx c.loop-candidates.frame c.loop-candidates.request (Done c.in-End.answer) ends.0 inv.keeps.world inv.running in
    rw c.count.ensures.same
    (plain_done m w (c.args.depth + 1) steps x c.loop-candidates.dependencies.encountered_overflow (indices c.loop-candidates.dependencies.heads.items) inv.running.heard (m.answer_of c.loop-candidates.cx c.in-End.answer)
    (sym request) inv.plain)

pub run_once-returns-in-End-clause-within : goal.run_once-returns-in-End-clause-within
run_once-returns-in-End-clause-within g t c =
    let ends = ended_in_turn c.loop-candidates.candidates.open c.take_turn.new.candidates.open c.loop-candidates.candidates.finished.items c.take_turn.new.candidates.finished.items c.loop-candidates.request c.in_ok-turn.turn c.in-End.answer c.in-End.is c.in_ok-turn.ensures.turn in
    let m = g.D.Delegate.meaning in
    let inv = c.loop-candidates.invariant in
    let first = c.args.cx.now in
    let w = m.world first in
    let x = m.goal_of first c.args.entry.input in
    let steps = steps_of m first c.args.search.now.stack.items in
    let request = asked_now m w steps x c.args.entry.step_kind (indices c.loop-candidates.dependencies.heads.items) c.loop-candidates.cx c.loop-candidates.frame c.loop-candidates.request (Done c.in-End.answer) ends.0 inv.keeps.world inv.running in
    λ before no last own cached.
    let had = inv.within before (sym c.pop.ensures.limits ∙ no) last own cached in
    ((had.0.0, rw c.in-Some.ensures.ended at had.0.1), record { how = inr (inv.running.heard, had.1, sym request, sym inv.opened ∙ ends.1) })

pub run_once-returns-in-End-clause-left : goal.run_once-returns-in-End-clause-left
run_once-returns-in-End-clause-left g t c =
    let m = g.D.Delegate.meaning in
    let inv = c.loop-candidates.invariant in
    let first = c.args.cx.now in
    let es = c.args.search.now.stack.items in
    let lists = c.pop.new.self.entries.lists.items in
    let size : length lists ≡ length (steps_of m first es) =
    let a = c.loop-candidates.search.listed in
    let b = length-append lists (c.in-Some.left ∷ []) in
    let d = length-append es (c.args.entry ∷ []) in
    let e = length-steps_of m first es in
    let f : length c.loop-candidates.search.entries.lists.items ≡ length (lists ++ c.in-Some.left ∷ []) = ap length c.in-Some.ensures.ended in
    let h : length c.loop-candidates.search.stack.items ≡ length (es ++ c.args.entry ∷ []) = ap length inv.stack in
    omega (arith, a, b, d, e, f, h)
    in
    runs_left m (m.world first) c.loop-candidates.cx c.loop-candidates.cache.asked.items (steps_of m first es) (question_of m first c.args.entry) lists c.in-Some.left size (rw c.in-Some.ensures.ended at inv.entries)

pub run_once-returns-in-End-clause-range : goal.run_once-returns-in-End-clause-range
run_once-returns-in-End-clause-range g t c =
    c.loop-candidates.invariant.range

pub run_once-returns-in-End-clause-depth : goal.run_once-returns-in-End-clause-depth
run_once-returns-in-End-clause-depth g t c =
    c.loop-candidates.invariant.depth

pub run_once-returns-in-End-clause-counted : goal.run_once-returns-in-End-clause-counted
run_once-returns-in-End-clause-counted g t c =
    rw c.pop.ensures.frames c.loop-candidates.invariant.counted
