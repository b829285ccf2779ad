use Rattle.std.proofs.Common.{rules, arith, ◌≡◌, ◌-◌, ◌⊎◌, inl, inr, true, false, not, Ok, [], ◌∷◌, ◌++◌, map, length, take, drop, Some, None, Err, refl, sym, subst, ap, ◌∙◌}
use Rattle.std.proofs.lemmas.List.{map-append}
use Rattle.type_terms.specs.Promised.Handles.{Keeps}
use Rattle.type_terms.specs.Kept.{args-held-later}
use Rattle.infer_table.specs.Values.{values_of, values-later}
use Rattle.goal_evaluator.specs.Lists.{Every}
use Rattle.goal_evaluator.specs.Operations.{is_yes}
use Rattle.goal_evaluator.specs.Readings.{ResultHeld}
use Rattle.goal_evaluator.specs.Responses.{is_identity_modulo_regions}
use Rattle.goal_evaluator.specs.Replays.{run}
use Rattle.goal_evaluator.specs.Rounds.{round}
use Rattle.infer_table.specs.Unification.{table_trees}
use Rattle.infer_table.specs.Responses.{answer_trees}
use Rattle.goal_evaluator.specs.Context.{NestedHeld, GoalIsHeld, nested_goal}
use Rattle.goal_evaluator.specs.Evaluating.{evaluation, goals_trees, nested_trees, replies_trees}
use Rattle.goal_evaluator.specs.Steps.{RoundEnds}
use Rattle.goal_evaluator.specs.declared.rounds.RoundStep.TheVariants as Of
use Rattle.goal_evaluator.proofs.Contexts.{nested-later, replies-later, response-later, every-more}
use Rattle.goal_evaluator.proofs.FirstOf.{first-rest, rest-shorter, handed, both-yes, not-both, or-is}
use Rattle.goal_evaluator.proofs.LaterTrees.{goal-trees-later}
use Rattle.goal_evaluator.proofs.RoundEnds.{put-earlier, round-unapplied, round-dropped, round-kept-fault, round-kept-waits, round-kept-ended}
use Rattle.goal_evaluator.proofs.Undone.{clone-same}
use Rattle.infer_table.specs.Growth.{grows-refl, grows-trans}
use Rattle.type_terms.proofs.Grown.{grew-none, grew-on}
use Rattle.goal_evaluator.proofs.Shortages.{eval-at-limit, again-at-limit, never-full}
use Rattle.goal_evaluator.proofs.rounds.+round.Goals as goal
use Rattle.goal_evaluator.proofs.rounds.+round.Goals.{else-is_certain-via-then-is_certain+else-not-changed, else-is_certain-via-else-is_certain, then-changed, else-changed}

pub returns-in_default-clause-ready : goal.returns-in_default-clause-ready
returns-in_default-clause-ready t c = c.requires.ready

pub returns-in_default-clause-grows : goal.returns-in_default-clause-grows
returns-in_default-clause-grows t c = grows-refl c.args.table.now

pub returns-in_default-clause-terms : goal.returns-in_default-clause-terms
returns-in_default-clause-terms t c = record {
  grew = grew-none;
  full = tt;
}

pub returns-in_err-asked-clause-ready : goal.returns-in_err-asked-clause-ready
returns-in_err-asked-clause-ready t c = c.question_for.ensures.ready

pub returns-in_err-asked-clause-grows : goal.returns-in_err-asked-clause-grows
returns-in_err-asked-clause-grows t c = grows-refl c.args.table.now

pub returns-in_err-asked-clause-terms : goal.returns-in_err-asked-clause-terms
returns-in_err-asked-clause-terms t c = record {
  grew = c.question_for.ensures.terms.grew;
  full = eval-at-limit c.from_residual.result c.from_residual.ensures.1 c.in_err-asked.ensures.terms.full;
}

pub returns-in_default-replies-clause-ready : goal.returns-in_default-replies-clause-ready
returns-in_default-replies-clause-ready t c = c.question_for.ensures.ready

pub returns-in_default-replies-clause-grows : goal.returns-in_default-replies-clause-grows
returns-in_default-replies-clause-grows t c = grows-refl c.args.table.now

pub returns-in_default-replies-clause-terms : goal.returns-in_default-replies-clause-terms
returns-in_default-replies-clause-terms t c = record {
  grew = c.question_for.ensures.terms.grew;
  full = tt;
}

pub returns-in_default-reply-clause-ready : goal.returns-in_default-reply-clause-ready
returns-in_default-reply-clause-ready t c = c.question_for.ensures.ready

pub returns-in_default-reply-clause-grows : goal.returns-in_default-reply-clause-grows
returns-in_default-reply-clause-grows t c = grows-refl c.args.table.now

pub returns-in_default-reply-clause-terms : goal.returns-in_default-reply-clause-terms
returns-in_default-reply-clause-terms t c = record {
  grew = c.question_for.ensures.terms.grew;
  full = λ q. cc;
}

pub returns-in_err-apply_response-clause-ready : goal.returns-in_err-apply_response-clause-ready
returns-in_err-apply_response-clause-ready t c = c.apply_response.ensures.ready

pub returns-in_err-apply_response-clause-grows : goal.returns-in_err-apply_response-clause-grows
returns-in_err-apply_response-clause-grows t c = c.apply_response.ensures.grows

pub returns-in_err-apply_response-clause-terms : goal.returns-in_err-apply_response-clause-terms
returns-in_err-apply_response-clause-terms t c = record {
  grew = grew-on c.question_for.ensures.terms.grew c.apply_response.ensures.terms.grew;
  full = again-at-limit c.from_residual-in_err-apply_response.result c.from_residual-in_err-apply_response.ensures.1 c.in_err-apply_response.ensures.terms.full;
}

pub returns-then-not-changed-clause-ready : goal.returns-then-not-changed-clause-ready
returns-then-not-changed-clause-ready t c = c.round.ensures.ready

pub returns-then-not-changed-clause-grows : goal.returns-then-not-changed-clause-grows
returns-then-not-changed-clause-grows t c = grows-trans _ _ _ c.apply_response.ensures.grows c.round.ensures.grows

pub returns-then-not-changed-clause-terms : goal.returns-then-not-changed-clause-terms
returns-then-not-changed-clause-terms t c = record {
  grew = grew-on (grew-on c.question_for.ensures.terms.grew c.apply_response.ensures.terms.grew) c.round.ensures.terms.grew;
  full = c.round.ensures.terms.full;
}

pub returns-in_err-kept-clause-ready : goal.returns-in_err-kept-clause-ready
returns-in_err-kept-clause-ready t c = c.apply_response.ensures.ready

pub returns-in_err-kept-clause-grows : goal.returns-in_err-kept-clause-grows
returns-in_err-kept-clause-grows t c = c.apply_response.ensures.grows

pub returns-in_err-kept-clause-terms : goal.returns-in_err-kept-clause-terms
returns-in_err-kept-clause-terms t c = record {
  grew = grew-on c.question_for.ensures.terms.grew c.apply_response.ensures.terms.grew;
  full = eval-at-limit c.from_residual-in_err-kept.result c.from_residual-in_err-kept.ensures.1 (never-full refl);
}

pub returns-in_err-push-clause-ready : goal.returns-in_err-push-clause-ready
returns-in_err-push-clause-ready t c = c.apply_response.ensures.ready

pub returns-in_err-push-clause-grows : goal.returns-in_err-push-clause-grows
returns-in_err-push-clause-grows t c = c.apply_response.ensures.grows

pub returns-in_err-push-clause-terms : goal.returns-in_err-push-clause-terms
returns-in_err-push-clause-terms t c = record {
  grew = grew-on c.question_for.ensures.terms.grew c.apply_response.ensures.terms.grew;
  full = eval-at-limit c.from_residual-in_err-push.result c.from_residual-in_err-push.ensures.1 (never-full refl);
}

pub returns-in_err-rest-clause-ready : goal.returns-in_err-rest-clause-ready
returns-in_err-rest-clause-ready t c = c.round-2.ensures.ready

pub returns-in_err-rest-clause-grows : goal.returns-in_err-rest-clause-grows
returns-in_err-rest-clause-grows t c = grows-trans _ _ _ c.apply_response.ensures.grows c.round-2.ensures.grows

pub returns-in_err-rest-clause-terms : goal.returns-in_err-rest-clause-terms
returns-in_err-rest-clause-terms t c = record {
  grew = grew-on (grew-on c.question_for.ensures.terms.grew c.apply_response.ensures.terms.grew) c.round-2.ensures.terms.grew;
  full = again-at-limit c.from_residual-in_err-rest.result c.from_residual-in_err-rest.ensures.1 c.in_err-rest.ensures.terms.full;
}

pub returns-in-Ended-clause-ready : goal.returns-in-Ended-clause-ready
returns-in-Ended-clause-ready t c = c.round-2.ensures.ready

pub returns-in-Ended-clause-grows : goal.returns-in-Ended-clause-grows
returns-in-Ended-clause-grows t c = grows-trans _ _ _ c.apply_response.ensures.grows c.round-2.ensures.grows

pub returns-in-Ended-clause-terms : goal.returns-in-Ended-clause-terms
returns-in-Ended-clause-terms t c = record {
  grew = grew-on (grew-on c.question_for.ensures.terms.grew c.apply_response.ensures.terms.grew) c.round-2.ensures.terms.grew;
  full = tt;
}

pub returns-clause-ready : goal.returns-clause-ready
returns-clause-ready t c = c.round-2.ensures.ready

pub returns-clause-grows : goal.returns-clause-grows
returns-clause-grows t c = grows-trans _ _ _ c.apply_response.ensures.grows c.round-2.ensures.grows

pub returns-clause-terms : goal.returns-clause-terms
returns-clause-terms t c = record {
  grew = grew-on (grew-on c.question_for.ensures.terms.grew c.apply_response.ensures.terms.grew) c.round-2.ensures.terms.grew;
  full = tt;
}

pub returns-in_default-replies-clause-left : goal.returns-in_default-replies-clause-left
returns-in_default-replies-clause-left t c = nested-later c.args.cx.now.entries c.question_for.new.cx.entries c.question_for.ensures.terms.grew.keeps (map nested_goal c.args.left.now.items) c.requires.left

pub apply_response-requires-clause-response : goal.apply_response-requires-clause-response
apply_response-requires-clause-response t c =
    let es = c.args.cx.now.entries in
    let Q = take (length c.args.replies.now - 1) (drop 1 c.args.replies.now) in
    let rp : c.args.replies.now ≡ Some c.in-Some.response ∷ Q = first-rest c.args.replies.now c.reply-item.result c.in-len1-up-replies.len_at_least c.reply-item.is ∙ ap (λ z. z ∷ Q) c.in-Some.is in
    let hr : Every (ResultHeld es) (Some c.in-Some.response ∷ Q) = subst (Every (ResultHeld es)) rp c.requires.replies in
    let h = response-later es c.question_for.new.cx.entries c.question_for.ensures.terms.grew.keeps c.in-Some.response hr.0 in
    record { values = h.values; constraints = h.constraints }

pub returns-in_err-apply_response-clause-runs : goal.returns-in_err-apply_response-clause-runs
returns-in_err-apply_response-clause-runs t c =
    let es = c.args.cx.now.entries in
    let es1 = c.question_for.new.cx.entries in
    let R = take (length c.args.goals.now - 1) (drop 1 c.args.goals.now) in
    let Q = take (length c.args.replies.now - 1) (drop 1 c.args.replies.now) in
    let g = nested_goal c.goal-item.result in
    let left = map nested_goal c.args.left.now.items in
    let sp : c.args.goals.now ≡ c.goal-item.result ∷ R = first-rest c.args.goals.now c.goal-item.result c.in-len1-up.len_at_least c.goal-item.is in
    let rp : c.args.replies.now ≡ Some c.in-Some.response ∷ Q = first-rest c.args.replies.now c.reply-item.result c.in-len1-up-replies.len_at_least c.reply-item.is ∙ ap (λ z. z ∷ Q) c.in-Some.is in
    let hr : Every (ResultHeld es) (Some c.in-Some.response ∷ Q) = subst (Every (ResultHeld es)) rp c.requires.replies in
    let asked = ap (values_of es1) c.deref.ensures.value ∙ c.in_ok-asked.ensures.values in
    let x = c.in_err-apply_response.field-0.0 in
    handed
    (λ e. RoundEnds c.args.mode c.apply_response.new.cx.entries c.apply_response.new.table left left (run (round (evaluation c.args.mode) (goals_trees es (map nested_goal c.args.goals.now)) (table_trees es c.args.table.now)) (replies_trees es c.args.replies.now)) e)
    c.from_residual-in_err-apply_response.result x c.from_residual-in_err-apply_response.ensures.1
    (subst (λ gs. RoundEnds c.args.mode c.apply_response.new.cx.entries c.apply_response.new.table left left (run (round (evaluation c.args.mode) (goals_trees es (map nested_goal gs)) (table_trees es c.args.table.now)) (replies_trees es c.args.replies.now)) (Err x)) (sym sp)
    (subst (λ rs. RoundEnds c.args.mode c.apply_response.new.cx.entries c.apply_response.new.table left left (run (round (evaluation c.args.mode) (goals_trees es (map nested_goal (c.goal-item.result ∷ R))) (table_trees es c.args.table.now)) (replies_trees es rs)) (Err x)) (sym rp)
    (round-unapplied c.args.mode c.apply_response.new.cx.entries c.apply_response.new.table (nested_trees es g) (goals_trees es (map nested_goal R)) (table_trees es c.args.table.now) left left (answer_trees es c.in-Some.response) (replies_trees es Q) x
    (λ q. put-earlier es es1 c.question_for.ensures.terms.grew.keeps c.args.table.now c.requires.ready g c.deref.result.now c.in-Some.response hr.0 asked None (c.in_err-apply_response.ensures.refused (ap Err q))))))

pub has_values-changed-requires : goal.has_values-changed-requires
has_values-changed-requires t c =
    let es = c.args.cx.now.entries in
    let Q = take (length c.args.replies.now - 1) (drop 1 c.args.replies.now) in
    let rp : c.args.replies.now ≡ Some c.in-Some.response ∷ Q = first-rest c.args.replies.now c.reply-item.result c.in-len1-up-replies.len_at_least c.reply-item.is ∙ ap (λ z. z ∷ Q) c.in-Some.is in
    let hr : Every (ResultHeld es) (Some c.in-Some.response ∷ Q) = subst (Every (ResultHeld es)) rp c.requires.replies in
    args-held-later es c.apply_response.new.cx.entries (λ i x h. c.apply_response.ensures.terms.grew.keeps i x (c.question_for.ensures.terms.grew.keeps i x h)) c.in-Some.response.var_values.items hr.0.values

pub round-requires : goal.round-requires
round-requires t c =
    let es = c.args.cx.now.entries in
    let es2 = c.apply_response.new.cx.entries in
    let keeps : Keeps es es2 = λ i x h. c.apply_response.ensures.terms.grew.keeps i x (c.question_for.ensures.terms.grew.keeps i x h) in
    let R = take (length c.args.goals.now - 1) (drop 1 c.args.goals.now) in
    let Q = take (length c.args.replies.now - 1) (drop 1 c.args.replies.now) in
    let sp : map nested_goal c.args.goals.now ≡ nested_goal c.goal-item.result ∷ map nested_goal R = ap (map nested_goal) (first-rest c.args.goals.now c.goal-item.result c.in-len1-up.len_at_least c.goal-item.is) in
    let rp = first-rest c.args.replies.now c.reply-item.result c.in-len1-up-replies.len_at_least c.reply-item.is in
    let hg : NestedHeld es (nested_goal c.goal-item.result ∷ map nested_goal R) = subst (NestedHeld es) sp c.requires.goals in
    let hr : Every (ResultHeld es) (c.reply-item.result ∷ Q) = subst (Every (ResultHeld es)) rp c.requires.replies in
    let shorter = rest-shorter c.args.goals.now c.in-len1-up.len_at_least in (
      omega (arith, shorter, c.decreases),
      (c.apply_response.ensures.ready, (nested-later es es2 keeps (map nested_goal R) hg.1, (replies-later es es2 keeps Q hr.1, nested-later es es2 keeps (map nested_goal c.args.left.now.items) c.requires.left))),
    )

pub returns-then-not-changed-clause-runs : goal.returns-then-not-changed-clause-runs
returns-then-not-changed-clause-runs t c =
    let es = c.args.cx.now.entries in
    let es1 = c.question_for.new.cx.entries in
    let es2 = c.apply_response.new.cx.entries in
    let keeps : Keeps es es2 = λ i x h. c.apply_response.ensures.terms.grew.keeps i x (c.question_for.ensures.terms.grew.keeps i x h) in
    let R = take (length c.args.goals.now - 1) (drop 1 c.args.goals.now) in
    let Q = take (length c.args.replies.now - 1) (drop 1 c.args.replies.now) in
    let g = nested_goal c.goal-item.result in
    let r = c.in-Some.response in
    let left = map nested_goal c.args.left.now.items in
    let after = map nested_goal c.round.new.left.items in
    let sp : c.args.goals.now ≡ c.goal-item.result ∷ R = first-rest c.args.goals.now c.goal-item.result c.in-len1-up.len_at_least c.goal-item.is in
    let rp : c.args.replies.now ≡ Some r ∷ Q = first-rest c.args.replies.now c.reply-item.result c.in-len1-up-replies.len_at_least c.reply-item.is ∙ ap (λ z. z ∷ Q) c.in-Some.is in
    let hg : NestedHeld es (g ∷ map nested_goal R) = subst (NestedHeld es) (ap (map nested_goal) sp) c.requires.goals in
    let hr : Every (ResultHeld es) (Some r ∷ Q) = subst (Every (ResultHeld es)) rp c.requires.replies in
    let asked = ap (values_of es1) c.deref.ensures.value ∙ c.in_ok-asked.ensures.values in
    let put = put-earlier es es1 c.question_for.ensures.terms.grew.keeps c.args.table.now c.requires.ready g c.deref.result.now r hr.0 asked (Some (table_trees es2 c.apply_response.new.table)) c.in_ok-apply_response.ensures.applied in
    let same = ap (λ vs. not (is_identity_modulo_regions 0 vs)) (values-later es es2 keeps r.var_values.items hr.0.values) in
    let t1 : c.is_certain.result ≡ true = search rules in
    let t2 : c.has_values-changed.result ≡ false = search rules in
    let y : is_yes (evaluation c.args.mode) (answer_trees es r) ≡ true = both-yes c.is_certain.result c.has_values-changed.result _ _ c.is_certain.ensures (c.has_values-changed.ensures ∙ same) t1 t2 in
    subst (λ gs. RoundEnds c.args.mode c.round.new.cx.entries c.round.new.table left after (run (round (evaluation c.args.mode) (goals_trees es (map nested_goal gs)) (table_trees es c.args.table.now)) (replies_trees es c.args.replies.now)) c.round.result) (sym sp)
    (subst (λ rs. RoundEnds c.args.mode c.round.new.cx.entries c.round.new.table left after (run (round (evaluation c.args.mode) (goals_trees es (map nested_goal (c.goal-item.result ∷ R))) (table_trees es c.args.table.now)) (replies_trees es rs)) c.round.result) (sym rp)
    (round-dropped c.args.mode c.round.new.cx.entries c.round.new.table es es2 c.args.table.now c.apply_response.new.table g (map nested_goal R) left after r Q keeps hg.1 hr.1 put c.round.result y c.round.ensures.runs))

pub round-requires-2 : goal.round-requires-2
round-requires-2 t c =
    let es = c.args.cx.now.entries in
    let es2 = c.apply_response.new.cx.entries in
    let keeps : Keeps es es2 = λ i x h. c.apply_response.ensures.terms.grew.keeps i x (c.question_for.ensures.terms.grew.keeps i x h) in
    let R = take (length c.args.goals.now - 1) (drop 1 c.args.goals.now) in
    let Q = take (length c.args.replies.now - 1) (drop 1 c.args.replies.now) in
    let m = c.in_ok-kept.kept in
    let sp : map nested_goal c.args.goals.now ≡ nested_goal c.goal-item.result ∷ map nested_goal R = ap (map nested_goal) (first-rest c.args.goals.now c.goal-item.result c.in-len1-up.len_at_least c.goal-item.is) in
    let rp = first-rest c.args.replies.now c.reply-item.result c.in-len1-up-replies.len_at_least c.reply-item.is in
    let hg : NestedHeld es (nested_goal c.goal-item.result ∷ map nested_goal R) = subst (NestedHeld es) sp c.requires.goals in
    let hr : Every (ResultHeld es) (c.reply-item.result ∷ Q) = subst (Every (ResultHeld es)) rp c.requires.replies in
    let shorter = rest-shorter c.args.goals.now c.in-len1-up.len_at_least in
    let same : nested_goal m ≡ nested_goal c.goal-item.result = clone-same c.goal-item.result m (search rules) (search rules) (search rules) in
    let pushed : map nested_goal c.push.new.self.items ≡ map nested_goal c.args.left.now.items ++ nested_goal m ∷ [] = ap (map nested_goal) c.in_ok-push.ensures.items ∙ map-append nested_goal c.args.left.now.items (m ∷ []) in
    let old_left = nested-later es es2 keeps (map nested_goal c.args.left.now.items) c.requires.left in
    let hm : GoalIsHeld es2 (nested_goal m) = subst (GoalIsHeld es2) (sym same) (nested-later es es2 keeps (nested_goal c.goal-item.result ∷ map nested_goal R) hg).0 in (
      omega (arith, shorter, c.decreases),
      (
        c.apply_response.ensures.ready,
        (
          nested-later es es2 keeps (map nested_goal R) hg.1,
          (
            replies-later es es2 keeps Q hr.1,
            subst (NestedHeld es2) (sym pushed) (every-more (GoalIsHeld es2) (map nested_goal c.args.left.now.items) (nested_goal m) old_left hm),
          ),
        ),
      ),
    )

pub returns-in_err-rest-clause-runs : goal.returns-in_err-rest-clause-runs
returns-in_err-rest-clause-runs t c =
    let es = c.args.cx.now.entries in
    let es1 = c.question_for.new.cx.entries in
    let es2 = c.apply_response.new.cx.entries in
    let es3 = c.round-2.new.cx.entries in
    let T2 = c.apply_response.new.table in
    let T3 = c.round-2.new.table in
    let keeps : Keeps es es2 = λ i x h. c.apply_response.ensures.terms.grew.keeps i x (c.question_for.ensures.terms.grew.keeps i x h) in
    let R = take (length c.args.goals.now - 1) (drop 1 c.args.goals.now) in
    let Q = take (length c.args.replies.now - 1) (drop 1 c.args.replies.now) in
    let g = nested_goal c.goal-item.result in
    let r = c.in-Some.response in
    let m = c.in_ok-kept.kept in
    let left = map nested_goal c.args.left.now.items in
    let after = map nested_goal c.round-2.new.left.items in
    let sp : c.args.goals.now ≡ c.goal-item.result ∷ R = first-rest c.args.goals.now c.goal-item.result c.in-len1-up.len_at_least c.goal-item.is in
    let rp : c.args.replies.now ≡ Some r ∷ Q = first-rest c.args.replies.now c.reply-item.result c.in-len1-up-replies.len_at_least c.reply-item.is ∙ ap (λ z. z ∷ Q) c.in-Some.is in
    let hg : NestedHeld es (g ∷ map nested_goal R) = subst (NestedHeld es) (ap (map nested_goal) sp) c.requires.goals in
    let hr : Every (ResultHeld es) (Some r ∷ Q) = subst (Every (ResultHeld es)) rp c.requires.replies in
    let asked = ap (values_of es1) c.deref.ensures.value ∙ c.in_ok-asked.ensures.values in
    let put = put-earlier es es1 c.question_for.ensures.terms.grew.keeps c.args.table.now c.requires.ready g c.deref.result.now r hr.0 asked (Some (table_trees es2 T2)) c.in_ok-apply_response.ensures.applied in
    let same = ap (λ vs. not (is_identity_modulo_regions 0 vs)) (values-later es es2 keeps r.var_values.items hr.0.values) in
    let either : (c.is_certain.result ≡ false) ⊎ (c.has_values-changed.result ≡ true) = elim c.else-is_certain.branch [ else-is_certain-via-then-is_certain+else-not-changed w ↦ inr (search rules) | else-is_certain-via-else-is_certain w ↦ inl (search rules) ] in
    let y : is_yes (evaluation c.args.mode) (answer_trees es r) ≡ false = not-both c.is_certain.result c.has_values-changed.result _ _ c.is_certain.ensures (c.has_values-changed.ensures ∙ same) either in
    let copied : nested_goal m ≡ g = clone-same c.goal-item.result m (search rules) (search rules) (search rules) in
    let alike = ap (nested_trees es3) copied ∙ goal-trees-later es es3 (λ i x h. c.round-2.ensures.terms.grew.keeps i x (keeps i x h)) g hg.0 in
    let pushed : map nested_goal c.push.new.self.items ≡ left ++ nested_goal m ∷ [] = ap (map nested_goal) c.in_ok-push.ensures.items ∙ map-append nested_goal c.args.left.now.items (m ∷ []) in
    let x = c.in_err-rest.field-0.0 in
    let h = subst (λ ls. RoundEnds c.args.mode es3 T3 ls after (run (round (evaluation c.args.mode) (goals_trees es2 (map nested_goal R)) (table_trees es2 T2)) (replies_trees es2 Q)) (Err x)) pushed (c.in_err-rest.ensures.runs) in
    handed
    (λ e. RoundEnds c.args.mode es3 T3 left after (run (round (evaluation c.args.mode) (goals_trees es (map nested_goal c.args.goals.now)) (table_trees es c.args.table.now)) (replies_trees es c.args.replies.now)) e)
    c.from_residual-in_err-rest.result x c.from_residual-in_err-rest.ensures.1
    (subst (λ gs. RoundEnds c.args.mode es3 T3 left after (run (round (evaluation c.args.mode) (goals_trees es (map nested_goal gs)) (table_trees es c.args.table.now)) (replies_trees es c.args.replies.now)) (Err x)) (sym sp)
    (subst (λ rs. RoundEnds c.args.mode es3 T3 left after (run (round (evaluation c.args.mode) (goals_trees es (map nested_goal (c.goal-item.result ∷ R))) (table_trees es c.args.table.now)) (replies_trees es rs)) (Err x)) (sym rp)
    (round-kept-fault c.args.mode es3 T3 es es2 c.args.table.now T2 g (map nested_goal R) left after r Q keeps hg.1 hr.1 put (nested_goal m) alike y x h)))

pub returns-in-Ended-clause-runs : goal.returns-in-Ended-clause-runs
returns-in-Ended-clause-runs t c =
    let es = c.args.cx.now.entries in
    let es1 = c.question_for.new.cx.entries in
    let es2 = c.apply_response.new.cx.entries in
    let es3 = c.round-2.new.cx.entries in
    let T2 = c.apply_response.new.table in
    let T3 = c.round-2.new.table in
    let keeps : Keeps es es2 = λ i x h. c.apply_response.ensures.terms.grew.keeps i x (c.question_for.ensures.terms.grew.keeps i x h) in
    let R = take (length c.args.goals.now - 1) (drop 1 c.args.goals.now) in
    let Q = take (length c.args.replies.now - 1) (drop 1 c.args.replies.now) in
    let g = nested_goal c.goal-item.result in
    let r = c.in-Some.response in
    let m = c.in_ok-kept.kept in
    let left = map nested_goal c.args.left.now.items in
    let after = map nested_goal c.round-2.new.left.items in
    let sp : c.args.goals.now ≡ c.goal-item.result ∷ R = first-rest c.args.goals.now c.goal-item.result c.in-len1-up.len_at_least c.goal-item.is in
    let rp : c.args.replies.now ≡ Some r ∷ Q = first-rest c.args.replies.now c.reply-item.result c.in-len1-up-replies.len_at_least c.reply-item.is ∙ ap (λ z. z ∷ Q) c.in-Some.is in
    let hg : NestedHeld es (g ∷ map nested_goal R) = subst (NestedHeld es) (ap (map nested_goal) sp) c.requires.goals in
    let hr : Every (ResultHeld es) (Some r ∷ Q) = subst (Every (ResultHeld es)) rp c.requires.replies in
    let asked = ap (values_of es1) c.deref.ensures.value ∙ c.in_ok-asked.ensures.values in
    let put = put-earlier es es1 c.question_for.ensures.terms.grew.keeps c.args.table.now c.requires.ready g c.deref.result.now r hr.0 asked (Some (table_trees es2 T2)) c.in_ok-apply_response.ensures.applied in
    let same = ap (λ vs. not (is_identity_modulo_regions 0 vs)) (values-later es es2 keeps r.var_values.items hr.0.values) in
    let either : (c.is_certain.result ≡ false) ⊎ (c.has_values-changed.result ≡ true) = elim c.else-is_certain.branch [ else-is_certain-via-then-is_certain+else-not-changed w ↦ inr (search rules) | else-is_certain-via-else-is_certain w ↦ inl (search rules) ] in
    let y : is_yes (evaluation c.args.mode) (answer_trees es r) ≡ false = not-both c.is_certain.result c.has_values-changed.result _ _ c.is_certain.ensures (c.has_values-changed.ensures ∙ same) either in
    let copied : nested_goal m ≡ g = clone-same c.goal-item.result m (search rules) (search rules) (search rules) in
    let alike = ap (nested_trees es3) copied ∙ goal-trees-later es es3 (λ i x h. c.round-2.ensures.terms.grew.keeps i x (keeps i x h)) g hg.0 in
    let pushed : map nested_goal c.push.new.self.items ≡ left ++ nested_goal m ∷ [] = ap (map nested_goal) c.in_ok-push.ensures.items ∙ map-append nested_goal c.args.left.now.items (m ∷ []) in
    let E = Of.Ended c.in-Ended.more c.in-Ended.certainty c.in-Ended.replies in
    let h = subst (λ ls. RoundEnds c.args.mode es3 T3 ls after (run (round (evaluation c.args.mode) (goals_trees es2 (map nested_goal R)) (table_trees es2 T2)) (replies_trees es2 Q)) (Ok E)) pushed (subst (λ v. RoundEnds c.args.mode es3 T3 (map nested_goal c.push.new.self.items) after (run (round (evaluation c.args.mode) (goals_trees es2 (map nested_goal R)) (table_trees es2 T2)) (replies_trees es2 Q)) (Ok v)) c.in-Ended.is c.in_ok-rest.ensures.runs) in
    let cases : ((c.has_values-changed.result ≡ true) × (c.if-changed.result ≡ true)) ⊎ ((c.has_values-changed.result ≡ false) × (c.if-changed.result ≡ c.in-Ended.more)) = elim c.if-changed.branch [ then-changed w ↦ inl (w.if-changed.true, w.result-is ∙ w.if-changed.true) | else-changed w ↦ inr (w.if-changed.false, w.result-is) ] in
    let changed = or-is c.if-changed.result c.has_values-changed.result _ c.in-Ended.more (c.has_values-changed.ensures ∙ same) cases in
    subst (λ gs. RoundEnds c.args.mode es3 T3 left after (run (round (evaluation c.args.mode) (goals_trees es (map nested_goal gs)) (table_trees es c.args.table.now)) (replies_trees es c.args.replies.now)) (Ok (Of.Ended c.if-changed.result c.and-certainty.result c.in-Ended.replies))) (sym sp)
    (subst (λ rs. RoundEnds c.args.mode es3 T3 left after (run (round (evaluation c.args.mode) (goals_trees es (map nested_goal (c.goal-item.result ∷ R))) (table_trees es c.args.table.now)) (replies_trees es rs)) (Ok (Of.Ended c.if-changed.result c.and-certainty.result c.in-Ended.replies))) (sym rp)
    (round-kept-ended c.args.mode es3 T3 es es2 c.args.table.now T2 g (map nested_goal R) left after r Q keeps hg.1 hr.1 put (nested_goal m) alike y c.if-changed.result c.in-Ended.more c.and-certainty.result c.in-Ended.certainty c.in-Ended.replies changed c.and-certainty.ensures h))

pub returns-clause-runs : goal.returns-clause-runs
returns-clause-runs t c =
    let es = c.args.cx.now.entries in
    let es1 = c.question_for.new.cx.entries in
    let es2 = c.apply_response.new.cx.entries in
    let es3 = c.round-2.new.cx.entries in
    let T2 = c.apply_response.new.table in
    let T3 = c.round-2.new.table in
    let keeps : Keeps es es2 = λ i x h. c.apply_response.ensures.terms.grew.keeps i x (c.question_for.ensures.terms.grew.keeps i x h) in
    let R = take (length c.args.goals.now - 1) (drop 1 c.args.goals.now) in
    let Q = take (length c.args.replies.now - 1) (drop 1 c.args.replies.now) in
    let g = nested_goal c.goal-item.result in
    let r = c.in-Some.response in
    let m = c.in_ok-kept.kept in
    let left = map nested_goal c.args.left.now.items in
    let after = map nested_goal c.round-2.new.left.items in
    let sp : c.args.goals.now ≡ c.goal-item.result ∷ R = first-rest c.args.goals.now c.goal-item.result c.in-len1-up.len_at_least c.goal-item.is in
    let rp : c.args.replies.now ≡ Some r ∷ Q = first-rest c.args.replies.now c.reply-item.result c.in-len1-up-replies.len_at_least c.reply-item.is ∙ ap (λ z. z ∷ Q) c.in-Some.is in
    let hg : NestedHeld es (g ∷ map nested_goal R) = subst (NestedHeld es) (ap (map nested_goal) sp) c.requires.goals in
    let hr : Every (ResultHeld es) (Some r ∷ Q) = subst (Every (ResultHeld es)) rp c.requires.replies in
    let asked = ap (values_of es1) c.deref.ensures.value ∙ c.in_ok-asked.ensures.values in
    let put = put-earlier es es1 c.question_for.ensures.terms.grew.keeps c.args.table.now c.requires.ready g c.deref.result.now r hr.0 asked (Some (table_trees es2 T2)) c.in_ok-apply_response.ensures.applied in
    let same = ap (λ vs. not (is_identity_modulo_regions 0 vs)) (values-later es es2 keeps r.var_values.items hr.0.values) in
    let either : (c.is_certain.result ≡ false) ⊎ (c.has_values-changed.result ≡ true) = elim c.else-is_certain.branch [ else-is_certain-via-then-is_certain+else-not-changed w ↦ inr (search rules) | else-is_certain-via-else-is_certain w ↦ inl (search rules) ] in
    let y : is_yes (evaluation c.args.mode) (answer_trees es r) ≡ false = not-both c.is_certain.result c.has_values-changed.result _ _ c.is_certain.ensures (c.has_values-changed.ensures ∙ same) either in
    let copied : nested_goal m ≡ g = clone-same c.goal-item.result m (search rules) (search rules) (search rules) in
    let alike = ap (nested_trees es3) copied ∙ goal-trees-later es es3 (λ i x h. c.round-2.ensures.terms.grew.keeps i x (keeps i x h)) g hg.0 in
    let pushed : map nested_goal c.push.new.self.items ≡ left ++ nested_goal m ∷ [] = ap (map nested_goal) c.in_ok-push.ensures.items ∙ map-append nested_goal c.args.left.now.items (m ∷ []) in
    let E = Of.Waits c.in-Waits.input c.in-Waits.source in
    let h = subst (λ ls. RoundEnds c.args.mode es3 T3 ls after (run (round (evaluation c.args.mode) (goals_trees es2 (map nested_goal R)) (table_trees es2 T2)) (replies_trees es2 Q)) (Ok E)) pushed (subst (λ v. RoundEnds c.args.mode es3 T3 (map nested_goal c.push.new.self.items) after (run (round (evaluation c.args.mode) (goals_trees es2 (map nested_goal R)) (table_trees es2 T2)) (replies_trees es2 Q)) (Ok v)) c.in-Waits.is c.in_ok-rest.ensures.runs) in
    subst (λ gs. RoundEnds c.args.mode es3 T3 left after (run (round (evaluation c.args.mode) (goals_trees es (map nested_goal gs)) (table_trees es c.args.table.now)) (replies_trees es c.args.replies.now)) (Ok E)) (sym sp)
    (subst (λ rs. RoundEnds c.args.mode es3 T3 left after (run (round (evaluation c.args.mode) (goals_trees es (map nested_goal (c.goal-item.result ∷ R))) (table_trees es c.args.table.now)) (replies_trees es rs)) (Ok E)) (sym rp)
    (round-kept-waits c.args.mode es3 T3 es es2 c.args.table.now T2 g (map nested_goal R) left after r Q keeps hg.1 hr.1 put (nested_goal m) alike y c.in-Waits.input c.in-Waits.source h))
