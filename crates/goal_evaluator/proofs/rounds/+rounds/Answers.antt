use Rattle.std.proofs.Common.{arith, ◌≡◌, suc, ◌-◌, map, Ok, Err, sym, subst, ap, ◌∙◌}
use Rattle.infer_table.specs.Unification.{table_trees}
use Rattle.goal_evaluator.specs.Replays.{run}
use Rattle.goal_evaluator.specs.Rounds.{round, rounds}
use Rattle.goal_evaluator.specs.Context.{nested_goal}
use Rattle.goal_evaluator.specs.Ends.{EndsIn}
use Rattle.goal_evaluator.specs.Evaluating.{evaluation, goals_trees, replies_trees, question_of, certainty_with}
use Rattle.goal_evaluator.specs.Steps.{RoundEnds, RoundsEnd, SameRounds}
use Rattle.goal_evaluator.specs.declared.rounds.RoundStep.TheVariants as Of
use Rattle.goal_evaluator.proofs.FirstOf.{handed}
use Rattle.goal_evaluator.proofs.RoundsEnds.{rounds-fault, rounds-waits, rounds-again, rounds-last}
use Rattle.goal_evaluator.proofs.rounds.+rounds.Goals as goal

pub returns-in_err-input-clause-runs : goal.returns-in_err-input-clause-runs
returns-in_err-input-clause-runs u c =
    let es = c.args.cx.now.entries in
    let es1 = c.round.new.cx.entries in
    let T1 = c.round.new.table in
    let left = map nested_goal c.round.new.left.items in
    let before = c.args.limit - 1 in
    let e : c.args.limit ≡ suc before = let no = c.if-limit-eq0.false in omega arith in
    let ns = goals_trees es (map nested_goal c.args.goals.items) in
    let t = table_trees es c.args.table.now in
    let rs = replies_trees es c.args.replies.now in
    let x = c.in_err-input.field-0.0 in
    let h = subst (λ xs. RoundEnds c.args.mode es1 T1 (map nested_goal xs) left (run (round (evaluation c.args.mode) ns t) rs) (Err x)) c.new-left.ensures.items
    (subst (λ gs. RoundEnds c.args.mode es1 T1 (map nested_goal c.new-left.result.items) left (run (round (evaluation c.args.mode) (goals_trees es (map nested_goal gs)) t) rs) (Err x)) c.deref.ensures.value (c.in_err-input.ensures.runs)) in
    handed (λ r. RoundsEnd c.args.mode es1 T1 (run (rounds (evaluation c.args.mode) c.args.limit ns t) rs) r) c.from_residual.result x c.from_residual.ensures.1 (rounds-fault c.args.mode c.args.limit before e ns t rs es1 T1 left x h)

pub returns-in-Waits-clause-runs : goal.returns-in-Waits-clause-runs
returns-in-Waits-clause-runs u c =
    let es = c.args.cx.now.entries in
    let es1 = c.round.new.cx.entries in
    let T1 = c.round.new.table in
    let left = map nested_goal c.round.new.left.items in
    let before = c.args.limit - 1 in
    let e : c.args.limit ≡ suc before = let no = c.if-limit-eq0.false in omega arith in
    let ns = goals_trees es (map nested_goal c.args.goals.items) in
    let t = table_trees es c.args.table.now in
    let rs = replies_trees es c.args.replies.now in
    let h = subst (λ xs. RoundEnds c.args.mode es1 T1 (map nested_goal xs) left (run (round (evaluation c.args.mode) ns t) rs) (Ok (Of.Waits c.in-Waits.input c.in-Waits.source))) c.new-left.ensures.items
    (subst (λ gs. RoundEnds c.args.mode es1 T1 (map nested_goal c.new-left.result.items) left (run (round (evaluation c.args.mode) (goals_trees es (map nested_goal gs)) t) rs) (Ok (Of.Waits c.in-Waits.input c.in-Waits.source))) c.deref.ensures.value (subst (λ v. RoundEnds c.args.mode es1 T1 (map nested_goal c.new-left.result.items) left (run (round (evaluation c.args.mode) (goals_trees es (map nested_goal c.deref.result.now)) t) rs) (Ok v)) c.in-Waits.is c.in_ok-input.ensures.runs)) in
    rounds-waits c.args.mode c.args.limit before e ns t rs (question_of es1 c.in-Waits.input c.in-Waits.source) h

pub returns-then-changed-clause-runs : goal.returns-then-changed-clause-runs
returns-then-changed-clause-runs u c =
    let es = c.args.cx.now.entries in
    let es1 = c.round.new.cx.entries in
    let T1 = c.round.new.table in
    let left = map nested_goal c.round.new.left.items in
    let before = c.args.limit - 1 in
    let e : c.args.limit ≡ suc before = let no = c.if-limit-eq0.false in omega arith in
    let ns = goals_trees es (map nested_goal c.args.goals.items) in
    let t = table_trees es c.args.table.now in
    let rs = replies_trees es c.args.replies.now in
    let h = subst (λ xs. RoundEnds c.args.mode es1 T1 (map nested_goal xs) left (run (round (evaluation c.args.mode) ns t) rs) (Ok (Of.Ended c.in-Ended.changed c.in-Ended.certainty c.in-Ended.replies))) c.new-left.ensures.items
    (subst (λ gs. RoundEnds c.args.mode es1 T1 (map nested_goal c.new-left.result.items) left (run (round (evaluation c.args.mode) (goals_trees es (map nested_goal gs)) t) rs) (Ok (Of.Ended c.in-Ended.changed c.in-Ended.certainty c.in-Ended.replies))) c.deref.ensures.value (subst (λ v. RoundEnds c.args.mode es1 T1 (map nested_goal c.new-left.result.items) left (run (round (evaluation c.args.mode) (goals_trees es (map nested_goal c.deref.result.now)) t) rs) (Ok v)) c.in-Ended.is c.in_ok-input.ensures.runs)) in
    subst (λ r. RoundsEnd c.args.mode c.rounds.new.cx.entries c.rounds.new.table r c.rounds.result)
    (sym (rounds-again c.args.mode c.args.limit before e ns t rs es1 T1 left c.in-Ended.changed c.in-Ended.certainty c.in-Ended.replies h c.if-changed.true)) c.rounds.ensures.runs

pub returns-clause-runs : goal.returns-clause-runs
returns-clause-runs u c =
    let es = c.args.cx.now.entries in
    let es1 = c.round.new.cx.entries in
    let T1 = c.round.new.table in
    let left = map nested_goal c.round.new.left.items in
    let before = c.args.limit - 1 in
    let e : c.args.limit ≡ suc before = let no = c.if-limit-eq0.false in omega arith in
    let ns = goals_trees es (map nested_goal c.args.goals.items) in
    let t = table_trees es c.args.table.now in
    let rs = replies_trees es c.args.replies.now in
    let h = subst (λ xs. RoundEnds c.args.mode es1 T1 (map nested_goal xs) left (run (round (evaluation c.args.mode) ns t) rs) (Ok (Of.Ended c.in-Ended.changed c.in-Ended.certainty c.in-Ended.replies))) c.new-left.ensures.items
    (subst (λ gs. RoundEnds c.args.mode es1 T1 (map nested_goal c.new-left.result.items) left (run (round (evaluation c.args.mode) (goals_trees es (map nested_goal gs)) t) rs) (Ok (Of.Ended c.in-Ended.changed c.in-Ended.certainty c.in-Ended.replies))) c.deref.ensures.value (subst (λ v. RoundEnds c.args.mode es1 T1 (map nested_goal c.new-left.result.items) left (run (round (evaluation c.args.mode) (goals_trees es (map nested_goal c.deref.result.now)) t) rs) (Ok v)) c.in-Ended.is c.in_ok-input.ensures.runs)) in
    let sure : c.certainty_with-certainty.result ≡ certainty_with left c.in-Ended.certainty = c.certainty_with-certainty.ensures ∙ ap (λ xs. certainty_with (map nested_goal xs) c.in-Ended.certainty) c.deref-in-Ended.ensures.value in
    subst (λ k. EndsIn (λ o more. SameRounds c.args.mode es1 T1 left k o) (run (rounds (evaluation c.args.mode) c.args.limit ns t) rs)) (sym sure)
    (rounds-last c.args.mode c.args.limit before e ns t rs es1 T1 left c.in-Ended.changed c.in-Ended.certainty c.in-Ended.replies h c.if-changed.false)
