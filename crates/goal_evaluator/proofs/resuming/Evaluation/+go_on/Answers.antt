use Rattle.std.proofs.Common.{◌≡◌, ◌∷◌, ◌-◌, [], List, length, IfOk, suc, sym, ◌∙◌, ap, subst, arith, rules}
use Rattle.goal_evaluator.specs.OpenCandidates.{rest_script, StandsAt, CandidateIsOver, most_questions, AsksAtMost}
use Rattle.infer_table.specs.declared.goal.Goal.{Goal}
use Rattle.goal_evaluator.specs.declared.goal.GoalSource.{GoalSource}
use Rattle.goal_evaluator.proofs.OpenCandidates.{next-round}
use Rattle.goal_evaluator.proofs.OpenQuestions.{next-most, over-most, ok-more}
use Rattle.goal_evaluator.proofs.resuming.Evaluation.+go_on.Goals as goal

-- ---- a goal is asked
pub returns-in-Some-clause-stands : goal.returns-in-Some-clause-stands
returns-in-Some-clause-stands t c =
    let all : c.args.goals.items ≡ c.in-Some.goal ∷ c.pop_front.new.self.items = c.in-Some.ensures.items in
    subst (λ gs. StandsAt c.ask.new.cx.entries (rest_script c.args.cx.now.entries c.args.self c.args.rounds_left c.args.round gs) c.ask.result) (sym all) c.ask.ensures.stands

-- ---- no values came
pub returns-then-not-round-clause-most : goal.returns-then-not-round-clause-most
returns-then-not-round-clause-most t c =
    let most = most_questions c.args.rounds_left (length c.args.round.left.items) (length c.args.goals.items) in
    ok-more CandidateIsOver (AsksAtMost most) (over-most most) c.answer.result c.answer.ensures.over

-- ---- values came in the last of all rounds
pub returns-then-rounds_left-eq0-clause-most : goal.returns-then-rounds_left-eq0-clause-most
returns-then-rounds_left-eq0-clause-most t c =
    let most = most_questions c.args.rounds_left (length c.args.round.left.items) (length c.args.goals.items) in
    let call = c.answer-then-rounds_left-eq0 in
    ok-more CandidateIsOver (AsksAtMost most) (over-most most) call.result call.ensures.over

-- ---- the next round begins
pub returns-clause-stands : goal.returns-clause-stands
returns-clause-stands t c =
    let es = c.args.cx.now.entries in
    let e = c.args.self in
    let none-left : c.args.goals.items ≡ [] = search rules in
    let before = c.args.rounds_left - 1 in
    let more : c.args.rounds_left ≡ suc before = let no = c.if-rounds_left-eq0.false in omega (arith, no) in
    let next = c.new-next in
    subst (λ s. StandsAt c.go_on.new.cx.entries s c.go_on.result)
    (sym (ap (rest_script es e c.args.rounds_left c.args.round) none-left
    ∙ next-round es e c.args.rounds_left c.args.round before next.result c.if-not-round.false more next.ensures.left next.ensures.changed next.ensures.certainty))
    c.go_on.ensures.stands

pub returns-clause-most : goal.returns-clause-most
returns-clause-most t c =
    let none-left : c.args.goals.items ≡ [] = search rules in
    let before = c.args.rounds_left - 1 in
    let more : c.args.rounds_left ≡ suc before = let no = c.if-rounds_left-eq0.false in omega (arith, no) in
    let left = length c.args.round.left.items in
    let same : most_questions before (length c.new-next.result.left.items) left ≡ most_questions c.args.rounds_left left (length c.args.goals.items) =
    ap (λ (z : List (GoalSource × Goal)). most_questions before (length z) left) c.new-next.ensures.left ∙ sym (next-most before left)
    ∙ sym (ap (λ m. most_questions m left (length c.args.goals.items)) more ∙ ap (λ (z : List (GoalSource × Goal)). most_questions (suc before) left (length z)) none-left) in
    subst (λ n. IfOk c.go_on.result (AsksAtMost n)) same c.go_on.ensures.most
