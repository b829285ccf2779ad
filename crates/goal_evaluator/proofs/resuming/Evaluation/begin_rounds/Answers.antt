use Rattle.std.proofs.Common.{◌≡◌, ◌*◌, ◌∙◌, List, length, IfOk, map, subst, sym, ap}
use Rattle.goal_evaluator.specs.Context.{NestedHeld, nested_goal}
use Rattle.goal_evaluator.specs.OpenCandidates.{StandsAt, most_questions, AsksAtMost}
use Rattle.infer_table.specs.declared.goal.Goal.{Goal}
use Rattle.goal_evaluator.specs.declared.goal.GoalSource.{GoalSource}
use Rattle.goal_evaluator.proofs.OpenBeginnings.{rounds-begin}
use Rattle.goal_evaluator.proofs.OpenQuestions.{most-begins}
use Rattle.goal_evaluator.proofs.resuming.Evaluation.begin_rounds.Goals as goal

pub go_on-requires-clause-left : goal.go_on-requires-clause-left
go_on-requires-clause-left c = subst (λ gs. NestedHeld c.args.cx.now.entries (map nested_goal gs)) (sym c.new-round.ensures.left) tt

pub returns-clause-stands : goal.returns-clause-stands
returns-clause-stands c =
    let a = c.args in
    let round = c.new-round in
    subst (λ s. StandsAt c.go_on.new.cx.entries s c.go_on.result)
    (sym (rounds-begin a.cx.now.entries a.self round.result round.ensures.left round.ensures.changed round.ensures.certainty a.goals.items))
    c.go_on.ensures.stands

pub returns-clause-most : goal.returns-clause-most
returns-clause-most c =
    let n = length c.args.goals.items in
    let same : most_questions 7 (length c.new-round.result.left.items) n ≡ 8 * n =
    ap (λ (z : List (GoalSource × Goal)). most_questions 7 (length z) n) c.new-round.ensures.left ∙ most-begins n in
    subst (λ m. IfOk c.go_on.result (AsksAtMost m)) same c.go_on.ensures.most
