use Rattle.std.proofs.Common.{Some, ◌∙◌, ap}
use Rattle.std.proofs.lemmas.Result.{IfOk-weaker}
use Rattle.infer_table.specs.Responses.{AnswerTrees, answer_trees}
use Rattle.goal_frames.proofs.Responses.{content_trees}
use Rattle.candidate_assembly.proofs.Ends.{clause-end, no-clause-end}
use Rattle.candidate_assembly.proofs.merge.take_clause.Goals as goal

pub returns-in_ok-ignored-in-Some-clause-is : goal.returns-in_ok-ignored-in-Some-clause-is
returns-in_ok-ignored-in-Some-clause-is c = λ seen h kind.
    let es = c.args.cx.now.entries in
    clause-end es c.args.variables.now c.args.done.now seen h (answer_trees es c.in_ok-response-in-Some.response) c.in-Some.number c.in_ok-ignored-in-Some.ignored.items
    (ap (λ (r : AnswerTrees). Some (r, c.in-Some.number)) (ap (content_trees es) c.in_ok-response-in-Some.ensures) ∙ c.in-Some.ensures.is)
    (c.in_ok-ignored-in-Some.ensures es)

pub returns-in-None-clause-is : goal.returns-in-None-clause-is
returns-in-None-clause-is c =
    let es = c.args.cx.now.entries in
    let new = c.merge_from.new.cx.entries in
    IfOk-weaker c.merge_from.result _ _
    (no-clause-end es new c.args.variables.now c.args.done.now c.in-None.ensures.is) c.merge_from.ensures.is
