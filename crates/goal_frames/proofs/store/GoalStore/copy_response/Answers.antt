use Rattle.std.proofs.Common.{◌∙◌, ap, sym, Some, option_map}
use Rattle.infer_table.specs.Responses.{answer_trees}
use Rattle.goal_frames.proofs.Answers.{same-answers}
use Rattle.goal_frames.proofs.Numbers.{copied-response-held}
use Rattle.goal_frames.proofs.store.GoalStore.copy_response.Goals as goal

pub returns-clause-is : goal.returns-clause-is
returns-clause-is c = (c.response.result.now, c.response.ensures.is, c.in_ok-copy.ensures.cases)

pub returns-clause-answer : goal.returns-clause-answer
returns-clause-answer c = λ es. ap (option_map (answer_trees es)) c.response.ensures.is ∙ ap Some (sym (same-answers es c.in_ok-copy.copy c.response.result.now c.in_ok-copy.ensures.cases))

pub returns-clause-held : goal.returns-clause-held
returns-clause-held c = λ es h. copied-response-held es c.in_ok-copy.copy c.response.result.now c.in_ok-copy.ensures.cases (c.response.ensures.held es h)
