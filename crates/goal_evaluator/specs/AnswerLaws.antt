-- Laws of the responses of the tables of frames.
use Rattle.std.specs.Prelude.{◌≡◌, true}
use Rattle.infer_table.specs.declared.certainty.Certainty.{Certainty}
use Rattle.infer_table.specs.Raw.{variables_from}
use Rattle.infer_table.specs.Answers.{is_answer_to}
use Rattle.goal_evaluator.specs.FrameTables.{FrameTable, IsMadeFrame}
use Rattle.goal_evaluator.specs.TableAnswers.{IsWellFormed, respond}

-- each value is a term of its kind over the response's own variables
abbrev pub AnswersAreWellFormed : Type 0
AnswersAreWellFormed = (t : FrameTable) → IsMadeFrame t → (c : Certainty) → IsWellFormed (respond t c)

-- for each variable of the table's goal there is a value of its kind
abbrev pub AnswersAnswerTheirGoals : Type 0
AnswersAnswerTheirGoals = (t : FrameTable) → IsMadeFrame t → (c : Certainty) → is_answer_to (variables_from 0 t.kinds) (respond t c) ≡ true
