use Rattle.goal_evaluator.specs.Tables.{frame_tables}
use Rattle.goal_evaluator.proofs.FrameTableLaws.{tables_are_lawful}
use Rattle.goal_evaluator.proofs.Ends.{yes_follows, covers_goal, is_bounded, keeps_number, ignores_finished}
use Rattle.goal_frames.proofs.Falling.{steps_fall}
use Rattle.goal_frames.proofs.handler.frames_keep_promises.Goals as goal

pub returns-clause-yes : goal.returns-clause-yes
returns-clause-yes g c = λ m mode goal. yes_follows frame_tables tables_are_lawful (g.H.GoalHandler.meaning.goals.handled m mode goal) (g.met.H.GoalHandler.lawful.goals.handlers m mode goal)

pub returns-clause-covers : goal.returns-clause-covers
returns-clause-covers g c = λ m mode goal. covers_goal frame_tables tables_are_lawful (g.H.GoalHandler.meaning.goals.handled m mode goal) (g.met.H.GoalHandler.lawful.goals.handlers m mode goal)

pub returns-clause-bounded : goal.returns-clause-bounded
returns-clause-bounded g c = λ m mode goal. is_bounded frame_tables (g.H.GoalHandler.meaning.goals.handled m mode goal) (g.met.H.GoalHandler.lawful.goals.handlers m mode goal)

pub returns-clause-number : goal.returns-clause-number
returns-clause-number g c = λ m mode goal. keeps_number frame_tables tables_are_lawful (g.H.GoalHandler.meaning.goals.handled m mode goal) (g.met.H.GoalHandler.lawful.goals.handlers m mode goal)

pub returns-clause-ignores : goal.returns-clause-ignores
returns-clause-ignores g c = λ m mode goal. ignores_finished frame_tables (g.H.GoalHandler.meaning.goals.handled m mode goal) (g.met.H.GoalHandler.lawful.goals.handlers m mode goal)

pub returns-clause-steps : goal.returns-clause-steps
returns-clause-steps g c = λ m mode goal. steps_fall (g.H.GoalHandler.meaning.goals.handled m mode goal) (g.met.H.GoalHandler.lawful.goals.handlers m mode goal)
