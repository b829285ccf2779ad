-- Plain recursion over the frames of a list of rules is exact, and finds what holds.
use Rattle.std.proofs.Common.{Option}
use Rattle.infer_table.specs.Responses.{AnswerTrees}
use Rattle.goal_evaluator.specs.Content.{Fact}
use Rattle.goal_evaluator.specs.Tables.{frame_tables}
use Rattle.goal_evaluator.proofs.FrameTableLaws.{tables_are_lawful}
use Rattle.goal_frames.specs.Searches.{Handles, GoalInMode}
use Rattle.goal_frames.specs.RulePrograms.{DeclaredRules}
use Rattle.solver_completeness.specs.RuleAnswers.{rule_programs}
use Rattle.goal_frames.proofs.RulePrograms.{rules-are-programs}
use Rattle.solver_completeness.specs.ClosedTables.{closed_tables}
use Rattle.solver_completeness.specs.RuleAnswers.{RulesAreExact, RulesAreRight, RulesAnswer}
use Rattle.solver_completeness.proofs.ClosedLaws.{closed_tables_are_lawful}
use Rattle.solver_completeness.proofs.Induction.{plain_is_exact, plain_is_right}
use Rattle.solver_completeness.proofs.Found.{answers_plainly}
use Rattle.solver_completeness.proofs.RuleHandlers.{rules_answer_exactly, rules_are_sure}

module _ {C I R F : Type 0} (handles : Handles C I R F DeclaredRules (GoalInMode frame_tables rule_programs) (Option AnswerTrees)) where
  pub rules_are_exact : RulesAreExact handles
  rules_are_exact w mode n q v a g x =
      (plain_is_exact frame_tables tables_are_lawful closed_tables closed_tables_are_lawful rule_programs w mode (rules_answer_exactly w mode) handles n q v a g.asked g.closed g.places x).1

  pub rules_are_right : (Holds : Fact → Type 0) → RulesAreRight handles Holds
  rules_are_right Holds w holds mode n q v a g i x =
      plain_is_right frame_tables tables_are_lawful closed_tables closed_tables_are_lawful rule_programs w mode (rules_answer_exactly w mode) handles (rules_are_sure w mode) Holds holds n q v a g.asked g.closed g.places i x

  pub rules_answer : RulesAnswer handles
  rules_answer w mode n q v g s =
      answers_plainly frame_tables tables_are_lawful closed_tables closed_tables_are_lawful rule_programs rules-are-programs w mode (rules_answer_exactly w mode) handles n q v g.asked g.closed g.places s
