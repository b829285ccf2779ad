-- The results of plain recursion over the frames of a list of rules, for goals without inference variables.
use Rattle.std.specs.Prelude.{ℕ, Option}
use Rattle.infer_table.specs.declared.certainty.TypingMode.{TypingMode}
use Rattle.infer_table.specs.Responses.{AnswerTrees}
use Rattle.search_graph.specs.Plain.{IsPlain}
use Rattle.goal_evaluator.specs.Content.{Values, NestedQuestion, Fact, fact_of}
use Rattle.goal_evaluator.specs.Tables.{frame_tables}
use Rattle.goal_frames.specs.Searches.{Handles, GoalInMode, meaning}
use Rattle.goal_frames.specs.Programs.{Programs}
use Rattle.goal_frames.specs.HandlerPrograms.{programs_of}
use Rattle.goal_frames.specs.RulePrograms.{DeclaredRules, rule_goals}
use Rattle.solver_completeness.specs.ClosedTables.{AreClosed, ArePlaces}
use Rattle.solver_completeness.specs.Ways.{HasShortChains, HasOneWayWithin, HoldsByWays, IsExactFor, IsRightFor}
use Rattle.solver_completeness.specs.RuleWays.{rule_ways, IsAskedForm}

-- a context declares the list of rules
abbrev pub rule_programs : Programs frame_tables
rule_programs = programs_of rule_goals

module _ {C I R F : Type 0} (handles : Handles C I R F DeclaredRules (GoalInMode frame_tables rule_programs) (Option AnswerTrees)) where
  -- the result of plain recursion for the canonical goal, in chains of fewer than n goals
  abbrev pub IsPlainFor : DeclaredRules → TypingMode → ℕ → NestedQuestion → Option AnswerTrees → Type 0
  IsPlainFor w mode n q a = IsPlain (meaning frame_tables rule_programs handles) w n (mode, q.form) a

  -- a canonical goal without where-clauses and inference variables, and values of its placeholders
  pub record IsClosedGoal (q : NestedQuestion) (v : Values) : Type 0 where
    pub asked : IsAskedForm q
    pub closed : AreClosed q.form.kinds
    pub places : ArePlaces q.form.kinds v

  -- it is refuted exactly if it is not possible by the rules
  abbrev pub RulesAreExact : Type 0
  RulesAreExact =
      (w : DeclaredRules) (mode : TypingMode) (n : ℕ) (q : NestedQuestion) (v : Values) (a : Option AnswerTrees) → IsClosedGoal q v
      → IsPlainFor w mode n q a → IsExactFor (rule_ways w.rules) n (fact_of q v) a

  -- if at most one rule of each trait reference has premises that hold, it gets a definite yes if it holds, and is refuted
  -- otherwise
  abbrev pub RulesAreRight : (Fact → Type 0) → Type 0
  RulesAreRight Holds =
      (w : DeclaredRules) → HoldsByWays (rule_ways w.rules) Holds
      → (mode : TypingMode) (n : ℕ) (q : NestedQuestion) (v : Values) (a : Option AnswerTrees) → IsClosedGoal q v
      → HasOneWayWithin (rule_ways w.rules) Holds n (fact_of q v) → IsPlainFor w mode n q a → IsRightFor frame_tables Holds (fact_of q v) a

  -- there is a result if the chains of premises are short
  abbrev pub RulesAnswer : Type 0
  RulesAnswer =
      (w : DeclaredRules) (mode : TypingMode) (n : ℕ) (q : NestedQuestion) (v : Values) → IsClosedGoal q v
      → HasShortChains (rule_ways w.rules) n (fact_of q v) → (a : Option AnswerTrees) × IsPlainFor w mode n q a
