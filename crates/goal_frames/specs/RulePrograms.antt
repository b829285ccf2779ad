-- Lists of rules over terms as programs. The context declares the list.
use Rattle.std.specs.Prelude.{ℕ, Bool, List}
use Rattle.goal_evaluator.specs.Lists.{Every}
use Rattle.goal_frames.specs.Rules.{FrameRule, RuleBook, IsRule, fact_is_coinductive, FollowsByRule}
use Rattle.goal_frames.specs.Handlers.{handled_by}
use Rattle.goal_frames.specs.Meanings.{Goals}
use Rattle.goal_frames.specs.HandlerPrograms.{HandlersArePrograms}

-- well-formed rules
pub record DeclaredRules : Type 0 where
  pub rules : List FrameRule
  pub made : Every IsRule rules
  -- by the trait's number
  pub coinductive : ℕ → Bool

abbrev pub book_of : DeclaredRules → RuleBook
book_of w = record { rules = w.rules; coinductive = w.coinductive }

abbrev pub rule_goals : Goals
rule_goals = record { World = DeclaredRules; handled = λ w mode f. handled_by (book_of w) mode f; Rule = λ w. FollowsByRule (book_of w); coinductive = λ w. fact_is_coinductive (book_of w) }

abbrev pub RulesArePrograms : Type 0
RulesArePrograms = HandlersArePrograms rule_goals
