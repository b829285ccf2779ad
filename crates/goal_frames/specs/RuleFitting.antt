-- The candidates of a list of rules fit the table of their frame, so code can evaluate them.
use Rattle.std.specs.Prelude.{List}
use Rattle.type_terms.specs.Promised.Label.{Label}
use Rattle.infer_table.specs.Canonical.{CanonicalForm}
use Rattle.infer_table.specs.declared.canonical.CanonicalVarKind.{CanonicalVarKind}
use Rattle.goal_evaluator.specs.Lists.{Every}
use Rattle.goal_evaluator.specs.Table.{workings}
use Rattle.goal_evaluator.specs.Candidate.{Spec}
use Rattle.goal_evaluator.specs.FrameTables.{kinds_known, Nested, Equation}
use Rattle.goal_evaluator.specs.TableOperations.{begin, fresh}
use Rattle.goal_evaluator.specs.Tables.{frame_tables}
use Rattle.goal_evaluator.specs.Fitting.{AreOver, IsGoalOver, IsValueOver}
use Rattle.goal_frames.specs.Rules.{RuleBook, AreRules}
use Rattle.goal_frames.specs.Handlers.{bare_goal, candidates_of}

-- the values of the canonical variables in a candidate's terms: those of the goal, then the candidate's own
abbrev pub slots_of : List CanonicalVarKind → List CanonicalVarKind → List Label
slots_of kinds own = (fresh (begin kinds) own).labels

-- its terms contain only these variables
pub record IsOverSlots (labels : List Label) (c : Spec (workings frame_tables)) : Type 0 where
  pub equations : Every (λ (e : Equation). IsValueOver labels e.left × IsValueOver labels e.right) c.equations
  pub constraints : AreOver labels c.regions
  pub nested : Every (λ (n : Nested). IsGoalOver labels n.goal) c.nested

abbrev pub CandidatesFit : Type 0
CandidatesFit =
    (book : RuleBook) → AreRules book → (f : CanonicalForm)
    → Every (λ (c : Spec (workings frame_tables)). IsOverSlots (slots_of (kinds_known f.kinds) c.kinds) c) (candidates_of book (bare_goal f))
