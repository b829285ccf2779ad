-- The handles of candidates and of handlers' requests, and the kinds of steps.
use Rattle.std.specs.Prelude.{◌≡◌, ℕ, Bool, false, List, Option, Some, None}
use Rattle.type_terms.specs.Promised.Label.{of_trait, predicate}
use Rattle.type_terms.specs.Promised.Trees.{Trees, none, tree}
use Rattle.type_terms.specs.Promised.Handles.{Entry, ArgHeld}
use Rattle.infer_table.specs.declared.terms.Equation.{Equation}
use Rattle.infer_table.specs.Canonical.{CanonicalForm}
use Rattle.infer_table.specs.Content.{AllConstraintsHeld}
use Rattle.infer_table.specs.declared.goal.Goal.{Goal}
use Rattle.infer_table.specs.declared.response.CanonicalResponse.{CanonicalResponse}
use Rattle.infer_table.specs.Goals.{GoalHeld}
use Rattle.infer_table.specs.Responses.{ResponseHeld}
use Rattle.goal_evaluator.specs.declared.candidate.CandidateSpec.{CandidateSpec}
use Rattle.goal_evaluator.specs.declared.candidate.Considered as Code
use Rattle.goal_evaluator.specs.declared.candidate.HandlerStep.{HandlerStep}
use Rattle.goal_evaluator.specs.declared.candidate.HandlerStep.TheVariants.{Consider, Answer, NoSolution}
use Rattle.goal_evaluator.specs.declared.goal.GoalSource.{GoalSource}
use Rattle.goal_evaluator.specs.declared.goal.GoalSource.TheVariants.{Misc, ImplWhereBound}
use Rattle.goal_evaluator.specs.Lists.{Every}

-- the goal is of this trait
abbrev pub IsOfTrait : ℕ → CanonicalForm → Type 0
IsOfTrait n f = (args : Trees) × (f.goal.predicate ≡ tree (predicate (of_trait n)) args none)

-- a step is coinductive if it leads to a premise and the trait of the goal is coinductive
abbrev pub is_coinductive_step : Bool → GoalSource → Bool
is_coinductive_step coinductive Misc = false
is_coinductive_step coinductive ImplWhereBound = coinductive

-- ---- the handles are of this interner
abbrev pub ResultHeld : List Entry → Option CanonicalResponse → Type 0
ResultHeld es None = Unit {0}
ResultHeld es (Some r) = ResponseHeld es r

abbrev pub ConsideredHeld : List Entry → List Code.Considered → Type 0
ConsideredHeld es done = Every (λ (d : Code.Considered). ResultHeld es d.result) done

abbrev pub EquationHeld : List Entry → Equation → Type 0
EquationHeld es e = ArgHeld es e.left × ArgHeld es e.right

pub record SpecHeld (es : List Entry) (s : CandidateSpec) : Type 0 where
  pub equations : Every (EquationHeld es) s.equations.items
  pub constraints : AllConstraintsHeld es s.region_constraints.items
  pub nested : Every (λ (n : GoalSource × Goal). GoalHeld es n.1) s.nested_goals.items

abbrev pub HandlerStepHeld : List Entry → HandlerStep → Type 0
HandlerStepHeld es (Consider s) = SpecHeld es s
HandlerStepHeld es (Answer r ignored) = ResponseHeld es r
HandlerStepHeld es NoSolution = Unit {0}
