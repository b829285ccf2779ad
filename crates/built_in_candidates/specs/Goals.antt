-- The goals and candidates of the code as those of the model.
use Rattle.std.specs.Prelude.{ℕ, List, Bool, map}
use Rattle.type_terms.specs.Promised.Worlds.{World}
use Rattle.type_terms.specs.Promised.Rules.{is_coinductive}
use Rattle.type_terms.specs.Promised.Handles.{Entry}
use Rattle.infer_table.specs.declared.goal.Goal.{Goal}
use Rattle.infer_table.specs.declared.input.CanonicalInput.{CanonicalInput}
use Rattle.infer_table.specs.Goals.{GoalHeld, environment_trees}
use Rattle.goal_evaluator.specs.declared.candidate.CandidateSpec.{CandidateSpec}
use Rattle.goal_evaluator.specs.declared.goal.GoalSource.{GoalSource}
use Rattle.goal_evaluator.specs.Lists.{Every}
use Rattle.goal_evaluator.specs.FrameTables.{Nested}
use Rattle.goal_evaluator.specs.StepReadings.{nested_read, spec_read}
use Rattle.declarations.specs.Items.{reference_in}
use Rattle.candidate_model.specs.Asking.{GoalOverKinds}
use Rattle.candidate_model.specs.Candidates.{Candidate}

-- The goal of a canonical input: its where-clauses and its trait reference, over the variables with its kinds.
abbrev pub asked_of : List Entry → CanonicalInput → GoalOverKinds
asked_of es a = record { kinds = a.variables.items; environment = environment_trees es a.goal.param_env.items; reference = reference_in es a.goal.predicate.trait_ref }

-- The candidate that a `CandidateSpec` stands for, for a goal of the trait t.
abbrev pub candidate_of : World → ℕ → List Entry → CandidateSpec → Candidate
candidate_of V t es s = spec_read es (is_coinductive V t) s

-- The nested goals. The flag says whether a step to a premise is coinductive.
abbrev pub nested_of : List Entry → Bool → List (GoalSource × Goal) → List Nested
nested_of es kind ns = map (nested_read es kind) ns

-- The goals' terms are of this interner.
abbrev pub NestedGoalsHeld : List Entry → List (GoalSource × Goal) → Type 0
NestedGoalsHeld es ns = Every (λ (n : GoalSource × Goal). GoalHeld es n.1) ns
