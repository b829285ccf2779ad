-- The result of evaluating a goal of a table.
use Rattle.std.specs.Prelude.{◌≡◌, ◌+◌, ℕ, true, List}
use Rattle.type_terms.specs.Promised.Handles.{Entry}
use Rattle.infer_table.specs.Canonical.{CanonicalForm, canonical_form}
use Rattle.infer_table.specs.Content.{Table}
use Rattle.infer_table.specs.declared.certainty.TypingMode.{TypingMode}
use Rattle.search_graph.specs.Meaning.{Meaning}
use Rattle.search_graph.specs.Computed.{IsComputed, IsGiven}
use Rattle.search_graph.specs.Plain.{IsPlain}
use Rattle.search_graph.specs.Proof.{HasGraphProof}
use Rattle.infer_table.specs.declared.goal.Goal.{Goal}
use Rattle.infer_table.specs.Responses.{AnswerTrees}
use Rattle.goal_evaluator.specs.TableAnswers.{has_values}
use Rattle.solver_graph.specs.Roots.{goal_in}
use Rattle.solver_graph.specs.Changes.{changed}
use Rattle.solver_graph.specs.declared.outcome.GoalEvaluation.{GoalEvaluation}

-- the input of the search: the canonical form of the goal as the table resolves it, in this typing mode
abbrev pub asked_in : TypingMode → List Entry → Table → Goal → TypingMode × CanonicalForm
asked_in mode es t g = (mode, canonical_form (goal_in es t g))

-- The search gives the goal this response: its frames compute it, and plain recursion within the depth has no other result.
pub record IsFoundBySearch {C I R F : Type 0} (m : Meaning C I R F) (w : m.World) (depth : ℕ) (g : m.Goal) (a : m.Answer) : Type 0 where
  pub computed : IsComputed m w (IsGiven m w) g a
  pub plain : (b : m.Answer) → IsPlain m w (depth + 1) g b → b ≡ a

-- the evaluation has the response's certainty and changes
pub record Says (e : GoalEvaluation) (a : AnswerTrees) : Type 0 where
  pub certainty : e.certainty ≡ a.certainty
  pub has_changed : e.has_changed ≡ changed (has_values a)

-- each solution of the goal agrees with the response, and a yes has a proof graph
pub record IsRight {C I R F : Type 0} (m : Meaning C I R F) (w : m.World) (g : m.Goal) (a : m.Answer) : Type 0 where
  pub covers : m.Covers w g a
  pub yes : m.is_yes a ≡ true → HasGraphProof m.Goal (m.Follows w) g
