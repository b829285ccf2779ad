-- Goals of a table: their trait references, their canonical forms, and the tables that responses leave.
use Rattle.std.specs.Prelude.{◌≡◌, true, false, Bool, List, map, Option, option_and_then}
use Rattle.type_terms.specs.Promised.Trees.{leaf}
use Rattle.type_terms.specs.Promised.Handles.{Entry}
use Rattle.type_terms.specs.declared.kinds.GenericArgKind.{GenericArgKind}
use Rattle.infer_table.specs.Canonical.{GoalTrees, CanonicalForm, canonical_form, goal_leaves}
use Rattle.infer_table.specs.Content.{Table, content, variables_of}
use Rattle.infer_table.specs.Solutions.{Assignment, Solves, instance}
use Rattle.infer_table.specs.Unification.{TableTrees, table_trees}
use Rattle.infer_table.specs.declared.certainty.TypingMode.{TypingMode}
use Rattle.infer_table.specs.declared.goal.Goal.{Goal}
use Rattle.infer_table.specs.Goals.{goal_trees, goal_resolved}
use Rattle.infer_table.specs.Inputs.{IsWithoutCanonical}
use Rattle.infer_table.specs.Leaves.{labels}
use Rattle.infer_table.specs.Values.{Value, values_of}
use Rattle.infer_table.specs.Responses.{AnswerTrees, answer_trees}
use Rattle.infer_table.specs.declared.response.CanonicalResponse.{CanonicalResponse}
use Rattle.infer_table.specs.Covers.{AreKnown, Continues, IsOfKnown}
use Rattle.goal_evaluator.specs.Handler.{Handled}
use Rattle.goal_evaluator.specs.Proof as Lists
use Rattle.goal_evaluator.specs.TableAnswers.{leaf_value, put_into, IsInstanceOfAnswer}
use Rattle.goal_evaluator.specs.Content.{Values, trait_of, Fact, NestedQuestion}
use Rattle.goal_evaluator.specs.Tables.{frame_tables}

-- the goal as the table resolves it
abbrev pub goal_in : List Entry → Table → Goal → GoalTrees
goal_in es t g = goal_resolved (content es t.values) (goal_trees es g)

-- ---- trait references
-- the trait reference of the goal, with the assigned terms in place of its inference variables, up to lifetimes, and with its
-- where-clauses
abbrev pub fact_under : Assignment → GoalTrees → Fact
fact_under s g = record { trait = trait_of g.predicate; goal = record { environment = instance s g.environment; predicate = instance s g.predicate }; proper = true }

-- The values of the variables of its canonical form: the assigned terms. Parameters and placeholders have themselves as values.
abbrev pub values_under : Assignment → GoalTrees → Values
values_under s g = record { proper = true; terms = map (λ l. instance s (leaf l)) (goal_leaves g) }

-- the canonical goal
abbrev pub question_of : GoalTrees → NestedQuestion
question_of g = record { form = canonical_form g; coinductive = false }

-- ---- goals of a table
-- No canonical variable occurs in the goal as the table resolves it. Goal and table contain only the table's inference variables.
pub record IsPosedGoal (es : List Entry) (t : Table) (g : Goal) : Type 0 where
  pub clean : IsWithoutCanonical (goal_in es t g)
  pub environment_known : AreKnown (variables_of t) (goal_in es t g).environment
  pub predicate_known : AreKnown (variables_of t) (goal_in es t g).predicate
  pub table_known : IsOfKnown (variables_of t) (content es t.values)

-- the solution of the first table extends, with terms for new inference variables, to one of the second, over this interner
abbrev pub SolutionGoesOn : Assignment → Table → List Entry → Table → Type 0
SolutionGoesOn s t es u = (r : Assignment) × Continues (variables_of t) s r × Solves r (content es u.values)

-- ---- responses
-- the values of the goal's variables
abbrev pub values_in : GoalTrees → List Value
values_in g = map leaf_value (goal_leaves g)

-- the table after the response to a goal, or `None` if there is none
abbrev pub left_by : TableTrees → GoalTrees → Option AnswerTrees → Option TableTrees
left_by t g a = option_and_then (put_into t (values_in g)) a

-- the same for a response in code, to a goal whose variables have these values
abbrev pub left_by_answer : List Entry → Table → List GenericArgKind → CanonicalResponse → Option TableTrees
left_by_answer es t values r = put_into (table_trees es t) (values_of es values) (answer_trees es r)

-- ---- solutions of a table at which goals have proofs
-- each instance of the goal by a solution has a proof
abbrev pub SolutionsAreProved : (Fact → List Fact → Type 0) → (Fact → Bool) → List Entry → Table → Goal → Type 0
SolutionsAreProved Rule coinductive es t g =
    IsWithoutCanonical (goal_in es t g) → (s : Assignment) → Solves s (content es t.values) → Lists.FactHasProof Fact Rule coinductive (fact_under s (goal_trees es g))

-- the property holds at each solution at which the goal, in this typing mode, has a proof in one of the handler's worlds
abbrev pub AtProvedSolutions : (TypingMode → CanonicalForm → Handled frame_tables) → TypingMode → List Entry → Table → Goal → (Assignment → Type 0) → Type 0
AtProvedSolutions handled mode es t g P =
    IsPosedGoal es t g → let h = handled mode (canonical_form (goal_in es t g)) in
    (x : h.World) (s : Assignment) → Solves s (content es t.values) → h.Proves x (fact_under s (goal_trees es g)) → P s

-- the property holds at each solution that agrees with the response to a goal of the table whose variables have these values
abbrev pub AtAgreeingSolutions : List Entry → Table → List GenericArgKind → CanonicalResponse → (Assignment → Type 0) → Type 0
AtAgreeingSolutions es t values r P =
    (g : GoalTrees) → labels es values ≡ goal_leaves g → AreKnown (variables_of t) g.environment → AreKnown (variables_of t) g.predicate → IsOfKnown (variables_of t) (content es t.values)
    → (s : Assignment) → Solves s (content es t.values) → IsInstanceOfAnswer (answer_trees es r) (values_under s g) → P s
