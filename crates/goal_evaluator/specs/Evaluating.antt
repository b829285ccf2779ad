-- What the evaluating calls of a context do, over terms.
use Rattle.std.specs.Prelude.{◌≡◌, not, List, [], ◌∷◌, map, Option, Some, option_map, if◌then◌else◌}
use Rattle.type_terms.specs.Promised.Label.{Label}
use Rattle.type_terms.specs.Promised.Trees.{leaf, sort_of}
use Rattle.type_terms.specs.Promised.Handles.{Entry}
use Rattle.infer_table.specs.Canonical.{GoalTrees, CanonicalForm, canonical_form, goal_leaves}
use Rattle.infer_table.specs.declared.certainty.Certainty.{Certainty}
use Rattle.infer_table.specs.declared.certainty.Certainty.TheVariants.{Yes}
use Rattle.infer_table.specs.declared.certainty.TypingMode.{TypingMode}
use Rattle.infer_table.specs.Certainties.{unsettled}
use Rattle.infer_table.specs.declared.input.CanonicalInput.{CanonicalInput}
use Rattle.infer_table.specs.declared.response.CanonicalResponse.{CanonicalResponse}
use Rattle.infer_table.specs.Goals.{environment_trees, predicate_trees, goal_resolved}
use Rattle.infer_table.specs.Inputs.{form_of}
use Rattle.infer_table.specs.Values.{Value}
use Rattle.goal_evaluator.specs.declared.goal.GoalSource.{GoalSource}
use Rattle.goal_evaluator.specs.Operations.{Operations}
use Rattle.goal_evaluator.specs.Responses.{is_identity_modulo_regions}
use Rattle.infer_table.specs.Content.{Table, content}
use Rattle.infer_table.specs.Unification.{TableTrees}
use Rattle.infer_table.specs.Responses.{AnswerTrees, answer_trees}
use Rattle.infer_table.specs.Answers.{is_answer_to}
use Rattle.infer_table.specs.Applied.{applied}
use Rattle.goal_evaluator.specs.Context.{NestedGoal}

-- a canonical goal with its typing mode and its source
pub record AskedQuestion : Type 0 where
  pub mode : TypingMode
  pub form : CanonicalForm
  pub source : GoalSource

abbrev pub question_of : List Entry → CanonicalInput → GoalSource → AskedQuestion
question_of es input source = record { mode = input.mode; form = form_of es input; source = source }

-- a nested goal as terms
pub record NestedTrees : Type 0 where
  pub source : GoalSource
  pub goal : GoalTrees

abbrev pub nested_trees : List Entry → NestedGoal → NestedTrees
nested_trees es n = record { source = n.source; goal = record { environment = environment_trees es n.clauses; predicate = predicate_trees es n.predicate } }

abbrev pub goals_trees : List Entry → List NestedGoal → List NestedTrees
goals_trees es ns = map (nested_trees es) ns

abbrev pub replies_trees : List Entry → List (Option CanonicalResponse) → List (Option AnswerTrees)
replies_trees es rs = map (option_map (answer_trees es)) rs

-- an open leaf as a value
abbrev pub leaf_value : Label → Value
leaf_value l = record { sort = sort_of l; trees = leaf l }

-- the values of the variables of a goal's canonical form
abbrev pub goal_values : GoalTrees → List Value
goal_values g = map leaf_value (goal_leaves g)

-- A response applied to a table. `None` if that fails. A response that does not fit the goal changes nothing.
unfoldable pub put_into : TableTrees → List Value → AnswerTrees → Option TableTrees
put_into t originals a = if is_answer_to originals a then applied t originals a else Some t

-- the operations of rounds in this typing mode
abbrev pub evaluation : TypingMode → Operations AskedQuestion AnswerTrees
evaluation mode =
    record {
      Table = TableTrees;
      Nested = NestedTrees;
      question = λ T n. record { mode = mode; form = canonical_form (goal_resolved T.bindings n.goal); source = n.source };
      apply = λ T n r. put_into T (goal_values (goal_resolved T.bindings n.goal)) r;
      certainty = λ r. r.certainty;
      has_values = λ r. not (is_identity_modulo_regions 0 r.values);
    }

-- the input, over the interner `new`, is the canonical form of this goal in this table, over the interner `old`
abbrev pub IsAskedBy : TypingMode → List Entry → Table → NestedGoal → List Entry → CanonicalInput → Type 0
IsAskedBy mode old t n new input =
    ◌≡◌ {A = AskedQuestion} (record { mode = mode; form = canonical_form (goal_resolved (content old t.values) (nested_trees old n).goal); source = n.source }) (question_of new input n.source)

-- the values of the variables of that canonical form
abbrev pub values_asked : List Entry → Table → NestedGoal → List Value
values_asked es t n = goal_values (goal_resolved (content es t.values) (nested_trees es n).goal)

-- how certain it is that all goals hold, if these remain and the responses to them have this joined certainty
abbrev pub certainty_with : List NestedGoal → Certainty → Certainty
certainty_with [] c = Yes
certainty_with (n ∷ ns) c = unsettled c
