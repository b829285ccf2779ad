-- What is proved of a query's goal with the values of its table.
use Rattle.std.specs.Prelude.{true, Bool, List}
use Rattle.type_terms.specs.Promised.Trees.{erase}
use Rattle.type_terms.specs.Promised.Handles.{Entry}
use Rattle.type_terms.specs.Terms.{Lawful}
use Rattle.infer_table.specs.Canonical.{GoalTrees}
use Rattle.infer_table.specs.Content.{Table, content, Ready}
use Rattle.infer_table.specs.Goals.{GoalHeld, goal_trees}
use Rattle.infer_table.specs.Solutions.{Assignment, Binding, Solves, resolved}
use Rattle.infer_table.specs.declared.goal.Goal.{Goal}
use Rattle.goal_evaluator.specs.Content.{Fact, trait_of}
use Rattle.goal_evaluator.specs.Proof as Lists
use Rattle.solver_graph.specs.Roots.{fact_under}

-- The goal with the values of these bindings put in, without lifetimes. A variable without a value stands for itself.
abbrev pub fact_with_values : List Binding → GoalTrees → Fact
fact_with_values bs g = record { trait = trait_of g.predicate; goal = record { environment = erase (resolved bs g.environment); predicate = erase (resolved bs g.predicate) }; proper = true }

-- What has a proof at each solution of a table has one with the table's values.
abbrev pub ValuesAreProved : (Fact → List Fact → Type 0) → (Fact → Bool) → Type 0
ValuesAreProved Rule coinductive =
    (es : List Entry) (t : Table) (g : Goal) → Lawful es → Ready es t → GoalHeld es g
    → ((s : Assignment) → Solves s (content es t.values) → Lists.FactHasProof Fact Rule coinductive (fact_under s (goal_trees es g)))
    → Lists.FactHasProof Fact Rule coinductive (fact_with_values (content es t.values) (goal_trees es g))
