-- The widths of goals, responses and tables.
use Rattle.std.specs.Prelude.{ℕ, zero, max, ◌≤◌, List, [], ◌∷◌}
use Rattle.type_terms.specs.Promised.Trees.{Trees, none, tree}
use Rattle.infer_table.specs.Solutions.{Binding}
use Rattle.infer_table.specs.Values.{Value}
use Rattle.goal_evaluator.specs.Lists.{Every}
use Rattle.goal_evaluator.specs.Content.{NestedQuestion}
use Rattle.goal_evaluator.specs.FrameTables.{FrameTable, IsMadeFrame, Nested, Equation}
use Rattle.goal_evaluator.specs.Promised.Widths.{count, width}

-- The width of a list of predicates or where-clauses. Their arguments include the self types.
abbrev pub width_of_predicates : Trees → ℕ
width_of_predicates none = zero
width_of_predicates (tree l c o) = max (count c) (max (width c) (width_of_predicates o))

-- the width of a canonical goal, and the greatest width of a value
abbrev pub number_of : NestedQuestion → ℕ
number_of q = max (width_of_predicates q.form.goal.environment) (width_of_predicates q.form.goal.predicate)

abbrev pub number_of_values : List Value → ℕ
number_of_values [] = zero
number_of_values (v ∷ vs) = max (width v.trees) (number_of_values vs)

-- no term is wider than n
abbrev pub BindingsWithin : ℕ → List Binding → Type 0
BindingsWithin n bs = Every (λ b. width b.value ≤ n) bs

pub record TableWithin (n : ℕ) (t : FrameTable) : Type 0 where
  pub made : IsMadeFrame t
  pub values : BindingsWithin n t.content.bindings

abbrev pub NestedWithin : ℕ → Nested → Type 0
NestedWithin n g = (width_of_predicates g.goal.environment ≤ n) × (width_of_predicates g.goal.predicate ≤ n)

abbrev pub EquationWithin : ℕ → Equation → Type 0
EquationWithin n e = (width e.left.trees ≤ n) × (width e.right.trees ≤ n)
