-- A candidate's terms do not change as the interner grows.
use Rattle.std.proofs.Common.{◌≡◌, List, [], ◌∷◌, map, refl}
use Rattle.type_terms.specs.Promised.Trees.{Trees}
use Rattle.type_terms.specs.Promised.Handles.{Entry, Keeps}
use Rattle.type_terms.specs.Kept.{arg-held-later, arg-trees-later}
use Rattle.infer_table.specs.Worklists.{equation_trees}
use Rattle.infer_table.specs.declared.terms.Equation.{Equation}
use Rattle.infer_table.specs.Goals.{GoalHeld}
use Rattle.infer_table.specs.declared.goal.Goal.{Goal}
use Rattle.infer_table.proofs.Numbers.{goal-held-later}
use Rattle.goal_evaluator.specs.Lists.{Every}
use Rattle.goal_evaluator.specs.Readings.{EquationHeld}
use Rattle.goal_evaluator.specs.declared.goal.GoalSource.{GoalSource}
use Rattle.goal_evaluator.specs.Context.{NestedHeld, nested_goal}
use Rattle.goal_evaluator.proofs.LaterTrees.{goals-trees-later}
use Rattle.goal_evaluator.specs.Trial.{equations_trees, premises_trees}
use Rattle.type_terms.proofs.ListBasics.{one-more}

both : (a b c d : Trees) → a ≡ b → c ≡ d → ◌≡◌ {A = Trees × Trees} (a, c) (b, d)
both a b c d e f = cc

pub held-goals : (es : List Entry) (ns : List (GoalSource × Goal)) → Every (λ (n : GoalSource × Goal). GoalHeld es n.1) ns → NestedHeld es (map nested_goal ns)
held-goals es [] h = tt
held-goals es (n ∷ ns) h = (record { clauses = h.0.environment; predicate = h.0.predicate }, held-goals es ns h.1)

module _ (old new : List Entry) (k : Keeps old new) where
  pub equation-later : (e : Equation) → EquationHeld old e → equation_trees new e ≡ equation_trees old e
  equation-later e h = both _ _ _ _ (arg-trees-later old new k e.left h.0) (arg-trees-later old new k e.right h.1)

  pub equation-held-later : (e : Equation) → EquationHeld old e → EquationHeld new e
  equation-held-later e h = (arg-held-later old new k e.left h.0, arg-held-later old new k e.right h.1)

  pub equations-later : (es : List Equation) → Every (EquationHeld old) es → equations_trees new es ≡ equations_trees old es
  equations-later [] h = refl
  equations-later (e ∷ es) h = one-more _ _ _ _ (equation-later e h.0) (equations-later es h.1)

  pub equations-held-later : (es : List Equation) → Every (EquationHeld old) es → Every (EquationHeld new) es
  equations-held-later [] h = tt
  equations-held-later (e ∷ es) h = (equation-held-later e h.0, equations-held-later es h.1)

  pub premises-later : (ns : List (GoalSource × Goal)) → Every (λ (n : GoalSource × Goal). GoalHeld old n.1) ns → premises_trees new ns ≡ premises_trees old ns
  premises-later ns h = goals-trees-later old new k (map nested_goal ns) (held-goals old ns h)

  pub goals-held-later : (ns : List (GoalSource × Goal)) → Every (λ (n : GoalSource × Goal). GoalHeld old n.1) ns → Every (λ (n : GoalSource × Goal). GoalHeld new n.1) ns
  goals-held-later [] h = tt
  goals-held-later (n ∷ ns) h = (goal-held-later old new k n.1 h.0, goals-held-later ns h.1)
