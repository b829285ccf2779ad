-- The canonical form of a nested goal, and the values of its variables.
use Rattle.std.specs.Prelude.{◌≡◌, List, [], ◌∷◌, map, refl}
use Rattle.std.proofs.Common.{ap, ◌∙◌, sym}
use Rattle.type_terms.specs.Promised.Label.{Sort}
use Rattle.type_terms.specs.Promised.Trees.{Trees}
use Rattle.type_terms.specs.Promised.Handles.{Entry}
use Rattle.type_terms.specs.Terms.{Lawful}
use Rattle.type_terms.specs.declared.kinds.GenericArgKind.{GenericArgKind}
use Rattle.infer_table.specs.Canonical.{GoalTrees, goal_leaves}
use Rattle.infer_table.specs.Leaves.{AreLeaves, labels, leaf_label}
use Rattle.infer_table.specs.Values.{Value, values_of}
use Rattle.infer_table.proofs.LeafFacts.{sort-is}
use Rattle.goal_evaluator.specs.Evaluating.{leaf_value, goal_values}

same-value : (s t : Sort) (a b : Trees) → s ≡ t → a ≡ b → ◌≡◌ {A = Value} (record { sort = s; trees = a }) (record { sort = t; trees = b })
same-value s t a b e f = cc

one-more : (x y : Value) (xs ys : List Value) → x ≡ y → xs ≡ ys → ◌≡◌ {A = List Value} (x ∷ xs) (y ∷ ys)
one-more x y xs ys e f = cc

pub leaf-values : (es : List Entry) → Lawful es → (xs : List GenericArgKind) → AreLeaves es xs → values_of es xs ≡ map leaf_value (labels es xs)
leaf-values es law [] h = refl
leaf-values es law (a ∷ rest) h =
    one-more _ _ _ _ (same-value _ _ _ _ (sym (sort-is es law a (leaf_label es a) h.0.0 h.0.1)) h.0.1) (leaf-values es law rest h.1)

-- the leaves of a goal are the values of its variables
pub values-are : (es : List Entry) → Lawful es → (xs : List GenericArgKind) (g : GoalTrees) → AreLeaves es xs → labels es xs ≡ goal_leaves g → values_of es xs ≡ goal_values g
values-are es law xs g h e = leaf-values es law xs h ∙ ap (map leaf_value) e
