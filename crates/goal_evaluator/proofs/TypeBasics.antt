-- Small facts about the types of the code.
use Rattle.std.proofs.Common.{Option, option_map, ◌≡◌, None, refl, Some, ℕ, Bool}
use Rattle.goal_evaluator.specs.Content.{Fact}
use Rattle.goal_evaluator.specs.Merge.{or_else}
use Rattle.infer_table.specs.Canonical.{GoalTrees}

pub map-else : {A B : Type 0} (f : A → B) (a b : Option A) → option_map f (or_else a b) ≡ or_else (option_map f a) (option_map f b)
map-else f None b = refl
map-else f (Some x) b = refl

pub same-fact : (trait : Option ℕ) (g k : GoalTrees) (p q : Bool) → g ≡ k → p ≡ q → ◌≡◌ {A = Fact} (record { trait = trait; goal = g; proper = p }) (record { trait = trait; goal = k; proper = q })
same-fact trait g k p q e f = cc
