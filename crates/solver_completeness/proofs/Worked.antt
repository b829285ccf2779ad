-- An example of two rules and their rule instances: `u8: Show`, and `Vec<T>: Show where T: Show`.
use Rattle.std.proofs.Common.{◌≡◌, true, List, [], ◌∷◌, refl, Some, inl, inr}
use Rattle.type_terms.specs.Promised.Label.{of_type, adt, placeholder, canonical}
use Rattle.type_terms.specs.Promised.Trees.{Trees, none, tree, leaf}
use Rattle.infer_table.specs.declared.canonical.CanonicalVarKind.TheVariants.{Ty}
use Rattle.goal_evaluator.specs.Content.{Fact}
use Rattle.goal_frames.specs.Rules.{TraitBound, goal_of, FrameRule}
use Rattle.solver_completeness.specs.Ways.{HasShortChains, IsPossible}
use Rattle.solver_completeness.specs.RuleWays.{rule_ways}

abbrev show : Trees → TraitBound
show t = record { trait = 0; arguments = t }

abbrev vec : Trees → Trees
vec t = tree (adt 1) t none

abbrev rules : List FrameRule
rules =
    record { kinds = []; head = show (leaf (adt 0)); premises = [] }
    ∷ record { kinds = Ty ∷ []; head = show (vec (leaf (canonical of_type 0))); premises = show (leaf (canonical of_type 0)) ∷ [] }
    ∷ []

abbrev shown : Trees → Fact
shown t = record { trait = Some 0; goal = goal_of (show t); proper = true }

-- u8 by the first rule, and a vector by the second
byte : rule_ways rules (shown (leaf (adt 0))) ≡ [] ∷ []
byte = refl

vector : rule_ways rules (shown (vec (leaf (adt 0)))) ≡ (shown (leaf (adt 0)) ∷ []) ∷ []
vector = refl

-- a placeholder by none
place : rule_ways rules (shown (leaf (placeholder of_type 0))) ≡ []
place = refl

vector_of_place : rule_ways rules (shown (vec (leaf (placeholder of_type 0)))) ≡ (shown (leaf (placeholder of_type 0)) ∷ []) ∷ []
vector_of_place = refl

vector_is_possible : IsPossible (rule_ways rules) 2 (shown (vec (leaf (adt 0))))
vector_is_possible = inl (inl tt, tt)

vector_is_bounded : HasShortChains (rule_ways rules) 2 (shown (vec (leaf (placeholder of_type 0))))
vector_is_bounded = ((tt, tt), tt)

vector_of_place_is_not : IsPossible (rule_ways rules) 2 (shown (vec (leaf (placeholder of_type 0)))) → ⊥
vector_of_place_is_not (inl x) = x.0
vector_of_place_is_not (inr x) = x
