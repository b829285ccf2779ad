-- The table after a response is applied, over trees.
use Rattle.std.specs.Prelude.{List, [], ◌∷◌, Option, Some, None, option_map, option_and_then}
use Rattle.type_terms.specs.Promised.Trees.{Trees, none, tree, ◌+++◌}
use Rattle.infer_table.specs.Unification.{TableTrees, all_recorded, unified}
use Rattle.infer_table.specs.Values.{Value, filled_values}
use Rattle.infer_table.specs.Responses.{AnswerTrees}
use Rattle.infer_table.specs.Applying.{applied_values, applied_table}

-- the trees of a list of values
abbrev pub trees_of : List Value → Trees
trees_of [] = none
trees_of (v ∷ vs) = v.trees +++ trees_of vs

-- the table after the terms of two lists are equated, pair by pair, or none if a pair is refused or one list is longer
abbrev pub solved_in_turn : TableTrees → Trees → Trees → Option TableTrees
solved_in_turn t none none = Some t
solved_in_turn t (tree l c o) (tree m d p) = option_and_then (λ u. solved_in_turn u o p) (unified t ((tree l c none, tree m d none) ∷ []))
solved_in_turn t a b = None

-- the table with further constraints, each recorded once
abbrev pub with_constraints : Trees → TableTrees → TableTrees
with_constraints c t = record t { constraints = all_recorded c t.constraints }

-- The table after a response is applied to a goal with these values, or none if it is refused. New variables are made for the
-- response's variables that have no value in the goal. Then the goal's values are equated with the response's, and the
-- response's constraints are recorded, each once.
abbrev pub applied : TableTrees → List Value → AnswerTrees → Option TableTrees
applied t originals a =
    let values = applied_values t originals a in
    option_map (with_constraints (filled_values values a.constraints)) (solved_in_turn (applied_table t originals a) (trees_of originals) (filled_values values (trees_of a.values)))
