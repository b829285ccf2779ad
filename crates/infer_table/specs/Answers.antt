-- Whether a response fits a goal, over trees.
use Rattle.std.specs.Prelude.{Bool, true, false, ◌&&◌, List, [], ◌∷◌}
use Rattle.type_terms.specs.Promised.Trees.{is_sort}
use Rattle.infer_table.specs.Values.{Value}
use Rattle.infer_table.specs.Responses.{AnswerTrees}

-- the lists have the same length, and at each index values of one kind
abbrev pub have_same_sorts : List Value → List Value → Bool
have_same_sorts [] [] = true
have_same_sorts (v ∷ vs) (w ∷ ws) = is_sort v.sort w.sort && have_same_sorts vs ws
have_same_sorts vs ws = false

-- the response has a value for each of the goal's values, of the same kind
abbrev pub is_answer_to : List Value → AnswerTrees → Bool
is_answer_to originals a = have_same_sorts originals a.values
