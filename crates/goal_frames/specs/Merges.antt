-- The result after all candidates.
use Rattle.std.specs.Prelude.{List, [], ◌∷◌, map, Option, Some, None}
use Rattle.type_terms.specs.Promised.Handles.{Entry}
use Rattle.infer_table.specs.declared.canonical.CanonicalVarKind.{CanonicalVarKind}
use Rattle.infer_table.specs.declared.response.CanonicalResponse.{CanonicalResponse}
use Rattle.infer_table.specs.Responses.{AnswerTrees, answer_trees}
use Rattle.goal_evaluator.specs.Merge.{merge_or_flounder}
use Rattle.goal_evaluator.specs.declared.candidate.Considered.{Considered}
use Rattle.goal_evaluator.specs.TableOperations.{begin}
use Rattle.goal_evaluator.specs.Tables.{frame_tables}
use Rattle.goal_frames.specs.Handlers.{same_answer, applies_always}

abbrev pub with_response : Option CanonicalResponse → List CanonicalResponse → List CanonicalResponse
with_response None rs = rs
with_response (Some r) rs = r ∷ rs

-- of those that have a response
abbrev pub responses_of : List Considered → List CanonicalResponse
responses_of [] = []
responses_of (c ∷ done) = with_response c.result (responses_of done)

-- the merge of the responses to a goal with variables of these kinds, or what replaces it
abbrev pub merge_of : List Entry → List CanonicalVarKind → List CanonicalResponse → Option AnswerTrees
merge_of es kinds rs = merge_or_flounder frame_tables applies_always same_answer (begin kinds) (map (answer_trees es) rs)
