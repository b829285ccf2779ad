-- The operations of the table of a frame.
use Rattle.std.specs.Prelude.{List, Option, ◌++◌, option_map}
use Rattle.type_terms.specs.Promised.Trees.{Trees}
use Rattle.infer_table.specs.Unification.{TableTrees}
use Rattle.infer_table.specs.declared.canonical.CanonicalVarKind.{CanonicalVarKind}
use Rattle.infer_table.specs.Responses.{AnswerTrees}
use Rattle.infer_table.specs.Applying.{table_for}
use Rattle.goal_evaluator.specs.FrameTables.{FrameTable, Nested, Equation, in_turn, labels_from, first_content, unknown, labels_for, recorded_content, pairs_in}
use Rattle.goal_evaluator.specs.TableAnswers.{originals_of, put_into}

-- the table of a goal whose variables are of these kinds
abbrev pub begin : List CanonicalVarKind → FrameTable
begin kinds = record { kinds = kinds; labels = labels_from 0 0 0 0 kinds; content = first_content kinds }

-- with new inference variables of these kinds, as values of further canonical variables
abbrev pub fresh : FrameTable → List CanonicalVarKind → FrameTable
fresh t ks = record { kinds = t.kinds; labels = t.labels ++ labels_for t.content 0 ks; content = table_for unknown t.content 0 ks }

abbrev pub with_content : FrameTable → TableTrees → FrameTable
with_content t c = record { kinds = t.kinds; labels = t.labels; content = c }

-- with these region constraints over its inference variables
abbrev pub recorded : FrameTable → Trees → FrameTable
recorded t c = with_content t (recorded_content t c)

-- with these equations, or `None` if they have no solution
abbrev pub equate : FrameTable → List Equation → Option FrameTable
equate t es = option_map (with_content t) (in_turn (pairs_in t es) t.content)

-- with the response to the nested goal applied, or `None` if that fails
abbrev pub apply : FrameTable → Nested → AnswerTrees → Option FrameTable
apply t n a = option_map (with_content t) (put_into t.content (originals_of t n) a)
