-- Responses without values, and the requests of frames in code.
use Rattle.std.specs.Prelude.{Bool, not, ◌&&◌, List, Option, Some, None}
use Rattle.type_terms.specs.Promised.Handles.{Entry}
use Rattle.search_graph.specs.declared.delegate.Request.{Request}
use Rattle.search_graph.specs.declared.delegate.Request.TheVariants.{Evaluate, EnterCandidate, FinishCandidate, IgnoreCandidate, Done}
use Rattle.search_graph.specs.declared.delegate.Reply.{Reply}
use Rattle.search_graph.specs.declared.delegate.Reply.TheVariants.{Begin, Result, Entered, Finished, Ignored}
use Rattle.infer_table.specs.declared.certainty.Certainty.{Certainty}
use Rattle.type_terms.specs.Trees.{is_no_tree}
use Rattle.infer_table.specs.declared.input.CanonicalInput.{CanonicalInput}
use Rattle.infer_table.specs.declared.response.CanonicalResponse.{CanonicalResponse}
use Rattle.infer_table.specs.Responses.{AnswerTrees}
use Rattle.goal_evaluator.specs.TableAnswers.{has_values}
use Rattle.goal_evaluator.specs.StepReadings.{result_read}
use Rattle.solver_graph.specs.Contexts.{Asked, asked_of}

-- no type or constant has a value, and there are no region constraints
abbrev pub holds_nothing : AnswerTrees → Bool
holds_nothing a = not (has_values a) && is_no_tree a.constraints

-- the certainty of a response
abbrev pub certainty_of : Option AnswerTrees → Option Certainty
certainty_of None = None
certainty_of (Some a) = Some a.certainty

-- ---- the replies and requests of frames in code
abbrev pub reply_read : List Entry → Reply (Option CanonicalResponse) → Reply (Option AnswerTrees)
reply_read es Begin = Begin
reply_read es (Result r) = Result (result_read es r)
reply_read es Entered = Entered
reply_read es (Finished n) = Finished n
reply_read es Ignored = Ignored

abbrev pub request_read : List Entry → Request CanonicalInput (Option CanonicalResponse) → Request Asked (Option AnswerTrees)
request_read es (Evaluate input kind) = Evaluate (asked_of es input) kind
request_read es EnterCandidate = EnterCandidate
request_read es FinishCandidate = FinishCandidate
request_read es (IgnoreCandidate n) = IgnoreCandidate n
request_read es (Done r) = Done (result_read es r)
