-- Which candidates the response of a trait goal merges.
use Rattle.std.specs.Prelude.{◌≡◌, Bool, true, ◌&&◌, ◌||◌, not, List, [], map, filter}
use Rattle.type_terms.specs.Promised.Handles.{Entry}
use Rattle.infer_table.specs.declared.canonical.CanonicalVarKind.{CanonicalVarKind}
use Rattle.infer_table.specs.declared.certainty.TypingMode.{TypingMode}
use Rattle.infer_table.specs.declared.certainty.TypingMode.TheVariants.{Coherence, PostAnalysis}
use Rattle.goal_evaluator.specs.declared.candidate.CandidateSource.{CandidateSource}
use Rattle.goal_evaluator.specs.declared.candidate.Considered.{Considered}
use Rattle.goal_evaluator.specs.declared.candidate.HandlerStep.{HandlerStep}
use Rattle.goal_evaluator.specs.Candidate.{answer}
use Rattle.goal_evaluator.specs.Plans.{Plan, wanted}
use Rattle.goal_evaluator.specs.PlanAnswers.{first_taken}
use Rattle.goal_evaluator.specs.TableOperations.{begin}
use Rattle.goal_evaluator.specs.Tables.{frame_tables}
use Rattle.goal_frames.specs.Handlers.{same_answer, applies_always}
use Rattle.goal_frames.specs.Merges.{responses_of, merge_of}
use Rattle.goal_evaluator.specs.StepReadings.{next_read, Shows, shown_by}
use Rattle.candidate_model.specs.Solver.{SolverPast, from, remains, is_clause, is_non_global, is_global, is_impl, is_object, is_trivial, preferred, everything}
use Rattle.candidate_assembly.specs.declared.merge.Sources.{Sources}
use Rattle.candidate_assembly.specs.declared.merge.Sources.TheVariants.{All, Trivial, NonGlobalClauses, Clauses, Bounds, Remaining}

-- ---- sources
abbrev pub is_source_among : Sources → CandidateSource → Bool
is_source_among All s = true
is_source_among Trivial s = is_trivial s
is_source_among NonGlobalClauses s = is_non_global s
is_source_among Clauses s = is_clause s
is_source_among Bounds s = is_object s
is_source_among (Remaining impls global_clauses) s = (impls || not (is_impl s)) && (global_clauses || not (is_global s))

-- The candidates with these sources.
abbrev pub from_sources : Sources → List Considered → List Considered
from_sources sources done = filter (λ (d : Considered). is_source_among sources d.source) done

-- ---- the answer
-- The end of the plan for a goal of this mode, over variables of these kinds, when no candidate is left.
abbrev pub end_in : TypingMode → List CanonicalVarKind → SolverPast → Plan frame_tables
end_in Coherence kinds seen = everything applies_always same_answer (begin kinds) seen
end_in PostAnalysis kinds seen = preferred applies_always same_answer (begin kinds) seen

-- If a where-clause is preferred, the first that is a yes without values and constraints is taken.
abbrev pub clause_taken : List CanonicalVarKind → SolverPast → Plan frame_tables
clause_taken kinds seen = first_taken frame_tables applies_always same_answer (begin kinds) (from is_clause) seen

-- The step is that end, for each past that shows these candidates.
abbrev pub IsEnd : (SolverPast → Plan frame_tables) → List Entry → List Considered → List Entry → HandlerStep → Type 0
IsEnd end old done new step = (seen : SolverPast) → Shows (map (shown_by old) done) seen → (coinductive : Bool) → next_read new coinductive step ≡ wanted frame_tables (end seen)

-- The merge of the responses with these sources, with no candidate ignored.
abbrev pub MergesFrom : Sources → List CanonicalVarKind → List Entry → List Considered → List Entry → HandlerStep → Type 0
MergesFrom sources kinds old done new step = (coinductive : Bool) → next_read new coinductive step ≡ answer (merge_of old kinds (responses_of (from_sources sources done))) []

-- The sources that remain, for each past that shows these candidates.
abbrev pub AreRemaining : Sources → List Entry → List Considered → Type 0
AreRemaining sources es done = (seen : SolverPast) → Shows (map (shown_by es) done) seen → (s : CandidateSource) → is_source_among sources s ≡ remains seen s
