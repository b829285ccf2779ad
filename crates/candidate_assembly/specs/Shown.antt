-- The same for the shown candidates, the oldest first.
use Rattle.std.specs.Prelude.{ℕ, ◌==◌, Bool, ◌&&◌, not, if◌then◌else◌, List, [], ◌∷◌, Option, Some, None}
use Rattle.infer_table.specs.Responses.{AnswerTrees}
use Rattle.goal_evaluator.specs.Merge.{or_else}
use Rattle.goal_frames.specs.Handlers.{applies_always}
use Rattle.goal_evaluator.specs.StepReadings.{ShownCandidate}
use Rattle.candidate_model.specs.Solver.{is_clause, is_object, gives_none}

-- A yes without values and constraints, and the candidate's number.
abbrev pub yes_of : Option AnswerTrees → ℕ → Option (AnswerTrees × ℕ)
yes_of None n = None
yes_of (Some r) n = if applies_always r then Some (r, n) else None

abbrev pub clause_yes : ShownCandidate → Option (AnswerTrees × ℕ)
clause_yes x = if is_clause x.source then yes_of x.result x.number else None

-- The first such where-clause.
abbrev pub first_yes : List ShownCandidate → Option (AnswerTrees × ℕ)
first_yes [] = None
first_yes (x ∷ xs) = or_else (clause_yes x) (first_yes xs)

-- The numbers of the where-clauses but this one.
abbrev pub other_clauses : ℕ → List ShownCandidate → List ℕ
other_clauses n [] = []
other_clauses n (x ∷ xs) = if is_clause x.source && not (x.number == n) then x.number ∷ other_clauses n xs else other_clauses n xs

-- The first bound of a `dyn` that was not refused gives no types and constants.
abbrev pub first_bound_gives_none : Bool → List ShownCandidate → Bool
first_bound_gives_none otherwise [] = otherwise
first_bound_gives_none otherwise (x ∷ xs) = gives_none x.result (is_object x.source) (first_bound_gives_none otherwise xs)
