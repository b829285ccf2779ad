-- How many nested goals the candidates of a goal have together.
use Rattle.std.specs.Prelude.{◌≡◌, ◌≤◌, ◌<◌, ◌+◌, ◌*◌, ℕ, ◌∷◌, Some}
use Rattle.type_terms.specs.Promised.Worlds.{World}
use Rattle.infer_table.specs.Canonical.{CanonicalForm}
use Rattle.goal_evaluator.specs.Plans.{nested_in}
use Rattle.goal_evaluator.specs.Tables.{frame_tables}
use Rattle.candidate_model.specs.Asking.{GoalOverKinds, goal_over_kinds}
use Rattle.candidate_model.specs.Candidates.{unknowable}
use Rattle.candidate_model.specs.Cover.{all_candidates}
use Rattle.candidate_model.specs.DeclaredWell.{IsDeclaredWell}
use Rattle.candidate_model.specs.Meaning.{ViewMeaning}
use Rattle.candidate_model.specs.Promised.Widths.{clauses_in, declared_width, number_at}
use Rattle.candidate_model.specs.Solver.{widest_of}

-- They are no more than the promised number.
abbrev pub NestedGoalsAreFew : Type 0
NestedGoalsAreFew =
    (m : ViewMeaning) → IsDeclaredWell m.view → (f : CanonicalForm) (a : GoalOverKinds) → goal_over_kinds m.view f ≡ Some a
    → nested_in frame_tables (unknowable m.view a ∷ all_candidates m.view a) ≤ number_at m.view (widest_of m.view f)

-- With k where-clauses of impls, and nothing in the view wider than m, that number is less than k + (m + 2)².
abbrev pub NumberIsSmall : Type 0
NumberIsSmall = (V : World) (m : ℕ) → declared_width V ≤ m → number_at V m < clauses_in V + (m + 2) * (m + 2)
