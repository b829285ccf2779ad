-- What comes next for a goal in code, after each history that the considered candidates show.
use Rattle.std.specs.Prelude.{◌≡◌, Bool, if◌then◌else◌, List, map, Option, Some, None, option_map}
use Rattle.type_terms.specs.Promised.Handles.{Entry}
use Rattle.infer_table.specs.Inputs.{form_of}
use Rattle.infer_table.specs.declared.certainty.TypingMode.{TypingMode}
use Rattle.infer_table.specs.declared.certainty.TypingMode.TheVariants.{Coherence}
use Rattle.infer_table.specs.declared.input.CanonicalInput.{CanonicalInput}
use Rattle.goal_evaluator.specs.declared.candidate.CandidateSpec.{CandidateSpec}
use Rattle.goal_evaluator.specs.declared.candidate.Considered.{Considered}
use Rattle.goal_evaluator.specs.Candidate.{IsHistory}
use Rattle.goal_evaluator.specs.Handler.{Handled}
use Rattle.goal_evaluator.specs.Merge.{or_else}
use Rattle.goal_evaluator.specs.Table.{workings}
use Rattle.goal_evaluator.specs.Tables.{frame_tables}
use Rattle.goal_evaluator.specs.StepReadings.{Shows, shown_by, handled_for}
use Rattle.declarations.specs.Items.{Items, written}
use Rattle.candidate_model.specs.Asking.{goal_over_kinds}
use Rattle.candidate_model.specs.Candidates.{Candidate, unsure}
use Rattle.candidate_model.specs.Solver.{SolverPast}
use Rattle.candidate_assembly.specs.Fitting.{solving_of}
use Rattle.built_in_candidates.specs.Goals.{asked_of, candidate_of}
use Rattle.candidate_assembly.specs.Sections.{early, late, is_first_step, next_inside, next_outside, next_in, decided, next_candidate}
use Rattle.candidate_assembly.specs.Solving.{meaning_for, solver_for}

-- What is meant for the goal.
abbrev pub handled_in : List Entry → Items → CanonicalInput → Handled frame_tables
handled_in es d g = handled_for solver_for (λ (items : Items) (entries : List Entry). solving_of entries items) d es g

-- P holds for each history of the goal that shows these candidates.
abbrev pub ForEachHistory : List Entry → Items → CanonicalInput → List Considered → (SolverPast → Type 0) → Type 0
ForEachHistory es d g done P = (seen : SolverPast) → Shows (map (shown_by es) done) seen → IsHistory (workings frame_tables) (handled_in es d g).next seen → P seen

-- The candidate is the next one in each of them. If there is none, none is next.
abbrev pub IsNextBy : (SolverPast → Option Candidate) → List Entry → Items → CanonicalInput → List Considered → List Entry → Option CandidateSpec → Type 0
IsNextBy next old d g done new o = ForEachHistory old d g done (λ seen. option_map (candidate_of (written old d) g.goal.predicate.trait_ref.def_id.index new) o ≡ next seen)

-- ---- what is next for the goal
abbrev pub early_in : List Entry → Items → CanonicalInput → SolverPast → Option Candidate
early_in es d g seen = early (written es d) (asked_of es g) seen

abbrev pub late_in : List Entry → Items → CanonicalInput → SolverPast → Option Candidate
late_in es d g seen = late (written es d) (asked_of es g) seen

abbrev pub early_or_late_in : List Entry → Items → CanonicalInput → SolverPast → Option Candidate
early_or_late_in es d g seen = or_else (early_in es d g seen) (late_in es d g seen)

abbrev pub next_inside_in : List Entry → Items → CanonicalInput → SolverPast → Option Candidate
next_inside_in es d g seen = next_inside (written es d) d.local (asked_of es g) seen

abbrev pub next_outside_in : List Entry → Items → CanonicalInput → SolverPast → Option Candidate
next_outside_in es d g seen = next_outside (written es d) (asked_of es g) seen

abbrev pub next_decided : List Entry → Items → CanonicalInput → SolverPast → Option Candidate
next_decided es d g seen = next_in (meaning_for (solving_of es d) (form_of es g)) g.mode (asked_of es g) seen

abbrev pub next_undecided : SolverPast → Option Candidate
next_undecided seen = if is_first_step seen then Some unsure else None

abbrev pub next_for : List Entry → Items → CanonicalInput → SolverPast → Option Candidate
next_for es d g seen =
    let m = meaning_for (solving_of es d) (form_of es g) in
    next_candidate m g.mode (decided m (goal_over_kinds m.view (form_of es g))) seen

-- A goal that is not decided is merged as in coherence.
abbrev pub mode_at_end : TypingMode → Bool → TypingMode
mode_at_end mode b = if b then mode else Coherence
