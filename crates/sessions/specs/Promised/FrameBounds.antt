-- How many frames the queries of a session start at most. The numbers depend on what the crate sees, on the query and on the depth.
use Rattle.std.specs.Prelude.{◌≡◌, ◌≤◌, ◌+◌, ◌*◌, ℕ, max, List, [], ◌∷◌}
use Rattle.type_terms.specs.Promised.Worlds.{World, Reference}
use Rattle.goal_evaluator.specs.declared.TheConstants.{FIXPOINT_STEP_LIMIT}
use Rattle.search_graph.specs.Promised.FrameBound.{frame_bound}
use Rattle.candidate_model.specs.Promised.Widths.{declared_width, greatest, number_at, width_of}
use Rattle.text_language.specs.Promised.Declarations.{Question}
use Rattle.sessions.specs.Promised.Promises.{view_in}
use Rattle.sessions.specs.Promised.Subjects.{Subject}
use Rattle.solver_graph.specs.declared.settling.TheConstants.{MAX_ASKINGS}

-- An upper bound for the frames of the first of these trait references, under the others as where-clauses, evaluated once at this depth
-- where V is seen. Each goal is run at most eight times, and a run evaluates each nested goal of its candidates at most eight times.
abbrev pub most_frames : World → ℕ → List Reference → ℕ
most_frames V depth rs = frame_bound FIXPOINT_STEP_LIMIT (FIXPOINT_STEP_LIMIT * number_at V (max (greatest width_of rs) (declared_width V))) depth

-- Of a query for one trait reference alone:
-- - the session has started at most as many as for this
abbrev pub RefutesInFrames : Subject → Question → Subject → Type 0
RefutesInFrames old q new = q.further ≡ [] → new.frames ≤ old.frames + most_frames (view_in old.declarations old.of_crate) old.depth (q.asked ∷ [])

-- - and at most as many for each of `MAX_ASKINGS` evaluations of the query. Nothing is said of several together.
abbrev pub ProvesInFrames : Subject → Question → Subject → Type 0
ProvesInFrames old q new =
    q.further ≡ [] → new.frames ≤ old.frames + MAX_ASKINGS * most_frames (view_in old.declarations old.of_crate) old.depth (q.asked ∷ q.clauses)
