-- The solutions of a nested goal are looked for everywhere that those of the goal are looked for.
use Rattle.std.specs.Prelude.{◌≡◌, Bool}
use Rattle.infer_table.specs.Canonical.{CanonicalForm}
use Rattle.infer_table.specs.declared.certainty.TypingMode.{TypingMode}
use Rattle.infer_table.specs.Responses.{AnswerTrees}
use Rattle.goal_evaluator.specs.Handler.{Handled}
use Rattle.goal_evaluator.specs.History.{evaluate, asks, CameInOrder}
use Rattle.goal_evaluator.specs.Promises.{frame_of_goal, Anything, History}
use Rattle.goal_evaluator.specs.Content.{Fact, NestedQuestion}
use Rattle.goal_evaluator.specs.Tables.{frame_tables}
use Rattle.candidate_model.specs.Meaning.{ViewMeaning}
use Rattle.candidate_model.specs.Solver.{solver_handled}

-- For each place of the goal there is one of the nested goal that gives proofs to at least as much.
abbrev pub LinkedSetsProveNoMore : Handled frame_tables → Handled frame_tables → Type 0
LinkedSetsProveNoMore h nested = (x : h.World) → (y : nested.World) × ((f : Fact) → h.Proves x f → nested.Proves y f)

-- This holds after any responses to earlier nested goals.
abbrev pub KeepWorlds : Type 0
KeepWorlds =
    (applicable : AnswerTrees → Bool) (same : AnswerTrees → AnswerTrees → Bool) (m : ViewMeaning) (mode : TypingMode) (f : CanonicalForm)
    (heard : History frame_tables (solver_handled applicable same m mode f)) (q : NestedQuestion)
    → CameInOrder (Anything frame_tables (solver_handled applicable same m mode f)) (frame_of_goal frame_tables (solver_handled applicable same m mode f)) heard
    → asks (frame_of_goal frame_tables (solver_handled applicable same m mode f)) heard ≡ evaluate q
    → LinkedSetsProveNoMore (solver_handled applicable same m mode f) (solver_handled applicable same m mode q.form)
