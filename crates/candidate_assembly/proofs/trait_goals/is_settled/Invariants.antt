use Rattle.std.proofs.Common.{◌≡◌, map, drop}
use Rattle.std.specs.List.{list_any}
use Rattle.goal_evaluator.specs.Readings.{ConsideredHeld}
use Rattle.goal_frames.specs.Fitting.{ConsideredFits}
use Rattle.goal_evaluator.specs.StepReadings.{shown_by}
use Rattle.candidate_assembly.proofs.Settled.{settles_at}
use Rattle.candidate_assembly.proofs.trait_goals.is_settled.Given as goal

abbrev pub invariant-done : goal.invariant-done
invariant-done l =
    let es = l.fn.cx.entries in
    let left = drop l.considered-index l.fn.done in
    ConsideredHeld es left × ConsideredFits es left × (list_any settles_at (map (shown_by es) left) ≡ list_any settles_at (map (shown_by es) l.fn.done))
