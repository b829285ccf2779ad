use Rattle.std.proofs.Common.{◌≡◌, false, map, drop}
use Rattle.goal_evaluator.specs.Readings.{ConsideredHeld}
use Rattle.goal_frames.specs.Fitting.{ConsideredFits}
use Rattle.goal_evaluator.specs.StepReadings.{shown_by}
use Rattle.candidate_assembly.specs.Shown.{first_bound_gives_none}
use Rattle.candidate_assembly.proofs.merge.first_bound_gives_none.Given as goal

abbrev pub invariant-loop-considered : goal.invariant-loop-considered
invariant-loop-considered l =
    let es = l.fn.cx.entries in
    let left = drop l.considered-index l.fn.done in
    ConsideredHeld es left × ConsideredFits es left × (first_bound_gives_none false (map (shown_by es) left) ≡ first_bound_gives_none false (map (shown_by es) l.fn.done))
