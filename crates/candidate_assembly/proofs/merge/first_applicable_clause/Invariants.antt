use Rattle.std.proofs.Common.{◌≡◌, map, drop}
use Rattle.goal_evaluator.specs.Readings.{ConsideredHeld}
use Rattle.goal_frames.specs.Fitting.{ConsideredFits}
use Rattle.goal_evaluator.specs.StepReadings.{shown_by}
use Rattle.candidate_assembly.specs.Shown.{first_yes}
use Rattle.candidate_assembly.proofs.merge.first_applicable_clause.Given as goal

abbrev pub invariant-loop-considered : goal.invariant-loop-considered
invariant-loop-considered l =
    let es = l.fn.cx.entries in
    let left = drop l.considered-index l.fn.done in
    ConsideredHeld es left × ConsideredFits es left × (first_yes (map (shown_by es) left) ≡ first_yes (map (shown_by es) l.fn.done))
