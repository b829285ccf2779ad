use Rattle.std.proofs.Common.{◌≡◌, ◌++◌, List, map, drop}
use Rattle.type_terms.specs.Promised.Handles.{Entry}
use Rattle.goal_evaluator.specs.StepReadings.{shown_by}
use Rattle.candidate_assembly.specs.Shown.{other_clauses}
use Rattle.candidate_assembly.proofs.merge.other_clauses.Given as goal

abbrev pub invariant-loop-considered : goal.invariant-loop-considered
invariant-loop-considered l =
    (es : List Entry) → l.numbers.items ++ other_clauses l.fn.number (map (shown_by es) (drop l.considered-index l.fn.done)) ≡ other_clauses l.fn.number (map (shown_by es) l.fn.done)
