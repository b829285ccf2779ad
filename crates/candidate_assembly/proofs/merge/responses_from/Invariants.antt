use Rattle.std.proofs.Common.{◌≡◌, ◌++◌, map, drop}
use Rattle.goal_evaluator.specs.Responses.{content}
use Rattle.goal_frames.specs.Merges.{responses_of}
use Rattle.candidate_assembly.specs.Merging.{from_sources}
use Rattle.candidate_assembly.proofs.merge.responses_from.Given as goal

abbrev pub invariant-loop-considered : goal.invariant-loop-considered
invariant-loop-considered l =
    map content l.responses.items ++ map content (responses_of (from_sources l.fn.sources (drop l.considered-index l.fn.done))) ≡ map content (responses_of (from_sources l.fn.sources l.fn.done))
