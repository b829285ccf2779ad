-- What holds of candidates holds of those from some sources.
use Rattle.std.proofs.Common.{Bool, true, false, if◌then◌else◌, List, [], ◌∷◌}
use Rattle.type_terms.specs.Promised.Handles.{Entry}
use Rattle.goal_evaluator.specs.declared.candidate.Considered.{Considered}
use Rattle.goal_evaluator.specs.Lists.{Every}
use Rattle.goal_evaluator.specs.Readings.{ResultHeld, ConsideredHeld}
use Rattle.goal_frames.specs.Fitting.{ResultFits, ConsideredFits}
use Rattle.candidate_assembly.specs.declared.merge.Sources.{Sources}
use Rattle.candidate_assembly.specs.Merging.{is_source_among, from_sources}

every-from : (P : Considered → Type 0) (sources : Sources) (done : List Considered) → Every P done → Every P (from_sources sources done)
every-from P sources [] h = tt
every-from P sources (d ∷ done) h = by (is_source_among sources d.source) (every-from P sources done h.1)
  where
    by : (b : Bool) → Every P (from_sources sources done) → Every P (if b then d ∷ from_sources sources done else from_sources sources done)
    by true g = (h.0, g)
    by false g = g

pub from-held : (es : List Entry) (sources : Sources) (done : List Considered) → ConsideredHeld es done → ConsideredHeld es (from_sources sources done)
from-held es sources done h = every-from (λ d. ResultHeld es d.result) sources done h

pub from-fits : (es : List Entry) (sources : Sources) (done : List Considered) → ConsideredFits es done → ConsideredFits es (from_sources sources done)
from-fits es sources done h = every-from (λ d. ResultFits es d.result) sources done h
