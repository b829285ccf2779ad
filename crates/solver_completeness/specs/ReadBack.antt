-- The rule instances of facts are those of their trait references.
use Rattle.std.specs.Prelude.{◌≡◌, true, List, [], map}
use Rattle.type_terms.specs.Promised.Worlds.{World, Reference}
use Rattle.type_terms.specs.Promised.Answers.{is_closed}
use Rattle.goal_evaluator.specs.Content.{Fact}
use Rattle.candidate_model.specs.Facts.{clauses_of, reference_in}
use Rattle.candidate_model.specs.Meaning.{ViewMeaning}
use Rattle.solver_completeness.specs.ModelWays.{ways_under, ways_for}
use Rattle.solver_completeness.specs.SolverWays.{ways_outside, ways_in_coherence}

-- facts as trait references
abbrev pub read_back : List (List Fact) → List (List Reference)
read_back ways = map (λ ps. map reference_in ps) ways

abbrev pub OutsideComesBack : Type 0
OutsideComesBack = (V : World) (f : Fact) → read_back (ways_outside V f) ≡ ways_under V (clauses_of f.goal.environment) (reference_in f)

-- in coherence, for concrete trait references without where-clauses
abbrev pub CoherenceComesBack : Type 0
CoherenceComesBack =
    (m : ViewMeaning) (f : Fact) → clauses_of f.goal.environment ≡ [] → is_closed (reference_in f).args ≡ true → read_back (ways_in_coherence m f) ≡ ways_for m.view m.crate (reference_in f)
