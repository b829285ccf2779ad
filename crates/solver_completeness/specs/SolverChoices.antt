-- All of the solver's candidates for a goal without inference variables, as rule instances of its instance.
use Rattle.std.specs.Prelude.{◌≡◌, true, List, [], ◌∷◌, ◌++◌, Some, if◌then◌else◌}
use Rattle.type_terms.specs.Promised.Worlds.{World, Reference}
use Rattle.type_terms.specs.Promised.Rules.{strict_supertraits}
use Rattle.type_terms.specs.Promised.Proofs.{In}
use Rattle.infer_table.specs.Canonical.{CanonicalForm}
use Rattle.goal_evaluator.specs.Content.{Values, Fact}
use Rattle.solver_completeness.specs.ClosedTables.{AreClosed, ArePlaces}
use Rattle.solver_completeness.specs.ModelWays.{ways_under}
use Rattle.candidate_model.specs.Facts.{clauses_of, reference_in, is_plain}
use Rattle.candidate_model.specs.DeclaredWell.{IsDeclaredWell}
use Rattle.candidate_model.specs.Meaning.{ViewMeaning}
use Rattle.candidate_model.specs.Knowing.{is_knowable}
use Rattle.candidate_model.specs.Asking.{GoalOverKinds, goal_over_kinds}
use Rattle.candidate_model.specs.Cover.{goal_fact}
use Rattle.solver_completeness.specs.SolverPlans.{specs_in_coherence, specs_outside}
use Rattle.solver_completeness.specs.RowWays.{autos_stand_once}
use Rattle.solver_completeness.specs.BoundWays.{AreSelectedFor}

-- the supertraits of where-clauses are where-clauses
abbrev pub IsElaborated : World → List Reference → Type 0
IsElaborated V E = (s t : Reference) → In s E → In t (strict_supertraits V s) → In t E

-- outside coherence, for an instance without lifetimes, whose where-clauses are elaborated, and without duplicate auto traits in
-- a `dyn`
abbrev pub SpecsAreWays : (Fact → Type 0) → Type 0
SpecsAreWays P =
    (m : ViewMeaning) → IsDeclaredWell m.view → (f : CanonicalForm) (a : GoalOverKinds) → goal_over_kinds m.view f ≡ Some a → AreClosed f.kinds
    → (v : Values) → ArePlaces f.kinds v → is_plain (goal_fact f v) ≡ true
    → autos_stand_once (reference_in (goal_fact f v)).args ≡ true → IsElaborated m.view (clauses_of (goal_fact f v).goal.environment)
    → AreSelectedFor P a v (goal_fact f v) (specs_outside m a) (ways_under m.view (clauses_of (goal_fact f v).goal.environment) (reference_in (goal_fact f v)))

-- in coherence, where a trait reference that is not knowable has one more rule instance, by its supertraits
abbrev pub CoherenceSpecsAreWays : (Fact → Type 0) → Type 0
CoherenceSpecsAreWays P =
    (m : ViewMeaning) → IsDeclaredWell m.view → (f : CanonicalForm) (a : GoalOverKinds) → goal_over_kinds m.view f ≡ Some a → AreClosed f.kinds
    → (v : Values) → ArePlaces f.kinds v → is_plain (goal_fact f v) ≡ true
    → autos_stand_once (reference_in (goal_fact f v)).args ≡ true → IsElaborated m.view (clauses_of (goal_fact f v).goal.environment)
    → AreSelectedFor P a v (goal_fact f v) (specs_in_coherence m a)
    (ways_under m.view (clauses_of (goal_fact f v).goal.environment) (reference_in (goal_fact f v))
    ++ (if is_knowable m.view m.crate (reference_in (goal_fact f v)) then [] else strict_supertraits m.view (reference_in (goal_fact f v)) ∷ []))
