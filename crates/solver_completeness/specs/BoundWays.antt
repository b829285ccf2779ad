-- Candidates for upcasts of a `dyn`, for object bounds and for impls, as rule instances of goals without inference variables.
-- Each bound is one candidate, but the rules have one entry for each path of supertraits.
use Rattle.std.specs.Prelude.{◌≡◌, ◌==◌, true, List, Some}
use Rattle.std.specs.List.{flat_map}
use Rattle.type_terms.specs.Promised.Worlds.{World, Reference}
use Rattle.type_terms.specs.Promised.Rules.{unsize, impl_rules, unsize_upcast_rules, object_rules}
use Rattle.infer_table.specs.Canonical.{CanonicalForm}
use Rattle.goal_evaluator.specs.Lists.{Every, SomeOf}
use Rattle.goal_evaluator.specs.Content.{Values, Fact}
use Rattle.solver_completeness.specs.ClosedTables.{AreClosed, ArePlaces}
use Rattle.solver_completeness.specs.Ways.{AtMostOneHolds}
use Rattle.candidate_model.specs.Facts.{reference_in, is_plain}
use Rattle.candidate_model.specs.DeclaredWell.{IsDeclaredWell}
use Rattle.candidate_model.specs.Meaning.{ViewMeaning}
use Rattle.candidate_model.specs.Asking.{GoalOverKinds, goal_over_kinds, self_of}
use Rattle.candidate_model.specs.Candidates.{Candidate, if_so, upcasts_of, by_impls, by_objects}
use Rattle.candidate_model.specs.Cover.{goal_fact}
use Rattle.solver_completeness.specs.SolverWays.{facts_beside, premises_of}
use Rattle.solver_completeness.specs.RowWays.{AreWaysOf, if_of, autos_stand_once}

-- For the property P of facts, at these values, the candidates are these rule instances up to order and duplicates, of rule
-- instances as well as of their premises.
pub record AreSelectedFor (P : Fact → Type 0) (a : GoalOverKinds) (v : Values) (g : Fact) (cs : List Candidate) (ways : List (List Reference)) : Type 0 where
  pub found : List (List Reference)
  pub are : AreWaysOf a v g cs found
  pub every : Every (Every P) (facts_beside g ways) → Every (Every P) (facts_beside g found)
  pub some : SomeOf (Every P) (facts_beside g ways) → SomeOf (Every P) (facts_beside g found)
  pub back : SomeOf (Every P) (facts_beside g found) → SomeOf (Every P) (facts_beside g ways)
  pub one : AtMostOneHolds (Every P) (facts_beside g ways) → AtMostOneHolds (Every P) (facts_beside g found)

pub record BoundRowsAreWaysAt (P : Fact → Type 0) (V : World) (a : GoalOverKinds) (v : Values) (g : Fact) (r : Reference) : Type 0 where
  pub upcasts : AreSelectedFor P a v g (if_so (r.trait == unsize) (upcasts_of V a (self_of a))) (premises_of (if_of (r.trait == unsize) (unsize_upcast_rules V r.args)))
  pub objects : autos_stand_once r.args ≡ true → AreSelectedFor P a v g (by_objects V a) (premises_of (object_rules V r r.args))

-- for an instance without lifetimes
abbrev pub BoundRowsAreWays : (Fact → Type 0) → Type 0
BoundRowsAreWays P =
    (m : ViewMeaning) → IsDeclaredWell m.view → (f : CanonicalForm) (a : GoalOverKinds) → goal_over_kinds m.view f ≡ Some a → AreClosed f.kinds
    → (v : Values) → ArePlaces f.kinds v → is_plain (goal_fact f v) ≡ true → BoundRowsAreWaysAt P m.view a v (goal_fact f v) (reference_in (goal_fact f v))

-- impls that conclude the instance apply with their where-clauses, in order, and the others have no solution
abbrev pub ImplsAreWays : Type 0
ImplsAreWays =
    (m : ViewMeaning) → IsDeclaredWell m.view → (f : CanonicalForm) (a : GoalOverKinds) → goal_over_kinds m.view f ≡ Some a → AreClosed f.kinds
    → (v : Values) → ArePlaces f.kinds v → is_plain (goal_fact f v) ≡ true
    → AreWaysOf a v (goal_fact f v) (by_impls m.view a m.view.impls) (premises_of (flat_map (impl_rules (reference_in (goal_fact f v))) m.view.impls))
