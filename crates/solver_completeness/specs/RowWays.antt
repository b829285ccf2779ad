-- The candidates of where-clauses and of built-in rules that depend only on the outermost types, as rule instances of goals
-- without inference variables.
use Rattle.std.specs.Prelude.{◌≡◌, ◌==◌, Bool, true, ◌||◌, List, [], ◌∷◌, map, Some, if◌then◌else◌}
use Rattle.type_terms.specs.Promised.Worlds.{World, Reference}
use Rattle.type_terms.specs.Promised.Rules.{Rule, same_reference, sized, copy, clone, tuple_trait, fn_ptr_trait, is_fn_trait, unsize, is_auto, sized_rules, copy_rules, auto_rules, tuple_rules, fn_ptr_rules, autos_with, call_rules, unsize_array_rules, unsize_to_dyn_rules, unsize_struct_rules}
use Rattle.type_terms.specs.Promised.Label.{dynamic}
use Rattle.type_terms.specs.Promised.Trees.{Trees, none, tree}
use Rattle.infer_table.specs.Canonical.{CanonicalForm}
use Rattle.goal_evaluator.specs.Content.{Values, Fact}
use Rattle.goal_evaluator.specs.TableOperations.{begin}
use Rattle.goal_evaluator.specs.Tables.{frame_tables}
use Rattle.solver_completeness.specs.Closed.{AreWays}
use Rattle.solver_completeness.specs.ClosedTables.{AreClosed, ArePlaces}
use Rattle.candidate_model.specs.Facts.{clauses_of, reference_in, is_plain}
use Rattle.candidate_model.specs.Declared.{is_declared_view}
use Rattle.candidate_model.specs.DeclaredWell.{are_distinct}
use Rattle.candidate_model.specs.Meaning.{ViewMeaning}
use Rattle.candidate_model.specs.Asking.{GoalOverKinds, goal_over_kinds, clauses, self_of}
use Rattle.candidate_model.specs.Candidates.{Candidate, by_sized, by_copy, by_auto, by_tuple, by_fn_ptr, by_call, by_clauses, misc, if_so, as_written, unsize_array_of, unsize_struct_of}
use Rattle.candidate_model.specs.Cover.{goal_fact}
use Rattle.solver_completeness.specs.SolverWays.{facts_beside, premises_of}

-- these built-in rules, if they are the trait's
abbrev pub if_of : Bool → List Rule → List Rule
if_of b us = if b then us else []

-- where-clauses that equal the trait reference conclude it without premises
abbrev pub clause_ways : Reference → List Reference → List (List Reference)
clause_ways r [] = []
clause_ways r (s ∷ ss) = if same_reference s r then [] ∷ clause_ways r ss else clause_ways r ss

-- one rule instance with these premises for each trait reference in the list that equals r
abbrev pub equal_ways : List Reference → Reference → List Reference → List (List Reference)
equal_ways ps r [] = []
equal_ways ps r (s ∷ ss) = if same_reference s r then ps ∷ equal_ways ps r ss else equal_ways ps r ss

-- no auto trait occurs twice among the bounds of a `dyn`
abbrev pub autos_stand_once : Trees → Bool
autos_stand_once (tree dynamic bounds o) = are_distinct (map (λ (r : Reference). r.trait) (autos_with none bounds))
autos_stand_once t = true

-- at these values the candidates are these rule instances that conclude the fact
abbrev pub AreWaysOf : GoalOverKinds → Values → Fact → List Candidate → List (List Reference) → Type 0
AreWaysOf a v g cs ways = AreWays frame_tables (begin a.kinds) v cs (facts_beside g ways)

-- each candidate applies with the premises of one rule of the instance, in the order of the rules, or has no solution
pub record RowsAreWaysAt (V : World) (a : GoalOverKinds) (v : Values) (g : Fact) (r : Reference) : Type 0 where
  pub sizeds : AreWaysOf a v g (by_sized V a) (premises_of (if_of (r.trait == sized) (sized_rules V r.args)))
  pub copies : AreWaysOf a v g (by_copy V a) (premises_of (if_of ((r.trait == copy) || (r.trait == clone)) (copy_rules r.trait r.args)))
  pub autos : AreWaysOf a v g (by_auto V a) (premises_of (if_of (is_auto V r.trait) (auto_rules V r.trait r.args)))
  pub tuples : AreWaysOf a v g (by_tuple V a) (premises_of (if_of (r.trait == tuple_trait) (tuple_rules r.args)))
  pub fn_ptrs : AreWaysOf a v g (by_fn_ptr V a) (premises_of (if_of (r.trait == fn_ptr_trait) (fn_ptr_rules r.args)))

-- for an instance without lifetimes
abbrev pub RowsAreWays : Type 0
RowsAreWays =
    (m : ViewMeaning) → is_declared_view m.view ≡ true → (f : CanonicalForm) (a : GoalOverKinds) → goal_over_kinds m.view f ≡ Some a → AreClosed f.kinds
    → (v : Values) → ArePlaces f.kinds v → is_plain (goal_fact f v) ≡ true → RowsAreWaysAt m.view a v (goal_fact f v) (reference_in (goal_fact f v))

-- the same for rules that equate terms: calls of fn pointers, and `Unsize` for arrays, for types that are no `dyn`, and for
-- structs
pub record EquatedRowsAreWaysAt (V : World) (a : GoalOverKinds) (v : Values) (g : Fact) (r : Reference) : Type 0 where
  pub calls : AreWaysOf a v g (by_call V a) (premises_of (if_of (is_fn_trait r.trait) (call_rules r.args)))
  pub arrays : AreWaysOf a v g (if_so (r.trait == unsize) (unsize_array_of V a (self_of a))) (premises_of (if_of (r.trait == unsize) (unsize_array_rules r.args)))
  pub to_dyns : AreWaysOf a v g (if_so (r.trait == unsize) (as_written V a misc (unsize_to_dyn_rules V (self_of a)))) (premises_of (if_of (r.trait == unsize) (unsize_to_dyn_rules V r.args)))
  pub structs : AreWaysOf a v g (if_so (r.trait == unsize) (unsize_struct_of V a (self_of a))) (premises_of (if_of (r.trait == unsize) (unsize_struct_rules V r.args)))

abbrev pub EquatedRowsAreWays : Type 0
EquatedRowsAreWays =
    (m : ViewMeaning) → is_declared_view m.view ≡ true → (f : CanonicalForm) (a : GoalOverKinds) → goal_over_kinds m.view f ≡ Some a → AreClosed f.kinds
    → (v : Values) → ArePlaces f.kinds v → is_plain (goal_fact f v) ≡ true → EquatedRowsAreWaysAt m.view a v (goal_fact f v) (reference_in (goal_fact f v))

-- where-clauses that equal the instance apply without premises
abbrev pub ClausesAreWays : Type 0
ClausesAreWays =
    (m : ViewMeaning) (f : CanonicalForm) (a : GoalOverKinds) → goal_over_kinds m.view f ≡ Some a → AreClosed f.kinds → (v : Values) → ArePlaces f.kinds v
    → AreWaysOf a v (goal_fact f v) (by_clauses m.view a (clauses a)) (clause_ways (reference_in (goal_fact f v)) (clauses_of (goal_fact f v).goal.environment))
