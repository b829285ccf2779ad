-- The solver's handler is exact on sets of goals that are closed under nested goals.
use Rattle.std.proofs.Common.{◌≡◌, Bool, true, List, [], map, refl, sym, subst, Some}
use Rattle.infer_table.specs.Canonical.{CanonicalForm}
use Rattle.infer_table.specs.Responses.{AnswerTrees}
use Rattle.infer_table.specs.declared.certainty.TypingMode.{TypingMode}
use Rattle.infer_table.specs.declared.certainty.TypingMode.TheVariants.{Coherence, PostAnalysis}
use Rattle.type_terms.proofs.Walking.{both}
use Rattle.goal_evaluator.specs.Lists.{Every}
use Rattle.goal_evaluator.specs.Content.{Values, Fact, NestedQuestion}
use Rattle.goal_evaluator.specs.FrameTables.{kinds_known}
use Rattle.goal_evaluator.specs.TableOperations.{begin}
use Rattle.goal_evaluator.proofs.TableBeginning.{begin-made}
use Rattle.goal_evaluator.specs.Tables.{frame_tables}
use Rattle.solver_completeness.specs.Closed.{AreWays, AsksSuch}
use Rattle.solver_completeness.specs.ClosedTables.{AreClosed, ArePlaces, closed_tables}
use Rattle.solver_completeness.specs.Ways.{IsSelection}
use Rattle.solver_completeness.specs.Exact.{AnswersExactly, AreSure}
use Rattle.solver_completeness.proofs.ExactPlans.{IsExactFrom, IsExactPlan, planned-exact}
use Rattle.candidate_model.specs.Meaning.{ViewMeaning}
use Rattle.candidate_model.specs.DeclaredWell.{IsDeclaredWell}
use Rattle.candidate_model.specs.Asking.{GoalOverKinds, goal_over_kinds, all_known}
use Rattle.candidate_model.specs.Cover.{goal_fact}
use Rattle.candidate_model.specs.Solver.{solver_planned, by_mode}
use Rattle.candidate_model.proofs.Cover.{asked-by}
use Rattle.candidate_model.proofs.SoundCandidates.{kinds-whole}
use Rattle.solver_completeness.specs.SolverWays.{facts_beside}
use Rattle.solver_completeness.specs.SolverSpecs.{AreDetermined, AreFew}
use Rattle.solver_completeness.specs.SolverGoals.{specs_by, ways_by, IsGoal, AreGoals}
use Rattle.solver_completeness.specs.SolverAnswers.{meant_for, solver_programs}
use Rattle.solver_completeness.proofs.Instances.{instance, instance-is}
use Rattle.solver_completeness.proofs.SolverPlans.{silent, kinds-are, plan-is, coherence-exact, outside-exact}
use Rattle.solver_completeness.proofs.SolverSpecs.{specs-are-determined, specs-are-few, specs-are-sure}
use Rattle.solver_completeness.proofs.SolverSelections.{outside, in-coherence}

-- what the candidates apply with, as facts
pub record Chosen (m : ViewMeaning) (mode : TypingMode) (f : CanonicalForm) (a : GoalOverKinds) (v : Values) : Type 1 where
  pub found : List (List Fact)
  pub applies : AreWays frame_tables (begin a.kinds) v (specs_by m mode a) found
  pub selects : IsSelection found (ways_by m mode (goal_fact f v))

module _ (m : ViewMeaning) (well : IsDeclaredWell m.view) (f : CanonicalForm) (a : GoalOverKinds) (is_asked : goal_over_kinds m.view f ≡ Some a) (closed : AreClosed f.kinds) where
  pub chosen : (v : Values) → ArePlaces f.kinds v → IsGoal m.view (goal_fact f v) → (mode : TypingMode) → Chosen m mode f a v
  chosen v places goal mode = at mode (subst (IsGoal m.view) stands goal)
    where
      stands : goal_fact f v ≡ instance m f a is_asked closed v places
      stands = instance-is m f a is_asked closed v places

      at : (mode : TypingMode) → IsGoal m.view (instance m f a is_asked closed v places) → Chosen m mode f a v
      at Coherence g =
          let x = in-coherence m well f a is_asked closed v places goal.plain g.once g.elaborated in
          record { found = facts_beside (instance m f a is_asked closed v places) x.found; applies = x.are; selects = subst (λ (z : Fact). IsSelection (facts_beside (instance m f a is_asked closed v places) x.found) (ways_by m Coherence z)) (sym stands) x.selects }
      at PostAnalysis g =
          let x = outside m well f a is_asked closed v places goal.plain g.once g.elaborated in
          record { found = facts_beside (instance m f a is_asked closed v places) x.found; applies = x.are; selects = subst (λ (z : Fact). IsSelection (facts_beside (instance m f a is_asked closed v places) x.found) (ways_by m PostAnalysis z)) (sym stands) x.selects }

module _ (applicable : AnswerTrees → Bool) (same : AnswerTrees → AnswerTrees → Bool) (m : ViewMeaning) (sound : m.is_sound ≡ true) (well : IsDeclaredWell m.view) where
  module _ (f : CanonicalForm) (a : GoalOverKinds) (is_asked : goal_over_kinds m.view f ≡ Some a) (closed : AreClosed f.kinds) where
    pub specs-exact : (mode : TypingMode) → IsExactFrom frame_tables (specs_by m mode a) [] (by_mode applicable same (begin (kinds_known f.kinds)) m mode a)
    specs-exact Coherence = coherence-exact applicable same (begin (kinds_known f.kinds)) (silent applicable same m sound f a is_asked closed) m a
    specs-exact PostAnalysis = outside-exact applicable same (begin (kinds_known f.kinds)) (silent applicable same m sound f a is_asked closed) m a

    pub plan-exact : (mode : TypingMode) → IsExactFrom frame_tables (specs_by m mode a) [] (solver_planned applicable same m mode f).plan
    plan-exact mode = subst (IsExactFrom frame_tables (specs_by m mode a) []) (sym (plan-is applicable same m sound f a is_asked closed mode)) (specs-exact mode)

    pub specs-determined : (mode : TypingMode) → AreDetermined f (specs_by m mode a)
    specs-determined Coherence = (specs-are-determined m well f a is_asked).0
    specs-determined PostAnalysis = (specs-are-determined m well f a is_asked).1

    pub few : (mode : TypingMode) → AreFew m f (specs_by m mode a)
    few Coherence = (specs-are-few m well f a is_asked).0
    few PostAnalysis = (specs-are-few m well f a is_asked).1

    pub kinds-all : map Some (kinds_known f.kinds) ≡ f.kinds
    kinds-all =
        subst (λ ks. map Some ks ≡ f.kinds) (sym (kinds-are applicable same m sound f a is_asked closed))
        (kinds-whole f.kinds a.kinds (asked-by m.view f.goal.environment f.goal.predicate (all_known f.kinds) a is_asked).kinds_are)

-- what is considered, and what facts follow from, is that of the declarations, whatever goals fit them
pub specs-same : (m : ViewMeaning) (fits : CanonicalForm → Bool) (f : CanonicalForm) (mode : TypingMode) (a : GoalOverKinds) → specs_by m mode a ≡ specs_by (meant_for m fits f) mode a
specs-same m fits f Coherence a = refl
specs-same m fits f PostAnalysis a = refl

pub ways-same : (m : ViewMeaning) (fits : CanonicalForm → Bool) (f : CanonicalForm) (mode : TypingMode) (g : Fact) → ways_by (meant_for m fits f) mode g ≡ ways_by m mode g
ways-same m fits f Coherence g = refl
ways-same m fits f PostAnalysis g = refl

module _ (applicable : AnswerTrees → Bool) (same : AnswerTrees → AnswerTrees → Bool) (m : ViewMeaning) (sound : m.is_sound ≡ true) (well : IsDeclaredWell m.view) (fits : CanonicalForm → Bool) where
  module _ (mode : TypingMode) (IsAsked : NestedQuestion → Values → Type 0) (are : AreGoals m mode fits IsAsked) where
    -- the plan of each question of the set is exact
    abbrev pub plans_exactly : (q : NestedQuestion) (v : Values) (i : IsAsked q v) → (closed : AreClosed q.form.kinds) → ArePlaces q.form.kinds v
        → IsExactPlan frame_tables closed_tables (ways_by m mode) IsAsked q v (solver_planned applicable same (meant_for m fits q.form) mode q.form)
    plans_exactly q v i closed places =
        let p = meant_for m fits q.form in
        let fitting = both m.is_sound (fits q.form) sound (are.fitting q v i) in
        let a = (are.decided q v i).0 in
        let e = (are.decided q v i).1 in
        let x = chosen p well q.form a e closed v places (are.goals q v i) mode in
        record {
          begins = kinds-all applicable same p fitting well q.form a e closed;
          made = begin-made (kinds_known q.form.kinds);
          goal = refl;
          specs = specs_by p mode a;
          few = few applicable same p fitting well q.form a e closed mode;
          exact = plan-exact applicable same p fitting well q.form a e closed mode;
          determined = specs-determined applicable same p fitting well q.form a e closed mode;
          nested = subst (Every (AsksSuch frame_tables closed_tables IsAsked (begin (kinds_known q.form.kinds)) v)) (specs-same m fits q.form mode a) (are.onward q v i closed places a e);
          found = x.found;
          applies = subst (λ ks. AreWays frame_tables (begin ks) v (specs_by p mode a) x.found) (sym (kinds-are applicable same p fitting q.form a e closed)) x.applies;
          selects = subst (IsSelection x.found) (ways-same m fits q.form mode (goal_fact q.form v)) x.selects;
        }

module _ {W : Type 0} (applicable : AnswerTrees → Bool) (same : AnswerTrees → AnswerTrees → Bool) (meaning_of : W → ViewMeaning) (fits_in : W → CanonicalForm → Bool) (w : W)
    (sound : (meaning_of w).is_sound ≡ true) (well : IsDeclaredWell (meaning_of w).view) (IsAsked : NestedQuestion → Values → Type 0) where
  -- so the solver answers these exactly
  abbrev pub solver_answers_exactly : (mode : TypingMode) → AreGoals (meaning_of w) mode (fits_in w) IsAsked → AnswersExactly frame_tables closed_tables (solver_programs applicable same meaning_of fits_in) w mode
  solver_answers_exactly mode are = record {
    IsAsked = IsAsked;
    ways = ways_by (meaning_of w) mode;
    exact = λ q v i c d.
        planned-exact frame_tables closed_tables (ways_by (meaning_of w) mode) IsAsked q v (solver_planned applicable same (meant_for (meaning_of w) (fits_in w) q.form) mode q.form)
        (plans_exactly applicable same (meaning_of w) sound well (fits_in w) mode IsAsked are q v i c d);
  }

  pub solver_is_sure : (are : AreGoals (meaning_of w) PostAnalysis (fits_in w) IsAsked) → AreSure frame_tables closed_tables (solver_programs applicable same meaning_of fits_in) w PostAnalysis (solver_answers_exactly PostAnalysis are)
  solver_is_sure are q v i c d = specs-are-sure (meaning_of w) q.form (are.decided q v i).0 (are.decided q v i).1 c
