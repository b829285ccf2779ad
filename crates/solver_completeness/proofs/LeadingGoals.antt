-- The canonical goals whose nested goals are all good are closed under nested goals.
use Rattle.std.proofs.Common.{◌≡◌, ℕ, suc, Bool, List, [], ◌∷◌, map, sym, ◌∙◌, subst, Some}
use Rattle.infer_table.specs.Canonical.{CanonicalForm}
use Rattle.infer_table.specs.declared.certainty.TypingMode.{TypingMode}
use Rattle.goal_evaluator.specs.Lists.{Every}
use Rattle.goal_evaluator.proofs.ListLaws.{Every-mono}
use Rattle.goal_evaluator.specs.Content.{Values, NestedQuestion, ChosenTerms}
use Rattle.goal_evaluator.specs.FrameTables.{kinds_known, FrameTable, Nested, IsMadeFrame, Allows, EquationIsMet, question, values_at}
use Rattle.goal_evaluator.specs.TableOperations.{begin, fresh}
use Rattle.goal_evaluator.specs.Finite.{IsDetermined}
use Rattle.solver_completeness.specs.ClosedTables.{AreClosed, closed_tables}
use Rattle.goal_evaluator.specs.Tables.{frame_tables}
use Rattle.solver_completeness.specs.Closed.{AsksFrom, AsksSuch}
use Rattle.candidate_model.specs.Meaning.{ViewMeaning}
use Rattle.candidate_model.specs.Asking.{GoalOverKinds, goal_over_kinds}
use Rattle.candidate_model.specs.Candidates.{Candidate}
use Rattle.solver_completeness.specs.SolverGoals.{specs_by, IsGoodFor, LeadsToGoals, LeadingAreGoals}

-- what holds of each for all numbers
all-numbers : {A : Type 0} (P : ℕ → A → Type 0) (xs : List A) → ((n : ℕ) → Every (P n) xs) → Every (λ x. (n : ℕ) → P n x) xs
all-numbers P [] h = tt
all-numbers P (x ∷ xs) h = (λ n. (h n).0, all-numbers P xs (λ n. (h n).1))

some-is : {A : Type 0} (a b : A) → Some a ≡ Some b → a ≡ b
some-is a b e = cc

module _ (m : ViewMeaning) (mode : TypingMode) (fits : CanonicalForm → Bool) where
  module _ (q : NestedQuestion) (v : Values) (i : LeadsToGoals m mode fits q v) (a : GoalOverKinds) (is_asked : goal_over_kinds m.view q.form ≡ Some a) where
    abbrev table : FrameTable
    table = begin (kinds_known q.form.kinds)

    in-steps : (n : ℕ) → Every (AsksSuch frame_tables closed_tables (IsGoodFor m mode fits n) table v) (specs_by m mode a)
    in-steps n =
        let x = (i (suc n)).2 in
        subst (λ b. Every (AsksSuch frame_tables closed_tables (IsGoodFor m mode fits n) table v) (specs_by m mode b)) (some-is x.0 a (sym x.1 ∙ is_asked)) x.2

    abbrev Within : Candidate → ℕ → Nested → Type 0
    Within c n d =
        (T : FrameTable) (s : ChosenTerms) → AsksFrom frame_tables table c T → IsMadeFrame T → AreClosed (map Some T.kinds) → IsDetermined T d → Allows T s → Allows (fresh table c.kinds) s → Every (λ e. EquationIsMet e s) c.equations → s.own ≡ v → IsGoodFor m mode fits n (question T d) (values_at T d s)

    of-one : (c : Candidate) → ((n : ℕ) → AsksSuch frame_tables closed_tables (IsGoodFor m mode fits n) table v c) → AsksSuch frame_tables closed_tables (LeadsToGoals m mode fits) table v c
    of-one c h =
        Every-mono (λ d. (n : ℕ) → Within c n d)
        (λ d. (T : FrameTable) (s : ChosenTerms) → AsksFrom frame_tables table c T → IsMadeFrame T → AreClosed (map Some T.kinds) → IsDetermined T d → Allows T s → Allows (fresh table c.kinds) s → Every (λ e. EquationIsMet e s) c.equations → s.own ≡ v → LeadsToGoals m mode fits (question T d) (values_at T d s))
        (λ d g T s z made x y l k e o n. g n T s z made x y l k e o) c.nested (all-numbers (Within c) c.nested h)

    onward : Every (AsksSuch frame_tables closed_tables (LeadsToGoals m mode fits) table v) (specs_by m mode a)
    onward =
        Every-mono (λ c. (n : ℕ) → AsksSuch frame_tables closed_tables (IsGoodFor m mode fits n) table v c) (AsksSuch frame_tables closed_tables (LeadsToGoals m mode fits) table v) of-one (specs_by m mode a)
        (all-numbers (λ n. AsksSuch frame_tables closed_tables (IsGoodFor m mode fits n) table v) (specs_by m mode a) in-steps)

pub leading-are-goals : LeadingAreGoals
leading-are-goals m mode fits = record {
  decided = λ q v i. let x = (i 1).2 in (x.0, x.1);
  fitting = λ q v i. (i 1).0;
  goals = λ q v i. (i 1).1;
  onward = λ q v i closed places a e. onward m mode fits q v i a e;
}
