-- The canonical goals of facts that are closed under premises are closed under nested goals.
use Rattle.std.proofs.Common.{◌≡◌, Bool, true, false, List, [], ◌∷◌, map, length, refl, sym, ◌∙◌, ap, subst, Some, if◌then◌else◌}
use Rattle.type_terms.specs.Promised.Worlds.{World, Reference}
use Rattle.type_terms.specs.Promised.Rules.{is_coinductive}
use Rattle.infer_table.specs.Canonical.{CanonicalForm}
use Rattle.infer_table.specs.declared.certainty.TypingMode.{TypingMode}
use Rattle.infer_table.specs.declared.certainty.TypingMode.TheVariants.{Coherence, PostAnalysis}
use Rattle.goal_evaluator.specs.Lists.{Every}
use Rattle.goal_evaluator.specs.Content.{Values, Fact, NestedQuestion, ChosenTerms, fact_of}
use Rattle.goal_evaluator.specs.FrameTables.{kinds_known, FrameTable, IsMadeFrame, Allows, Nested, EquationIsMet, fact, question, values_at}
use Rattle.goal_evaluator.specs.TableOperations.{begin, fresh}
use Rattle.goal_evaluator.specs.Finite.{IsDetermined}
use Rattle.goal_evaluator.proofs.Questions.{instance_of_question}
use Rattle.goal_evaluator.specs.Tables.{frame_tables}
use Rattle.solver_completeness.specs.Closed.{AreWays, AsksFrom, AsksSuch, DeterminesNested}
use Rattle.solver_completeness.specs.ClosedTables.{AreClosed, ArePlaces, closed_tables}
use Rattle.solver_completeness.specs.NestedFacts.{AsksOnly}
use Rattle.solver_completeness.proofs.NestedFacts.{premises-asked}
use Rattle.declarations.specs.Promised.Elaboration.{supertraits}
use Rattle.candidate_model.specs.Meaning.{ViewMeaning}
use Rattle.candidate_model.specs.DeclaredWell.{IsDeclaredWell}
use Rattle.candidate_model.specs.Knowing.{is_knowable}
use Rattle.candidate_model.specs.Asking.{GoalOverKinds, goal_over_kinds, all_known, are_clauses, clauses}
use Rattle.candidate_model.specs.Candidates.{Candidate, premise, unknowable, rules_behind}
use Rattle.candidate_model.specs.Cover.{all_candidates}
use Rattle.candidate_model.proofs.Cover.{asked-by, known-kinds}
use Rattle.candidate_model.proofs.LawfulCandidates.{asked-clauses}
use Rattle.candidate_model.proofs.Rowwise.{AreRows, all-so}
use Rattle.solver_completeness.specs.SolverGoals.{specs_by}
use Rattle.solver_completeness.specs.GoalSets.{IsAskableFact, IsGoalSet, IsGoalOf, FitsAreKept, GoalsLeadToGoals}
use Rattle.solver_completeness.proofs.SolverSpecs.{outside-is, specs-are-determined}
use Rattle.solver_completeness.proofs.SolverHandlers.{Chosen, chosen}
use Rattle.solver_completeness.proofs.NestedForms.{question-decided}

-- ---- all nested goals of candidates are premises under the goal's where-clauses
module _ (V : World) (a : GoalOverKinds) where
  abbrev IsPremise : Nested → Type 0
  IsPremise n = (kind : Bool) × (r : Reference) × (n ≡ premise a kind r)

  abbrev ArePremises : Candidate → Type 0
  ArePremises c = Every IsPremise c.nested

  premises : (kind : Bool) (rs : List Reference) → Every IsPremise (map (premise a kind) rs)
  premises kind [] = tt
  premises kind (r ∷ rs) = ((kind, r, refl), premises kind rs)

  each-of : {A : Type 0} {Q : A → Type 0} → ((x : A) → Q x) → (xs : List A) → Every Q xs
  each-of f [] = tt
  each-of f (x ∷ xs) = (f x, each-of f xs)

  rows : AreRows V a ArePremises (λ es. Unit {0})
  rows = record {
    rule = λ source es ps u. premises (is_coinductive V a.reference.trait) ps;
    nothing = tt;
    calls = λ n l types c others e. tt;
    arrays = λ l m c n d p o e. tt;
    upcasts = λ b d o e. each-of (λ q. each-of (λ p. (tt, each-of (λ r. tt) _)) _) _;
    structs = λ s u b d o e x. tt;
    clauses = each-of (λ r. tt) (clauses a);
    bounds = λ bounds others e. (each-of (λ r. tt) _, each-of (λ r. tt) _);
    impls = λ i j. premises (is_coinductive V a.reference.trait) (map (rules_behind (length a.kinds)) i.clauses);
    unsures = tt;
    records = λ r c h. h;
  }

  all-premises : Every ArePremises (all_candidates V a)
  all-premises = all-so V a ArePremises (λ es. Unit {0}) rows

module _ (m : ViewMeaning) (a : GoalOverKinds) where
  specs-premises : (mode : TypingMode) → Every (ArePremises m.view a) (specs_by m mode a)
  specs-premises PostAnalysis = subst (Every (ArePremises m.view a)) (outside-is m a) (all-premises m.view a)
  specs-premises Coherence = by (is_knowable m.view m.crate a.reference)
    where
      by : (b : Bool) → Every (ArePremises m.view a) (if b then all_candidates m.view a else unknowable m.view a ∷ all_candidates m.view a)
      by true = all-premises m.view a
      by false = (premises m.view a false (supertraits m.view a.reference), all-premises m.view a)

-- ---- what holds of three is so together
every-three : {A : Type 0} (P Q R S : A → Type 0) → ((x : A) → P x → Q x → R x → S x) → (xs : List A) → Every P xs → Every Q xs → Every R xs → Every S xs
every-three P Q R S f [] p q r = tt
every-three P Q R S f (x ∷ xs) p q r = (f x p.0 q.0 r.0, every-three P Q R S f xs p.1 q.1 r.1)

module _ (P : Fact → Type 0) (m : ViewMeaning) (mode : TypingMode) (fits admits : CanonicalForm → Bool) (well : IsDeclaredWell m.view) (kept : IsGoalSet m mode P) (fits_kept : FitsAreKept m mode fits admits P) where
  module _ (q : NestedQuestion) (v : Values) (i : IsGoalOf m.view admits P q v) (closed : AreClosed q.form.kinds) (places : ArePlaces q.form.kinds v) (a : GoalOverKinds) (is_asked : goal_over_kinds m.view q.form ≡ Some a) where
    abbrev specs : List Candidate
    specs = specs_by m mode a

    kinds-are : kinds_known q.form.kinds ≡ a.kinds
    kinds-are = known-kinds q.form.kinds a.kinds (asked-by m.view q.form.goal.environment q.form.goal.predicate (all_known q.form.kinds) a is_asked).kinds_are

    clauses-are : are_clauses a.kinds a.environment ≡ true
    clauses-are = asked-clauses m.view q.form.goal.environment q.form.goal.predicate (all_known q.form.kinds) a is_asked

    x : Chosen m mode q.form a v
    x = chosen m well q.form a is_asked closed v places (kept.askable (fact_of q v) i.of_fact).goal mode

    determined : (mode : TypingMode) → Every (DeterminesNested frame_tables (begin (kinds_known q.form.kinds))) (specs_by m mode a)
    determined Coherence = (specs-are-determined m well q.form a is_asked).0
    determined PostAnalysis = (specs-are-determined m well q.form a is_asked).1

    abbrev table : FrameTable
    table = begin (kinds_known q.form.kinds)

    facts : Every (AsksOnly frame_tables P table v) specs
    facts =
        premises-asked frame_tables table v P specs x.found (subst (λ ks. AreWays frame_tables (begin ks) v specs x.found) (sym kinds-are) x.applies) (determined mode)
        (x.selects.every P (kept.kept (fact_of q v) i.of_fact))

    abbrev Under : Candidate → (FrameTable → ChosenTerms → Type 0) → Nested → Type 0
    Under c S n =
        (T : FrameTable) (s : ChosenTerms) → AsksFrom frame_tables table c T → IsMadeFrame T → AreClosed (map Some T.kinds) → IsDetermined T n → Allows T s → Allows (fresh table c.kinds) s
        → Every (λ e. EquationIsMet e s) c.equations → s.own ≡ v → S T s

    one : (c : Candidate) → AsksOnly frame_tables P table v c → AsksSuch frame_tables closed_tables (λ (p : NestedQuestion) (u : Values). admits p.form ≡ true) table v c → ArePremises m.view a c
        → AsksSuch frame_tables closed_tables (IsGoalOf m.view admits P) table v c
    one c h g r =
        every-three
        (λ (n : Nested). (s : ChosenTerms) → Allows (fresh table c.kinds) s → Every (λ e. EquationIsMet e s) c.equations → s.own ≡ v → P (fact n s))
        (λ (n : Nested). Under c (λ T s. admits (question T n).form ≡ true) n)
        (IsPremise m.view a)
        (λ (n : Nested). Under c (λ T s. IsGoalOf m.view admits P (question T n) (values_at T n s)) n)
        goal c.nested h g r
      where
        goal : (n : Nested) → ((s : ChosenTerms) → Allows (fresh table c.kinds) s → Every (λ e. EquationIsMet e s) c.equations → s.own ≡ v → P (fact n s)) → Under c (λ T s. admits (question T n).form ≡ true) n → IsPremise m.view a n
            → Under c (λ T s. IsGoalOf m.view admits P (question T n) (values_at T n s)) n
        goal n f k p T s from made shut det allowed own_allowed meets own =
            let held : P (fact n s) = f s own_allowed meets own in
            let d = decided n p T s made shut det allowed (kept.askable (fact n s) held) in
            record { form = d.0; decided = d.1; admitted = k T s from made shut det allowed own_allowed meets own; of_fact = subst P (sym (instance_of_question T n s allowed)) held }
          where
            decided : (n : Nested) → IsPremise m.view a n → (T : FrameTable) (s : ChosenTerms) → IsMadeFrame T → AreClosed (map Some T.kinds) → IsDetermined T n → Allows T s → IsAskableFact m.view (fact n s)
                → (b : GoalOverKinds) × (goal_over_kinds m.view (question T n).form ≡ Some b)
            decided n p T s made shut det allowed askable =
                let d =
                question-decided m.view T made shut s allowed a.kinds a.environment clauses-are p.1.trait p.1.args p.0 (subst (IsDetermined T) p.2 det)
                (subst (λ z. IsAskableFact m.view (fact z s)) p.2 askable) in
                (d.0, ap (λ z. goal_over_kinds m.view (question T z).form) p.2 ∙ d.1)

    onward : Every (AsksSuch frame_tables closed_tables (IsGoalOf m.view admits P) table v) specs
    onward =
        every-three (AsksOnly frame_tables P table v) (AsksSuch frame_tables closed_tables (λ (p : NestedQuestion) (u : Values). admits p.form ≡ true) table v) (ArePremises m.view a)
        (AsksSuch frame_tables closed_tables (IsGoalOf m.view admits P) table v) one specs facts (fits_kept.kept q v i closed places a is_asked) (specs-premises m a mode)

pub goals-lead-to-goals : (P : Fact → Type 0) → GoalsLeadToGoals P
goals-lead-to-goals P m mode fits admits well kept fits_kept = record {
  decided = λ q v i. (i.form, i.decided);
  fitting = λ q v i. fits_kept.fitting q v i;
  goals = λ q v i. (kept.askable (fact_of q v) i.of_fact).goal;
  onward = λ q v i closed places a e. onward P m mode fits admits well kept fits_kept q v i closed places a e;
}
