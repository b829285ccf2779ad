-- The handler of a goal in coherence covers each solution, and is lawful where its candidates are.
use Rattle.std.proofs.Common.{◌≡◌, ◌+◌, arith, Bool, true, false, not, ◌||◌, if◌then◌else◌, [], ◌∷◌, inl, refl, Option, Some, None}
use Rattle.infer_table.specs.Canonical.{CanonicalForm}
use Rattle.infer_table.specs.declared.certainty.Certainty.{Certainty}
use Rattle.infer_table.specs.declared.certainty.Certainty.TheVariants.{Yes}
use Rattle.infer_table.specs.declared.certainty.TypingMode.TheVariants.{Coherence}
use Rattle.infer_table.specs.Responses.{AnswerTrees}
use Rattle.goal_evaluator.specs.Lists.{SomeOf}
use Rattle.goal_evaluator.specs.Table.{workings}
use Rattle.goal_evaluator.specs.Candidate.{Considered}
use Rattle.goal_evaluator.specs.Law.{Realizes}
use Rattle.goal_evaluator.specs.Handler.{Handled}
use Rattle.goal_evaluator.specs.Content.{Values}
use Rattle.goal_evaluator.specs.FrameTables.{kinds_known, FrameTable}
use Rattle.goal_evaluator.specs.TableOperations.{begin}
use Rattle.goal_evaluator.proofs.OperationLaws.{begins-free, begins-within}
use Rattle.goal_evaluator.specs.Tables.{frame_tables}
use Rattle.goal_evaluator.proofs.FrameTableLaws.{tables_are_lawful}
use Rattle.goal_evaluator.specs.Handler.{CandidateIsLawful}
use Rattle.goal_evaluator.specs.Plans.{KeepsLaws, each_of, first_alone, GoesByConsidering}
use Rattle.goal_evaluator.specs.Merge.{IsTest, TellsResponsesApart}
use Rattle.goal_evaluator.proofs.Plans.{plan_is_lawful, keeps_more, keeps_each, goes_on, goes_through}
use Rattle.goal_evaluator.proofs.PlanAnswers.{all_merged_keeps}
use Rattle.candidate_model.specs.Meaning.{ViewMeaning, proved_at}
use Rattle.candidate_model.specs.Lifetimes.{GivesLifetimes}
use Rattle.candidate_model.specs.Knowing.{is_knowable}
use Rattle.candidate_model.specs.Asking.{GoalOverKinds, goal_over_kinds, self_of, begins_unknown}
use Rattle.candidate_model.specs.Candidates.{Candidate, unsure, unknowable}
use Rattle.candidate_model.specs.Solver.{SolverPast, everything, in_coherence, by_mode, plan_for, Searched, IsSolution, solver_planned, solver_handled}
use Rattle.candidate_model.specs.Cover.{all_candidates, goal_fact, SolutionsAreCandidates}
use Rattle.candidate_model.specs.CoverLaw.{AnswersCover, IsAsMeant, DecidedCandidatesAreLawful, CoherenceIsCovered, CoherenceIsLawful}
use Rattle.candidate_model.proofs.ErasedViews.{solutions-by}
use Rattle.candidate_model.proofs.Plans.{coherence_keeps}
use Rattle.candidate_model.proofs.Covering.{Holds, answered, each-holds, first-holds}
use Rattle.candidate_model.proofs.Realizing.{asked-terms, by-candidates, by-unknowable, unsure-realizes}
use Rattle.goal_evaluator.proofs.FirstAnswers.{begin-says-nothing}

no-first : (x y : Bool) → x || y ≡ false → y ≡ false
no-first true y e = absurd (cc)
no-first false y e = e

first-no : (x y : Bool) → x || y ≡ false → x ≡ false
first-no true y e = e
first-no false y e = refl

is-true : (x : Bool) → not x ≡ false → x ≡ true
is-true true e = refl
is-true false e = absurd (cc)

module _ (applicable : AnswerTrees → Bool) (same : AnswerTrees → AnswerTrees → Bool) (m : ViewMeaning) (sound : m.is_sound ≡ true → IsAsMeant m) (f : CanonicalForm) (fits : GivesLifetimes m f) where
  abbrev h : Handled frame_tables
  h = solver_handled applicable same m Coherence f

  abbrev start : FrameTable
  start = begin (kinds_known f.kinds)

  complete : IsAsMeant m → SolutionsAreCandidates m
  complete x = (solutions-by m x.declared x.determined x.erased x.rank x.acyclic).0

  -- ---- the law of cover
  module _ (w : Searched m f) (v : Values) (s : IsSolution (proved_at w.place) (goal_fact f v)) where
    abbrev P : Candidate → Type 0
    P c = Realizes frame_tables (IsSolution (proved_at w.place)) start v c

    abbrev Q : Considered (workings frame_tables) → Type 0
    Q c = P c.spec

    unsure-holds : Holds frame_tables Q [] (each_of frame_tables (unsure ∷ []) (everything applicable same start) [])
    unsure-holds =
        each-holds frame_tables Q (unsure ∷ []) (everything applicable same start) []
        (λ later g. goes_through frame_tables P (unsure ∷ []) [] later g (inl (unsure-realizes (proved_at w.place) (kinds_known f.kinds) v w.no_placeholders)))

    asked-holds : IsAsMeant m → m.is_sound ≡ true → (a : GoalOverKinds) → goal_over_kinds m.view f ≡ Some a → begins_unknown a.kinds (self_of a) ≡ false → Holds frame_tables Q [] (in_coherence applicable same start m.view m.crate a)
    asked-holds x is_yes a e known = by (is_knowable m.view m.crate a.reference) refl
      where
        alone : (seen : SolverPast) → GoesByConsidering frame_tables (unknowable m.view a ∷ []) [] seen → SomeOf Q seen
        alone seen g = goes_through frame_tables P (unknowable m.view a ∷ []) [] seen g (inl (by-unknowable m (complete x) f a e known (fits is_yes a e) w v s (asked-terms m x.declared f a e (x.bounds f a e) w)))

        by : (b : Bool) → is_knowable m.view m.crate a.reference ≡ b
            → Holds frame_tables Q [] (if b then each_of frame_tables (all_candidates m.view a) (everything applicable same start) []
            else first_alone frame_tables (unknowable m.view a) (λ seen. each_of frame_tables (all_candidates m.view a) (everything applicable same start) seen) (everything applicable same start) [])
        by true k =
            each-holds frame_tables Q (all_candidates m.view a) (everything applicable same start) []
            (λ later g. goes_through frame_tables P (all_candidates m.view a) [] later g (by-candidates m (complete x) f a e known (fits is_yes a e) w v s (asked-terms m x.declared f a e (x.bounds f a e) w) k))
        by false k =
            first-holds frame_tables Q (unknowable m.view a) (λ seen. each_of frame_tables (all_candidates m.view a) (everything applicable same start) seen) (everything applicable same start) []
            (λ seen g. each-holds frame_tables Q (all_candidates m.view a) (everything applicable same start) seen (λ later i. goes_on frame_tables Q (all_candidates m.view a) seen later i (alone seen g)))
            (λ seen g. alone seen g)

    plan-holds : (o : Option GoalOverKinds) → goal_over_kinds m.view f ≡ o → Holds frame_tables Q [] (plan_for applicable same start m Coherence o)
    plan-holds None e = unsure-holds
    plan-holds (Some a) e = by (not m.is_sound || begins_unknown a.kinds (self_of a)) refl
      where
        by : (b : Bool) → (not m.is_sound || begins_unknown a.kinds (self_of a)) ≡ b
            → Holds frame_tables Q [] (if b then each_of frame_tables (unsure ∷ []) (everything applicable same start) [] else by_mode applicable same start m Coherence a)
        by true k = unsure-holds
        by false k = asked-holds (sound (is-true m.is_sound (first-no (not m.is_sound) (begins_unknown a.kinds (self_of a)) k))) (is-true m.is_sound (first-no (not m.is_sound) (begins_unknown a.kinds (self_of a)) k)) a e (no-first (not m.is_sound) (begins_unknown a.kinds (self_of a)) k)

  answers-cover : AnswersCover h
  answers-cover seen a ignored hist e w v s =
      answered frame_tables (Q w v s) (plan_for applicable same start m Coherence (goal_over_kinds m.view f)) (plan-holds w v s (goal_over_kinds m.view f) refl) seen a ignored hist e

  -- ---- all laws, where the candidates are lawful
  module _ (is_test : IsTest frame_tables applicable) (is_same : TellsResponsesApart same) (lawful : (a : GoalOverKinds) → goal_over_kinds m.view f ≡ Some a → DecidedCandidatesAreLawful h m.view a) where
    says : (c : Certainty) → frame_tables.has_values (frame_tables.respond h.begin c) ≡ false
    says c = begin-says-nothing (kinds_known f.kinds) c

    unsure-lawful : CandidateIsLawful frame_tables h unsure
    unsure-lawful = record { sound = λ y s l e. absurd (not-yes y); steps = λ y T. tt; determined = λ s r l k e d o. tt; equations_within = tt; nested_within = tt }
      where
        not-yes : unsure.certainty ≡ Yes → ⊥
        not-yes e = cc

    unsure-keeps : KeepsLaws frame_tables h h.candidates h.number [] (each_of frame_tables (unsure ∷ []) (everything applicable same start) [])
    unsure-keeps =
        keeps_more frame_tables h (1 + 0) h.candidates (0 + 0) h.number [] (each_of frame_tables (unsure ∷ []) (everything applicable same start) [])
        (omega arith) (omega arith)
        (keeps_each frame_tables h 0 0 (unsure ∷ []) (everything applicable same start) [] (unsure-lawful, tt)
        (λ later g. all_merged_keeps frame_tables tables_are_lawful applicable is_test same is_same h says (begins-within h.widest (kinds_known f.kinds)) 0 0 later
        (λ w v s. goes_through frame_tables (P w v s) (unsure ∷ []) [] later g (inl (unsure-realizes (proved_at w.place) (kinds_known f.kinds) v w.no_placeholders)))))

    asked-keeps : IsAsMeant m → m.is_sound ≡ true → (a : GoalOverKinds) → goal_over_kinds m.view f ≡ Some a → begins_unknown a.kinds (self_of a) ≡ false → KeepsLaws frame_tables h h.candidates h.number [] (in_coherence applicable same start m.view m.crate a)
    asked-keeps x is_yes a e known =
        let l = lawful a e in
        coherence_keeps tables_are_lawful applicable is_test same is_same h says (begins-within h.widest (kinds_known f.kinds)) m.view m.crate a l.each
        (record {
          by_view = λ k w v s. by-candidates m (complete x) f a e known (fits is_yes a e) w v s (asked-terms m x.declared f a e (x.bounds f a e) w) k;
          by_others = λ w v s. by-unknowable m (complete x) f a e known (fits is_yes a e) w v s (asked-terms m x.declared f a e (x.bounds f a e) w);
        }) l.few l.asks

    plan-keeps : (o : Option GoalOverKinds) → goal_over_kinds m.view f ≡ o → KeepsLaws frame_tables h h.candidates h.number [] (plan_for applicable same start m Coherence o)
    plan-keeps None e = unsure-keeps
    plan-keeps (Some a) e = by (not m.is_sound || begins_unknown a.kinds (self_of a)) refl
      where
        by : (b : Bool) → (not m.is_sound || begins_unknown a.kinds (self_of a)) ≡ b
            → KeepsLaws frame_tables h h.candidates h.number [] (if b then each_of frame_tables (unsure ∷ []) (everything applicable same start) [] else by_mode applicable same start m Coherence a)
        by true k = unsure-keeps
        by false k = asked-keeps (sound (is-true m.is_sound (first-no (not m.is_sound) (begins_unknown a.kinds (self_of a)) k))) (is-true m.is_sound (first-no (not m.is_sound) (begins_unknown a.kinds (self_of a)) k)) a e (no-first (not m.is_sound) (begins_unknown a.kinds (self_of a)) k)

pub coherence-is-covered : CoherenceIsCovered
coherence-is-covered applicable same m sound f fits = answers-cover applicable same m sound f fits

pub coherence-is-lawful : CoherenceIsLawful
coherence-is-lawful applicable same is_test is_same m sound f fits lawful =
    plan_is_lawful frame_tables (solver_planned applicable same m Coherence f)
    (record {
      begins = λ v. begins-free (kinds_known f.kinds) v;
      says_nothing = λ c. begin-says-nothing (kinds_known f.kinds) c;
      begins_within = begins-within _ (kinds_known f.kinds);
      keeps = plan-keeps applicable same m sound f fits is_test is_same lawful (goal_over_kinds m.view f) refl;
    })
