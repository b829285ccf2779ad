-- The solver is a lawful handler, where its candidates are lawful, cover each solution and are not too many.
use Rattle.std.proofs.Common.{◌≡◌, suc, ◌+◌, ◌≤◌, Bool, true, false, not, ◌||◌, if◌then◌else◌, List, [], ◌∷◌, ◌++◌, length, inl, refl, ap, subst, arith, Option, Some, None}
use Rattle.infer_table.specs.Canonical.{CanonicalForm}
use Rattle.infer_table.specs.declared.certainty.Certainty.{Certainty}
use Rattle.infer_table.specs.declared.certainty.TypingMode.{TypingMode}
use Rattle.infer_table.specs.declared.certainty.TypingMode.TheVariants.{Coherence, PostAnalysis}
use Rattle.infer_table.specs.Responses.{AnswerTrees}
use Rattle.goal_evaluator.specs.Lists.{Every, SomeOf}
use Rattle.goal_evaluator.proofs.Basics.{some-parts}
use Rattle.goal_evaluator.specs.Law.{Realizes}
use Rattle.goal_evaluator.specs.Handler.{Handled, IsHandler}
use Rattle.goal_evaluator.specs.Content.{Values, fits}
use Rattle.goal_evaluator.specs.FrameTables.{kinds_known}
use Rattle.goal_evaluator.proofs.OperationLaws.{begins-free, begins-within}
use Rattle.goal_evaluator.specs.Tables.{frame_tables}
use Rattle.goal_evaluator.proofs.FrameTableLaws.{tables_are_lawful}
use Rattle.goal_evaluator.specs.Handler.{CandidateIsLawful}
use Rattle.goal_evaluator.specs.Plans.{KeepsLaws, nested_in, each_of}
use Rattle.goal_evaluator.specs.Merge.{IsTest, TellsResponsesApart}
use Rattle.goal_evaluator.proofs.Plans.{plan_is_lawful}
use Rattle.goal_evaluator.proofs.PlanAnswers.{list_keeps}
use Rattle.candidate_model.specs.Facts.{clauses_of}
use Rattle.candidate_model.specs.Meaning.{ViewMeaning, proved_at, proved_alone}
use Rattle.candidate_model.specs.Lifetimes.{GivesLifetimes, goal_gives_lifetimes}
use Rattle.candidate_model.specs.Asking.{GoalOverKinds, goal_over_kinds, clauses, self_of, begins_unknown}
use Rattle.candidate_model.specs.Candidates.{Candidate, unsure, unknowable, by_clauses, built_in, by_impls, by_objects}
use Rattle.candidate_model.specs.Slots.{with_slots}
use Rattle.candidate_model.specs.Solver.{SearchedAlone, IsSolution, solver_planned, solver_handled, most_candidates, widest_of, plan_for, by_mode, everything, in_coherence, outside_coherence}
use Rattle.candidate_model.specs.Promised.Widths.{number_at}
use Rattle.candidate_model.proofs.CandidateKinds.{every-split}
use Rattle.candidate_model.proofs.Realizing.{by-candidates, by-unknowable, solution, some-realized, unsure-realizes}
use Rattle.candidate_model.proofs.Sources.{clauseless, trivial-or-not}
use Rattle.candidate_model.proofs.Worlds.{asked-bare}
use Rattle.candidate_model.specs.Cover.{AreTermsOf, GivenIsRealized, all_candidates, SolutionsAreCandidates, SolutionsAloneAreCandidates}
use Rattle.candidate_model.proofs.Premises.{SolverPremises, SolverIsLawful}
use Rattle.goal_evaluator.proofs.FirstAnswers.{begin-says-nothing}
use Rattle.candidate_model.proofs.Plans.{coherence_keeps, outside_keeps, Realized, RealizedOutside}
use Rattle.type_terms.proofs.BooleanBasics.{true-false}
use Rattle.candidate_model.proofs.Basics.{append-assoc}
use Rattle.candidate_model.proofs.CandidateNumbers.{nested-append}

-- an unsure candidate says nothing
pub unsure-lawful : (h : Handled frame_tables) → CandidateIsLawful frame_tables h unsure
unsure-lawful h = record { sound = λ y. absurd (cc); steps = λ y T. tt; determined = λ s r k l e g i. tt; equations_within = tt; nested_within = tt }

module _ (applicable : AnswerTrees → Bool) (is_test : IsTest frame_tables applicable) (same : AnswerTrees → AnswerTrees → Bool) (is_same : TellsResponsesApart same) (m : ViewMeaning) where
  module _ (realized : GivenIsRealized) (mode : TypingMode) (f : CanonicalForm) where
    abbrev h : Handled frame_tables
    h = solver_handled applicable same m mode f

    says_nothing : (c : Certainty) → frame_tables.has_values (frame_tables.respond h.begin c) ≡ false
    says_nothing c = begin-says-nothing (kinds_known f.kinds) c

    begins_within : frame_tables.TableWithin h.widest h.begin
    begins_within = begins-within h.widest (kinds_known f.kinds)

    -- whoever is searched, the unsure candidate is a way to the solution
    unsure-realized : (w : h.World) (v : Values) → h.Proves w (h.goal v) → Realizes frame_tables (h.Proves w) h.begin v unsure
    unsure-realized w v p = by mode refl w p
      where
        by : (mo : TypingMode) → mode ≡ mo → (w : (solver_handled applicable same m mo f).World) → (solver_handled applicable same m mo f).Proves w (h.goal v)
            → Realizes frame_tables ((solver_handled applicable same m mo f).Proves w) h.begin v unsure
        by Coherence e w s =
            unsure-realizes (proved_at w.place) (kinds_known f.kinds) v w.no_placeholders
        by PostAnalysis e w s =
            unsure-realizes (proved_alone m w.crates) (kinds_known f.kinds) v w.no_placeholders

    unsure-keeps : KeepsLaws frame_tables h h.candidates h.number [] (plan_for applicable same h.begin m mode None)
    unsure-keeps = list_keeps frame_tables tables_are_lawful applicable is_test same is_same h says_nothing begins_within (unsure ∷ []) (unsure-lawful h, tt) (λ w v p. inl (unsure-realized w v p)) (few) (omega arith)
      where
        few : 1 ≤ most_candidates m.view f
        few = omega arith

    -- ---- goals that are decided
    module _ (a : GoalOverKinds) (is : goal_over_kinds m.view f ≡ Some a) (known : begins_unknown a.kinds (self_of a) ≡ false) (given : goal_gives_lifetimes m.view a ≡ true) (covers : SolutionsAreCandidates m) (alone : SolutionsAloneAreCandidates m) (terms : Every AreTermsOf (all_candidates m.view a)) where
      abbrev inside : Handled frame_tables
      inside = solver_handled applicable same m Coherence f

      abbrev outside : Handled frame_tables
      outside = solver_handled applicable same m PostAnalysis f

      are-realized : Realized tables_are_lawful applicable is_test same is_same inside says_nothing begins_within m.view m.crate a
      are-realized = record {
        by_view = λ k w v s. by-candidates m covers f a is known given w v s terms k;
        by_others = λ w v s. by-unknowable m covers f a is known given w v s terms;
      }

      module _ (few : suc (length (all_candidates m.view a)) ≤ most_candidates m.view f) (asks : nested_in frame_tables (unknowable m.view a ∷ all_candidates m.view a) ≤ number_at m.view (widest_of m.view f)) where
        inside-keeps : Every (CandidateIsLawful frame_tables inside) (unknowable m.view a ∷ all_candidates m.view a)
            → KeepsLaws frame_tables inside inside.candidates inside.number [] (in_coherence applicable same inside.begin m.view m.crate a)
        inside-keeps each = coherence_keeps tables_are_lawful applicable is_test same is_same inside says_nothing begins_within m.view m.crate a each are-realized few asks

        abbrev early : List Candidate
        early = by_clauses m.view a (clauses a) ++ built_in m.view a

        abbrev late : List Candidate
        late = by_impls m.view a m.view.impls ++ by_objects m.view a

        length-append : (xs ys : List Candidate) → length (xs ++ ys) ≡ length xs + length ys
        length-append [] ys = omega arith
        length-append (x ∷ xs) ys = let e = length-append xs ys in omega (arith, e)

        all-is : all_candidates m.view a ≡ early ++ late
        all-is = append-assoc (by_clauses m.view a (clauses a)) (built_in m.view a) late

        found : (w : SearchedAlone m f) (v : Values) → IsSolution (proved_alone m w.crates) (outside.goal v) → SomeOf (Realizes frame_tables (IsSolution (proved_alone m w.crates)) outside.begin v) (all_candidates m.view a)
        found w v s =
            some-realized m f a is (proved_alone m w.crates) w.no_clauses w.no_placeholders v s terms
            (alone f a is known given w (with_slots a.kinds v) (solution m f a is (proved_alone m w.crates) w.no_clauses w.no_placeholders v s))

        bare : SearchedAlone m f → clauses a ≡ []
        bare w = ap clauses_of (asked-bare m f w.no_clauses a is)

        realized-outside : RealizedOutside tables_are_lawful applicable is_test same is_same outside says_nothing begins_within m.view m.crate a
        realized-outside = record {
          covers = λ w v s. some-parts (Realizes frame_tables (IsSolution (proved_alone m w.crates)) outside.begin v) early late
              (subst (SomeOf (Realizes frame_tables (IsSolution (proved_alone m w.crates)) outside.begin v)) all-is (found w v s));
          clauseless = λ w. clauseless m.view a (bare w);
          trivial = λ w. trivial-or-not m.view a (bare w) w.sized_alone;
        }

        outside-keeps : Every (CandidateIsLawful frame_tables outside) (unknowable m.view a ∷ all_candidates m.view a)
            → KeepsLaws frame_tables outside outside.candidates outside.number [] (outside_coherence applicable same outside.begin m.view a)
        outside-keeps each =
            let e = subst (Every (CandidateIsLawful frame_tables outside)) all-is each.1 in
            outside_keeps tables_are_lawful applicable is_test same is_same outside says_nothing begins_within m.view m.crate a (every-split (CandidateIsLawful frame_tables outside) early late e).0 (every-split (CandidateIsLawful frame_tables outside) early late e).1
            realized-outside
            (let l = length-append early late in let q : suc (length (early ++ late)) ≤ most_candidates m.view f = subst (λ (cs : List Candidate). suc (length cs) ≤ most_candidates m.view f) all-is few in omega (arith, l, q))
            (let l = nested-append early late in let q : nested_in frame_tables (unknowable m.view a ∷ (early ++ late)) ≤ number_at m.view (widest_of m.view f) = subst (λ (cs : List Candidate). nested_in frame_tables (unknowable m.view a ∷ cs) ≤ number_at m.view (widest_of m.view f)) all-is asks in omega (arith, l, q))

    -- ---- all goals
    not-either : (b c : Bool) → (not b || c) ≡ false → (b ≡ true) × (c ≡ false)
    not-either true c e = (refl, e)
    not-either false c e = absurd (true-false e)

    module _ (p : SolverPremises m) (fits : GivesLifetimes m f) where
      decided-keeps : (a : GoalOverKinds) → goal_over_kinds m.view f ≡ Some a → m.is_sound ≡ true → begins_unknown a.kinds (self_of a) ≡ false → (mo : TypingMode) → mode ≡ mo
          → KeepsLaws frame_tables (solver_handled applicable same m mo f) h.candidates h.number [] (by_mode applicable same h.begin m mo a)
      decided-keeps a is sound known Coherence e = inside-keeps a is known (fits sound a is) (p.covers sound) (p.covers_alone sound) (p.terms sound f a is) (p.few sound f a is) (p.asks sound f a is) (p.lawful sound applicable same Coherence f a is known)
      decided-keeps a is sound known PostAnalysis e = outside-keeps a is known (fits sound a is) (p.covers sound) (p.covers_alone sound) (p.terms sound f a is) (p.few sound f a is) (p.asks sound f a is) (p.lawful sound applicable same PostAnalysis f a is known)

      plan-keeps : (o : Option GoalOverKinds) → goal_over_kinds m.view f ≡ o → KeepsLaws frame_tables h h.candidates h.number [] (plan_for applicable same h.begin m mode o)
      plan-keeps None e = unsure-keeps
      plan-keeps (Some a) e = by (not m.is_sound || begins_unknown a.kinds (self_of a)) refl
        where
          by : (b : Bool) → (not m.is_sound || begins_unknown a.kinds (self_of a)) ≡ b
              → KeepsLaws frame_tables h h.candidates h.number [] (if b then each_of frame_tables (unsure ∷ []) (everything applicable same h.begin) [] else by_mode applicable same h.begin m mode a)
          by true q = unsure-keeps
          by false q = let x = not-either m.is_sound (begins_unknown a.kinds (self_of a)) q in decided-keeps a e x.0 x.1 mode refl

      pub is-lawful : IsHandler frame_tables h
      is-lawful = plan_is_lawful frame_tables (solver_planned applicable same m mode f) (record {
        begins = λ v. begins-free (kinds_known f.kinds) v;
        says_nothing = says_nothing;
        begins_within = begins_within;
        keeps = plan-keeps (goal_over_kinds m.view f) refl;
      })

pub solver-is-lawful : SolverIsLawful
solver-is-lawful applicable is_test same is_same m p mode f fits = is-lawful applicable is_test same is_same m p.realized mode f p fits
