-- The solver's plans keep the laws of plans, where their candidates do and cover each solution.
use Rattle.std.proofs.Common.{◌≡◌, ℕ, suc, ◌+◌, ◌≤◌, Bool, true, false, not, ◌&&◌, ◌||◌, if◌then◌else◌, List, [], ◌∷◌, ◌++◌, filter, length, ◌⊎◌, inl, inr, refl, sym, ◌∙◌, ap, subst, arith, Option, Some, None, is_some}
use Rattle.type_terms.specs.Promised.Worlds.{World}
use Rattle.type_terms.proofs.BooleanBasics.{true-false}
use Rattle.infer_table.specs.declared.certainty.Certainty.{Certainty}
use Rattle.infer_table.specs.Responses.{AnswerTrees}
use Rattle.goal_evaluator.specs.declared.candidate.CandidateSource.{CandidateSource}
use Rattle.goal_evaluator.specs.declared.candidate.CandidateSource.TheVariants.{BuiltinImpl, ParamEnv}
use Rattle.goal_evaluator.specs.declared.candidate.BuiltinImplSource.TheVariants.{Object}
use Rattle.goal_evaluator.specs.Lists.{Every, SomeOf}
use Rattle.goal_evaluator.specs.Table.{IsTable, workings}
use Rattle.goal_evaluator.specs.Candidate.{Considered}
use Rattle.goal_evaluator.specs.Law.{AgreesTo, Realizes}
use Rattle.goal_evaluator.specs.Handler.{Handled}
use Rattle.goal_evaluator.specs.Tables.{frame_tables}
use Rattle.goal_evaluator.specs.Plans.{Plan, KeepsLaws, came, each_of, first_alone, nested_in, GoesByConsidering}
use Rattle.goal_evaluator.specs.Handler.{CandidateIsLawful}
use Rattle.goal_evaluator.specs.Merge.{IsTest, TellsResponsesApart}
use Rattle.goal_evaluator.specs.PlanAnswers.{first_taken}
use Rattle.goal_evaluator.proofs.ListLaws.{Every-mono, SomeOf-mono}
use Rattle.goal_evaluator.proofs.Plans.{keeps_more, keeps_each, keeps_first, goes_on, goes_through}
use Rattle.goal_evaluator.proofs.PlanAnswers.{all_merged_keeps, first_taken_keeps, IsCovered}
use Rattle.candidate_model.proofs.CoveringMerges.{LeavesCovered, IsSilent, silent_leaves_covered, covering_merged_keeps}
use Rattle.candidate_model.specs.Knowing.{is_knowable}
use Rattle.candidate_model.specs.Asking.{GoalOverKinds, clauses}
use Rattle.candidate_model.specs.Candidates.{Candidate, unknowable, by_clauses, built_in, by_impls, by_objects}
use Rattle.candidate_model.specs.Cover.{all_candidates}
use Rattle.candidate_model.specs.Solver.{SolverPast, from, is_clause, is_global, is_impl, is_non_global, is_object, is_trivial, gives_none, holds_from, merged, oldest_gives_none, remain, remains, preferred, everything, is_settled, says_nothing, in_coherence, outside_coherence}

-- ---- what was considered, by source
abbrev IsSilentOne : Considered (workings frame_tables) → Type 0
IsSilentOne c = (r : AnswerTrees) × (c.response ≡ Some r) × (frame_tables.has_values r ≡ false)

none-held : (p : CandidateSource → Bool) (seen : SolverPast) → Every (λ (c : Considered (workings frame_tables)). from p c ≡ false) seen → holds_from p seen ≡ false
none-held p [] e = refl
none-held p (c ∷ seen) e = ap (λ b. (b && is_some c.response) || holds_from p seen) e.0 ∙ none-held p seen e.1

unsettled : (seen : SolverPast) → Every (λ (c : Considered (workings frame_tables)). from is_non_global c ≡ false) seen → is_settled seen ≡ false
unsettled [] e = refl
unsettled (c ∷ seen) e = ap (λ b. (b && says_nothing c.response) || is_settled seen) e.0 ∙ unsettled seen e.1

not-global : (s : CandidateSource) → is_clause s ≡ false → is_global s ≡ false
not-global (ParamEnv g) e = absurd (true-false e)
not-global s e = refl

not-non-global : (s : CandidateSource) → is_clause s ≡ false → is_non_global s ≡ false
not-non-global (ParamEnv g) e = absurd (true-false e)
not-non-global s e = refl

no-non-globals : (seen : SolverPast) → Every (λ (c : Considered (workings frame_tables)). is_clause c.spec.source ≡ false) seen → Every (λ (c : Considered (workings frame_tables)). from is_non_global c ≡ false) seen
no-non-globals seen e =
    Every-mono (λ (c : Considered (workings frame_tables)). is_clause c.spec.source ≡ false) (λ (c : Considered (workings frame_tables)). from is_non_global c ≡ false) (λ c n. not-non-global c.spec.source n) seen e

all-kept : (kept : Considered (workings frame_tables) → Bool) (P : Considered (workings frame_tables) → Type 0) (seen : SolverPast)
    → Every (λ (c : Considered (workings frame_tables)). kept c ≡ true) seen → SomeOf P seen → SomeOf P (filter kept seen)
all-kept kept P [] e s = absurd s
all-kept kept P (c ∷ seen) e s = subst (λ b. SomeOf P (if b then c ∷ filter kept seen else filter kept seen)) (sym e.0) (elim s [ inl p ↦ inl p | inr q ↦ inr (all-kept kept P seen e.1 q) ])

some-stays : (kept : Considered (workings frame_tables) → Bool) (P : Considered (workings frame_tables) → Type 0) (seen : SolverPast)
    → SomeOf (λ (c : Considered (workings frame_tables)). (kept c ≡ true) × P c) seen → SomeOf P (filter kept seen)
some-stays kept P [] s = absurd s
some-stays kept P (c ∷ seen) (inl x) = subst (λ b. SomeOf P (if b then c ∷ filter kept seen else filter kept seen)) (sym x.0) (inl x.1)
some-stays kept P (c ∷ seen) (inr s) = by (kept c) (some-stays kept P seen s)
  where
    by : (b : Bool) → SomeOf P (filter kept seen) → SomeOf P (if b then c ∷ filter kept seen else filter kept seen)
    by true x = inr x
    by false x = x

was-false : (b : Bool) → not b ≡ true → b ≡ false
was-false true e = absurd (true-false (sym e))
was-false false e = refl

oldest-silent : (p : CandidateSource → Bool) (otherwise : Bool) (seen : SolverPast) → oldest_gives_none p otherwise seen ≡ true
    → (otherwise ≡ true) ⊎ SomeOf (λ (c : Considered (workings frame_tables)). (from p c ≡ true) × IsSilentOne c) seen
oldest-silent p otherwise [] e = inl e
oldest-silent p otherwise (c ∷ seen) e = elim (oldest-silent p (gives_none c.response (from p c) otherwise) seen e) [ inl x ↦ here c.response refl (from p c) refl x | inr s ↦ inr (inr s) ]
  where
    here : (o : Option AnswerTrees) → c.response ≡ o → (b : Bool) → from p c ≡ b → gives_none o b otherwise ≡ true
        → (otherwise ≡ true) ⊎ SomeOf (λ (c : Considered (workings frame_tables)). (from p c ≡ true) × IsSilentOne c) (c ∷ seen)
    here None g b k x = inl x
    here (Some r) g true k x = inr (inl (k, (r, g, was-false (frame_tables.has_values r) x)))
    here (Some r) g false k x = inl x

and-false : (b : Bool) → (b && false) ≡ false
and-false true = refl
and-false false = refl

abbrev other-than-global : SolverPast → Bool
other-than-global seen = holds_from (λ r. remain seen r && not (is_global r)) seen

-- if no bound of a `dyn` is silent, all remain that are no global where-clause
all-remain : (seen : SolverPast) (s : CandidateSource) → is_global s ≡ false → oldest_gives_none is_object false seen ≡ false → remains seen s ≡ true
all-remain seen s g e =
    ap (λ x. not (is_impl s && x) && (not (is_global s) || not (other-than-global seen))) e ∙ ap (λ x. not x && (not (is_global s) || not (other-than-global seen))) (and-false (is_impl s))
    ∙ ap (λ x. not x || not (other-than-global seen)) g

-- each bound of a `dyn` remains
object-remains : (seen : SolverPast) (s : CandidateSource) → is_object s ≡ true → remains seen s ≡ true
object-remains seen (BuiltinImpl (Object i)) e = refl
object-remains seen s e = absurd (true-false (sym e))

every-through : (P : Candidate → Type 0) (specs : List Candidate) (seen later : SolverPast) → GoesByConsidering frame_tables specs seen later → Every P specs
    → Every (λ (c : Considered (workings frame_tables)). P c.spec) seen → Every (λ (c : Considered (workings frame_tables)). P c.spec) later
every-through P [] seen later g e s = subst (Every (λ (c : Considered (workings frame_tables)). P c.spec)) (sym g) s
every-through P (c ∷ specs) seen later g e s = every-through P specs (came frame_tables c g.0 g.1 ∷ seen) later g.2 e.1 (e.0, s)

module _ (laws : IsTable frame_tables) (applicable : AnswerTrees → Bool) (is_test : IsTest frame_tables applicable) (same : AnswerTrees → AnswerTrees → Bool) (is_same : TellsResponsesApart same)
    (h : Handled frame_tables) (says_nothing : (c : Certainty) → frame_tables.has_values (frame_tables.respond h.begin c) ≡ false) (begins_within : frame_tables.TableWithin h.widest h.begin)
    (V : World) (crate : ℕ) (a : GoalOverKinds) where
  abbrev Lawful : List Candidate → Type 0
  Lawful cs = Every (CandidateIsLawful frame_tables h) cs

  abbrev Kept : ℕ → ℕ → SolverPast → Plan frame_tables → Type 0
  Kept room left seen p = KeepsLaws frame_tables h room left seen p

  abbrev all : List Candidate
  all = all_candidates V a

  -- ---- in coherence
  -- solutions are realized by the candidates where the goal is knowable, and by the unknowable one
  pub record Realized : Type 0 where
    pub by_view : is_knowable V crate a.reference ≡ true → (w : h.World) (v : frame_tables.Values) → h.Proves w (h.goal v) → SomeOf (Realizes frame_tables (h.Proves w) h.begin v) all
    pub by_others : (w : h.World) (v : frame_tables.Values) → h.Proves w (h.goal v) → Realizes frame_tables (h.Proves w) h.begin v (unknowable V a)

  everything_keeps : (room left : ℕ) (later : SolverPast) → IsCovered frame_tables laws applicable is_test same is_same h says_nothing begins_within later → Kept room left later (everything applicable same h.begin later)
  everything_keeps room left later covered = all_merged_keeps frame_tables laws applicable is_test same is_same h says_nothing begins_within room left later covered

  known_keeps : Lawful all → Realized → is_knowable V crate a.reference ≡ true → Kept (length all + 0) (nested_in frame_tables all + 0) [] (each_of frame_tables all (everything applicable same h.begin) [])
  known_keeps each r k =
      keeps_each frame_tables h 0 0 all (everything applicable same h.begin) [] each
      (λ later g. everything_keeps 0 0 later (λ w v p. goes_through frame_tables (Realizes frame_tables (h.Proves w) h.begin v) all [] later g (r.by_view k w v p)))

  unknown_keeps : Lawful (unknowable V a ∷ all) → Realized
      → Kept (suc (length all + 0)) (nested_in frame_tables (unknowable V a ∷ all) + 0) []
      (first_alone frame_tables (unknowable V a) (λ seen. each_of frame_tables all (everything applicable same h.begin) seen) (everything applicable same h.begin) [])
  unknown_keeps each r =
      keeps_more frame_tables h (suc (length all + 0)) (suc (length all + 0)) (length (unknowable V a).nested + (nested_in frame_tables all + 0)) (nested_in frame_tables (unknowable V a ∷ all) + 0) []
      (first_alone frame_tables (unknowable V a) (λ seen. each_of frame_tables all (everything applicable same h.begin) seen) (everything applicable same h.begin) [])
      (omega arith) (omega arith)
      (keeps_first frame_tables h (length all + 0) (nested_in frame_tables all + 0) (unknowable V a) (λ seen. each_of frame_tables all (everything applicable same h.begin) seen) (everything applicable same h.begin) [] each.0
      (λ seen g. keeps_each frame_tables h 0 0 all (everything applicable same h.begin) seen each.1
      (λ later i. everything_keeps 0 0 later
      (λ w v p. goes_on frame_tables (λ (c : Considered (workings frame_tables)). Realizes frame_tables (h.Proves w) h.begin v c.spec) all seen later i
      (goes_through frame_tables (Realizes frame_tables (h.Proves w) h.begin v) (unknowable V a ∷ []) [] seen g (inl (r.by_others w v p))))))
      (λ seen g. everything_keeps (length all + 0) (nested_in frame_tables all + 0) seen
      (λ w v p. goes_through frame_tables (Realizes frame_tables (h.Proves w) h.begin v) (unknowable V a ∷ []) [] seen g (inl (r.by_others w v p)))))

  pub coherence_keeps : Lawful (unknowable V a ∷ all) → Realized → suc (length all) ≤ h.candidates → nested_in frame_tables (unknowable V a ∷ all) ≤ h.number
      → Kept h.candidates h.number [] (in_coherence applicable same h.begin V crate a)
  coherence_keeps each r few asks = by (is_knowable V crate a.reference) refl
    where
      by : (b : Bool) → is_knowable V crate a.reference ≡ b
          → Kept h.candidates h.number []
          (if b then each_of frame_tables all (everything applicable same h.begin) []
          else first_alone frame_tables (unknowable V a) (λ seen. each_of frame_tables all (everything applicable same h.begin) seen) (everything applicable same h.begin) [])
      by true e = keeps_more frame_tables h (length all + 0) h.candidates (nested_in frame_tables all + 0) h.number [] (each_of frame_tables all (everything applicable same h.begin) []) (omega (arith, few)) (omega (arith, asks)) (known_keeps each.1 r e)
      by false e =
          keeps_more frame_tables h (suc (length all + 0)) h.candidates (nested_in frame_tables (unknowable V a ∷ all) + 0) h.number []
          (first_alone frame_tables (unknowable V a) (λ seen. each_of frame_tables all (everything applicable same h.begin) seen) (everything applicable same h.begin) [])
          (omega (arith, few)) (omega (arith, asks)) (unknown_keeps each r)

  -- ---- outside it
  abbrev early : List Candidate
  early = by_clauses V a (clauses a) ++ built_in V a

  abbrev late : List Candidate
  late = by_impls V a V.impls ++ by_objects V a

  abbrev Covered : SolverPast → Type 0
  Covered seen = IsCovered frame_tables laws applicable is_test same is_same h says_nothing begins_within seen

  abbrev Left : (Considered (workings frame_tables) → Bool) → SolverPast → Type 0
  Left kept seen = LeavesCovered frame_tables laws applicable is_test same is_same h says_nothing begins_within kept seen

  -- what was considered where solutions are looked for
  abbrev Plain : SolverPast → Type 0
  Plain seen =
      Every (λ (c : Considered (workings frame_tables)). is_clause c.spec.source ≡ false) seen
      × (Every (λ (c : Considered (workings frame_tables)). is_trivial c.spec.source ≡ true) seen ⊎ Every (λ (c : Considered (workings frame_tables)). is_trivial c.spec.source ≡ false) seen)

  -- all that are left out are covered by what is kept
  trivial-left : (seen : SolverPast) → Plain seen → holds_from is_trivial seen ≡ true → Left (from is_trivial) seen
  trivial-left seen p e = elim p.1 [
    | inl all ↦ (λ v s. all-kept (from is_trivial) (λ (c : Considered (workings frame_tables)). AgreesTo frame_tables c.response v) seen all s)
    | inr none ↦ absurd (true-false (sym e ∙ none-held is_trivial seen none))
  ]

  remaining-left : (seen : SolverPast) → Plain seen → Left (from (remains seen)) seen
  remaining-left seen p = by (oldest_gives_none is_object false seen) refl
    where
      by : (b : Bool) → oldest_gives_none is_object false seen ≡ b → Left (from (remains seen)) seen
      by true e =
          silent_leaves_covered frame_tables laws applicable is_test same is_same h says_nothing begins_within (from (remains seen)) seen
          (some-stays (from (remains seen)) (IsSilent frame_tables laws applicable is_test same is_same h says_nothing begins_within (from (remains seen))) seen
          (SomeOf-mono
          (λ (c : Considered (workings frame_tables)). (from is_object c ≡ true) × IsSilentOne c)
          (λ (c : Considered (workings frame_tables)). (from (remains seen) c ≡ true) × IsSilentOne c)
          (λ c x. (object-remains seen c.spec.source x.0, x.1)) seen (no-otherwise (oldest-silent is_object false seen e))))
        where
          no-otherwise : (false ≡ true) ⊎ SomeOf (λ (c : Considered (workings frame_tables)). (from is_object c ≡ true) × IsSilentOne c) seen → SomeOf (λ (c : Considered (workings frame_tables)). (from is_object c ≡ true) × IsSilentOne c) seen
          no-otherwise (inl f) = absurd (true-false (sym f))
          no-otherwise (inr s) = s
      by false e = λ v s.
          all-kept (from (remains seen)) (λ (c : Considered (workings frame_tables)). AgreesTo frame_tables c.response v) seen
          (Every-mono (λ (c : Considered (workings frame_tables)). is_clause c.spec.source ≡ false) (λ (c : Considered (workings frame_tables)). from (remains seen) c ≡ true)
          (λ c n. all-remain seen c.spec.source (not-global c.spec.source n) e) seen p.0) s

  preferred_keeps : (room left : ℕ) (seen : SolverPast) → Covered seen → (h.World → Plain seen) → Kept room left seen (preferred applicable same h.begin seen)
  preferred_keeps room left seen covered plain = by (holds_from is_trivial seen) refl (holds_from is_non_global seen) refl
    where
      by : (b : Bool) → holds_from is_trivial seen ≡ b → (c : Bool) → holds_from is_non_global seen ≡ c
          → Kept room left seen (if b then merged applicable same h.begin is_trivial seen
          else if c then first_taken frame_tables applicable same h.begin (from is_clause) seen else merged applicable same h.begin (remains seen) seen)
      by true e c g = covering_merged_keeps frame_tables laws applicable is_test same is_same h says_nothing begins_within (from is_trivial) room left seen covered (λ w. trivial-left seen (plain w) e)
      by false e true g =
          first_taken_keeps frame_tables laws applicable is_test same is_same h says_nothing begins_within
          (λ w. true-false (sym g ∙ none-held is_non_global seen (no-non-globals seen (plain w).0))) (from is_clause) room left seen
      by false e false g = covering_merged_keeps frame_tables laws applicable is_test same is_same h says_nothing begins_within (from (remains seen)) room left seen covered (λ w. remaining-left seen (plain w))

  -- where solutions are looked for, each is realized, there is no where-clause, and the trivial rule is alone
  pub record RealizedOutside : Type 0 where
    pub covers : (w : h.World) (v : frame_tables.Values) → h.Proves w (h.goal v) → SomeOf (Realizes frame_tables (h.Proves w) h.begin v) early ⊎ SomeOf (Realizes frame_tables (h.Proves w) h.begin v) late
    pub clauseless : h.World → Every (λ (c : Candidate). is_clause c.source ≡ false) early × Every (λ (c : Candidate). is_clause c.source ≡ false) late
    pub trivial : h.World
        → (Every (λ (c : Candidate). is_trivial c.source ≡ true) early × Every (λ (c : Candidate). is_trivial c.source ≡ true) late)
        ⊎ (Every (λ (c : Candidate). is_trivial c.source ≡ false) early × Every (λ (c : Candidate). is_trivial c.source ≡ false) late)

  pub outside_keeps : Lawful early → Lawful late → RealizedOutside → length early + length late ≤ h.candidates → nested_in frame_tables early + nested_in frame_tables late ≤ h.number
      → Kept h.candidates h.number [] (outside_coherence applicable same h.begin V a)
  outside_keeps first second r few asks =
      keeps_more frame_tables h (length early + (length late + 0)) h.candidates (nested_in frame_tables early + (nested_in frame_tables late + 0)) h.number [] (outside_coherence applicable same h.begin V a)
      (omega (arith, few)) (omega (arith, asks))
      (keeps_each frame_tables h (length late + 0) (nested_in frame_tables late + 0) early
      (λ seen. if is_settled seen then preferred applicable same h.begin seen else each_of frame_tables late (preferred applicable same h.begin) seen) [] first
      (λ seen g. by seen g (is_settled seen) refl))
    where
      clauseless-at : h.World → (seen : SolverPast) → GoesByConsidering frame_tables early [] seen → Every (λ (c : Considered (workings frame_tables)). is_clause c.spec.source ≡ false) seen
      clauseless-at w seen g = every-through (λ (c : Candidate). is_clause c.source ≡ false) early [] seen g (r.clauseless w).0 tt

      both-through : (P : Candidate → Type 0) (seen later : SolverPast) → GoesByConsidering frame_tables early [] seen → GoesByConsidering frame_tables late seen later
          → Every P early × Every P late → Every (λ (c : Considered (workings frame_tables)). P c.spec) later
      both-through P seen later g i e = every-through P late seen later i e.1 (every-through P early [] seen g e.0 tt)

      plain-at : (seen later : SolverPast) → GoesByConsidering frame_tables early [] seen → GoesByConsidering frame_tables late seen later → h.World → Plain later
      plain-at seen later g i w = (
        both-through (λ (c : Candidate). is_clause c.source ≡ false) seen later g i (r.clauseless w),
        elim (r.trivial w) [
          | inl x ↦ inl (both-through (λ (c : Candidate). is_trivial c.source ≡ true) seen later g i x)
          | inr x ↦ inr (both-through (λ (c : Candidate). is_trivial c.source ≡ false) seen later g i x)
        ],
      )

      covered-at : (seen later : SolverPast) → GoesByConsidering frame_tables early [] seen → GoesByConsidering frame_tables late seen later → Covered later
      covered-at seen later g i = λ w v p. elim (r.covers w v p) [
        | inl x ↦ goes_on frame_tables (λ (c : Considered (workings frame_tables)). Realizes frame_tables (h.Proves w) h.begin v c.spec) late seen later i
            (goes_through frame_tables (Realizes frame_tables (h.Proves w) h.begin v) early [] seen g x)
        | inr x ↦ goes_through frame_tables (Realizes frame_tables (h.Proves w) h.begin v) late seen later i x
      ]

      -- where solutions are looked for nothing settles early
      none-settled : (seen : SolverPast) → GoesByConsidering frame_tables early [] seen → is_settled seen ≡ true → h.World → ⊥
      none-settled seen g e w = true-false (sym e ∙ unsettled seen (no-non-globals seen (clauseless-at w seen g)))

      by : (seen : SolverPast) → GoesByConsidering frame_tables early [] seen → (b : Bool) → is_settled seen ≡ b
          → Kept (length late + 0) (nested_in frame_tables late + 0) seen (if b then preferred applicable same h.begin seen else each_of frame_tables late (preferred applicable same h.begin) seen)
      by seen g true e =
          preferred_keeps (length late + 0) (nested_in frame_tables late + 0) seen (λ w. absurd (none-settled seen g e w)) (λ w. absurd (none-settled seen g e w))
      by seen g false e =
          keeps_each frame_tables h 0 0 late (preferred applicable same h.begin) seen second
          (λ later i. preferred_keeps 0 0 later (covered-at seen later g i) (plain-at seen later g i))
