-- Where an impl, a where-clause or a bound was considered last, the goal is decided; behind an impl impls and bounds alone are left, and
-- behind a bound bounds.
use Rattle.std.proofs.Common.{◌≡◌, ℕ, suc, Bool, true, false, cond, not, ◌&&◌, ◌||◌, if◌then◌else◌, List, [], ◌∷◌, length, map, refl, sym, ◌∙◌, ap, subst, Option, Some, None}
use Rattle.std.specs.Prelude.{filter, IfSome, is_some, option_map}
use Rattle.std.specs.List.{slice_get}
use Rattle.type_terms.specs.Promised.Worlds.{World}
use Rattle.type_terms.specs.Promised.Handles.{Entry}
use Rattle.type_terms.proofs.Made.{false-true, left, right}
use Rattle.infer_table.specs.Canonical.{CanonicalForm}
use Rattle.infer_table.specs.Inputs.{form_of}
use Rattle.infer_table.specs.declared.certainty.TypingMode.{TypingMode}
use Rattle.infer_table.specs.declared.certainty.TypingMode.TheVariants.{Coherence, PostAnalysis}
use Rattle.infer_table.specs.declared.input.CanonicalInput.{CanonicalInput}
use Rattle.goal_evaluator.specs.declared.candidate.Considered as InCode
use Rattle.goal_evaluator.specs.Candidate.{Considered, Next, IsHistory}
use Rattle.goal_evaluator.specs.Merge.{or_else}
use Rattle.goal_evaluator.specs.Table.{workings}
use Rattle.goal_evaluator.specs.FrameTables.{kinds_known}
use Rattle.goal_evaluator.specs.Tables.{frame_tables}
use Rattle.goal_frames.specs.Handlers.{same_answer, applies_always}
use Rattle.goal_evaluator.specs.StepReadings.{HasHistory, Shows, shown_by}
use Rattle.declarations.specs.Items.{Items, written}
use Rattle.candidate_model.specs.Meaning.{ViewMeaning}
use Rattle.candidate_model.specs.Knowing.{is_knowable}
use Rattle.candidate_model.specs.Asking.{GoalOverKinds, goal_over_kinds, asked_if, clauses, self_of, begins_unknown}
use Rattle.candidate_model.specs.Candidates.{Candidate, unsure, unknowable, by_clauses, built_in, by_impls, by_objects}
use Rattle.candidate_model.specs.DeclaredWell.{is_declared_well}
use Rattle.candidate_model.specs.Lifetimes.{form_gives_lifetimes}
use Rattle.candidate_model.specs.Solver.{SolverPast, from, is_clause, is_impl, is_settled, says_nothing, holds_from, solver_handled}
use Rattle.type_terms.proofs.Members.{not-both, same-number}
use Rattle.built_in_candidates.specs.Goals.{asked_of}
use Rattle.candidate_assembly.specs.Counted.{ends_by, is_numbered_bound, is_of}
use Rattle.built_in_candidates.specs.Objects.{IsByBound}
use Rattle.candidate_assembly.specs.declared.assembly.Section.TheVariants.{Impls}
use Rattle.goal_evaluator.specs.declared.candidate.CandidateSource.{CandidateSource}
use Rattle.goal_evaluator.specs.declared.candidate.CandidateSource.TheVariants.{BuiltinImpl}
use Rattle.goal_evaluator.specs.declared.candidate.BuiltinImplSource.TheVariants.{Trivial, Misc, Object, TraitUpcasting}
use Rattle.candidate_assembly.specs.Fitting.{fits_declared, solving_of}
use Rattle.candidate_assembly.specs.Nexts.{handled_in, ForEachHistory, late_in, next_decided}
use Rattle.candidate_assembly.specs.Ready.{AreReadyDeclarations, IsWellPosedGoal, Decides}
use Rattle.candidate_assembly.specs.Sections.{misc_is_bound, is_unknowable, is_built_in, is_bound, sources_tell, considered_from, early, late, is_first_step, next_in, decided, next_candidate, end_of, or_end}
use Rattle.candidate_assembly.specs.Solving.{meaning_for}
use Rattle.candidate_assembly.proofs.Along.{Answers}
use Rattle.candidate_assembly.proofs.Counted.{ends-is}
use Rattle.candidate_assembly.proofs.Deciding.{tests, asked-tests, decided-fits}
use Rattle.candidate_assembly.proofs.DecidedGoals.{next_impl, next_bound}
use Rattle.candidate_assembly.proofs.GoingOn.{none-is, at-every, NoImpl, no-early, considered-is}
use Rattle.candidate_assembly.proofs.Histories.{ends-answer, histories-tell}
use Rattle.candidate_assembly.proofs.SourcesOf.{impl-clause, impl-built, impl-known, impl-quiet, bound-clause, bound-built, bound-impl, bound-known, bound-quiet, clause-bound, built-bound, clauses-are, built-in-are, impls-are}
use Rattle.candidate_assembly.proofs.TraitGoals.{was-asked}
use Rattle.type_terms.proofs.TypeBasics.{some-is}

-- ---- what is next behind an impl
module _ (m : ViewMeaning) (a : GoalOverKinds) (tell : sources_tell a ≡ true) (c : Considered (workings frame_tables)) (seen : SolverPast) (t : is_impl c.spec.source ≡ true) where
  abbrev V : World
  V = m.view

  abbrev built : SolverPast → List (Considered (workings frame_tables))
  built z = filter (from (is_built_in (misc_is_bound a))) z

  -- an impl is no where-clause and no built-in rule
  same-early : early V a (c ∷ seen) ≡ early V a seen
  same-early =
      ap (λ b. or_else (slice_get (by_clauses V a (clauses a)) (length (cond b (c ∷ filter (from is_clause) seen) (filter (from is_clause) seen)))) (slice_get (built_in V a) (length (built (c ∷ seen))))) (impl-clause c.spec.source t)
      ∙ ap (λ b. or_else (slice_get (by_clauses V a (clauses a)) (considered_from is_clause seen)) (slice_get (built_in V a) (length (cond b (c ∷ built seen) (built seen))))) (impl-built (misc_is_bound a) c.spec.source t)

  same-held : holds_from is_unknowable (c ∷ seen) ≡ holds_from is_unknowable seen
  same-held = ap (λ b. (b && is_some c.response) || holds_from is_unknowable seen) (impl-known c.spec.source t)

  -- and settles nothing
  same-settled : is_settled (c ∷ seen) ≡ is_settled seen
  same-settled = ap (λ b. (b && says_nothing c.response) || is_settled seen) (impl-quiet c.spec.source t)

  abbrev rest : Option Candidate
  rest = late V a (c ∷ seen)

  pub late-next : (mode : TypingMode) → next_in m mode a seen ≡ Some c.spec → next_in m mode a (c ∷ seen) ≡ rest
  late-next Coherence e =
      ap (λ b. if b then None else or_else (early V a (c ∷ seen)) rest) same-held
      ∙ ap (λ o. if holds_from is_unknowable seen then None else or_else o rest) same-early
      ∙ by (is_first_step seen && not (is_knowable V m.crate a.reference)) (holds_from is_unknowable seen) (early V a seen) (no-early m a tell seen) e
    where
      by : (b u : Bool) (o : Option Candidate) → NoImpl o → (if b then Some (unknowable V a) else if u then None else or_else o (late V a seen)) ≡ Some c.spec → (if u then None else or_else o rest) ≡ rest
      by true u o n g = absurd (not-both (is_impl c.spec.source) t (sym (ap (λ (x : Candidate). is_impl x.source) (some-is (unknowable V a) c.spec g))))
      by false true o n g = absurd (none-is c.spec g)
      by false false None n g = refl
      by false false (Some x) n g = absurd (not-both (is_impl c.spec.source) t (n c.spec g))
  late-next PostAnalysis e =
      ap (λ b. or_else (early V a (c ∷ seen)) (if b then None else rest)) same-settled
      ∙ ap (λ o. or_else o (if is_settled seen then None else rest)) same-early
      ∙ by (is_settled seen) (early V a seen) (no-early m a tell seen) e
    where
      by : (u : Bool) (o : Option Candidate) → NoImpl o → or_else o (if u then None else late V a seen) ≡ Some c.spec → or_else o (if u then None else rest) ≡ rest
      by u (Some x) n g = absurd (not-both (is_impl c.spec.source) t (n c.spec g))
      by true None n g = absurd (none-is c.spec g)
      by false None n g = refl

-- ---- what is next behind a bound
-- The candidate is the one after that by the bound with this number.
pub record NextIsAfter (V : World) (a : GoalOverKinds) (number : ℕ) (next : Option Candidate) : Type 0 where
  pub place : ℕ
  pub was : IsByBound V a number place
  pub is : slice_get (by_objects V a) (suc place) ≡ next

no-bound-early : (V : World) (a : GoalOverKinds) (seen : SolverPast) (s : Candidate) → early V a seen ≡ Some s → is_bound (misc_is_bound a) s.source ≡ false
no-bound-early V a seen s e =
    by (slice_get (by_clauses V a (clauses a)) (considered_from is_clause seen)) (slice_get (built_in V a) (considered_from (is_built_in (misc_is_bound a)) seen))
    (λ x g. clause-bound (misc_is_bound a) x.source (at-every (λ (y : Candidate). is_clause y.source ≡ true) (by_clauses V a (clauses a)) (considered_from is_clause seen) x (clauses-are V a (clauses a)) g))
    (λ x g. built-bound (misc_is_bound a) x.source (at-every (λ (y : Candidate). is_built_in (misc_is_bound a) y.source ≡ true) (built_in V a) (considered_from (is_built_in (misc_is_bound a)) seen) x (built-in-are V a (misc_is_bound a) refl) g))
    e
  where
    by : (o q : Option Candidate) → ((x : Candidate) → o ≡ Some x → is_bound (misc_is_bound a) x.source ≡ false) → ((x : Candidate) → q ≡ Some x → is_bound (misc_is_bound a) x.source ≡ false)
        → or_else o q ≡ Some s → is_bound (misc_is_bound a) s.source ≡ false
    by (Some x) q h g e = h s e
    by None q h g e = g s e

module _ (m : ViewMeaning) (a : GoalOverKinds) (c : Considered (workings frame_tables)) (seen : SolverPast) (t : is_bound (misc_is_bound a) c.spec.source ≡ true) where
  abbrev W : World
  W = m.view

  abbrev b : Bool
  b = misc_is_bound a

  abbrev rules : SolverPast → List (Considered (workings frame_tables))
  rules z = filter (from (is_built_in b)) z

  -- a bound is no where-clause and no built-in rule
  early-stays : early W a (c ∷ seen) ≡ early W a seen
  early-stays =
      ap (λ x. or_else (slice_get (by_clauses W a (clauses a)) (length (cond x (c ∷ filter (from is_clause) seen) (filter (from is_clause) seen)))) (slice_get (built_in W a) (length (rules (c ∷ seen))))) (bound-clause b c.spec.source t)
      ∙ ap (λ x. or_else (slice_get (by_clauses W a (clauses a)) (considered_from is_clause seen)) (slice_get (built_in W a) (length (cond x (c ∷ rules seen) (rules seen))))) (bound-built b c.spec.source t)

  -- nor an impl
  impl-stays : next_impl W a (c ∷ seen) ≡ next_impl W a seen
  impl-stays = ap (λ x. slice_get (by_impls W a W.impls) (length (cond x (c ∷ filter (from is_impl) seen) (filter (from is_impl) seen)))) (bound-impl b c.spec.source t)

  held-stays : holds_from is_unknowable (c ∷ seen) ≡ holds_from is_unknowable seen
  held-stays = ap (λ x. (x && is_some c.response) || holds_from is_unknowable seen) (bound-known b c.spec.source t)

  settled-stays : is_settled (c ∷ seen) ≡ is_settled seen
  settled-stays = ap (λ x. (x && says_nothing c.response) || is_settled seen) (bound-quiet b c.spec.source t)

  abbrev other : Option Candidate
  other = next_bound W a (c ∷ seen)

  not-it : (x : Candidate) → is_bound b x.source ≡ false → ◌≡◌ {A = Option Candidate} (Some x) (Some c.spec) → ⊥
  not-it x h g = not-both (is_bound b c.spec.source) t (ap (λ (y : Candidate). is_bound b y.source) (sym (some-is x c.spec g)) ∙ h)

  abbrev IsNext : Option Candidate → Type 0
  IsNext o = (next_bound W a seen ≡ Some c.spec) × (o ≡ other)

  by-none : (o i : Option Candidate) → early W a seen ≡ o → next_impl W a seen ≡ i → or_else o (or_else i (next_bound W a seen)) ≡ Some c.spec → IsNext (or_else o (or_else i other))
  by-none (Some x) i e f g = absurd (not-it x (no-bound-early W a seen x e) g)
  by-none None (Some x) e f g =
      absurd (not-both (is_impl x.source) (at-every (λ (y : Candidate). is_impl y.source ≡ true) (by_impls W a W.impls) (considered_from is_impl seen) x (impls-are W a W.impls) f)
      (ap (λ (y : Candidate). is_impl y.source) (some-is x c.spec g) ∙ bound-impl b c.spec.source t))
  by-none None None e f g = (g, refl)

  bound-next : (mode : TypingMode) → next_in m mode a seen ≡ Some c.spec → IsNext (next_in m mode a (c ∷ seen))
  bound-next Coherence e =
      let found = by (is_first_step seen && not (is_knowable W m.crate a.reference)) (holds_from is_unknowable seen) e in (
        found.0,
        ap (λ x. if x then None else or_else (early W a (c ∷ seen)) (or_else (next_impl W a (c ∷ seen)) other)) held-stays
            ∙ ap (λ o. if holds_from is_unknowable seen then None else or_else o (or_else (next_impl W a (c ∷ seen)) other)) early-stays
            ∙ ap (λ i. if holds_from is_unknowable seen then None else or_else (early W a seen) (or_else i other)) impl-stays
            ∙ found.1,
      )
    where
      by : (x u : Bool) → (if x then Some (unknowable W a) else if u then None else or_else (early W a seen) (late W a seen)) ≡ Some c.spec
          → IsNext (if u then None else or_else (early W a seen) (or_else (next_impl W a seen) other))
      by true u g = absurd (not-it (unknowable W a) refl g)
      by false true g = absurd (none-is c.spec g)
      by false false g = by-none (early W a seen) (next_impl W a seen) refl refl g
  bound-next PostAnalysis e =
      let found = by (is_settled seen) e in (
        found.0,
        ap (λ x. or_else (early W a (c ∷ seen)) (if x then None else or_else (next_impl W a (c ∷ seen)) other)) settled-stays
            ∙ ap (λ o. or_else o (if is_settled seen then None else or_else (next_impl W a (c ∷ seen)) other)) early-stays
            ∙ ap (λ i. or_else (early W a seen) (if is_settled seen then None else or_else i other)) impl-stays
            ∙ found.1,
      )
    where
      from-early : (o : Option Candidate) → early W a seen ≡ o → or_else o None ≡ Some c.spec → IsNext (or_else o None)
      from-early (Some x) e g = absurd (not-it x (no-bound-early W a seen x e) g)
      from-early None e g = absurd (none-is c.spec g)

      by : (u : Bool) → or_else (early W a seen) (if u then None else late W a seen) ≡ Some c.spec → IsNext (or_else (early W a seen) (if u then None else or_else (next_impl W a seen) other))
      by true g = from-early (early W a seen) refl g
      by false g = by-none (early W a seen) (next_impl W a seen) refl refl g

  bounds-more : other ≡ slice_get (by_objects W a) (suc (considered_from (is_bound b) seen))
  bounds-more = ap (λ x. slice_get (by_objects W a) (length (cond x (c ∷ filter (from (is_bound b)) seen) (filter (from (is_bound b)) seen)))) t

  pub numbered-next : (mode : TypingMode) (n : ℕ) → c.spec.source ≡ BuiltinImpl (Object n) → next_in m mode a seen ≡ Some c.spec → NextIsAfter W a n (next_in m mode a (c ∷ seen))
  numbered-next mode n s e =
      let found = bound-next mode e in
      record {
        place = considered_from (is_bound b) seen;
        was = ap (option_map (λ (x : Candidate). x.source)) found.0 ∙ ap Some s;
        is = sym (found.1 ∙ bounds-more);
      }

-- ---- along histories
module _ (m : ViewMeaning) (mode : TypingMode) (f : CanonicalForm) (c : Considered (workings frame_tables)) (seen : SolverPast) where
  abbrev next : SolverPast → Next (workings frame_tables)
  next = (solver_handled applies_always same_answer m mode f).next

  end-answers : (o : Option GoalOverKinds) → Answers frame_tables (end_of mode o (kinds_known f.kinds) seen)
  end-answers None = ends-answer (kinds_known f.kinds) Coherence seen
  end-answers (Some a) = ends-answer (kinds_known f.kinds) mode seen

  was-next : (o : Option GoalOverKinds) → decided m (goal_over_kinds m.view f) ≡ o → IfSome o (λ a. sources_tell a ≡ true) → IsHistory (workings frame_tables) next (c ∷ seen) → next_candidate m mode o seen ≡ Some c.spec
  was-next o is tell h =
      considered-is (next_candidate m mode o seen) (end_of mode o (kinds_known f.kinds) seen) (end-answers o) c.spec
      (sym (histories-tell m mode f (subst (λ x. IfSome x (λ a. sources_tell a ≡ true)) (sym is) tell) seen h.2
      ∙ ap (λ x. or_end (next_candidate m mode x seen) (end_of mode x (kinds_known f.kinds) seen)) is)
      ∙ h.0)

  -- none but the unsure candidate is considered for a goal that is not decided
  pub others-decide : (p : CandidateSource → Bool) → p unsure.source ≡ false → IsHistory (workings frame_tables) next (c ∷ seen) → p c.spec.source ≡ true
      → (a : GoalOverKinds) × (decided m (goal_over_kinds m.view f) ≡ Some a)
  others-decide p other h t = by (decided m (goal_over_kinds m.view f)) refl
    where
      not-alone : (b : Bool) → (if b then Some unsure else None) ≡ Some c.spec → ⊥
      not-alone true g = not-both (p c.spec.source) t (ap (λ (x : Candidate). p x.source) (sym (some-is unsure c.spec g)) ∙ other)
      not-alone false g = none-is c.spec g

      by : (o : Option GoalOverKinds) → decided m (goal_over_kinds m.view f) ≡ o → (a : GoalOverKinds) × (decided m (goal_over_kinds m.view f) ≡ Some a)
      by None is = absurd (not-alone (is_first_step seen) (was-next None is tt h))
      by (Some a) is = (a, is)

  pub late-behind : (a : GoalOverKinds) → decided m (goal_over_kinds m.view f) ≡ Some a → sources_tell a ≡ true → IsHistory (workings frame_tables) next (c ∷ seen) → is_impl c.spec.source ≡ true
      → next_in m mode a (c ∷ seen) ≡ late m.view a (c ∷ seen)
  late-behind a is tell h t = late-next m a tell c seen t mode (was-next (Some a) is tell h)

  pub bound-behind : (a : GoalOverKinds) (n : ℕ) → decided m (goal_over_kinds m.view f) ≡ Some a → sources_tell a ≡ true → IsHistory (workings frame_tables) next (c ∷ seen) → c.spec.source ≡ BuiltinImpl (Object n)
      → NextIsAfter m.view a n (next_in m mode a (c ∷ seen))
  bound-behind a n is tell h s = numbered-next m a c seen (ap (is_bound (misc_is_bound a)) s) mode n s (was-next (Some a) is tell h)

-- ---- goals in code
object-is : (n : ℕ) (s : CandidateSource) → is_numbered_bound n s ≡ true → s ≡ BuiltinImpl (Object n)
object-is n (BuiltinImpl (Object i)) h = ap (λ m. BuiltinImpl (Object m)) (same-number i n h)
object-is n (BuiltinImpl Misc) h = absurd cc
object-is n (BuiltinImpl Trivial) h = absurd cc
object-is n (BuiltinImpl (TraitUpcasting i)) h = absurd cc
object-is n s h = absurd cc

is-sound : (n : ViewMeaning) (o : Option GoalOverKinds) (a : GoalOverKinds) → decided n o ≡ Some a → n.is_sound ≡ true
is-sound n None a e = absurd cc
is-sound n (Some x) a e = by n.is_sound e
  where
    by : (b : Bool) → (if not b || begins_unknown x.kinds (self_of x) then None else Some x) ≡ Some a → b ≡ true
    by true q = refl
    by false q = absurd cc

module _ (es : List Entry) (d : Items) (g : CanonicalInput) (done : List InCode.Considered) (e : ends_by (is_of false Impls) false done ≡ true) where
  pub behind-impl : IsWellPosedGoal es d g → ForEachHistory es d g done (λ seen. late_in es d g seen ≡ next_decided es d g seen)
  behind-impl h [] s t = absurd (false-true (sym (ends-is (is_of false Impls) es done [] s) ∙ e))
  behind-impl h (c ∷ seen) s t =
      sym (late-behind (meaning_for (solving_of es d) (form_of es g)) g.mode (form_of es g) c seen (asked_of es g) h.is h.fits.tells t (sym (ends-is (is_of false Impls) es done (c ∷ seen) s) ∙ e))

module _ (es : List Entry) (d : Items) (g : CanonicalInput) (done : List InCode.Considered) (n : ℕ) (e : ends_by (is_numbered_bound n) false done ≡ true) where
  pub behind-bound : IsWellPosedGoal es d g → ForEachHistory es d g done (λ seen. NextIsAfter (written es d) (asked_of es g) n (next_decided es d g seen))
  behind-bound h [] s t = absurd (false-true (sym (ends-is (is_numbered_bound n) es done [] s) ∙ e))
  behind-bound h (c ∷ seen) s t =
      bound-behind (meaning_for (solving_of es d) (form_of es g)) g.mode (form_of es g) c seen (asked_of es g) n h.is h.fits.tells t
      (object-is n c.spec.source (sym (ends-is (is_numbered_bound n) es done (c ∷ seen) s) ∙ e))

module _ (es : List Entry) (d : Items) (g : CanonicalInput) (done : List InCode.Considered) (p : CandidateSource → Bool) (other : p unsure.source ≡ false)
    (e : ends_by p false done ≡ true) where
  abbrev own : GoalOverKinds
  own = asked_of es g

  same-asked : (a : GoalOverKinds) → goal_over_kinds (written es d) (form_of es g) ≡ Some a → a ≡ own
  same-asked a is = by (tests es d g) (sym (asked-tests es d g) ∙ is)
    where
      by : (b : Bool) → asked_if b own ≡ Some a → a ≡ own
      by true q = cc
      by false q = absurd cc

  pub decides : AreReadyDeclarations es d → HasHistory es (handled_in es d g) done → Decides es d g true
  decides ready h = by h.0 h.1 h.2
    where
      m : ViewMeaning
      m = meaning_for (solving_of es d) (form_of es g)

      by-asked : (a : GoalOverKinds) → decided m (goal_over_kinds (written es d) (form_of es g)) ≡ Some a → Decides es d g true
      by-asked a is =
          let was = was-asked m (goal_over_kinds (written es d) (form_of es g)) a is in
          let same = same-asked a was in
          let sound = is-sound m (goal_over_kinds (written es d) (form_of es g)) a is in
          let fits = left (fits_declared d (form_of es g)) (form_gives_lifetimes (written es d) (form_of es g)) (right (is_declared_well (written es d)) _ sound) in
          record { is = is ∙ ap (λ x. Some x) same; fits = λ _. decided-fits es d g (was ∙ ap (λ x. Some x) same) fits }

      by : (seen : SolverPast) → Shows (map (shown_by es) done) seen → IsHistory (workings frame_tables) (handled_in es d g).next seen → Decides es d g true
      by [] s t = absurd (false-true (sym (ends-is p es done [] s) ∙ e))
      by (c ∷ seen) s t =
          let found = others-decide m g.mode (form_of es g) c seen p other t (sym (ends-is p es done (c ∷ seen) s) ∙ e) in
          by-asked found.0 found.1
