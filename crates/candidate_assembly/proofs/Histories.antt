-- After each history of a goal the plan wants the candidate that is next by what was considered.
use Rattle.std.proofs.Common.{◌≡◌, ℕ, Bool, true, false, not, ◌&&◌, ◌||◌, if◌then◌else◌, List, [], ◌∷◌, ◌++◌, refl, sym, ◌∙◌, ap, Option, Some, None}
use Rattle.std.specs.Prelude.{IfSome, filter}
use Rattle.type_terms.specs.Promised.Worlds.{World}
use Rattle.infer_table.specs.declared.canonical.CanonicalVarKind.{CanonicalVarKind}
use Rattle.infer_table.specs.declared.certainty.TypingMode.{TypingMode}
use Rattle.infer_table.specs.declared.certainty.TypingMode.TheVariants.{Coherence, PostAnalysis}
use Rattle.goal_evaluator.specs.Lists.{Every}
use Rattle.goal_evaluator.specs.Candidate.{Considered, Next, consider, IsHistory}
use Rattle.goal_evaluator.specs.Merge.{or_else}
use Rattle.goal_evaluator.specs.Plans.{Plan, answers, told, after, wanted, came, each_of, first_alone}
use Rattle.goal_evaluator.specs.PlanAnswers.{kept_merged, first_passing, taken_or_merged, first_taken}
use Rattle.goal_evaluator.specs.Table.{workings}
use Rattle.goal_evaluator.specs.FrameTables.{kinds_known}
use Rattle.goal_evaluator.specs.TableOperations.{begin}
use Rattle.goal_evaluator.specs.Tables.{frame_tables}
use Rattle.goal_frames.specs.Handlers.{same_answer, applies_always}
use Rattle.candidate_model.specs.Meaning.{ViewMeaning}
use Rattle.candidate_model.specs.Knowing.{is_knowable}
use Rattle.candidate_model.specs.Asking.{GoalOverKinds, goal_over_kinds, clauses, self_of, begins_unknown}
use Rattle.candidate_model.specs.Candidates.{Candidate, unsure, unknowable, by_clauses, built_in, by_impls, by_objects}
use Rattle.candidate_model.specs.Solver.{SolverPast, from, is_clause, is_non_global, is_impl, is_trivial, says_nothing, is_settled, holds_from, remains, by_mode, plan_for}
use Rattle.candidate_assembly.specs.Merging.{end_in}
use Rattle.candidate_assembly.specs.Sections.{misc_is_bound, is_unknowable, is_built_in, is_bound, sources_tell, early, late, is_first_step, next_outside, next_in, decided, next_candidate, end_of, or_end, HistoriesTell}
use Rattle.candidate_assembly.proofs.Along.{Follows, Answers, same-considered, chosen, outside-next, known-next, unknown-next}
use Rattle.candidate_assembly.proofs.SourcesOf.{built-clause, impl-clause, bound-clause, impl-built, bound-built, bound-impl, clause-impl, clause-bound, built-impl, built-bound, clause-known, built-known, impl-known, bound-known, impl-quiet, bound-quiet, clauses-are, impls-are, built-in-are, objects-are}
use Rattle.std.proofs.lemmas.Bool.{not-true, not_from_false}
use Rattle.candidate_assembly.specs.Nexts.{next_undecided}

abbrev pub Plans : Type 0
Plans = Plan frame_tables

-- ---- ends are answers
module _ (kinds : List CanonicalVarKind) where
  merged-answers : (kept : Considered (workings frame_tables) → Bool) (seen : SolverPast) → Answers frame_tables (kept_merged frame_tables applies_always same_answer (begin kinds) kept seen)
  merged-answers kept seen = record { response = _; ignored = []; is = refl }

  taken-answers : (seen : SolverPast) (o : Option (Considered (workings frame_tables))) → Answers frame_tables (taken_or_merged frame_tables applies_always same_answer (begin kinds) seen o)
  taken-answers seen None = record { response = _; ignored = []; is = refl }
  taken-answers seen (Some c) = record { response = c.response; ignored = _; is = refl }

  pub ends-answer : (mode : TypingMode) (seen : SolverPast) → Answers frame_tables (end_in mode kinds seen)
  ends-answer Coherence seen = record { response = _; ignored = []; is = refl }
  ends-answer PostAnalysis seen = by (holds_from is_trivial seen) (holds_from is_non_global seen)
    where
      by : (b c : Bool)
          → Answers frame_tables (if b then kept_merged frame_tables applies_always same_answer (begin kinds) (from is_trivial) seen
          else if c then first_taken frame_tables applies_always same_answer (begin kinds) (from is_clause) seen
          else kept_merged frame_tables applies_always same_answer (begin kinds) (from (remains seen)) seen)
      by true c = merged-answers (from is_trivial) seen
      by false true = taken-answers (filter (from is_clause) seen) (first_passing frame_tables applies_always same_answer (begin kinds) (filter (from is_clause) seen))
      by false false = merged-answers (from (remains seen)) seen

-- ---- histories
follows-of : (p : Plans) (seen : SolverPast) → IsHistory (workings frame_tables) (λ z. wanted frame_tables (after frame_tables p z)) seen → Follows frame_tables p seen
follows-of p [] h = tt
follows-of p (c ∷ seen) h = (h.0, follows-of p seen h.2)

-- ---- goals that are not decided
module _ (end : SolverPast → Plans) (ends : (seen : SolverPast) → Answers frame_tables (end seen)) where
  abbrev alone : Plans
  alone = each_of frame_tables (unsure ∷ []) end []

  over : (c : Considered (workings frame_tables)) (seen : SolverPast) → Answers frame_tables (after frame_tables alone (c ∷ seen))
  over c [] = ends (came frame_tables unsure c.response c.number ∷ [])
  over c (d ∷ seen) = let a = over d seen in record { response = a.response; ignored = a.ignored; is = ap (told frame_tables c) a.is }

  abbrev spec-in : Candidate → Next (workings frame_tables) → Candidate
  spec-in s (consider c) = c
  spec-in s n = s

  pub alone-next : (seen : SolverPast) → Follows frame_tables alone seen → wanted frame_tables (after frame_tables alone seen) ≡ or_end (next_undecided seen) (end seen)
  alone-next [] f = refl
  alone-next (c ∷ []) f =
      let same : unsure ≡ c.spec = ap (spec-in unsure) f.0 in
      ap (λ z. wanted frame_tables (end (z ∷ []))) (same-considered frame_tables unsure c same)
  alone-next (c ∷ d ∷ seen) f =
      let a = over d seen in
      let bad : ◌≡◌ {A = Next (workings frame_tables)} (wanted frame_tables (answers a.response a.ignored)) (consider c.spec) = sym (ap (wanted frame_tables) a.is) ∙ f.0 in
      absurd cc

or-chosen : (o : Option Candidate) (end : Plans) → chosen frame_tables o (wanted frame_tables end) ≡ or_end o end
or-chosen None end = refl
or-chosen (Some s) end = refl

-- ---- goals that are decided
module _ (V : World) (crate : ℕ) (a : GoalOverKinds) (tell : sources_tell a ≡ true) (end : SolverPast → Plans) (ends : (seen : SolverPast) → Answers frame_tables (end seen)) where
  abbrev b : Bool
  b = misc_is_bound a

  abbrev pU : Candidate → Bool
  pU c = is_unknowable c.source

  abbrev pA : Candidate → Bool
  pA c = is_clause c.source

  abbrev pB : Candidate → Bool
  pB c = is_built_in b c.source

  abbrev pC : Candidate → Bool
  pC c = is_impl c.source

  abbrev pD : Candidate → Bool
  pD c = is_bound b c.source

  abbrev quiet : Candidate → Bool
  quiet c = not (is_non_global c.source)

  stays : (c : Considered (workings frame_tables)) (seen : SolverPast) → quiet c.spec ≡ true → is_settled (c ∷ seen) ≡ is_settled seen
  stays c seen h = ap (λ x. (x && says_nothing c.response) || is_settled seen) (not-true (is_non_global c.spec.source) h)

  quiets : (p : Candidate → Bool) → ((c : Candidate) → p c ≡ true → quiet c ≡ true) → (xs : List Candidate) → Every (λ (c : Candidate). p c ≡ true) xs → Every (λ (c : Candidate). quiet c ≡ true) xs
  quiets p f [] h = tt
  quiets p f (x ∷ xs) h = (f x h.0, quiets p f xs h.1)

  both-quiet : (xs ys : List Candidate) → Every (λ (c : Candidate). quiet c ≡ true) xs → Every (λ (c : Candidate). quiet c ≡ true) ys → Every (λ (c : Candidate). quiet c ≡ true) (xs ++ ys)
  both-quiet [] ys h g = g
  both-quiet (x ∷ xs) ys h g = (h.0, both-quiet xs ys h.1 g)

  still : Every (λ (c : Candidate). quiet c ≡ true) (by_impls V a V.impls ++ by_objects V a)
  still =
      both-quiet (by_impls V a V.impls) (by_objects V a)
      (quiets pC (λ c h. not_from_false (is_non_global c.source) (impl-quiet c.source h)) (by_impls V a V.impls) (impls-are V a V.impls))
      (quiets pD (λ c h. not_from_false (is_non_global c.source) (bound-quiet b c.source h)) (by_objects V a) (objects-are V a b refl tell))

  abbrev out-plan : Plans
  out-plan = each_of frame_tables (by_clauses V a (clauses a) ++ built_in V a) (λ seen. if is_settled seen then end seen else each_of frame_tables (by_impls V a V.impls ++ by_objects V a) end seen) []

  pub next-outside : (seen : SolverPast) → Follows frame_tables out-plan seen → wanted frame_tables (after frame_tables out-plan seen) ≡ or_end (next_outside V a seen) (end seen)
  next-outside seen f =
      outside-next frame_tables pU pA pB pC pD
      (λ c. built-clause b c.source) (λ c. impl-clause c.source) (λ c. bound-clause b c.source) (λ c. impl-built b c.source) (λ c. bound-built b c.source) (λ c. bound-impl b c.source)
      (λ c. clause-impl c.source) (λ c. clause-bound b c.source) (λ c. built-impl b c.source) (λ c. built-bound b c.source)
      (by_clauses V a (clauses a)) (built_in V a) (by_impls V a V.impls) (by_objects V a) (clauses-are V a (clauses a)) (built-in-are V a b refl) (impls-are V a V.impls) (objects-are V a b refl tell)
      end ends is_settled quiet stays still seen f
      ∙ or-chosen (next_outside V a seen) (end seen)

  abbrev all : List Candidate
  all = by_clauses V a (clauses a) ++ (built_in V a ++ (by_impls V a V.impls ++ by_objects V a))

  abbrev in-plan : Bool → Plans
  in-plan known = if known then each_of frame_tables all end [] else first_alone frame_tables (unknowable V a) (λ seen. each_of frame_tables all end seen) end []

  abbrev next-both : SolverPast → Option Candidate
  next-both seen = if holds_from is_unknowable seen then None else or_else (early V a seen) (late V a seen)

  abbrev next-if : Bool → SolverPast → Option Candidate
  next-if known seen = if is_first_step seen && not known then Some (unknowable V a) else next-both seen

  -- where the goal is knowable, no crate that is not seen is asked of
  never-first : (seen : SolverPast) → next-if true seen ≡ next-both seen
  never-first [] = refl
  never-first (c ∷ seen) = refl

  next-known : (seen : SolverPast) → Follows frame_tables (in-plan true) seen → wanted frame_tables (after frame_tables (in-plan true) seen) ≡ or_end (next-both seen) (end seen)
  next-known seen f =
      known-next frame_tables pU pA pB pC pD
      (λ c. built-clause b c.source) (λ c. impl-clause c.source) (λ c. bound-clause b c.source) (λ c. impl-built b c.source) (λ c. bound-built b c.source) (λ c. bound-impl b c.source)
      (λ c. clause-impl c.source) (λ c. clause-bound b c.source) (λ c. built-impl b c.source) (λ c. built-bound b c.source)
      (by_clauses V a (clauses a)) (built_in V a) (by_impls V a V.impls) (by_objects V a) (clauses-are V a (clauses a)) (built-in-are V a b refl) (impls-are V a V.impls) (objects-are V a b refl tell)
      end ends (λ c. clause-known c.source) (λ c. built-known b c.source) (λ c. impl-known c.source) (λ c. bound-known b c.source) seen f
      ∙ or-chosen (next-both seen) (end seen)

  next-unknown : (seen : SolverPast) → Follows frame_tables (in-plan false) seen → wanted frame_tables (after frame_tables (in-plan false) seen) ≡ or_end (next-if false seen) (end seen)
  next-unknown [] f = refl
  next-unknown (c ∷ seen) f =
      unknown-next frame_tables pU pA pB pC pD
      (λ c. built-clause b c.source) (λ c. impl-clause c.source) (λ c. bound-clause b c.source) (λ c. impl-built b c.source) (λ c. bound-built b c.source) (λ c. bound-impl b c.source)
      (λ c. clause-impl c.source) (λ c. clause-bound b c.source) (λ c. built-impl b c.source) (λ c. built-bound b c.source)
      (by_clauses V a (clauses a)) (built_in V a) (by_impls V a V.impls) (by_objects V a) (clauses-are V a (clauses a)) (built-in-are V a b refl) (impls-are V a V.impls) (objects-are V a b refl tell)
      end ends (λ c. clause-known c.source) (λ c. built-known b c.source) (λ c. impl-known c.source) (λ c. bound-known b c.source)
      (unknowable V a) refl refl refl refl refl (c ∷ seen) f
      ∙ or-chosen (next-both (c ∷ seen)) (end (c ∷ seen))

  pub next-inside : (known : Bool) (seen : SolverPast) → Follows frame_tables (in-plan known) seen → wanted frame_tables (after frame_tables (in-plan known) seen) ≡ or_end (next-if known seen) (end seen)
  next-inside true seen f = next-known seen f ∙ sym (ap (λ o. or_end o (end seen)) (never-first seen))
  next-inside false seen f = next-unknown seen f

-- ---- the plan of a goal
module _ (m : ViewMeaning) (kinds : List CanonicalVarKind) where
  abbrev plan-of : TypingMode → Option GoalOverKinds → Plans
  plan-of mode o = plan_for applies_always same_answer (begin kinds) m mode o

  abbrev Tells : Option GoalOverKinds → Type 0
  Tells o = IfSome o (λ a. sources_tell a ≡ true)

  undecided-next : (seen : SolverPast) → Follows frame_tables (alone (end_in Coherence kinds) (ends-answer kinds Coherence)) seen
      → wanted frame_tables (after frame_tables (alone (end_in Coherence kinds) (ends-answer kinds Coherence)) seen) ≡ or_end (if is_first_step seen then Some unsure else None) (end_in Coherence kinds seen)
  undecided-next seen f = alone-next (end_in Coherence kinds) (ends-answer kinds Coherence) seen f

  decided-next : (mode : TypingMode) (a : GoalOverKinds) → sources_tell a ≡ true → (seen : SolverPast) → Follows frame_tables (by_mode applies_always same_answer (begin kinds) m mode a) seen
      → wanted frame_tables (after frame_tables (by_mode applies_always same_answer (begin kinds) m mode a) seen) ≡ or_end (next_in m mode a seen) (end_in mode kinds seen)
  decided-next Coherence a t seen f = next-inside m.view m.crate a t (end_in Coherence kinds) (ends-answer kinds Coherence) (is_knowable m.view m.crate a.reference) seen f
  decided-next PostAnalysis a t seen f = next-outside m.view m.crate a t (end_in PostAnalysis kinds) (ends-answer kinds PostAnalysis) seen f

  pub plan-next : (mode : TypingMode) (o : Option GoalOverKinds) → Tells (decided m o) → (seen : SolverPast) → Follows frame_tables (plan-of mode o) seen
      → wanted frame_tables (after frame_tables (plan-of mode o) seen) ≡ or_end (next_candidate m mode (decided m o) seen) (end_of mode (decided m o) kinds seen)
  plan-next mode None t seen f = undecided-next seen f
  plan-next mode (Some a) t seen f = by (not m.is_sound || begins_unknown a.kinds (self_of a)) t f
    where
      as-planned : Bool → Plans
      as-planned c = if c then each_of frame_tables (unsure ∷ []) (end_in Coherence kinds) [] else by_mode applies_always same_answer (begin kinds) m mode a

      by : (c : Bool) → Tells (if c then None else Some a) → Follows frame_tables (as-planned c) seen
          → wanted frame_tables (after frame_tables (as-planned c) seen) ≡ or_end (next_candidate m mode (if c then None else Some a) seen) (end_of mode (if c then None else Some a) kinds seen)
      by true t f = undecided-next seen f
      by false t f = decided-next mode a t seen f

pub histories-tell : HistoriesTell
histories-tell m mode f t seen h =
    plan-next m (kinds_known f.kinds) mode (goal_over_kinds m.view f) t seen (follows-of (plan-of m (kinds_known f.kinds) mode (goal_over_kinds m.view f)) seen h)
