-- The walk over impls goes on behind the impl that was considered last.
use Rattle.std.proofs.Common.{◌≡◌, ℕ, zero, suc, Bool, true, false, cond, not, ◌&&◌, if◌then◌else◌, List, [], ◌∷◌, map, length, refl, sym, ◌∙◌, ap, subst, Option, Some, None}
use Rattle.std.specs.Prelude.{filter, IfSome}
use Rattle.std.specs.List.{slice_get}
use Rattle.type_terms.specs.Promised.Worlds.{World}
use Rattle.type_terms.specs.Promised.Handles.{Entry}
use Rattle.infer_table.specs.Canonical.{CanonicalForm}
use Rattle.infer_table.specs.declared.certainty.TypingMode.{TypingMode}
use Rattle.infer_table.specs.declared.certainty.TypingMode.TheVariants.{Coherence, PostAnalysis}
use Rattle.goal_evaluator.specs.Lists.{Every}
use Rattle.goal_evaluator.specs.declared.candidate.CandidateSource.{CandidateSource}
use Rattle.goal_evaluator.specs.declared.candidate.CandidateSource.TheVariants.{Impl}
use Rattle.goal_evaluator.specs.Candidate.{Next, consider, IsHistory}
use Rattle.goal_evaluator.specs.Merge.{or_else}
use Rattle.goal_evaluator.specs.Plans.{wanted}
use Rattle.goal_evaluator.specs.Table.{workings}
use Rattle.goal_evaluator.specs.FrameTables.{kinds_known}
use Rattle.goal_evaluator.specs.Tables.{frame_tables}
use Rattle.goal_frames.specs.Handlers.{same_answer, applies_always}
use Rattle.declarations.specs.Items.{Items, written}
use Rattle.declarations.specs.Merges.{Rises}
use Rattle.candidate_model.specs.Meaning.{ViewMeaning}
use Rattle.candidate_model.specs.Knowing.{is_knowable}
use Rattle.candidate_model.specs.Asking.{GoalOverKinds, goal_over_kinds, clauses}
use Rattle.candidate_model.specs.Candidates.{Candidate, unknowable, by_clauses, built_in, by_impls, by_objects}
use Rattle.candidate_model.specs.Solver.{SolverPast, from, is_clause, is_impl, is_settled, holds_from, solver_handled}
use Rattle.type_terms.proofs.Members.{not-both}
use Rattle.candidate_assembly.specs.Headers.{impls_above}
use Rattle.candidate_assembly.specs.Sections.{misc_is_bound, is_unknowable, is_built_in, is_bound, sources_tell, considered_from, early, late, is_first_step, next_in, decided, next_candidate, end_of, or_end, impl_or, last_impl, WalksGoOn}
use Rattle.candidate_assembly.proofs.Along.{Answers}
use Rattle.candidate_assembly.proofs.SourcesOf.{clause-impl, built-impl, bound-impl, clauses-are, built-in-are, objects-are}
use Rattle.candidate_assembly.proofs.Histories.{Plans, ends-answer, histories-tell}
use Rattle.candidate_assembly.proofs.InOrder.{goes-on, begins}
use Rattle.type_terms.proofs.TypeBasics.{some-is}

pub none-is : (x : Candidate) → ◌≡◌ {A = Option Candidate} None (Some x) → ⊥
none-is x e = cc

pub at-every : (P : Candidate → Type 0) (xs : List Candidate) (n : ℕ) (x : Candidate) → Every P xs → slice_get xs n ≡ Some x → P x
at-every P [] n x h e = absurd (none-is x e)
at-every P (y ∷ xs) zero x h e = subst P (some-is y x e) h.0
at-every P (y ∷ xs) (suc n) x h e = at-every P xs n x h.1 e

-- ---- what is by no impl
abbrev pub NoImpl : Option Candidate → Type 0
NoImpl o = (s : Candidate) → o ≡ Some s → is_impl s.source ≡ false

neither : (o q : Option Candidate) → NoImpl o → NoImpl q → NoImpl (or_else o q)
neither None q h g = g
neither (Some x) q h g = h

by-impl : (o i q : Option Candidate) → NoImpl o → NoImpl q → (s : Candidate) → or_else o (or_else i q) ≡ Some s → is_impl s.source ≡ true → i ≡ Some s
by-impl (Some x) i q h g s e t = absurd (not-both (is_impl s.source) t (h s e))
by-impl None (Some y) q h g s e t = e
by-impl None None q h g s e t = absurd (not-both (is_impl s.source) t (g s e))

-- ---- the next candidate, if it is by an impl
module _ (m : ViewMeaning) (a : GoalOverKinds) (tell : sources_tell a ≡ true) where
  abbrev V : World
  V = m.view

  pub no-early : (seen : SolverPast) → NoImpl (early V a seen)
  no-early seen =
      neither (slice_get (by_clauses V a (clauses a)) (considered_from is_clause seen)) (slice_get (built_in V a) (considered_from (is_built_in (misc_is_bound a)) seen))
      (λ s e. clause-impl s.source (at-every (λ (c : Candidate). is_clause c.source ≡ true) (by_clauses V a (clauses a)) (considered_from is_clause seen) s (clauses-are V a (clauses a)) e))
      (λ s e. built-impl (misc_is_bound a) s.source (at-every (λ (c : Candidate). is_built_in (misc_is_bound a) c.source ≡ true) (built_in V a) (considered_from (is_built_in (misc_is_bound a)) seen) s (built-in-are V a (misc_is_bound a) refl) e))

  abbrev next_bound : SolverPast → Option Candidate
  next_bound seen = slice_get (by_objects V a) (considered_from (is_bound (misc_is_bound a)) seen)

  no-bound : (seen : SolverPast) → NoImpl (next_bound seen)
  no-bound seen = λ s e. bound-impl (misc_is_bound a) s.source (at-every (λ (c : Candidate). is_bound (misc_is_bound a) c.source ≡ true) (by_objects V a) (considered_from (is_bound (misc_is_bound a)) seen) s (objects-are V a (misc_is_bound a) refl tell) e)

  abbrev next_impl : SolverPast → Option Candidate
  next_impl seen = slice_get (by_impls V a V.impls) (considered_from is_impl seen)

  impl-next : (mode : TypingMode) (seen : SolverPast) (s : Candidate) → next_in m mode a seen ≡ Some s → is_impl s.source ≡ true → next_impl seen ≡ Some s
  impl-next Coherence seen s e t = by (is_first_step seen && not (is_knowable V m.crate a.reference)) (holds_from is_unknowable seen) e
    where
      by : (b c : Bool) → (if b then Some (unknowable V a) else if c then None else or_else (early V a seen) (late V a seen)) ≡ Some s → next_impl seen ≡ Some s
      by true c g = absurd (not-both (is_impl s.source) t (sym (ap (λ (x : Candidate). is_impl x.source) (some-is (unknowable V a) s g))))
      by false true g = absurd (none-is s g)
      by false false g = by-impl (early V a seen) (next_impl seen) (next_bound seen) (no-early seen) (no-bound seen) s g t
  impl-next PostAnalysis seen s e t = by (is_settled seen) e
    where
      by : (b : Bool) → or_else (early V a seen) (if b then None else late V a seen) ≡ Some s → next_impl seen ≡ Some s
      by true g = absurd (none-is s (by-impl (early V a seen) None None (no-early seen) (λ x f. absurd (none-is x f)) s g t))
      by false g = by-impl (early V a seen) (next_impl seen) (next_bound seen) (no-early seen) (no-bound seen) s g t

-- ---- along histories
pub considered-is : (o : Option Candidate) (end : Plans) → Answers frame_tables end → (s : Candidate) → or_end o end ≡ consider s → o ≡ Some s
considered-is None end h s e =
    let bad = sym (ap (wanted frame_tables) h.is) ∙ e in
    absurd cc
considered-is (Some x) end h s e = ap (λ z. Some z) (same x s e)
  where
    same : (x y : Candidate) → ◌≡◌ {A = Next (workings frame_tables)} (consider x) (consider y) → x ≡ y
    same x y e = cc

module _ (es : List Entry) (d : Items) (rises : Rises (map (λ i. i.id) d.impls)) (m : ViewMeaning) (view : m.view ≡ written es d) (mode : TypingMode) (f : CanonicalForm) (a : GoalOverKinds)
    (is : decided m (goal_over_kinds m.view f) ≡ Some a) (tell : sources_tell a ≡ true) where
  abbrev W : World
  W = written es d

  abbrev next : SolverPast → Next (workings frame_tables)
  next = (solver_handled applies_always same_answer m mode f).next

  next-is : (seen : SolverPast) → IsHistory (workings frame_tables) next seen → next seen ≡ or_end (next_in m mode a seen) (end_of mode (Some a) (kinds_known f.kinds) seen)
  next-is seen h =
      histories-tell m mode f (subst (λ o. IfSome o (λ b. sources_tell b ≡ true)) (sym is) tell) seen h
      ∙ ap (λ o. or_end (next_candidate m mode o seen) (end_of mode o (kinds_known f.kinds) seen)) is

  at-impl : (seen : SolverPast) (c : Candidate) → IsHistory (workings frame_tables) next seen → next seen ≡ consider c → is_impl c.source ≡ true → slice_get (by_impls W a W.impls) (considered_from is_impl seen) ≡ Some c
  at-impl seen c h e t =
      subst (λ (V : World). slice_get (by_impls V a V.impls) (considered_from is_impl seen) ≡ Some c) view
      (impl-next m a tell mode seen c
      (considered-is (next_in m mode a seen) (end_of mode (Some a) (kinds_known f.kinds) seen) (ends-answer (kinds_known f.kinds) mode seen) c (sym (next-is seen h) ∙ e)) t)

  walk : (seen : SolverPast) → IsHistory (workings frame_tables) next seen → slice_get (by_impls W a (impls_above (last_impl seen) W.impls)) 0 ≡ slice_get (by_impls W a W.impls) (considered_from is_impl seen)
  walk [] h = ap (λ ds. slice_get (by_impls W a ds) 0) (begins es W a d.impls)
  walk (c ∷ seen) h = by c.spec.source refl (walk seen h.2)
    where
      by : (s : CandidateSource) → c.spec.source ≡ s → slice_get (by_impls W a (impls_above (last_impl seen) W.impls)) 0 ≡ slice_get (by_impls W a W.impls) (considered_from is_impl seen)
          → slice_get (by_impls W a (impls_above (impl_or s (last_impl seen)) W.impls)) 0 ≡ slice_get (by_impls W a W.impls) (length (cond (is_impl s) (c ∷ filter (from is_impl) seen) (filter (from is_impl) seen)))
      by (Impl i) e g = goes-on es W a d.impls (considered_from is_impl seen) c.spec i rises (at-impl seen c.spec h.2 h.0 (ap is_impl e)) e
      by s e g = g

pub walks-go-on : WalksGoOn
walks-go-on es d rises m view mode f a is tell seen h = walk es d rises m view mode f a is tell seen h
