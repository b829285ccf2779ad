-- The step of a goal's frame: what comes next in each of its histories.
use Rattle.std.proofs.Common.{◌≡◌, ℕ, zero, suc, Bool, true, false, not, ◌&&◌, ◌||◌, if◌then◌else◌, List, [], ◌∷◌, ◌++◌, refl, sym, ◌∙◌, ap, subst, Option, Some, None}
use Rattle.std.specs.Prelude.{IfSome}
use Rattle.std.specs.List.{slice_get}
use Rattle.type_terms.specs.Promised.Worlds.{World}
use Rattle.type_terms.specs.Made.{terms, is_made}
use Rattle.type_terms.specs.Promised.Handles.{Entry}
use Rattle.type_terms.proofs.Made.{false-true, left, right}
use Rattle.term_folds.specs.declared.predicate.Clause.{Clause}
use Rattle.term_folds.specs.declared.predicate.Clause.TheVariants.{Trait, RegionOutlives, TypeOutlives}
use Rattle.infer_table.specs.Goals.{clause_terms, environment_trees}
use Rattle.infer_table.specs.Inputs.{form_of}
use Rattle.infer_table.specs.declared.canonical.CanonicalVarKind.{CanonicalVarKind}
use Rattle.infer_table.specs.declared.certainty.TypingMode.{TypingMode}
use Rattle.infer_table.specs.declared.certainty.TypingMode.TheVariants.{Coherence, PostAnalysis}
use Rattle.infer_table.specs.declared.input.CanonicalInput.{CanonicalInput}
use Rattle.goal_evaluator.specs.declared.candidate.CandidateSpec.{CandidateSpec}
use Rattle.goal_evaluator.specs.Candidate.{consider, IsHistory}
use Rattle.goal_evaluator.specs.Lists.{Every}
use Rattle.goal_evaluator.specs.Merge.{or_else}
use Rattle.goal_evaluator.specs.Plans.{Plan, wanted}
use Rattle.goal_evaluator.specs.Table.{workings}
use Rattle.goal_evaluator.specs.FrameTables.{kinds_known, Nested, Equation}
use Rattle.goal_evaluator.specs.Fitting.{AreOver, IsGoalOver, IsValueOver}
use Rattle.goal_evaluator.specs.Tables.{frame_tables}
use Rattle.goal_evaluator.specs.Variables.{is_variable_over}
use Rattle.goal_frames.specs.Fitting.{IsOver}
use Rattle.goal_evaluator.specs.StepReadings.{equation_read, nested_read, spec_read}
use Rattle.goal_frames.specs.RuleFitting.{slots_of, IsOverSlots}
use Rattle.goal_frames.proofs.KnownKinds.{all-known as known-some}
use Rattle.declarations.specs.Items.{Items, written}
use Rattle.candidate_model.specs.Asking.{GoalOverKinds, all_known, are_clauses, goal_over_kinds, self_of, begins_unknown, clauses}
use Rattle.candidate_model.specs.Candidates.{Candidate, unsure, unknowable, by_clauses, built_in, by_impls, by_objects}
use Rattle.candidate_model.specs.Knowing.{is_knowable}
use Rattle.candidate_model.specs.Meaning.{ViewMeaning}
use Rattle.candidate_model.specs.Solver.{SolverPast, is_clause, is_impl, is_settled, holds_from}
use Rattle.candidate_model.proofs.DeclaredWell.{tests-tell}
use Rattle.candidate_model.proofs.LawfulCandidates.{asked-clauses}
use Rattle.candidate_model.proofs.CandidateKinds.{every-split}
use Rattle.candidate_assembly.specs.Fitting.{solving_of}
use Rattle.built_in_candidates.specs.Goals.{asked_of, candidate_of}
use Rattle.candidate_assembly.specs.Merging.{end_in}
use Rattle.candidate_assembly.specs.Nexts.{handled_in, next_for, mode_at_end}
use Rattle.candidate_assembly.specs.Ready.{AreReadyDeclarations, Decides}
use Rattle.candidate_assembly.specs.Sections.{misc_is_bound, is_unknowable, is_built_in, is_bound, sources_tell, considered_from, early, late, is_first_step, next_in, decided, next_candidate, end_of, or_end}
use Rattle.candidate_assembly.specs.Solving.{meaning_for}
use Rattle.candidate_assembly.proofs.Histories.{histories-tell}
use Rattle.candidate_assembly.proofs.Over.{goal-over}
use Rattle.candidate_assembly.proofs.OverCandidates.{all-fit, unknowable-fits}
use Rattle.goal_evaluator.proofs.Basics.{unmap}

-- ---- what comes next
module _ (es : List Entry) (d : Items) (g : CanonicalInput) where
  abbrev m : ViewMeaning
  m = meaning_for (solving_of es d) (form_of es g)

  abbrev asks : Option GoalOverKinds
  asks = decided m (goal_over_kinds m.view (form_of es g))

  abbrev end : SolverPast → Plan frame_tables
  end seen = end_of g.mode asks (kinds_known (form_of es g).kinds) seen

  module _ (b : Bool) (h : Decides es d g b) where
    tells : IfSome asks (λ a. sources_tell a ≡ true)
    tells = subst (λ o. IfSome o (λ a. sources_tell a ≡ true)) (sym h.is) (by b (λ e. (h.fits e).tells))
      where
        by : (c : Bool) → (c ≡ true → sources_tell (asked_of es g) ≡ true) → IfSome (if c then Some (asked_of es g) else None) (λ a. sources_tell a ≡ true)
        by true f = f refl
        by false f = tt

    next-is : (seen : SolverPast) → IsHistory (workings frame_tables) (handled_in es d g).next seen → (handled_in es d g).next seen ≡ or_end (next_for es d g seen) (end seen)
    next-is seen t = histories-tell m g.mode (form_of es g) tells seen t

    pub considers : (seen : SolverPast) → IsHistory (workings frame_tables) (handled_in es d g).next seen → (c : Candidate) → Some c ≡ next_for es d g seen → consider c ≡ (handled_in es d g).next seen
    considers seen t c e = ap (λ o. or_end o (end seen)) e ∙ sym (next-is seen t)

    -- the end, over the goal's own variables
    end-same : (seen : SolverPast) → end_in (mode_at_end g.mode b) g.variables.items seen ≡ end seen
    end-same seen =
        ap (λ ks. end_in (mode_at_end g.mode b) ks seen) (sym (known-some g.variables.items)) ∙ by b
        ∙ ap (λ o. end_of g.mode o (kinds_known (form_of es g).kinds) seen) (sym h.is)
      where
        by : (c : Bool) → end_in (mode_at_end g.mode c) (kinds_known (form_of es g).kinds) seen ≡ end_of g.mode (if c then Some (asked_of es g) else None) (kinds_known (form_of es g).kinds) seen
        by true = refl
        by false = refl

    pub answers : (seen : SolverPast) → IsHistory (workings frame_tables) (handled_in es d g).next seen → None ≡ next_for es d g seen → wanted frame_tables (end_in (mode_at_end g.mode b) g.variables.items seen) ≡ (handled_in es d g).next seen
    answers seen t e = ap (wanted frame_tables) (end-same seen) ∙ ap (λ o. or_end o (end seen)) e ∙ sym (next-is seen t)

-- ---- candidates are over the goal's variables and their own
is-over : (kinds : List CanonicalVarKind) (es : List Entry) (kind : Bool) (s : CandidateSpec) → IsOverSlots (slots_of kinds s.variables.items) (spec_read es kind s) → IsOver kinds es s
is-over kinds es kind s h =
    let ls = slots_of kinds s.variables.items in
    record {
      equations = unmap (λ (e : Equation). IsValueOver ls e.left × IsValueOver ls e.right) (equation_read es) s.equations.items h.equations;
      constraints = h.constraints;
      nested = unmap (λ (n : Nested). IsGoalOver ls n.goal) (nested_read es kind) s.nested_goals.items h.nested;
    }

label-over : (c : Clause) (es : List Entry) (kinds own : List CanonicalVarKind) (rest : List Clause) → AreOver (slots_of kinds own) (clause_terms es c) → AreOver (slots_of kinds own) (environment_trees es rest) → AreOver (slots_of kinds own) (environment_trees es (c ∷ rest))
label-over (Trait p) es kinds own rest h g = (refl, λ e. absurd (false-true e), h, g)
label-over (RegionOutlives a b) es kinds own rest h g = (refl, λ e. absurd (false-true e), h, g)
label-over (TypeOutlives t r) es kinds own rest h g = (refl, λ e. absurd (false-true e), h, g)

environment-over : (es : List Entry) (kinds own : List CanonicalVarKind) (cs : List Clause) → are_clauses kinds (environment_trees es cs) ≡ true → AreOver (slots_of kinds own) (environment_trees es cs)
environment-over es kinds own [] h = tt
environment-over es kinds own (c ∷ cs) h = label-over c es kinds own cs (goal-over kinds own (clause_terms es c) (parts.0)) (environment-over es kinds own cs (parts.1))
  where
    parts : (is_made (is_variable_over kinds) terms (clause_terms es c) ≡ true) × (are_clauses kinds (environment_trees es cs) ≡ true)
    parts = by c h
      where
        by : (x : Clause) → are_clauses kinds (environment_trees es (x ∷ cs)) ≡ true → (is_made (is_variable_over kinds) terms (clause_terms es x) ≡ true) × (are_clauses kinds (environment_trees es cs) ≡ true)
        by (Trait p) q = (left (is_made (is_variable_over kinds) terms (clause_terms es (Trait p))) (are_clauses kinds (environment_trees es cs)) q, right (is_made (is_variable_over kinds) terms (clause_terms es (Trait p))) (are_clauses kinds (environment_trees es cs)) q)
        by (RegionOutlives a b) q = (left (is_made (is_variable_over kinds) terms (clause_terms es (RegionOutlives a b))) (are_clauses kinds (environment_trees es cs)) q, right (is_made (is_variable_over kinds) terms (clause_terms es (RegionOutlives a b))) (are_clauses kinds (environment_trees es cs)) q)
        by (TypeOutlives a b) q = (left (is_made (is_variable_over kinds) terms (clause_terms es (TypeOutlives a b))) (are_clauses kinds (environment_trees es cs)) q, right (is_made (is_variable_over kinds) terms (clause_terms es (TypeOutlives a b))) (are_clauses kinds (environment_trees es cs)) q)

-- a goal that is decided is asked
pub was-asked : (n : ViewMeaning) (o : Option GoalOverKinds) (a : GoalOverKinds) → decided n o ≡ Some a → o ≡ Some a
was-asked n None a e = e
was-asked n (Some x) a e = by (not n.is_sound || begins_unknown x.kinds (self_of x)) e
  where
    by : (b : Bool) → (if b then None else Some x) ≡ Some a → Some x ≡ Some a
    by true q = absurd cc
    by false q = q

-- ---- what holds of all candidates holds of the next
at-place : (P : Candidate → Type 0) (xs : List Candidate) (i : ℕ) → Every P xs → IfSome (slice_get xs i) P
at-place P [] i h = tt
at-place P (x ∷ xs) zero h = h.0
at-place P (x ∷ xs) (suc i) h = at-place P xs i h.1

either-one : (P : Candidate → Type 0) (o q : Option Candidate) → IfSome o P → IfSome q P → IfSome (or_else o q) P
either-one P None q h k = k
either-one P (Some x) q h k = h

module _ (P : Candidate → Type 0) (n : ViewMeaning) (a : GoalOverKinds) (all : Every P (by_clauses n.view a (clauses a) ++ (built_in n.view a ++ (by_impls n.view a n.view.impls ++ by_objects n.view a)))) (first : P (unknowable n.view a)) where
  abbrev V : World
  V = n.view

  others : Every P (built_in V a ++ (by_impls V a V.impls ++ by_objects V a))
  others = (every-split P (by_clauses V a (clauses a)) (built_in V a ++ (by_impls V a V.impls ++ by_objects V a)) all).1

  lasts : Every P (by_impls V a V.impls ++ by_objects V a)
  lasts = (every-split P (built_in V a) (by_impls V a V.impls ++ by_objects V a) others).1

  early-so : (seen : SolverPast) → IfSome (early V a seen) P
  early-so seen =
      either-one P (slice_get (by_clauses V a (clauses a)) (considered_from is_clause seen)) (slice_get (built_in V a) (considered_from (is_built_in (misc_is_bound a)) seen))
      (at-place P (by_clauses V a (clauses a)) (considered_from is_clause seen) (every-split P (by_clauses V a (clauses a)) (built_in V a ++ (by_impls V a V.impls ++ by_objects V a)) all).0)
      (at-place P (built_in V a) (considered_from (is_built_in (misc_is_bound a)) seen) (every-split P (built_in V a) (by_impls V a V.impls ++ by_objects V a) others).0)

  late-so : (seen : SolverPast) → IfSome (late V a seen) P
  late-so seen =
      either-one P (slice_get (by_impls V a V.impls) (considered_from is_impl seen)) (slice_get (by_objects V a) (considered_from (is_bound (misc_is_bound a)) seen))
      (at-place P (by_impls V a V.impls) (considered_from is_impl seen) (every-split P (by_impls V a V.impls) (by_objects V a) lasts).0)
      (at-place P (by_objects V a) (considered_from (is_bound (misc_is_bound a)) seen) (every-split P (by_impls V a V.impls) (by_objects V a) lasts).1)

  next-so : (mode : TypingMode) (seen : SolverPast) → IfSome (next_in n mode a seen) P
  next-so Coherence seen = by (is_first_step seen && not (is_knowable V n.crate a.reference)) (holds_from is_unknowable seen)
    where
      by : (b c : Bool) → IfSome (if b then Some (unknowable V a) else if c then None else or_else (early V a seen) (late V a seen)) P
      by true c = first
      by false true = tt
      by false false = either-one P (early V a seen) (late V a seen) (early-so seen) (late-so seen)
  next-so PostAnalysis seen = either-one P (early V a seen) (if is_settled seen then None else late V a seen) (early-so seen) (by (is_settled seen))
    where
      by : (b : Bool) → IfSome (if b then None else late V a seen) P
      by true = tt
      by false = late-so seen

module _ (es : List Entry) (d : Items) (g : CanonicalInput) (ready : AreReadyDeclarations es d) (b : Bool) (h : Decides es d g b) where
  abbrev Fits : Candidate → Type 0
  Fits c = IsOverSlots (slots_of g.variables.items c.kinds) c

  decided-fit : decided (meaning_for (solving_of es d) (form_of es g)) (goal_over_kinds (written es d) (form_of es g)) ≡ Some (asked_of es g) → (seen : SolverPast) → IfSome (next_in (meaning_for (solving_of es d) (form_of es g)) g.mode (asked_of es g) seen) Fits
  decided-fit e seen =
      let n = meaning_for (solving_of es d) (form_of es g) in
      let a = asked_of es g in
      let is = was-asked n (goal_over_kinds (written es d) (form_of es g)) a e in
      let well = tests-tell (written es d) ready.well in
      let environment = λ (own : List CanonicalVarKind). environment-over es a.kinds own g.goal.param_env.items (asked-clauses (written es d) (form_of es g).goal.environment (form_of es g).goal.predicate (all_known (form_of es g).kinds) a is) in
      next-so Fits n a (all-fit n well (form_of es g) a is environment) (unknowable-fits n well (form_of es g) a is environment) g.mode seen

  next-fit : (seen : SolverPast) → IfSome (next_for es d g seen) Fits
  next-fit seen = by b h.is
    where
      n : ViewMeaning
      n = meaning_for (solving_of es d) (form_of es g)

      one : (c : Bool) → IfSome (if c then Some unsure else None) Fits
      one true = record { equations = tt; constraints = tt; nested = tt }
      one false = tt

      by : (c : Bool) → decided n (goal_over_kinds (written es d) (form_of es g)) ≡ (if c then Some (asked_of es g) else None) → IfSome (next_for es d g seen) Fits
      by true e = subst (λ o. IfSome (next_candidate n g.mode o seen) Fits) (sym e) (decided-fit e seen)
      by false e = subst (λ o. IfSome (next_candidate n g.mode o seen) Fits) (sym e) (one (is_first_step seen))

  pub candidate-fits : (new : List Entry) (s : CandidateSpec) (seen : SolverPast) → Some (candidate_of (written es d) g.goal.predicate.trait_ref.def_id.index new s) ≡ next_for es d g seen → IsOver g.variables.items new s
  candidate-fits new s seen e = is-over g.variables.items new _ s (subst (λ o. IfSome o Fits) (sym e) (next-fit seen))
