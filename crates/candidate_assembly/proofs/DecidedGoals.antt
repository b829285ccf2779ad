-- Goals that are decided, while the interner grows, and what comes next for them.
use Rattle.std.proofs.Common.{◌≡◌, ◌==◌, Bool, true, false, if◌then◌else◌, List, [], ◌∷◌, ◌++◌, map, length, reverse, refl, sym, ◌∙◌, ap, subst, Option, Some, None}
use Rattle.std.specs.List.{slice_get}
use Rattle.type_terms.specs.Promised.Worlds.{World}
use Rattle.type_terms.specs.Promised.Rules.{unsize}
use Rattle.type_terms.specs.Promised.Answers.{written_in}
use Rattle.type_terms.specs.Promised.Handles.{Entry, Keeps, trees_at}
use Rattle.term_folds.specs.Signatures.{StartsWithType}
use Rattle.infer_table.specs.Canonical.{CanonicalForm, GoalTrees}
use Rattle.infer_table.specs.Inputs.{form_of}
use Rattle.infer_table.specs.declared.input.CanonicalInput.{CanonicalInput}
use Rattle.infer_table.proofs.Numbers.{goal-held-later, goal-trees-later}
use Rattle.goal_evaluator.specs.declared.candidate.Considered as InCode
use Rattle.goal_evaluator.specs.Candidate.{IsHistory}
use Rattle.goal_evaluator.specs.Merge.{or_else}
use Rattle.goal_evaluator.specs.Readings.{ConsideredHeld}
use Rattle.goal_evaluator.specs.Table.{workings}
use Rattle.goal_evaluator.specs.Tables.{frame_tables}
use Rattle.goal_evaluator.specs.StepReadings.{ShownCandidate, shown, Shows, shown_by}
use Rattle.goal_frames.proofs.Later.{shown-later}
use Rattle.declarations.specs.Items.{Items, reference_in, written}
use Rattle.declarations.specs.Merges.{Rises}
use Rattle.declarations.proofs.Growth.{reference-same, args-same, all-written}
use Rattle.candidate_model.specs.Asking.{GoalOverKinds, goal_over_kinds, self_of}
use Rattle.candidate_model.specs.Candidates.{Candidate, by_impls, by_objects}
use Rattle.candidate_model.specs.Solver.{SolverPast, is_impl}
use Rattle.candidate_assembly.proofs.Counted.{shown-next}
use Rattle.structural_traits.specs.Constituents.{StructIsApplied}
use Rattle.built_in_candidates.specs.Constituents.{CanBeConsidered}
use Rattle.candidate_assembly.specs.Counted.{ForEachPast}
use Rattle.candidate_assembly.specs.Fitting.{GoalFits, solving_of}
use Rattle.built_in_candidates.specs.Goals.{asked_of}
use Rattle.candidate_assembly.specs.Headers.{impls_above}
use Rattle.declarations.proofs.Elaborating.{applied-later}
use Rattle.candidate_assembly.specs.Kept.{ready-kept, solving-kept}
use Rattle.candidate_assembly.specs.Nexts.{handled_in, ForEachHistory}
use Rattle.built_in_candidates.specs.Objects.{ObjectIsApplied}
use Rattle.candidate_assembly.specs.Ready.{IsWellPosedGoal}
use Rattle.candidate_assembly.specs.Sections.{sources_tell, decided, considered_from, is_bound, is_first_step, misc_is_bound, last_impl}
use Rattle.candidate_assembly.specs.Solving.{Solving, meaning_for, solver_for}
use Rattle.built_in_candidates.specs.Unsizing.{CanUnsize}
use Rattle.built_in_candidates.proofs.Asking.{asked-later}
use Rattle.candidate_assembly.proofs.GoingOn.{walks-go-on}
use Rattle.type_terms.proofs.NumberBasics.{some-length}

-- ---- what candidates ask of a goal
module _ (es : List Entry) (d : Items) (g : CanonicalInput) (h : IsWellPosedGoal es d g) where
  pub can-be : CanBeConsidered es d g
  can-be = record { goal = h.goal; first = h.fits.first; declared = h.ready.held; fields = h.ready.fields; applied = h.fits.struct }

  pub object : ObjectIsApplied d (trees_at es g.goal.predicate.trait_ref.args.0)
  object = h.fits.object

  pub unsizing : (g.goal.predicate.trait_ref.def_id.index == unsize) ≡ true → CanUnsize d (self_of (asked_of es g))
  unsizing e = h.fits.unsizing e

-- ---- while the interner grows
module _ (old new : List Entry) (k : Keeps old new) (d : Items) (g : CanonicalInput) (h : IsWellPosedGoal old d g) where
  view-same : written new d ≡ written old d
  view-same = all-written old new k d h.ready.held

  asked-same : asked_of new g ≡ asked_of old g
  asked-same = asked-later old new k g h.goal

  form-same : form_of new g ≡ form_of old g
  form-same = ap (λ (t : GoalTrees). let f : CanonicalForm = record { goal = t; kinds = map Some g.variables.items } in f) (goal-trees-later old new k g.goal h.goal)

  solving-same : solving_of new d ≡ solving_of old d
  solving-same = solving-kept d old new k h.ready

  fits-same : GoalFits new d g
  fits-same =
      let r = g.goal.predicate.trait_ref in
      let same = sym (args-same old new k r h.goal.predicate) in
      record {
        written = ap (λ (V : World). written_in V (reference_in new r)) view-same ∙ ap (written_in (written old d)) (reference-same old new k r h.goal.predicate) ∙ h.fits.written;
        applied = applied-later old new k d r h.goal.predicate h.fits.applied;
        first = subst StartsWithType same h.fits.first;
        struct = subst (StructIsApplied d) same h.fits.struct;
        object = subst (ObjectIsApplied d) same h.fits.object;
        unsizing = λ e. subst (λ (a : GoalOverKinds). CanUnsize d (self_of a)) (sym asked-same) (h.fits.unsizing e);
        tells = ap sources_tell asked-same ∙ h.fits.tells;
      }

  pub decided-later : IsWellPosedGoal new d g
  decided-later = record {
    ready = ready-kept d old new k h.ready;
    goal = goal-held-later old new k g.goal h.goal;
    is =
        ap (λ (s : Solving). decided (meaning_for s (form_of new g)) (goal_over_kinds s.view (form_of new g))) solving-same
        ∙ ap (λ (f : CanonicalForm). decided (meaning_for (solving_of old d) f) (goal_over_kinds (written old d) f)) form-same
        ∙ h.is ∙ ap (λ (a : GoalOverKinds). Some a) (sym asked-same);
    fits = fits-same;
  }

  module _ (done : List InCode.Considered) (held : ConsideredHeld old done) where
    shows-later : (seen : SolverPast) → Shows (map (shown_by old) done) seen → Shows (map (shown_by new) done) seen
    shows-later seen s = shown-later old new k done held ∙ s

    -- what holds of each past
    pub past-later : (P : World → GoalOverKinds → SolverPast → Type 0) → ForEachPast new done (λ seen. P (written new d) (asked_of new g) seen) → ForEachPast old done (λ seen. P (written old d) (asked_of old g) seen)
    past-later P f seen s = subst (λ (V : World). P V (asked_of old g) seen) view-same (subst (λ (a : GoalOverKinds). P (written new d) a seen) asked-same (f seen (shows-later seen s)))

    history-later : (seen : SolverPast) → IsHistory (workings frame_tables) (handled_in old d g).next seen → IsHistory (workings frame_tables) (handled_in new d g).next seen
    history-later seen s =
        subst (λ (x : Solving). IsHistory (workings frame_tables) (solver_for x g.mode (form_of new g)).next seen) (sym solving-same)
        (subst (λ (f : CanonicalForm). IsHistory (workings frame_tables) (solver_for (solving_of old d) g.mode f).next seen) (sym form-same) s)

    -- and of each history
    pub histories-later : (P : World → GoalOverKinds → SolverPast → Type 0) → ForEachHistory new d g done (λ seen. P (written new d) (asked_of new g) seen) → ForEachHistory old d g done (λ seen. P (written old d) (asked_of old g) seen)
    histories-later P f seen s t = subst (λ (V : World). P V (asked_of old g) seen) view-same (subst (λ (a : GoalOverKinds). P (written new d) a seen) asked-same (f seen (shows-later seen s) (history-later seen t)))

-- ---- the walk over impls
pub walk-in : (es : List Entry) (d : Items) (g : CanonicalInput) → IsWellPosedGoal es d g → Rises (map (λ i. i.id) d.impls) → (done : List InCode.Considered)
    → ForEachHistory es d g done (λ seen. let V = written es d in let a = asked_of es g in slice_get (by_impls V a (impls_above (last_impl seen) V.impls)) 0 ≡ slice_get (by_impls V a V.impls) (considered_from is_impl seen))
walk-in es d g h rises done seen s t = walks-go-on es d rises (meaning_for (solving_of es d) (form_of es g)) refl g.mode (form_of es g) (asked_of es g) h.is h.fits.tells seen t

-- ---- what is first of two
pub first-of : (c : Candidate) (x y : Option Candidate) → Some c ≡ x → Some c ≡ or_else x y
first-of c x y e = ap (λ z. or_else z y) e

pub second-of : (x y o : Option Candidate) → None ≡ x → o ≡ y → o ≡ or_else x y
second-of x y o e f = f ∙ ap (λ z. or_else z y) e

-- ---- sections
abbrev pub next_impl : World → GoalOverKinds → SolverPast → Option Candidate
next_impl V a seen = slice_get (by_impls V a V.impls) (considered_from is_impl seen)

abbrev pub next_bound : World → GoalOverKinds → SolverPast → Option Candidate
next_bound V a seen = slice_get (by_objects V a) (considered_from (is_bound (misc_is_bound a)) seen)

-- ---- in coherence
pub inside-same : (b u : Bool) (k o : Option Candidate) → b ≡ false → u ≡ false → o ≡ (if b then k else if u then None else o)
inside-same false false k o e f = refl
inside-same true u k o e f = absurd cc
inside-same false true k o e f = absurd cc

pub inside-none : (b u : Bool) (k o : Option Candidate) → b ≡ false → u ≡ true → None ≡ (if b then k else if u then None else o)
inside-none false true k o e f = refl
inside-none true u k o e f = absurd cc
inside-none false false k o e f = absurd cc

-- ---- nothing was considered
no-end : (xs : List ShownCandidate) (x : ShownCandidate) → [] ≡ xs ++ x ∷ [] → ⊥
no-end [] x e = cc
no-end (y ∷ xs) x e = cc

pub first-is : (es : List Entry) (done : List InCode.Considered) (seen : SolverPast) → Shows (map (shown_by es) done) seen → (length done == 0) ≡ is_first_step seen
first-is es [] [] h = refl
first-is es [] (c ∷ seen) h = absurd (no-end (reverse (map shown seen)) (shown c) (h ∙ shown-next c seen))
first-is es (x ∷ done) [] h = absurd cc
first-is es (x ∷ done) (c ∷ seen) h = some-length (length done)
