-- The content of frames does not change as the interner grows.
use Rattle.std.proofs.Common.{◌≡◌, List, [], ◌∷◌, map, refl, sym, ap, subst, Bool, Option, Some, None}
use Rattle.type_terms.specs.Promised.Label.{Label}
use Rattle.type_terms.specs.Promised.Trees.{Trees}
use Rattle.type_terms.specs.Promised.Handles.{Entry, Keeps}
use Rattle.infer_table.specs.Canonical.{GoalTrees}
use Rattle.infer_table.specs.Kept.{constraints-kept}
use Rattle.infer_table.specs.declared.canonical.CanonicalVarKind.{CanonicalVarKind}
use Rattle.infer_table.specs.declared.certainty.Certainty.{Certainty}
use Rattle.infer_table.specs.declared.terms.Equation as Code
use Rattle.infer_table.specs.declared.goal.Goal.{Goal}
use Rattle.infer_table.specs.declared.response.CanonicalResponse.{CanonicalResponse}
use Rattle.infer_table.specs.Goals.{GoalHeld, goal_trees}
use Rattle.infer_table.specs.Values.{Value}
use Rattle.infer_table.proofs.Numbers.{goal-trees-later}
use Rattle.infer_table.specs.Responses.{AnswerTrees}
use Rattle.infer_table.proofs.ConstraintLists.{constraints-later}
use Rattle.infer_table.proofs.Values.{value-later}
use Rattle.goal_evaluator.proofs.Contexts.{reply-later}
use Rattle.goal_evaluator.proofs.LaterTrees.{answer-trees-later}
use Rattle.goal_evaluator.specs.declared.candidate.CandidateSource.{CandidateSource}
use Rattle.goal_evaluator.specs.declared.candidate.CandidateSpec.{CandidateSpec}
use Rattle.goal_evaluator.specs.declared.candidate.Considered as InCode
use Rattle.goal_evaluator.specs.declared.goal.GoalSource.{GoalSource}
use Rattle.goal_evaluator.specs.Candidate.{Spec}
use Rattle.goal_evaluator.specs.Lists.{Every}
use Rattle.goal_evaluator.specs.Readings.{ResultHeld, ConsideredHeld, EquationHeld, SpecHeld, is_coinductive_step}
use Rattle.goal_evaluator.specs.Table.{workings}
use Rattle.goal_evaluator.specs.TableAnswers.{IsWellFormed}
use Rattle.goal_evaluator.specs.FrameTables.{Nested, Equation}
use Rattle.goal_evaluator.proofs.Later.{equations-held-later, goals-held-later}
use Rattle.goal_evaluator.specs.Tables.{frame_tables}
use Rattle.goal_evaluator.specs.Fitting.{AreOver, IsGoalOver, IsValueOver}
use Rattle.goal_evaluator.specs.Candidates.{labels_of}
use Rattle.goal_evaluator.specs.StepReadings.{equation_read, nested_read, spec_read, result_read, ShownCandidate, shown_by}
use Rattle.goal_frames.specs.Fitting.{ResultFits, ConsideredFits, IsEquationOver, IsOver}
use Rattle.type_terms.proofs.ListBasics.{one-more}

one-equation : (a b c d : Value) → a ≡ b → c ≡ d → ◌≡◌ {A = Equation} (record { left = a; right = c }) (record { left = b; right = d })
one-equation a b c d e f = cc

one-spec : (source : CandidateSource) (kinds : List CanonicalVarKind) (es fs : List Equation) (c d : Trees) (ns ms : List Nested) (sure : Certainty) → es ≡ fs → c ≡ d → ns ≡ ms
    → ◌≡◌ {A = Spec (workings frame_tables)} (record { source = source; kinds = kinds; equations = es; regions = c; nested = ns; certainty = sure })
    (record { source = source; kinds = kinds; equations = fs; regions = d; nested = ms; certainty = sure })
one-spec source kinds es fs c d ns ms sure e f g = cc

module _ (old new : List Entry) (k : Keeps old new) where
  -- ---- results
  pub result-later : (r : Option CanonicalResponse) → ResultHeld old r → result_read new r ≡ result_read old r
  result-later None h = refl
  result-later (Some r) h = ap Some (answer-trees-later old new k r h)

  pub fits-later : (r : Option CanonicalResponse) → ResultHeld old r → ResultFits old r → ResultFits new r
  fits-later None h f = tt
  fits-later (Some r) h f = subst IsWellFormed (sym (answer-trees-later old new k r h)) f

  -- ---- candidates that were considered
  pub shown-later : (done : List InCode.Considered) → ConsideredHeld old done → map (shown_by new) done ≡ map (shown_by old) done
  shown-later [] h = refl
  shown-later (d ∷ done) h =
      one-more _ _ _ _ (ap (λ (r : Option AnswerTrees). shown_as d r) (result-later d.result h.0)) (shown-later done h.1) where
        shown_as : InCode.Considered → Option AnswerTrees → ShownCandidate
        shown_as d r = record { source = d.source; result = r; number = d.head_usages }

  pub considered-later : (done : List InCode.Considered) → ConsideredHeld old done → ConsideredHeld new done
  considered-later [] h = tt
  considered-later (d ∷ done) h = (reply-later old new k d.result h.0, considered-later done h.1)

  pub considered-fits-later : (done : List InCode.Considered) → ConsideredHeld old done → ConsideredFits old done → ConsideredFits new done
  considered-fits-later [] h f = tt
  considered-fits-later (d ∷ done) h f = (fits-later d.result h.0 f.0, considered-fits-later done h.1 f.1)

  -- ---- candidates as data
  equations-read-later : (xs : List Code.Equation) → Every (EquationHeld old) xs → map (equation_read new) xs ≡ map (equation_read old) xs
  equations-read-later [] h = refl
  equations-read-later (x ∷ xs) h = one-more _ _ _ _ (one-equation _ _ _ _ (value-later old new k x.left h.0.0) (value-later old new k x.right h.0.1)) (equations-read-later xs h.1)

  nested-read-later : (c : Bool) (ns : List (GoalSource × Goal)) → Every (λ (n : GoalSource × Goal). GoalHeld old n.1) ns → map (nested_read new c) ns ≡ map (nested_read old c) ns
  nested-read-later c [] h = refl
  nested-read-later c (n ∷ ns) h =
      one-more _ _ _ _ (ap (λ (g : GoalTrees). nested_as n g) (goal-trees-later old new k n.1 h.0)) (nested-read-later c ns h.1) where
        nested_as : GoalSource × Goal → GoalTrees → Nested
        nested_as n g = record { goal = g; coinductive = is_coinductive_step c n.0 }

  pub spec-read-later : (c : Bool) (s : CandidateSpec) → SpecHeld old s → spec_read new c s ≡ spec_read old c s
  spec-read-later c s h =
      one-spec s.source s.variables.items _ _ _ _ _ _ s.certainty (equations-read-later s.equations.items h.equations) (constraints-later old new k s.region_constraints.items h.constraints)
      (nested-read-later c s.nested_goals.items h.nested)

  pub spec-held-later : (s : CandidateSpec) → SpecHeld old s → SpecHeld new s
  spec-held-later s h = record {
    equations = equations-held-later old new k s.equations.items h.equations;
    constraints = constraints-kept old new s.region_constraints.items k h.constraints;
    nested = goals-held-later old new k s.nested_goals.items h.nested;
  }

  equations-over-later : (ls : List Label) (xs : List Code.Equation) → Every (EquationHeld old) xs → Every (IsEquationOver ls old) xs → Every (IsEquationOver ls new) xs
  equations-over-later ls [] h o = tt
  equations-over-later ls (x ∷ xs) h o = (
    (subst (IsValueOver ls) (sym (value-later old new k x.left h.0.0)) o.0.0, subst (IsValueOver ls) (sym (value-later old new k x.right h.0.1)) o.0.1),
    equations-over-later ls xs h.1 o.1,
  )

  nested-over-later : (ls : List Label) (ns : List (GoalSource × Goal)) → Every (λ (n : GoalSource × Goal). GoalHeld old n.1) ns → Every (λ (n : GoalSource × Goal). IsGoalOver ls (goal_trees old n.1)) ns
      → Every (λ (n : GoalSource × Goal). IsGoalOver ls (goal_trees new n.1)) ns
  nested-over-later ls [] h o = tt
  nested-over-later ls (n ∷ ns) h o = (subst (IsGoalOver ls) (sym (goal-trees-later old new k n.1 h.0)) o.0, nested-over-later ls ns h.1 o.1)

  pub over-later : (kinds : List CanonicalVarKind) (s : CandidateSpec) → SpecHeld old s → IsOver kinds old s → IsOver kinds new s
  over-later kinds s h o = record {
    equations = equations-over-later (labels_of kinds s.variables.items) s.equations.items h.equations o.equations;
    constraints = subst (AreOver (labels_of kinds s.variables.items)) (sym (constraints-later old new k s.region_constraints.items h.constraints)) o.constraints;
    nested = nested-over-later (labels_of kinds s.variables.items) s.nested_goals.items h.nested o.nested;
  }
