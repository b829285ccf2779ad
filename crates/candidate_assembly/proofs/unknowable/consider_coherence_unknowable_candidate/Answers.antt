use Rattle.std.proofs.Common.{◌≡◌, false, List, [], map, sym, ap, ◌∙◌, subst}
use Rattle.type_terms.specs.Promised.Trees.{Trees, none}
use Rattle.infer_table.specs.declared.canonical.CanonicalVarKind.{CanonicalVarKind}
use Rattle.infer_table.specs.declared.certainty.Certainty.TheVariants.{Maybe}
use Rattle.infer_table.specs.declared.certainty.MaybeCause.TheVariants.{Ambiguity}
use Rattle.infer_table.specs.Constraints.{constraints_trees}
use Rattle.infer_table.specs.Content.{AllConstraintsHeld}
use Rattle.infer_table.proofs.Numbers.{goal-held-later}
use Rattle.goal_evaluator.specs.Lists.{Every}
use Rattle.goal_evaluator.specs.Readings.{EquationHeld}
use Rattle.goal_evaluator.specs.declared.candidate.CandidateSource.TheVariants.{CoherenceUnknowable}
use Rattle.goal_evaluator.specs.FrameTables.{Nested, Equation}
use Rattle.goal_evaluator.specs.StepReadings.{equation_read}
use Rattle.type_terms.specs.Promised.Rules.{is_coinductive}
use Rattle.declarations.specs.Items.{written}
use Rattle.declarations.specs.Applied.{references_in, TraitRefsHeld}
use Rattle.candidate_model.specs.Candidates.{Candidate, premise}
use Rattle.built_in_candidates.specs.Goals.{asked_of}
use Rattle.built_in_candidates.proofs.Asking.{asked-later}
use Rattle.candidate_assembly.proofs.unknowable.consider_coherence_unknowable_candidate.Goals as goal

pub returns-clause-held : goal.returns-clause-held
returns-clause-held c =
    let old = c.args.cx.now.entries in
    let new = c.supertraits.new.cx.entries in
    record {
      equations = subst (Every (EquationHeld new)) (sym c.new-2.ensures.items) tt;
      constraints = subst (AllConstraintsHeld new) (sym c.new-3.ensures.items) tt;
      nested = c.in_ok-nested_goals.ensures.held new (goal-held-later old new c.supertraits.ensures.terms.grew.keeps c.args.goal.now.goal c.requires.goal)
          (subst (TraitRefsHeld new) (sym c.deref.ensures.value) c.in_ok-supertraits.ensures.held);
    }

same : (kinds : List CanonicalVarKind) (equations : List Equation) (regions : Trees) (ns ms : List Nested) → kinds ≡ [] → equations ≡ [] → regions ≡ none → ns ≡ ms
    → ◌≡◌ {A = Candidate} (record { source = CoherenceUnknowable; kinds = kinds; equations = equations; regions = regions; nested = ns; certainty = Maybe Ambiguity })
    (record { source = CoherenceUnknowable; kinds = []; equations = []; regions = none; nested = ms; certainty = Maybe Ambiguity })
same kinds equations regions ns ms d e f g = cc

pub returns-clause-is : goal.returns-clause-is
returns-clause-is c =
    let old = c.args.cx.now.entries in
    let new = c.supertraits.new.cx.entries in
    let g = c.args.goal.now in
    let V = written old c.args.declarations.now in
    let t = g.goal.predicate.trait_ref.def_id.index in
    let ps = references_in new c.deref.result.now in
    same _ _ _ _ _ c.new.ensures.items (ap (map (equation_read new)) c.new-2.ensures.items) (ap (constraints_trees new) c.new-3.ensures.items)
    (c.in_ok-nested_goals.ensures.are new (is_coinductive V t)
    ∙ ap (λ a. map (premise a false) ps) (asked-later old new c.supertraits.ensures.terms.grew.keeps g c.requires.goal)
    ∙ ap (map (premise (asked_of old g) false)) (ap (references_in new) c.deref.ensures.value ∙ c.in_ok-supertraits.ensures.are))
