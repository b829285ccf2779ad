use Rattle.std.proofs.Common.{◌≡◌, ◌++◌, ◌∷◌, sym, ap, ◌∙◌, subst, map}
use Rattle.infer_table.specs.Goals.{GoalHeld}
use Rattle.infer_table.specs.declared.goal.Goal.{Goal}
use Rattle.goal_evaluator.specs.declared.goal.GoalSource.{GoalSource}
use Rattle.goal_evaluator.specs.Readings.{is_coinductive_step}
use Rattle.goal_evaluator.specs.StepReadings.{nested_read}
use Rattle.declarations.specs.Applied.{references_in, TraitRefsHeld}
use Rattle.candidate_model.specs.Candidates.{premise}
use Rattle.goal_evaluator.proofs.Contexts.{every-more}
use Rattle.built_in_candidates.specs.Goals.{asked_of, nested_of, NestedGoalsHeld}
use Rattle.built_in_candidates.proofs.Lists.{map-push}
use Rattle.built_in_candidates.proofs.parts.nested_goals.Goals as goal

pub references-preserved : goal.references-preserved
references-preserved c =
    let inv = c.references.invariant in
    let back = c.in-Some.ensures.cases.0 in
    let put = c.in_ok-push.ensures.items in
    let g = c.in_ok-goal.goal in
    let ns = c.references.nested.items in
    let rest = c.in-Some.others.now in
    record {
      are = λ es kind.
          let ask = premise (asked_of es c.args.goal.now) (is_coinductive_step kind c.args.source) in
          ap (λ l. nested_of es kind l ++ map ask (references_in es rest)) put ∙ map-push (nested_read es kind) ns g (map ask (references_in es rest))
          ∙ ap (λ x. nested_of es kind ns ++ x ∷ map ask (references_in es rest)) (c.in_ok-goal.ensures.is es kind)
          ∙ subst (λ l. nested_of es kind ns ++ map ask (references_in es l) ≡ map ask (references_in es c.args.references.now)) back (inv.are es kind);
      held = λ es h r.
          let before = inv.held es h r in
          let left = subst (TraitRefsHeld es) back before.0 in
          (left.1, subst (NestedGoalsHeld es) (sym put) (every-more (λ (n : GoalSource × Goal). GoalHeld es n.1) ns g before.1 (c.in_ok-goal.ensures.held es h left.0)));
    }

pub returns-clause-held : goal.returns-clause-held
returns-clause-held c = λ es h r. (c.references.invariant.held es h r).1
