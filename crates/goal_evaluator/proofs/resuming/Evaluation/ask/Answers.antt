use Rattle.std.proofs.Common.{◌∙◌, [], sym, subst}
use Rattle.std.specs.Prelude.{map, ◌∷◌, Ok}
use Rattle.type_terms.specs.Kept.{args-held-later}
use Rattle.goal_evaluator.specs.Context.{nested_goal}
use Rattle.goal_evaluator.specs.declared.resuming.OpenCandidate.{OpenCandidate}
use Rattle.goal_evaluator.specs.declared.resuming.CandidateStep.TheVariants.{Ask}
use Rattle.goal_evaluator.specs.OpenCandidates.{OpenHeld, StandsAt, rest_script}
use Rattle.goal_evaluator.proofs.Contexts.{nested-later}
use Rattle.goal_evaluator.proofs.OpenCandidates.{asks-next, asked-later}
use Rattle.goal_evaluator.proofs.Shortages.{eval-at-limit}
use Rattle.goal_evaluator.proofs.resuming.Evaluation.ask.Goals as goal

pub returns-clause-held : goal.returns-clause-held
returns-clause-held c =
    let es = c.args.cx.now.entries in
    let new = c.question_for.new.cx.entries in
    let k = c.question_for.ensures.terms.grew.keeps in
    let e = c.args.self in (
      subst (OpenHeld new) (sym c.in_ok-boxed.ensures) (record {
        evaluation = record { table = c.question_for.ensures.ready; own = args-held-later es new k e.own.items c.requires.evaluation.own };
        left = nested-later es new k (map nested_goal c.args.round.left.items) c.requires.left;
        goal = (nested-later es new k (nested_goal c.args.goal ∷ []) (c.requires.goal, tt)).0;
        goals = nested-later es new k (map nested_goal c.args.goals.items) c.requires.goals;
        values = c.in_ok-asked.ensures.held;
        values_are = c.in_ok-asked.ensures.values ∙ asked-later es new k e.table c.requires.evaluation.table (nested_goal c.args.goal) c.requires.goal;
      }),
      c.in_ok-asked.ensures.asked,
    )

pub returns-clause-stands : goal.returns-clause-stands
returns-clause-stands c =
    let waiting : OpenCandidate = record { evaluation = c.args.self; rounds_left = c.args.rounds_left; round = c.args.round; goal = c.args.goal; values = c.in_ok-asked.asked.values; goals = c.args.goals } in
    let a = c.args in
    subst (λ o. StandsAt c.question_for.new.cx.entries (rest_script a.cx.now.entries a.self a.rounds_left a.round (a.goal ∷ a.goals.items)) (Ok (Ask o c.in_ok-asked.asked.input a.goal.0)))
    (sym c.in_ok-boxed.ensures)
    (asks-next a.cx.now.entries c.question_for.new.cx.entries c.question_for.ensures.terms.grew.keeps waiting
    c.requires.evaluation c.requires.left c.requires.goal c.requires.goals c.in_ok-asked.asked.input c.in_ok-asked.ensures.question)

pub returns-in_err-asked-clause-terms : goal.returns-in_err-asked-clause-terms
returns-in_err-asked-clause-terms c = record {
  grew = c.question_for.ensures.terms.grew;
  full = eval-at-limit c.from_residual.result c.from_residual.ensures.1 c.in_err-asked.ensures.terms.full;
}
