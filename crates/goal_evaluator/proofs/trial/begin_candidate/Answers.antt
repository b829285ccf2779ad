use Rattle.std.proofs.Common.{ap, sym, subst, Err}
use Rattle.type_terms.specs.Promised.Handles.{Keeps}
use Rattle.goal_evaluator.specs.Frames.{begun}
use Rattle.goal_evaluator.specs.OpenCandidates.{StandsAt}
use Rattle.goal_evaluator.specs.Trial.{spec_trees, candidate, asked_in_rounds}
use Rattle.goal_evaluator.specs.TrialEnds.{trial_trees}
use Rattle.goal_evaluator.proofs.Ending.{script-tried}
use Rattle.goal_evaluator.proofs.FirstOf.{handed}
use Rattle.goal_evaluator.proofs.Later.{goals-held-later, premises-later}
use Rattle.goal_evaluator.proofs.OpenBeginnings.{begin-refused}
use Rattle.type_terms.proofs.Grown.{grew-on}
use Rattle.goal_evaluator.proofs.trial.begin_candidate.Goals as goal

pub open_nested-requires-clause-goals : goal.open_nested-requires-clause-goals
open_nested-requires-clause-goals c =
    goals-held-later c.args.cx.now.entries c.try_candidate.new.cx.entries c.try_candidate.ensures.terms.grew.keeps c.args.spec.now.nested_goals.items c.requires.spec.nested

pub returns-in_err-trial-clause-stands : goal.returns-in_err-trial-clause-stands
returns-in_err-trial-clause-stands c =
    let es = c.args.cx.now.entries in
    let es1 = c.try_candidate.new.cx.entries in
    let input = c.args.input.now in
    let s = spec_trees es c.args.spec.now in
    handed (λ r. StandsAt es1 (candidate input.mode (begun input.variables.items) s) r) c.from_residual.result _ c.from_residual.ensures.1
    (begin-refused input.mode input.variables.items s es1 _ (λ q. c.in_err-trial.ensures.refused (ap Err q)))

pub returns-clause-stands : goal.returns-clause-stands
returns-clause-stands c =
    let es = c.args.cx.now.entries in
    let es1 = c.try_candidate.new.cx.entries in
    let es2 = c.open_nested.new.cx.entries in
    let k : Keeps es es1 = c.try_candidate.ensures.terms.grew.keeps in
    let input = c.args.input.now in
    let spec = c.args.spec.now in
    let s = spec_trees es spec in
    let t = trial_trees es1 input.variables.items c.in_ok-trial.trial in
    let x = c.open_nested.result in
    subst (λ z. StandsAt es2 z x) (sym (script-tried input.mode input.variables.items s t c.in_ok-trial.ensures.tried))
    (subst (λ z. StandsAt es2 (asked_in_rounds input.mode z s.certainty t) x) (premises-later es es1 k spec.nested_goals.items c.requires.spec.nested) c.open_nested.ensures.stands)

pub returns-clause-terms : goal.returns-clause-terms
returns-clause-terms c = record {
  grew = grew-on c.try_candidate.ensures.terms.grew c.open_nested.ensures.terms.grew;
  full = c.open_nested.ensures.terms.full;
}
