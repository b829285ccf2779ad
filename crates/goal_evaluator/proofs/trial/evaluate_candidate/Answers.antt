use Rattle.std.proofs.Common.{ap, sym, subst, Err}
use Rattle.type_terms.specs.Promised.Handles.{Keeps}
use Rattle.goal_evaluator.specs.Evaluating.{replies_trees}
use Rattle.goal_evaluator.specs.Frames.{begun}
use Rattle.goal_evaluator.specs.Replays.{run}
use Rattle.goal_evaluator.specs.Trial.{spec_trees, premises_trees, candidate, asked_in_rounds}
use Rattle.goal_evaluator.specs.TrialEnds.{trial_trees, CandidateEnds}
use Rattle.goal_evaluator.proofs.Contexts.{replies-later}
use Rattle.goal_evaluator.proofs.Ending.{trial-refused, script-tried}
use Rattle.goal_evaluator.proofs.FirstOf.{handed}
use Rattle.goal_evaluator.proofs.Later.{goals-held-later, premises-later}
use Rattle.goal_evaluator.proofs.LaterTrees.{replies-trees-later}
use Rattle.type_terms.proofs.Grown.{grew-on}
use Rattle.goal_evaluator.proofs.trial.evaluate_candidate.Goals as goal

pub evaluate_nested-requires-clause-goals : goal.evaluate_nested-requires-clause-goals
evaluate_nested-requires-clause-goals c =
    goals-held-later c.args.cx.now.entries c.try_candidate.new.cx.entries c.try_candidate.ensures.terms.grew.keeps c.args.spec.now.nested_goals.items c.requires.spec.nested

pub evaluate_nested-requires-clause-replies : goal.evaluate_nested-requires-clause-replies
evaluate_nested-requires-clause-replies c = replies-later c.args.cx.now.entries c.try_candidate.new.cx.entries c.try_candidate.ensures.terms.grew.keeps c.args.replies.now c.requires.replies

pub returns-in_err-trial-clause-runs : goal.returns-in_err-trial-clause-runs
returns-in_err-trial-clause-runs c =
    let es = c.args.cx.now.entries in
    let es1 = c.try_candidate.new.cx.entries in
    let input = c.args.input.now in
    let s = spec_trees es c.args.spec.now in
    let rs = replies_trees es c.args.replies.now in
    handed (λ r. CandidateEnds es1 (run (candidate input.mode (begun input.variables.items) s) rs) r) c.from_residual.result _ c.from_residual.ensures.1
    (trial-refused input.mode input.variables.items s es1 rs _ (λ q. c.in_err-trial.ensures.refused (ap Err q)))

pub returns-clause-runs : goal.returns-clause-runs
returns-clause-runs c =
    let es = c.args.cx.now.entries in
    let es1 = c.try_candidate.new.cx.entries in
    let es2 = c.evaluate_nested.new.cx.entries in
    let k : Keeps es es1 = c.try_candidate.ensures.terms.grew.keeps in
    let input = c.args.input.now in
    let spec = c.args.spec.now in
    let s = spec_trees es spec in
    let t = trial_trees es1 input.variables.items c.in_ok-trial.trial in
    let rs = replies_trees es c.args.replies.now in
    let x = c.evaluate_nested.result in
    subst (λ z. CandidateEnds es2 (run z rs) x) (sym (script-tried input.mode input.variables.items s t c.in_ok-trial.ensures.tried))
    (subst (λ z. CandidateEnds es2 (run (asked_in_rounds input.mode z s.certainty t) rs) x) (premises-later es es1 k spec.nested_goals.items c.requires.spec.nested)
    (subst (λ z. CandidateEnds es2 (run (asked_in_rounds input.mode (premises_trees es1 spec.nested_goals.items) s.certainty t) z) x) (replies-trees-later es es1 k c.args.replies.now c.requires.replies)
    c.evaluate_nested.ensures.runs))

pub returns-clause-terms : goal.returns-clause-terms
returns-clause-terms c = record {
  grew = grew-on c.try_candidate.ensures.terms.grew c.evaluate_nested.ensures.terms.grew;
  full = c.evaluate_nested.ensures.terms.full;
}
