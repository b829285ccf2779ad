use Rattle.std.proofs.Common.{◌∙◌, subst, option_map}
use Rattle.infer_table.specs.Responses.{answer_trees}
use Rattle.goal_evaluator.specs.declared.resuming.OpenCandidate.{OpenCandidate}
use Rattle.goal_evaluator.specs.OpenCandidates.{after_reply, StandsAt}
use Rattle.goal_evaluator.proofs.resuming.BoxedCandidate.resume.Goals as goal

pub returns-clause-stands : goal.returns-clause-stands
returns-clause-stands c =
    let es = c.args.cx.now.entries in
    subst (λ (o : OpenCandidate). StandsAt c.resume.new.cx.entries (after_reply es o (option_map (answer_trees es) c.args.reply)) c.resume.result)
    (c.into_inner.ensures ∙ c.self.view_is) c.resume.ensures.stands
