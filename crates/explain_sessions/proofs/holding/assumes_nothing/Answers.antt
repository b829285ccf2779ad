use Rattle.std.proofs.Common.{sym, ap, ◌∙◌}
use Rattle.sessions.specs.ProofChecker.Steps.{assumed_in}
use Rattle.explain_sessions.proofs.HeldGoals.{one-less}
use Rattle.explain_sessions.proofs.holding.assumes_nothing.Goals as goal
use Rattle.sessions.proofs.TypeTerms.ListBasics.{empty-is}

pub steps-preserved : goal.steps-preserved
steps-preserved c = λ es.
    one-less es c.steps.left.now c.in-Some.step.now c.in-Some.others.now c.in-Some.ensures.cases.0 (c.is_assumed.ensures c.if-is_assumed.false es c.in-Some.step.now.reference)
    ∙ c.steps.invariant es

pub returns : goal.returns
returns c = λ e es. sym (c.steps.invariant es) ∙ ap (assumed_in es) (empty-is c.steps.left.now c.in_default.ensures.cases)
