use Rattle.std.proofs.Common.{if◌then◌else◌, sym, ◌∙◌, ap, Some, None}
use Rattle.candidate_model.specs.Candidates.{unsure}
use Rattle.candidate_assembly.proofs.DecidedGoals.{first-is}
use Rattle.candidate_assembly.proofs.trait_goals.undecided_candidate.Goals as goal

pub returns-then-is_empty-clause-is : goal.returns-then-is_empty-clause-is
returns-then-is_empty-clause-is c = λ es new kind seen s. ap Some (c.unsure.ensures.is new kind) ∙ ap (λ b. if b then Some unsure else None) (sym c.if-is_empty.true ∙ c.is_empty.ensures ∙ first-is es c.args.done.now seen s)

pub returns-else-is_empty-clause-is : goal.returns-else-is_empty-clause-is
returns-else-is_empty-clause-is c = λ es new kind seen s. ap (λ b. if b then Some unsure else None) (sym c.if-is_empty.false ∙ c.is_empty.ensures ∙ first-is es c.args.done.now seen s)
