use Rattle.std.proofs.Common.{ap, ◌∙◌, false}
use Rattle.type_terms.proofs.NumberBasics.{number-self}
use Rattle.goal_evaluator.specs.declared.candidate.CandidateSource.TheVariants.{BuiltinImpl}
use Rattle.candidate_assembly.specs.Counted.{ends_by, is_numbered_bound}
use Rattle.candidate_assembly.proofs.Counted.{ends-behind}
use Rattle.candidate_assembly.proofs.assembly.last_bound.Goals as goal

pub returns-in-Object : goal.returns-in-Object
returns-in-Object c =
    let n = c.in-Object.number in
    let p = is_numbered_bound n in
    ap (ends_by p false) c.in-Some.ensures.cases.0 ∙ ends-behind p false c.in-Some.field-0-1.now c.in-Some.newest.now
    ∙ ap p c.in-BuiltinImpl.is ∙ ap (λ s. p (BuiltinImpl s)) c.in-Object.is ∙ number-self n
