use Rattle.std.proofs.Common.{ap, ◌∙◌}
use Rattle.declarations.specs.Relevant.{next_above}
use Rattle.built_in_candidates.specs.Goals.{asked_of}
use Rattle.candidate_assembly.proofs.Passing.{same-matching}
use Rattle.candidate_assembly.proofs.Walking.{plain-heads}
use Rattle.candidate_assembly.proofs.impls.next_matching_impl.Goals as goal

pub returns-clause-is : goal.returns-clause-is
returns-clause-is c =
    let es = c.args.cx.now.entries in
    let d = c.args.declarations.now in
    c.next_matching_impl.ensures.is ∙ ap (next_above c.args.last) (same-matching es (asked_of es c.args.goal.now) c.requires.first d (plain-heads es d.impls c.requires.impls))
