use Rattle.std.proofs.Common.{ap, ◌∙◌}
use Rattle.std.specs.List.{slice_get}
use Rattle.type_terms.proofs.NumberBasics.{next-number}
use Rattle.declarations.specs.Items.{written}
use Rattle.candidate_model.specs.Candidates.{by_impls}
use Rattle.candidate_assembly.proofs.InOrder.{goes-on, begins}
use Rattle.candidate_assembly.proofs.laws.walks_meet_all_impls.Goals as goal

pub returns-clause-begins : goal.returns-clause-begins
returns-clause-begins c = λ es d a. ap (λ ds. slice_get (by_impls (written es d) a ds) 0) (begins es (written es d) a d.impls)

pub returns-clause-goes_on : goal.returns-clause-goes_on
returns-clause-goes_on c = λ es d a n x last r e s.
    goes-on es (written es d) a d.impls n x last r e s ∙ ap (λ m. slice_get (by_impls (written es d) a (written es d).impls) m) (next-number n)
