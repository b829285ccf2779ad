use Rattle.std.proofs.Common.{◌∙◌, ap}
use Rattle.std.specs.List.{slice_get}
use Rattle.std.proofs.lemmas.Result.{IfOk-weaker}
use Rattle.declarations.specs.Items.{written}
use Rattle.candidate_model.specs.Candidates.{by_impls}
use Rattle.built_in_candidates.specs.Goals.{asked_of}
use Rattle.candidate_assembly.specs.Headers.{impls_above}
use Rattle.candidate_assembly.proofs.Counted.{last-is}
use Rattle.candidate_assembly.proofs.assembly.assemble_impl_candidates.Goals as goal

pub returns-clause-is : goal.returns-clause-is
returns-clause-is c =
    let es = c.args.cx.now.entries in
    let V = written es c.args.declarations.now in
    let a = asked_of es c.args.goal.now in
    IfOk-weaker c.next_impl_candidate.result _ _
    (λ o h seen s. h ∙ ap (λ last. slice_get (by_impls V a (impls_above last V.impls)) 0) (c.last_impl-last.ensures ∙ last-is es c.args.done.now seen s))
    c.next_impl_candidate.ensures.is
