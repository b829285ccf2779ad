use Rattle.std.proofs.Common.{ap, Err, arith}
use Rattle.type_terms.specs.Promised.Handles.{consts}
use Rattle.type_terms.proofs.FailFacts.{faulted, refused-term}
use Rattle.infer_table.proofs.canonicalizer.CanonicalizerTypeFolder.fold_const.Goals as goal

pub returns-in_err-variable-clause-full : goal.returns-in_err-variable-clause-full
returns-in_err-variable-clause-full c =
    let refused = c.in_err-variable.ensures in
    faulted _ c.from_residual-in_err-variable.result c.from_residual-in_err-variable.ensures.1
    (λ q. refused-term consts (omega arith) (refused.full (ap Err q)) refused.grew.limit refused.refused)
