use Rattle.std.proofs.Common.{ap, Err, arith}
use Rattle.type_terms.specs.Promised.Handles.{types, consts}
use Rattle.type_terms.proofs.FailFacts.{refused-term}
use Rattle.solver_graph.proofs.Shortages.{handed}
use Rattle.sessions.proofs.placeholders.placeholder_for_param.Goals as goal

pub returns-in_err-ty-in-Type-clause-terms : goal.returns-in_err-ty-in-Type-clause-terms
returns-in_err-ty-in-Type-clause-terms c = record {
  grew = c.mk_ty.ensures.grew;
  full =
      let refused = c.in_err-ty-in-Type.ensures in
      handed _ c.from_residual.result c.from_residual.ensures.1 (λ p. refused-term types (omega arith) (refused.full (ap Err p)) refused.grew.limit refused.refused);
}

pub returns-in_err-value-in-Const-clause-terms : goal.returns-in_err-value-in-Const-clause-terms
returns-in_err-value-in-Const-clause-terms c = record {
  grew = c.mk_const.ensures.grew;
  full =
      let refused = c.in_err-value-in-Const.ensures in
      handed _ c.from_residual-in_err-value-in-Const.result c.from_residual-in_err-value-in-Const.ensures.1 (λ p. refused-term consts (omega arith) (refused.full (ap Err p)) refused.grew.limit refused.refused);
}
