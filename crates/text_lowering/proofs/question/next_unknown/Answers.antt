use Rattle.std.proofs.Common.{ap, Err, arith}
use Rattle.type_terms.specs.Promised.Handles.{types, consts}
use Rattle.type_terms.proofs.FailFacts.{refused-term, at-limit}
use Rattle.text_lowering.proofs.question.next_unknown.Goals as goal

pub returns-in_err-ty-in-Type-clause-terms : goal.returns-in_err-ty-in-Type-clause-terms
returns-in_err-ty-in-Type-clause-terms c = record {
  grew = c.mk_ty.ensures.grew;
  full =
      let refused = c.in_err-ty-in-Type.ensures in
      at-limit c.from_residual.result c.from_residual.ensures.1 (λ p. refused-term types (omega arith) (refused.full (ap Err p)) refused.grew.limit refused.refused);
}

pub returns-in_err-value-in-Const-clause-terms : goal.returns-in_err-value-in-Const-clause-terms
returns-in_err-value-in-Const-clause-terms c = record {
  grew = c.mk_const.ensures.grew;
  full =
      let refused = c.in_err-value-in-Const.ensures in
      let handed = c.from_residual-in_err-value-in-Const in
      at-limit handed.result handed.ensures.1 (λ p. refused-term consts (omega arith) (refused.full (ap Err p)) refused.grew.limit refused.refused);
}
