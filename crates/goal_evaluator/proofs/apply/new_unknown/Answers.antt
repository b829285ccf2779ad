use Rattle.std.proofs.Common.{ap, Err, arith}
use Rattle.type_terms.specs.Promised.Handles.{types, consts}
use Rattle.type_terms.proofs.FailFacts.{refused-term, at-limit}
use Rattle.goal_evaluator.proofs.apply.new_unknown.Goals as goal

pub returns-in_err-ty-in-Ty-clause-terms : goal.returns-in_err-ty-in-Ty-clause-terms
returns-in_err-ty-in-Ty-clause-terms c = record {
  grew = c.next_ty_var.ensures.grew;
  full =
      let refused = c.in_err-ty-in-Ty.ensures in
      at-limit c.from_residual.result c.from_residual.ensures.1 (λ p. refused-term types (omega arith) (refused.full (ap Err p)) refused.grew.limit refused.nothing_made);
}

pub returns-in_err-ct-in-Const-clause-terms : goal.returns-in_err-ct-in-Const-clause-terms
returns-in_err-ct-in-Const-clause-terms c = record {
  grew = c.next_const_var.ensures.grew;
  full =
      let refused = c.in_err-ct-in-Const.ensures in
      let handed = c.from_residual-in_err-ct-in-Const in
      at-limit handed.result handed.ensures.1 (λ p. refused-term consts (omega arith) (refused.full (ap Err p)) refused.grew.limit refused.nothing_made);
}
