use Rattle.infer_table.specs.Kept.{ready-later}
use Rattle.std.proofs.Common.{ap, Err, arith}
use Rattle.type_terms.specs.Promised.Handles.{types, consts}
use Rattle.type_terms.proofs.FailFacts.{refused-term, at-limit}
use Rattle.infer_table.proofs.unknowns.next_value.Goals as goal

pub returns-in_ok-mk_ty-in-PlaceholderTy-clause-ready : goal.returns-in_ok-mk_ty-in-PlaceholderTy-clause-ready
returns-in_ok-mk_ty-in-PlaceholderTy-clause-ready c = ready-later c.args.cx.now.entries c.mk_ty.new.self.entries c.args.table.now c.mk_ty.ensures.grew.keeps c.requires

pub returns-in_ok-mk_const-in-PlaceholderConst-clause-ready : goal.returns-in_ok-mk_const-in-PlaceholderConst-clause-ready
returns-in_ok-mk_const-in-PlaceholderConst-clause-ready c = ready-later c.args.cx.now.entries c.mk_const.new.self.entries c.args.table.now c.mk_const.ensures.grew.keeps c.requires

pub returns-in_err-next_ty_var-in-Ty-clause-terms : goal.returns-in_err-next_ty_var-in-Ty-clause-terms
returns-in_err-next_ty_var-in-Ty-clause-terms c = record {
  grew = c.next_ty_var.ensures.grew;
  full =
      let refused = c.in_err-next_ty_var-in-Ty.ensures in
      at-limit c.from_residual.result c.from_residual.ensures.1 (λ p. refused-term types (omega arith) (refused.full (ap Err p)) refused.grew.limit refused.nothing_made);
}

pub returns-in_err-next_const_var-in-Const-clause-terms : goal.returns-in_err-next_const_var-in-Const-clause-terms
returns-in_err-next_const_var-in-Const-clause-terms c = record {
  grew = c.next_const_var.ensures.grew;
  full =
      let refused = c.in_err-next_const_var-in-Const.ensures in
      let handed = c.from_residual-in_err-next_const_var-in-Const in
      at-limit handed.result handed.ensures.1 (λ p. refused-term consts (omega arith) (refused.full (ap Err p)) refused.grew.limit refused.nothing_made);
}

pub returns-in_err-mk_ty-in-PlaceholderTy-clause-terms : goal.returns-in_err-mk_ty-in-PlaceholderTy-clause-terms
returns-in_err-mk_ty-in-PlaceholderTy-clause-terms c = record {
  grew = c.mk_ty.ensures.grew;
  full =
      let refused = c.in_err-mk_ty-in-PlaceholderTy.ensures in
      let handed = c.from_residual-in_err-mk_ty-in-PlaceholderTy in
      at-limit handed.result handed.ensures.1 (λ p. refused-term types (omega arith) (refused.full (ap Err p)) refused.grew.limit refused.refused);
}

pub returns-in_err-mk_const-in-PlaceholderConst-clause-terms : goal.returns-in_err-mk_const-in-PlaceholderConst-clause-terms
returns-in_err-mk_const-in-PlaceholderConst-clause-terms c = record {
  grew = c.mk_const.ensures.grew;
  full =
      let refused = c.in_err-mk_const-in-PlaceholderConst.ensures in
      let handed = c.from_residual-in_err-mk_const-in-PlaceholderConst in
      at-limit handed.result handed.ensures.1 (λ p. refused-term consts (omega arith) (refused.full (ap Err p)) refused.grew.limit refused.refused);
}
