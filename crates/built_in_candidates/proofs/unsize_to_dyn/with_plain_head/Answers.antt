use Rattle.std.proofs.Common.{ap, arith, sym, ◌∙◌, Err}
use Rattle.type_terms.specs.Promised.Handles.{types}
use Rattle.type_terms.specs.Kept.{trees-is}
use Rattle.type_terms.proofs.FailFacts.{refused-term, at-limit}
use Rattle.candidate_model.specs.Asking.{with_plain_head}
use Rattle.built_in_candidates.proofs.unsize_to_dyn.with_plain_head.Goals as goal

pub returns-in_err-plain-in-FnPtr-clause-terms : goal.returns-in_err-plain-in-FnPtr-clause-terms
returns-in_err-plain-in-FnPtr-clause-terms c = record {
  grew = c.mk_ty.ensures.grew;
  full =
      let refused = c.in_err-plain-in-FnPtr.ensures in
      at-limit c.from_residual.result c.from_residual.ensures.1 (λ p. refused-term types (omega arith) (refused.full (ap Err p)) refused.grew.limit refused.refused);
}

pub returns-in_ok-plain-in-FnPtr-clause-is : goal.returns-in_ok-plain-in-FnPtr-clause-is
returns-in_ok-plain-in-FnPtr-clause-is c =
    trees-is c.mk_ty.new.self.entries types c.in_ok-plain-in-FnPtr.plain.0 _ c.in_ok-plain-in-FnPtr.ensures.is
    ∙ ap with_plain_head (sym (trees-is c.args.cx.now.entries types c.args.ty.0 _ c.in-FnPtr.ensures.is))
