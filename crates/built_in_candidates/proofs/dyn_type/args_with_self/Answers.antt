use Rattle.std.proofs.Common.{ap, arith, Err}
use Rattle.type_terms.specs.Terms.{args_lists}
use Rattle.type_terms.proofs.FailFacts.{refused-term, at-limit}
use Rattle.built_in_candidates.proofs.dyn_type.args_with_self.Goals as goal

pub returns-in_err-args-clause-terms : goal.returns-in_err-args-clause-terms
returns-in_err-args-clause-terms c = record {
  grew = c.mk_args.ensures.grew;
  full =
      let refused = c.in_err-args.ensures in
      let handed = c.from_residual-in_err-args in
      at-limit handed.result handed.ensures.1 (λ p. refused-term args_lists (omega arith) (refused.full (ap Err p)) refused.grew.limit refused.refused);
}
