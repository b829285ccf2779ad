use Rattle.std.proofs.Common.{arith, ap, Err}
use Rattle.type_terms.specs.Terms.{args_lists}
use Rattle.type_terms.proofs.FailFacts.{at-limit, refused-term}
use Rattle.term_folds.proofs.walk.one_arg.Goals as goal

pub returns-in_err-mk_args-clause-grew : goal.returns-in_err-mk_args-clause-grew
returns-in_err-mk_args-clause-grew c =
    let refused = c.in_err-mk_args.ensures in
    record {
      grew = c.mk_args.ensures.grew;
      full = at-limit c.from_residual-in_err-mk_args.result c.from_residual-in_err-mk_args.ensures.1
          (λ q. refused-term args_lists (omega arith) (refused.full (ap Err q)) c.mk_args.ensures.grew.limit refused.refused);
    }
