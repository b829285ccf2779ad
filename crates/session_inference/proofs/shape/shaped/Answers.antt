use Rattle.std.proofs.Common.{Err, arith, ap}
use Rattle.type_terms.specs.Promised.Handles.{types}
use Rattle.type_terms.proofs.Grown.{grew-on}
use Rattle.session_inference.proofs.Shapes.{refused-part}
use Rattle.session_inference.proofs.shape.shaped.Goals as goal

pub returns-in_err-ty-clause-terms : goal.returns-in_err-ty-clause-terms
returns-in_err-ty-clause-terms c =
    let refused = c.in_err-ty.ensures in
    record {
      grew = grew-on c.kind_in.ensures.terms.grew c.mk_ty.ensures.grew;
      full = refused-part types c.from_residual-in_err-ty.result (omega arith) c.from_residual-in_err-ty.ensures.1 (λ q. refused.full (ap Err q)) refused.grew.limit refused.refused;
    }
