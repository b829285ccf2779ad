use Rattle.std.proofs.Common.{arith, ap, Err}
use Rattle.type_terms.specs.Promised.Handles.{types}
use Rattle.text_tables.specs.Stack.{stack_of}
use Rattle.text_tables.proofs.Lowering.{array-lowers}
use Rattle.text_tables.proofs.Counting.{at-most-one, none-added}
use Rattle.text_tables.proofs.Refusals.{refused-term}
use Rattle.text_tables.proofs.cells.lower_array.Goals as goal

pub returns-clause-lowers : goal.returns-clause-lowers
returns-clause-lowers c =
    array-lowers c.pop_type-item.result c.pop_const-len.result c.args.cx.now.entries _ (stack_of c.args.stack.now.items) _ _ c.in_ok-ty.ty c.pop_const-len.ensures c.pop_type-item.ensures c.requires.held c.in_ok-ty.ensures.is c.in_ok-ty.ensures.grew.keeps

pub returns-in_err-ty-clause-terms : goal.returns-in_err-ty-clause-terms
returns-in_err-ty-clause-terms c =
    let refused = c.in_err-ty.ensures in
    record { grew = c.mk_ty.ensures.grew; full = refused-term types c.from_residual.result (omega arith) c.from_residual.ensures.1 (λ q. refused.full (ap Err q)) refused.grew.limit refused.refused }

pub returns-in_err-ty-clause-few : goal.returns-in_err-ty-clause-few
returns-in_err-ty-clause-few c = let same = none-added c.in_err-ty.ensures.refused in omega (arith, same)

pub returns-clause-few : goal.returns-clause-few
returns-clause-few c = let one = at-most-one c.in_ok-ty.ensures.adds in omega (arith, one)
