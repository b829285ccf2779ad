use Rattle.std.proofs.Common.{arith, ap, Err}
use Rattle.type_terms.specs.Promised.Handles.{consts}
use Rattle.text_tables.specs.Stack.{stack_of}
use Rattle.text_tables.proofs.Lowering.{const-lowers}
use Rattle.text_tables.proofs.Counting.{at-most-one, none-added}
use Rattle.text_tables.proofs.Refusals.{refused-term}
use Rattle.text_tables.proofs.cells.lower_const.Goals as goal

pub returns-clause-lowers : goal.returns-clause-lowers
returns-clause-lowers c = const-lowers c.args.kind c.args.cx.now.entries _ c.in_ok-value.value c.in_ok-value.ensures.is c.in_ok-value.ensures.grew.keeps (stack_of c.args.stack.now.items) c.requires.held

pub returns-in_err-value-clause-terms : goal.returns-in_err-value-clause-terms
returns-in_err-value-clause-terms c =
    let refused = c.in_err-value.ensures in
    record { grew = c.mk_const.ensures.grew; full = refused-term consts c.from_residual.result (omega arith) c.from_residual.ensures.1 (λ q. refused.full (ap Err q)) refused.grew.limit refused.refused }

pub returns-in_err-value-clause-few : goal.returns-in_err-value-clause-few
returns-in_err-value-clause-few c = let same = none-added c.in_err-value.ensures.refused in omega (arith, same)

pub returns-clause-few : goal.returns-clause-few
returns-clause-few c = let one = at-most-one c.in_ok-value.ensures.adds in omega (arith, one)
