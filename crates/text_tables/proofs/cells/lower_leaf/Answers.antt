use Rattle.std.proofs.Common.{arith, ap, Err}
use Rattle.type_terms.specs.Promised.Handles.{types}
use Rattle.text_tables.specs.Stack.{stack_of}
use Rattle.text_tables.proofs.Lowering.{leaf-lowers, leaf-held}
use Rattle.text_tables.proofs.Counting.{at-most-one, none-added}
use Rattle.text_tables.proofs.Refusals.{refused-term}
use Rattle.text_tables.proofs.cells.lower_leaf.Goals as goal

pub mk_ty-requires : goal.mk_ty-requires
mk_ty-requires c = leaf-held c.args.cell c.args.kind c.args.cx.now.entries c.requires.leaf

pub returns-clause-lowers : goal.returns-clause-lowers
returns-clause-lowers c = leaf-lowers c.args.cell c.args.kind c.args.cx.now.entries _ c.in_ok-ty.ty c.requires.leaf c.in_ok-ty.ensures.is c.in_ok-ty.ensures.grew.keeps (stack_of c.args.stack.now.items) c.requires.ready.held

pub returns-in_err-ty-clause-terms : goal.returns-in_err-ty-clause-terms
returns-in_err-ty-clause-terms c =
    let refused = c.in_err-ty.ensures in
    record { grew = c.mk_ty.ensures.grew; full = refused-term types c.from_residual.result (omega arith) c.from_residual.ensures.1 (λ q. refused.full (ap Err q)) refused.grew.limit refused.refused }

pub returns-in_err-ty-clause-few : goal.returns-in_err-ty-clause-few
returns-in_err-ty-clause-few c = let same = none-added c.in_err-ty.ensures.refused in omega (arith, same)

pub returns-clause-few : goal.returns-clause-few
returns-clause-few c = let one = at-most-one c.in_ok-ty.ensures.adds in omega (arith, one)
