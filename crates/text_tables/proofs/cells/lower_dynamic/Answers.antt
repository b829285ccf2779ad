use Rattle.std.proofs.Common.{arith, ap, Err}
use Rattle.type_terms.specs.Promised.Handles.{bounds_lists, types}
use Rattle.type_terms.proofs.Grown.{grew-on}
use Rattle.text_tables.specs.Stack.{stack_of}
use Rattle.text_tables.proofs.Lowering.{dyn-lowers, principal-made, principal-held}
use Rattle.text_tables.proofs.Counting.{at-most-one, none-added}
use Rattle.text_tables.proofs.Refusals.{refused-term}
use Rattle.text_tables.proofs.cells.lower_dynamic.Goals as goal

pub pop_principal-principal-requires : goal.pop_principal-principal-requires
pop_principal-principal-requires c =
    principal-made c.args.has_principal c.args.autos c.in_ok-autos.autos.items c.pop_lifetime-region.result (stack_of c.args.stack.now.items) _ _ c.requires.made c.pop_lifetime-region.ensures c.in_ok-autos.ensures.count c.in_ok-autos.ensures.pushed

pub mk_bounds-requires : goal.mk_bounds-requires
mk_bounds-requires c = (
  principal-held c.args.cx.now.entries c.args.has_principal c.in_ok-autos.autos.items c.pop_lifetime-region.result c.pop_principal-principal.result (stack_of c.args.stack.now.items) _ _ _ c.pop_lifetime-region.ensures c.in_ok-autos.ensures.pushed c.pop_principal-principal.ensures c.requires.held,
  c.in_ok-autos.ensures.rise,
)

pub returns-clause-lowers : goal.returns-clause-lowers
returns-clause-lowers c =
    dyn-lowers c.args.has_principal c.args.autos c.in_ok-autos.autos.items c.pop_lifetime-region.result c.pop_principal-principal.result c.args.cx.now.entries _ _ (stack_of c.args.stack.now.items) _ _ _ c.in_ok-bounds.bounds.0 c.in_ok-ty.ty c.requires.made
    c.pop_lifetime-region.ensures c.in_ok-autos.ensures.count c.in_ok-autos.ensures.pushed c.pop_principal-principal.ensures c.requires.held
    c.in_ok-bounds.ensures.is c.in_ok-bounds.ensures.grew.keeps c.in_ok-ty.ensures.is c.in_ok-ty.ensures.grew.keeps

pub returns-in_err-bounds-clause-terms : goal.returns-in_err-bounds-clause-terms
returns-in_err-bounds-clause-terms c =
    let refused = c.in_err-bounds.ensures in
    record { grew = c.mk_bounds.ensures.grew; full = refused-term bounds_lists c.from_residual-in_err-bounds.result (omega arith) c.from_residual-in_err-bounds.ensures.1 (λ q. refused.full (ap Err q)) refused.grew.limit refused.refused }

pub returns-in_err-ty-clause-terms : goal.returns-in_err-ty-clause-terms
returns-in_err-ty-clause-terms c =
    let refused = c.in_err-ty.ensures in
    record { grew = grew-on c.mk_bounds.ensures.grew c.mk_ty.ensures.grew; full = refused-term types c.from_residual-in_err-ty.result (omega arith) c.from_residual-in_err-ty.ensures.1 (λ q. refused.full (ap Err q)) refused.grew.limit refused.refused }

pub returns-in_err-bounds-clause-few : goal.returns-in_err-bounds-clause-few
returns-in_err-bounds-clause-few c = let same = none-added c.in_err-bounds.ensures.refused in omega (arith, same)

pub returns-in_err-ty-clause-few : goal.returns-in_err-ty-clause-few
returns-in_err-ty-clause-few c =
    let one = at-most-one c.in_ok-bounds.ensures.adds in
    let same = none-added c.in_err-ty.ensures.refused in
    omega (arith, one, same)

pub returns-clause-few : goal.returns-clause-few
returns-clause-few c =
    let one = at-most-one c.in_ok-bounds.ensures.adds in
    let next = at-most-one c.in_ok-ty.ensures.adds in
    omega (arith, one, next)
