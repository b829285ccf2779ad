use Rattle.std.proofs.Common.{subst, arith, ap, Err}
use Rattle.type_terms.specs.Terms.{args_lists}
use Rattle.type_terms.specs.Promised.Handles.{types}
use Rattle.type_terms.proofs.Grown.{grew-on}
use Rattle.text_tables.specs.Stack.{stack_of, StackHeld}
use Rattle.text_tables.proofs.Lowering.{held-pushed, args-held, adt-lowers}
use Rattle.text_tables.proofs.Counting.{at-most-one, none-added}
use Rattle.text_tables.proofs.Refusals.{refused-term}
use Rattle.text_tables.proofs.cells.lower_adt.Goals as goal

pub mk_args-requires : goal.mk_args-requires
mk_args-requires c = args-held c.args.cx.now.entries c.in_ok-list.list.items (held-pushed c.args.cx.now.entries _ _ (subst (StackHeld c.args.cx.now.entries) c.in_ok-list.ensures.pushed c.requires.held)).0

pub returns-clause-lowers : goal.returns-clause-lowers
returns-clause-lowers c =
    adt-lowers c.args.id c.args.args c.in_ok-list.list.items c.args.cx.now.entries _ _ (stack_of c.args.stack.now.items) _ c.in_ok-args.args.0 c.in_ok-ty.ty c.in_ok-list.ensures.pushed c.in_ok-list.ensures.count c.requires.held
    c.in_ok-args.ensures.is c.in_ok-args.ensures.grew.keeps c.in_ok-ty.ensures.is c.in_ok-ty.ensures.grew.keeps

pub returns-in_err-args-clause-terms : goal.returns-in_err-args-clause-terms
returns-in_err-args-clause-terms c =
    let refused = c.in_err-args.ensures in
    record { grew = c.mk_args.ensures.grew; full = refused-term args_lists c.from_residual-in_err-args.result (omega arith) c.from_residual-in_err-args.ensures.1 (λ q. refused.full (ap Err q)) refused.grew.limit refused.refused }

pub returns-in_err-ty-clause-terms : goal.returns-in_err-ty-clause-terms
returns-in_err-ty-clause-terms c =
    let refused = c.in_err-ty.ensures in
    record { grew = grew-on c.mk_args.ensures.grew c.mk_ty.ensures.grew; full = refused-term types c.from_residual-in_err-ty.result (omega arith) c.from_residual-in_err-ty.ensures.1 (λ q. refused.full (ap Err q)) refused.grew.limit refused.refused }

pub returns-in_err-args-clause-few : goal.returns-in_err-args-clause-few
returns-in_err-args-clause-few c = let same = none-added c.in_err-args.ensures.refused in omega (arith, same)

pub returns-in_err-ty-clause-few : goal.returns-in_err-ty-clause-few
returns-in_err-ty-clause-few c =
    let one = at-most-one c.in_ok-args.ensures.adds in
    let same = none-added c.in_err-ty.ensures.refused in
    omega (arith, one, same)

pub returns-clause-few : goal.returns-clause-few
returns-clause-few c =
    let one = at-most-one c.in_ok-args.ensures.adds in
    let next = at-most-one c.in_ok-ty.ensures.adds in
    omega (arith, one, next)
