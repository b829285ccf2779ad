use Rattle.std.proofs.Common.{subst, ap, ◌∙◌, arith, Err}
use Rattle.type_terms.specs.Trees.{is_no_tree}
use Rattle.type_terms.specs.Terms.{type_lists}
use Rattle.type_terms.specs.Promised.Handles.{types}
use Rattle.type_terms.proofs.Grown.{grew-on}
use Rattle.text_tables.specs.Stack.{stack_of, parts_in, StackHeld}
use Rattle.text_tables.proofs.Lowering.{held-pushed, tys-held, fn-lowers, fn-output, fn-made, is-tree}
use Rattle.text_tables.proofs.Counting.{at-most-one, none-added}
use Rattle.text_tables.proofs.Refusals.{refused-term}
use Rattle.text_tables.proofs.cells.lower_fn_ptr.Goals as goal

pub pop_types-requires : goal.pop_types-requires
pop_types-requires c = fn-made c.args.bound_vars c.args.types (parts_in c.args.stack.now.items) c.requires.made

pub mk_tys-requires : goal.mk_tys-requires
mk_tys-requires c = tys-held c.args.cx.now.entries c.in_ok-list.list.items (held-pushed c.args.cx.now.entries _ _ (subst (StackHeld c.args.cx.now.entries) c.in_ok-list.ensures.pushed c.requires.held)).0

pub mk_ty-requires : goal.mk_ty-requires
mk_ty-requires c = (
  (_, c.in_ok-tys.ensures.is),
  ap is_no_tree (is-tree _ type_lists c.in_ok-tys.tys.0 _ c.in_ok-tys.ensures.is)
      ∙ fn-output c.args.bound_vars c.args.types c.in_ok-list.list.items c.args.cx.now.entries (parts_in c.args.stack.now.items) c.lawful.ensures c.requires.made c.in_ok-list.ensures.count
      (tys-held c.args.cx.now.entries c.in_ok-list.list.items (held-pushed c.args.cx.now.entries _ _ (subst (StackHeld c.args.cx.now.entries) c.in_ok-list.ensures.pushed c.requires.held)).0),
)

pub returns-clause-lowers : goal.returns-clause-lowers
returns-clause-lowers c =
    fn-lowers c.args.bound_vars c.args.types c.in_ok-list.list.items c.args.cx.now.entries _ _ (stack_of c.args.stack.now.items) _ c.in_ok-tys.tys.0 c.in_ok-ty.ty c.requires.made c.in_ok-list.ensures.pushed c.in_ok-list.ensures.count c.requires.held
    c.in_ok-tys.ensures.is c.in_ok-tys.ensures.grew.keeps c.in_ok-ty.ensures.is c.in_ok-ty.ensures.grew.keeps

pub returns-in_err-tys-clause-terms : goal.returns-in_err-tys-clause-terms
returns-in_err-tys-clause-terms c =
    let refused = c.in_err-tys.ensures in
    record { grew = c.mk_tys.ensures.grew; full = refused-term type_lists c.from_residual-in_err-tys.result (omega arith) c.from_residual-in_err-tys.ensures.1 (λ q. refused.full (ap Err q)) refused.grew.limit refused.refused }

pub returns-in_err-ty-clause-terms : goal.returns-in_err-ty-clause-terms
returns-in_err-ty-clause-terms c =
    let refused = c.in_err-ty.ensures in
    record { grew = grew-on c.mk_tys.ensures.grew c.mk_ty.ensures.grew; full = refused-term types c.from_residual-in_err-ty.result (omega arith) c.from_residual-in_err-ty.ensures.1 (λ q. refused.full (ap Err q)) refused.grew.limit refused.refused }

pub returns-in_err-tys-clause-few : goal.returns-in_err-tys-clause-few
returns-in_err-tys-clause-few c = let same = none-added c.in_err-tys.ensures.refused in omega (arith, same)

pub returns-in_err-ty-clause-few : goal.returns-in_err-ty-clause-few
returns-in_err-ty-clause-few c =
    let one = at-most-one c.in_ok-tys.ensures.adds in
    let same = none-added c.in_err-ty.ensures.refused in
    omega (arith, one, same)

pub returns-clause-few : goal.returns-clause-few
returns-clause-few c =
    let one = at-most-one c.in_ok-tys.ensures.adds in
    let next = at-most-one c.in_ok-ty.ensures.adds in
    omega (arith, one, next)
