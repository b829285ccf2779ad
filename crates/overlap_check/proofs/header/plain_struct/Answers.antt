use Rattle.std.proofs.Common.{◌≡◌, zero, ap, sym, ◌∙◌, subst}
use Rattle.std.specs.Prelude.{IfSome}
use Rattle.type_terms.specs.Promised.Label.{adt}
use Rattle.type_terms.specs.Promised.Trees.{none, tree, instantiate}
use Rattle.type_terms.specs.Promised.Handles.{ArgsHeld, arg_trees, trees_at, types}
use Rattle.type_terms.specs.Kinds.{args_trees}
use Rattle.type_terms.specs.Kept.{trees-is}
use Rattle.overlap_check.proofs.header.plain_struct.Goals as goal

pub returns-in-Some-clause-held : goal.returns-in-Some-clause-held
returns-in-Some-clause-held c = subst (λ o. IfSome o (λ v. ArgsHeld c.args.cx.now.entries v.items)) c.in-Some.is c.in_ok-list.ensures.held

pub returns-in-Some-clause-is : goal.returns-in-Some-clause-is
returns-in-Some-clause-is c =
    let es = c.args.cx.now.entries in
    let A = trees_at es c.args.args.0 in
    let written : arg_trees es c.args.written ≡ tree (adt c.in-Adt.id.index) (trees_at es c.in-Adt.inner.0) none = ap (arg_trees es) c.in-Ty.is ∙ trees-is es types c.in-Ty.ty.0 _ c.in-Adt.ensures.is in
    let are = subst (λ o. IfSome o (λ v. args_trees es v.items ≡ instantiate zero A (trees_at es c.in-Adt.inner.0))) c.in-Some.is c.in_ok-list.ensures.are in
    ap (λ t. tree (adt c.in-Adt.id.index) t none) are ∙ sym (ap (instantiate zero A) written)
