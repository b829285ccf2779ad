use Rattle.std.proofs.Common.{◌≡◌, sym, ap, ◌∙◌, subst, ◌∷◌}
use Rattle.std.specs.Prelude.{◌==◌}
use Rattle.type_terms.specs.Promised.Label.{of_type, param}
use Rattle.type_terms.specs.Promised.Trees.{leaf}
use Rattle.type_terms.specs.Promised.Handles.{ArgsHeld, arg_trees, trees_at, types}
use Rattle.type_terms.specs.Kinds.{args_trees}
use Rattle.type_terms.specs.Kept.{trees-is}
use Rattle.overlap_check.specs.FixedClauses.{IsFixedBy}
use Rattle.overlap_check.proofs.FixedClauses.{first-fixes, others-fix, param-fixed}
use Rattle.overlap_check.proofs.fixed.+fixing.Goals as goal

pub fixed_in_args-returns-in-Some-fixed_in_arg-clause-fixed : goal.fixed_in_args-returns-in-Some-fixed_in_arg-clause-fixed
fixed_in_args-returns-in-Some-fixed_in_arg-clause-fixed t c =
    let es = c.args.cx.now.entries in
    let n = c.args.index in
    let inv = c.pairs.invariant in
    let left = c.in-Some.ensures.cases.0 in
    let right = c.in-Some-split_first.ensures.cases.0 in
    let hx = subst (ArgsHeld es) left inv.left_held in
    let hy = subst (ArgsHeld es) right inv.right_held in
    let ty = trees_at es c.in-Some-fixed_in_arg.ty.0 in
    inv.rest ty
    (subst (λ l. IsFixedBy n (args_trees es l) (args_trees es c.pairs.right_rest.now) ty) (sym left)
    (subst (λ r. IsFixedBy n (args_trees es (c.in-Some.first.now ∷ c.in-Some.left_others.now)) (args_trees es r) ty) (sym right)
    (first-fixes es c.lawful.ensures n c.in-Some.first.now c.in-Some-split_first.second.now c.in-Some.left_others.now c.in-Some-split_first.right_others.now hx.0 hy.0 ty c.in-Some-fixed_in_arg.ensures.fixed)))

pub fixed_in_args-pairs-preserved : goal.fixed_in_args-pairs-preserved
fixed_in_args-pairs-preserved t c =
    let es = c.args.cx.now.entries in
    let n = c.args.index in
    let inv = c.pairs.invariant in
    let left = c.in-Some.ensures.cases.0 in
    let right = c.in-Some-split_first.ensures.cases.0 in
    let hx = subst (ArgsHeld es) left inv.left_held in
    let hy = subst (ArgsHeld es) right inv.right_held in
    record {
      left_held = hx.1;
      right_held = hy.1;
      rest = λ ty f.
          inv.rest ty
          (subst (λ l. IsFixedBy n (args_trees es l) (args_trees es c.pairs.right_rest.now) ty) (sym left)
          (subst (λ r. IsFixedBy n (args_trees es (c.in-Some.first.now ∷ c.in-Some.left_others.now)) (args_trees es r) ty) (sym right)
          (others-fix es c.lawful.ensures n c.in-Some.first.now c.in-Some-split_first.second.now c.in-Some.left_others.now c.in-Some-split_first.right_others.now hx.0 hy.0 ty f)));
    }

pub fixed_in_arg-returns-then-flags-eq0-clause-fixed : goal.fixed_in_arg-returns-then-flags-eq0-clause-fixed
fixed_in_arg-returns-then-flags-eq0-clause-fixed t c =
    let es = c.args.cx.now.entries in
    let n = c.args.index in
    let y = trees_at es c.in-Ty-right.second.0 in
    let written : arg_trees es c.args.left ≡ leaf (param of_type n) =
    ap (arg_trees es) c.in-Ty.is ∙ trees-is es types c.in-Ty.first.0 _ c.in-Param.ensures.is ∙ ap (λ i. leaf (param of_type i)) c.if-param-index.true in
    subst (λ a. IsFixedBy n a (arg_trees es c.args.right) y) (sym written)
    (subst (λ b. IsFixedBy n (leaf (param of_type n)) (arg_trees es b) y) (sym c.in-Ty-right.is)
    (param-fixed n y (ap (λ z. z == 0) (sym c.flags.ensures ∙ c.if-flags-eq0.true))))
