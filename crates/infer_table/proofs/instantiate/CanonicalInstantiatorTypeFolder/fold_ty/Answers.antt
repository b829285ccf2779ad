use Rattle.std.proofs.Common.{◌≡◌, Some, ap, sym, ◌∙◌, true}
use Rattle.type_terms.specs.Promised.Label.{of_type, canonical}
use Rattle.type_terms.specs.Promised.Trees.{leaf}
use Rattle.type_terms.specs.Promised.Handles.{trees_at, types}
use Rattle.type_terms.specs.Promised.Handles.{bound_label}
use Rattle.type_terms.proofs.Sorts.{type-single}
use Rattle.type_terms.specs.Kept.{is-at, trees-is}
use Rattle.term_folds.proofs.FoldFacts.{TyIs}
use Rattle.infer_table.specs.Leaves.{root_label, is_type_label}
use Rattle.infer_table.specs.Values.{values_of, filling, are_unbound_flags, is_unbound}
use Rattle.infer_table.proofs.Numbers.{says-stays}
use Rattle.infer_table.proofs.Fillings.{fills, kind-is-type, stays-at}
use Rattle.infer_table.proofs.instantiate.CanonicalInstantiatorTypeFolder.fold_ty.Goals as goal

pub returns-in-Some-clause-answer : goal.returns-in-Some-clause-answer
returns-in-Some-clause-answer c =
    let es = c.args.cx.now.entries in
    let vs = values_of es c.args.self.now.values.now in
    let v = c.in-Some.value in
    let here : trees_at es c.args.ty.0 ≡ leaf (canonical of_type c.in-Bound.variable.index) =
    trees-is es types c.args.ty.0 _ c.in-Bound.ensures.is ∙ ap (λ i. leaf (bound_label of_type i c.in-Bound.variable)) c.in-Canonical.is in
    says-stays (TyIs es) (filling vs (trees_at es c.args.ty.0)) (trees_at es v.0) v
    (ap (filling vs) here ∙ fills vs of_type c.in-Bound.variable.index (Some (trees_at es v.0)) (c.in-Some.ensures.value es))
    (is-at es types v.0 (c.in-Some.ensures.held es c.requires.ready))

pub returns-then-is_unbound-clause-answer : goal.returns-then-is_unbound-clause-answer
returns-then-is_unbound-clause-answer c =
    let es = c.args.cx.now.entries in
    let vs = values_of es c.args.self.now.values.now in
    let t = trees_at es c.args.ty.0 in
    let kind = c.type_has_kind.ensures in
    let label : is_type_label (root_label t) ≡ true = ap (λ z. is_type_label (root_label z)) (trees-is es types c.args.ty.0 _ kind.1) ∙ kind-is-type es kind.0 in
    let unbound : is_unbound t ≡ true = sym (c.if-is_unbound.ensures ∙ ap are_unbound_flags c.flags.ensures) in
    says-stays (TyIs es) (filling vs t) t c.args.ty (stays-at vs t (type-single es c.lawful.ensures.sorted c.args.ty.0 c.requires.held) label unbound)
    (is-at es types c.args.ty.0 c.requires.held)
