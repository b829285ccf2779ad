use Rattle.std.proofs.Common.{◌≡◌, Some, ap, ◌∙◌}
use Rattle.type_terms.specs.Promised.Label.{of_const, canonical}
use Rattle.type_terms.specs.Promised.Trees.{leaf}
use Rattle.type_terms.specs.Promised.Handles.{trees_at, consts}
use Rattle.type_terms.specs.Promised.Handles.{bound_label}
use Rattle.type_terms.specs.Kept.{is-at, trees-is}
use Rattle.term_folds.proofs.FoldFacts.{ConstIs}
use Rattle.infer_table.specs.Values.{values_of, filling}
use Rattle.infer_table.proofs.Numbers.{says-stays}
use Rattle.infer_table.proofs.Fillings.{fills}
use Rattle.infer_table.proofs.instantiate.CanonicalInstantiatorTypeFolder.fold_const.Goals as goal

pub returns-in-Some-clause-answer : goal.returns-in-Some-clause-answer
returns-in-Some-clause-answer c =
    let es = c.args.cx.now.entries in
    let vs = values_of es c.args.self.now.values.now in
    let v = c.in-Some.value in
    let here : trees_at es c.args.ct.0 ≡ leaf (canonical of_const c.in-Bound.variable.index) =
    trees-is es consts c.args.ct.0 _ c.in-Bound.ensures.is ∙ ap (λ i. leaf (bound_label of_const i c.in-Bound.variable)) c.in-Canonical.is in
    says-stays (ConstIs es) (filling vs (trees_at es c.args.ct.0)) (trees_at es v.0) v
    (ap (filling vs) here ∙ fills vs of_const c.in-Bound.variable.index (Some (trees_at es v.0)) (c.in-Some.ensures.value es))
    (is-at es consts v.0 (c.in-Some.ensures.held es c.requires.ready))
