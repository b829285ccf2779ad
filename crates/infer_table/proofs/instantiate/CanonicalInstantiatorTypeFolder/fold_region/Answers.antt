use Rattle.std.proofs.Common.{refl, ap, ◌∙◌, Some}
use Rattle.type_terms.specs.Promised.Label.{of_lifetime}
use Rattle.type_terms.specs.Promised.Trees.{leaf}
use Rattle.type_terms.specs.Promised.Handles.{region_label, region_trees}
use Rattle.type_terms.specs.declared.region.RegionKind.TheVariants.{ReBound}
use Rattle.term_folds.proofs.FoldFacts.{RegionIs}
use Rattle.infer_table.specs.Values.{values_of, filling}
use Rattle.infer_table.proofs.Fillings.{fills}
use Rattle.infer_table.proofs.Numbers.{says-stays}
use Rattle.infer_table.proofs.instantiate.CanonicalInstantiatorTypeFolder.fold_region.Goals as goal

pub returns-in-Some-clause-answer : goal.returns-in-Some-clause-answer
returns-in-Some-clause-answer c =
    let es = c.args._cx.now.entries in
    let vs = values_of es c.args.self.now.values.now in
    let v = c.in-Some.value in
    says-stays RegionIs (filling vs (region_trees c.args.region)) (region_trees v) v
    (ap (λ k. filling vs (leaf (region_label k))) (c.in-ReBound.is ∙ ap (λ i. ReBound i c.in-ReBound.variable) c.in-Canonical.is)
    ∙ fills vs of_lifetime c.in-ReBound.variable.index (Some (region_trees v)) (c.in-Some.ensures.value es))
    (refl, c.in-Some.ensures.held es c.requires.ready)
