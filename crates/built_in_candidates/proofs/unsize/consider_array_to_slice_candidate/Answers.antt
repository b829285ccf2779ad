use Rattle.std.proofs.Common.{None, Some, [], ◌∷◌, ap, ◌∙◌}
use Rattle.type_terms.specs.Promised.Handles.{trees_at}
use Rattle.infer_table.proofs.BindFacts.{type-is}
use Rattle.built_in_candidates.specs.Goals.{asked_of}
use Rattle.built_in_candidates.specs.Unsizing.{array_element_of, slice_element_of}
use Rattle.built_in_candidates.proofs.UnsizingRows.{array_by, array-row}
use Rattle.built_in_candidates.proofs.unsize.consider_array_to_slice_candidate.Goals as goal

pub returns-in_ok-candidate-in-Some-Some-clause-is : goal.returns-in_ok-candidate-in-Some-Some-clause-is
returns-in_ok-candidate-in-Some-Some-clause-is c = λ V.
    let es = c.args.cx.now.entries in
    let law = c.lawful.ensures in
    let a = asked_of es c.args.goal.now in
    let S = trees_at es c.args.coercion.self_ty.0 in
    let T = trees_at es c.args.coercion.target.0 in
    let y = trees_at es c.in-Some-Some.target_element.0 in
    ap (λ s. s ∷ []) (c.in_ok-candidate-in-Some-Some.ensures.is V)
    ∙ ap (λ o. array_by V a o (Some y)) c.in-Some-Some.ensures.is
    ∙ ap (array_by V a (array_element_of S)) c.in-Some-Some.ensures'.is
    ∙ array-row V a S T (type-is es law c.args.coercion.self_ty.0 c.requires.self_held) (type-is es law c.args.coercion.target.0 c.requires.target)

pub returns-in-Some-None-clause-is : goal.returns-in-Some-None-clause-is
returns-in-Some-None-clause-is c = λ V.
    let es = c.args.cx.now.entries in
    let law = c.lawful.ensures in
    let a = asked_of es c.args.goal.now in
    let S = trees_at es c.args.coercion.self_ty.0 in
    let T = trees_at es c.args.coercion.target.0 in
    ap (λ o. array_by V a o None) c.in-Some-None.ensures.is
    ∙ ap (array_by V a (array_element_of S)) c.in-Some-None.ensures'.is
    ∙ array-row V a S T (type-is es law c.args.coercion.self_ty.0 c.requires.self_held) (type-is es law c.args.coercion.target.0 c.requires.target)

pub returns-in-None-Some-clause-is : goal.returns-in-None-Some-clause-is
returns-in-None-Some-clause-is c = λ V.
    let es = c.args.cx.now.entries in
    let law = c.lawful.ensures in
    let a = asked_of es c.args.goal.now in
    let S = trees_at es c.args.coercion.self_ty.0 in
    let T = trees_at es c.args.coercion.target.0 in
    ap (λ o. array_by V a o (slice_element_of T)) c.in-None-Some.ensures-1.is
    ∙ array-row V a S T (type-is es law c.args.coercion.self_ty.0 c.requires.self_held) (type-is es law c.args.coercion.target.0 c.requires.target)

pub returns-in-None-None-clause-is : goal.returns-in-None-None-clause-is
returns-in-None-None-clause-is c = λ V.
    let es = c.args.cx.now.entries in
    let law = c.lawful.ensures in
    let a = asked_of es c.args.goal.now in
    let S = trees_at es c.args.coercion.self_ty.0 in
    let T = trees_at es c.args.coercion.target.0 in
    ap (λ o. array_by V a o (slice_element_of T)) c.in-None-None.ensures-1.is
    ∙ array-row V a S T (type-is es law c.args.coercion.self_ty.0 c.requires.self_held) (type-is es law c.args.coercion.target.0 c.requires.target)
