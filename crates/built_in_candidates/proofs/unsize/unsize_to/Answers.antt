use Rattle.std.proofs.Common.{ap, ◌∙◌}
use Rattle.std.specs.List.{slice_get}
use Rattle.type_terms.specs.Promised.Handles.{trees_at}
use Rattle.declarations.specs.Items.{written}
use Rattle.infer_table.proofs.BindFacts.{type-is}
use Rattle.built_in_candidates.specs.Goals.{asked_of}
use Rattle.built_in_candidates.proofs.UnsizeRows.{known-upcasts, known-to-dyn, target-struct}
use Rattle.built_in_candidates.proofs.unsize.unsize_to.Goals as goal
use Rattle.type_terms.proofs.TypeBasics.{if-ok}

pub returns-in-Some-Some-clause-is : goal.returns-in-Some-Some-clause-is
returns-in-Some-Some-clause-is c =
    let es = c.args.cx.now.entries in
    let V = written es c.args.declarations.now in
    let a = asked_of es c.args.goal.now in
    if-ok _ _ c.consider_builtin_dyn_upcast_candidates.result
    (λ o is.
    is ∙ ap (λ l. slice_get l c.args.place)
    (known-upcasts V a (trees_at es c.args.coercion.self_ty.0) (trees_at es c.args.coercion.target.0) _ _ c.in-Some-Some.ensures.3 c.in-Some-Some.ensures'.3))
    c.consider_builtin_dyn_upcast_candidates.ensures.is

pub returns-in_ok-candidate-in-None-Some-clause-is : goal.returns-in_ok-candidate-in-None-Some-clause-is
returns-in_ok-candidate-in-None-Some-clause-is c =
    let es = c.args.cx.now.entries in
    let new = c.consider_builtin_unsize_to_dyn_candidate.new.cx.entries in
    let V = written es c.args.declarations.now in
    let a = asked_of es c.args.goal.now in
    c.at_place.ensures.is V a.reference.trait new
    ∙ ap (λ l. slice_get l c.args.place)
    (c.in_ok-candidate-in-None-Some.ensures.is
    ∙ known-to-dyn V a (trees_at es c.args.coercion.self_ty.0) (trees_at es c.args.coercion.target.0) _ (type-is es c.lawful.ensures c.args.coercion.self_ty.0 c.requires.self_held) c.in-None-Some.ensures c.in-None-Some.ensures'.3)

pub unsize_to_no_dyn-requires-clause-target_applied : goal.unsize_to_no_dyn-requires-clause-target_applied
unsize_to_no_dyn-requires-clause-target_applied c =
    let es = c.args.cx.now.entries in
    target-struct c.args.declarations.now (trees_at es c.args.coercion.self_ty.0) (trees_at es c.args.coercion.target.0) (type-is es c.lawful.ensures c.args.coercion.self_ty.0 c.requires.self_held)
    (type-is es c.lawful.ensures c.args.coercion.target.0 c.requires.target) c.requires.target_applied

pub unsize_to_no_dyn-requires-in-None-None-clause-target_applied : goal.unsize_to_no_dyn-requires-in-None-None-clause-target_applied
unsize_to_no_dyn-requires-in-None-None-clause-target_applied c =
    let es = c.args.cx.now.entries in
    target-struct c.args.declarations.now (trees_at es c.args.coercion.self_ty.0) (trees_at es c.args.coercion.target.0) (type-is es c.lawful.ensures c.args.coercion.self_ty.0 c.requires.self_held)
    (type-is es c.lawful.ensures c.args.coercion.target.0 c.requires.target) c.requires.target_applied
