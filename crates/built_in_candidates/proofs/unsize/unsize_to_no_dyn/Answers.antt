use Rattle.std.proofs.Common.{◌≡◌, ap, ◌∙◌, subst}
use Rattle.std.specs.List.{slice_get}
use Rattle.type_terms.specs.Promised.Trees.{◌+++◌}
use Rattle.type_terms.specs.Promised.Handles.{trees_at}
use Rattle.declarations.specs.Items.{written}
use Rattle.candidate_model.specs.Candidates.{unsize_array_of}
use Rattle.infer_table.proofs.BindFacts.{type-is}
use Rattle.built_in_candidates.specs.Goals.{asked_of}
use Rattle.built_in_candidates.specs.Constituents.{candidates_of}
use Rattle.built_in_candidates.proofs.UnsizeRows.{known-array, known-struct}
use Rattle.built_in_candidates.proofs.unsize.unsize_to_no_dyn.Goals as goal

pub returns-in-Some-clause-is : goal.returns-in-Some-clause-is
returns-in-Some-clause-is c =
    let es = c.args.cx.now.entries in
    let law = c.lawful.ensures in
    let V = written es c.args.declarations.now in
    let a = asked_of es c.args.goal.now in
    let S = trees_at es c.args.coercion.self_ty.0 in
    let T = trees_at es c.args.coercion.target.0 in
    c.at_place.ensures.is V a.reference.trait es
    ∙ ap (λ l. slice_get l c.args.place)
    (known-array V a S T _ (type-is es law c.args.coercion.self_ty.0 c.requires.self_held) (type-is es law c.args.coercion.target.0 c.requires.target) c.requires.no_dyn
    (subst (λ o. candidates_of V a.reference.trait es o ≡ unsize_array_of V a (S +++ T)) c.in-Some.is (c.in_ok-array.ensures.is V)))

pub returns-in_ok-candidate-in-None-clause-is : goal.returns-in_ok-candidate-in-None-clause-is
returns-in_ok-candidate-in-None-clause-is c =
    let es = c.args.cx.now.entries in
    let new = c.consider_builtin_struct_unsize_candidate.new.cx.entries in
    let law = c.lawful.ensures in
    let V = written es c.args.declarations.now in
    let a = asked_of es c.args.goal.now in
    let S = trees_at es c.args.coercion.self_ty.0 in
    let T = trees_at es c.args.coercion.target.0 in
    c.at_place-in-None.ensures.is V a.reference.trait new
    ∙ ap (λ l. slice_get l c.args.place)
    (c.in_ok-candidate-in-None.ensures.is
    ∙ known-struct V a S T (type-is es law c.args.coercion.self_ty.0 c.requires.self_held) (type-is es law c.args.coercion.target.0 c.requires.target) c.requires.no_dyn
    (subst (λ o. candidates_of V a.reference.trait es o ≡ unsize_array_of V a (S +++ T)) c.in-None.is (c.in_ok-array.ensures.is V)))
