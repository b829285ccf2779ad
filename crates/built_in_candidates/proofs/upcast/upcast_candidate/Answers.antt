use Rattle.std.proofs.Common.{[], sym, ap, ◌∙◌, Some}
use Rattle.std.specs.Prelude.{option_map}
use Rattle.std.specs.List.{slice_get}
use Rattle.goal_evaluator.specs.Merge.{if_there}
use Rattle.declarations.specs.Items.{reference_in}
use Rattle.declarations.specs.Applied.{references_in}
use Rattle.candidate_model.specs.Candidates.{upcasts_to}
use Rattle.built_in_candidates.specs.Goals.{asked_of}
use Rattle.built_in_candidates.proofs.Objects.{by_upcast, upcast-at}
use Rattle.built_in_candidates.proofs.upcast.upcast_candidate.Goals as goal
use Rattle.type_terms.proofs.TypeBasics.{if-ok}

pub returns-in_ok-candidate-in-Some-upcast_bound-clause-is : goal.returns-in_ok-candidate-in-Some-upcast_bound-clause-is
returns-in_ok-candidate-in-Some-upcast_bound-clause-is c = λ V e.
    let es = c.args.cx.now.entries in
    let a = asked_of es c.args.goal.now in
    let ps = references_in es (if_there c.args.from.now.principal) in
    let q = reference_in es c.in-Some.to in
    ap Some (c.in_ok-candidate-in-Some-upcast_bound.ensures.is V)
    ∙ ap (option_map (by_upcast V a q)) (c.in-Some-upcast_bound.ensures.is es V e)
    ∙ sym (upcast-at V a q ps [] c.args.place)
    ∙ ap (λ o. slice_get (upcasts_to V a ps (references_in es (if_there o))) c.args.place) (sym c.in-Some.is)

pub returns-in-None-upcast_bound-clause-is : goal.returns-in-None-upcast_bound-clause-is
returns-in-None-upcast_bound-clause-is c = λ V e.
    let es = c.args.cx.now.entries in
    let a = asked_of es c.args.goal.now in
    let ps = references_in es (if_there c.args.from.now.principal) in
    let q = reference_in es c.in-Some.to in
    ap (option_map (by_upcast V a q)) (c.in-None-upcast_bound.ensures.is es V e)
    ∙ sym (upcast-at V a q ps [] c.args.place)
    ∙ ap (λ o. slice_get (upcasts_to V a ps (references_in es (if_there o))) c.args.place) (sym c.in-Some.is)

pub returns-in-None-clause-is : goal.returns-in-None-clause-is
returns-in-None-clause-is c =
    let es = c.args.cx.now.entries in
    let a = asked_of es c.args.goal.now in
    let ps = references_in es (if_there c.args.from.now.principal) in
    if-ok _ _ c.drop_candidate.result (λ o is. λ V e. is es V ∙ ap (λ x. slice_get (upcasts_to V a ps (references_in es (if_there x))) c.args.place) (sym c.in-None.is)) c.drop_candidate.ensures.is
