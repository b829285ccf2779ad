use Rattle.std.proofs.Common.{sym, ap, ◌∙◌, map, ◌∷◌}
use Rattle.type_terms.specs.Promised.Label.{of_type}
use Rattle.type_terms.specs.Terms.{args_lists}
use Rattle.type_terms.specs.Promised.Handles.{trees_at}
use Rattle.type_terms.specs.Kinds.{args_trees}
use Rattle.type_terms.specs.Kept.{trees-is}
use Rattle.declarations.specs.Applied.{sort_of_param, sorts_of}
use Rattle.candidate_assembly.specs.Fitting.{same_sorts}
use Rattle.candidate_assembly.proofs.Fitting.{args-sorts, trait-found}
use Rattle.candidate_assembly.proofs.decided.args_are_for_principal.Goals as goal

pub returns-in-Some-Type-default : goal.returns-in-Some-Type-default
returns-in-Some-Type-default c =
    let es = c.args.cx.now.entries in
    let xs = c.args-in-Some-Type-default.result.now in
    let def = c.in-Some.def.now in
    let others = c.in-Some-Type-default.others.now in
    let sorts = ap sorts_of (trees-is es args_lists c.args.args.0 (args_trees es xs) c.args-in-Some-Type-default.ensures.is) ∙ args-sorts es c.lawful.ensures xs c.args-in-Some-Type-default.ensures.held in
    let ss = sorts_of (trees_at es c.args.args.0) in
    let params = sym c.deref.ensures.value ∙ c.in-Some-Type-default.ensures.cases.0 ∙ ap (λ k. k ∷ others) c.in-Some-Type-default.field-0-0-is in
    c.are_for.ensures ∙ ap (λ l. same_sorts l (map sort_of_param others)) (sym sorts)
    ∙ sym (ap (λ l. same_sorts (of_type ∷ ss) (map sort_of_param l)) params)
    ∙ trait-found c.args.declarations.now c.args.id.index (of_type ∷ ss) def c.in-Some.ensures.is
