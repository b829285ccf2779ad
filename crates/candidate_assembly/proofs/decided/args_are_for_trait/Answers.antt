use Rattle.std.proofs.Common.{sym, ap, ◌∙◌, map}
use Rattle.type_terms.specs.Terms.{args_lists}
use Rattle.type_terms.specs.Promised.Handles.{trees_at}
use Rattle.type_terms.specs.Kinds.{args_trees}
use Rattle.type_terms.specs.Kept.{trees-is}
use Rattle.infer_table.specs.Values.{sort_of_arg}
use Rattle.declarations.specs.Applied.{sort_of_param, sorts_of}
use Rattle.candidate_assembly.specs.Fitting.{same_sorts}
use Rattle.candidate_assembly.proofs.Fitting.{args-sorts, trait-found}
use Rattle.candidate_assembly.proofs.decided.args_are_for_trait.Goals as goal

pub returns-in-Some : goal.returns-in-Some
returns-in-Some c =
    let es = c.args.cx.now.entries in
    let xs = c.args-in-Some.result.now in
    let def = c.in-Some.def.now in
    let sorts = ap sorts_of (trees-is es args_lists c.args.args.0 (args_trees es xs) c.args-in-Some.ensures.is) ∙ args-sorts es c.lawful.ensures xs c.args-in-Some.ensures.held in
    c.are_for.ensures ∙ ap (λ l. same_sorts (map sort_of_arg xs) (map sort_of_param l)) c.deref.ensures.value
    ∙ ap (λ ss. same_sorts ss (map sort_of_param def.params.items)) (sym sorts)
    ∙ trait-found c.args.declarations.now c.args.id.index (sorts_of (trees_at es c.args.args.0)) def c.in-Some.ensures.is
