use Rattle.std.proofs.Common.{[], ◌∷◌, ap, ◌∙◌}
use Rattle.type_terms.specs.Promised.Handles.{types, trees_at}
use Rattle.type_terms.specs.Kept.{trees-is}
use Rattle.infer_table.specs.Values.{sort_of_arg}
use Rattle.type_terms.specs.Promised.Handles.{arg_trees}
use Rattle.built_in_candidates.specs.Goals.{asked_of}
use Rattle.built_in_candidates.proofs.Pairs.{arg-tree}
use Rattle.built_in_candidates.proofs.FnPointers.{signature-first, no-second, one-call}
use Rattle.built_in_candidates.proofs.calls.consider_builtin_fn_trait_candidates.Goals as goal

pub returns-in_ok-candidate-in-Some-Some-clause-is : goal.returns-in_ok-candidate-in-Some-Some-clause-is
returns-in_ok-candidate-in-Some-Some-clause-is c = λ V.
    let es = c.args.cx.now.entries in
    let g = c.args.goal.now in
    let T = trees_at es g.goal.predicate.trait_ref.args.0 in
    let S = trees_at es c.self_ty-self_ty.result.0 in
    let first = trees-is es types c.self_ty-self_ty.result.0 _ c.self_ty-self_ty.ensures.is in
    let A = c.in-Some-Some.arguments in
    let second = c.in-Some-Some.ensures-1' in
    ap (λ x. x ∷ []) (c.in_ok-candidate-in-Some-Some.ensures.is V)
    ∙ one-call V (asked_of es g) T (trees_at es c.in-Some-Some.inputs_and_output.0) (c.in-Some-Some.ensures-1.is ∙ signature-first T S c.requires.first first)
    (sort_of_arg A) (arg_trees es A) second.1 (arg-tree es c.lawful.ensures A second.0) second.2

pub returns-in-Some-None-clause-is : goal.returns-in-Some-None-clause-is
returns-in-Some-None-clause-is c = λ V.
    let es = c.args.cx.now.entries in
    let g = c.args.goal.now in
    let T = trees_at es g.goal.predicate.trait_ref.args.0 in
    let S = trees_at es c.self_ty-self_ty.result.0 in
    let first = trees-is es types c.self_ty-self_ty.result.0 _ c.self_ty-self_ty.ensures.is in
    no-second V (asked_of es g) T (trees_at es c.in-Some-None.field-0-0.0) (c.in-Some-None.ensures-1.is ∙ signature-first T S c.requires.first first) c.in-Some-None.ensures-1'
