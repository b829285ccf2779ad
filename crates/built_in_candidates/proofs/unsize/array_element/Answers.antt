use Rattle.std.proofs.Common.{ap, sym, ◌∙◌}
use Rattle.type_terms.specs.Promised.Handles.{types, trees_at}
use Rattle.type_terms.specs.Kept.{trees-is}
use Rattle.infer_table.proofs.BindFacts.{type-is}
use Rattle.built_in_candidates.specs.Unsizing.{array_element_of}
use Rattle.built_in_candidates.proofs.UnsizingRows.{array-read}
use Rattle.built_in_candidates.proofs.unsize.array_element.Goals as goal

pub returns-in-Array-clause-is : goal.returns-in-Array-clause-is
returns-in-Array-clause-is c =
    let es = c.args.cx.now.entries in
    let x = c.in-Array.element.0 in
    array-read (trees_at es x) _ (type-is es c.lawful.ensures x c.in-Array.ensures.held.0) ∙ ap array_element_of (sym (trees-is es types c.args.ty.0 _ c.in-Array.ensures.is))
