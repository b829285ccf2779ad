use Rattle.std.proofs.Common.{ap, sym, ◌∙◌}
use Rattle.type_terms.specs.Promised.Handles.{types, trees_at}
use Rattle.type_terms.specs.Kept.{trees-is}
use Rattle.infer_table.proofs.BindFacts.{type-is}
use Rattle.built_in_candidates.specs.Unsizing.{slice_element_of}
use Rattle.built_in_candidates.proofs.UnsizingRows.{slice-read}
use Rattle.built_in_candidates.proofs.unsize.slice_element.Goals as goal

pub returns-in-Slice-clause-is : goal.returns-in-Slice-clause-is
returns-in-Slice-clause-is c =
    let es = c.args.cx.now.entries in
    let x = c.in-Slice.element.0 in
    slice-read (trees_at es x) (type-is es c.lawful.ensures x c.in-Slice.ensures.held) ∙ ap slice_element_of (sym (trees-is es types c.args.ty.0 _ c.in-Slice.ensures.is))
