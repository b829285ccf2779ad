use Rattle.std.proofs.Common.{Some, ap, sym, ◌∙◌}
use Rattle.type_terms.specs.Promised.Handles.{types, trees_at}
use Rattle.type_terms.specs.Promised.Handles.{region_label}
use Rattle.type_terms.specs.Kept.{trees-is}
use Rattle.candidate_model.specs.Candidates.{lifetime_of}
use Rattle.built_in_candidates.proofs.Lifetimes.{last-is}
use Rattle.built_in_candidates.proofs.outlives.dyn_lifetime.Goals as goal

pub returns-in-Dynamic-clause-is : goal.returns-in-Dynamic-clause-is
returns-in-Dynamic-clause-is c =
    let es = c.args.cx.now.entries in
    ap Some (sym (last-is (trees_at es c.in-Dynamic.field-0.0) (region_label c.in-Dynamic.lifetime.kind))) ∙ ap lifetime_of (sym (trees-is es types c.args.ty.0 _ c.in-Dynamic.ensures.is))
