use Rattle.std.proofs.Common.{ap, sym, ◌∙◌}
use Rattle.type_terms.specs.Promised.Handles.{trees_at}
use Rattle.built_in_candidates.proofs.Objects.{principal_of, principal-at}
use Rattle.built_in_candidates.proofs.dyn_type.principal_with.Goals as goal

pub returns-in-None-clause-is : goal.returns-in-None-clause-is
returns-in-None-clause-is c = λ l h.
    let es = c.args.cx.now.entries in
    let self = trees_at es c.args.self_ty.0 in
    sym (principal-at es self c.args.bounds.0 c.bounds.result.now c.bounds.ensures.is l h ∙ ap (principal_of es self) c.in-None.is)
