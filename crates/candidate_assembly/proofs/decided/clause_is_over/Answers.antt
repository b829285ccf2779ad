use Rattle.std.proofs.Common.{sym, ap, ◌∙◌, ◌&&◌}
use Rattle.type_terms.specs.Promised.Handles.{trees_at}
use Rattle.type_terms.specs.Promised.Handles.{region_trees}
use Rattle.type_terms.specs.Made.{terms, is_made}
use Rattle.infer_table.specs.Goals.{clause_terms}
use Rattle.goal_evaluator.specs.Variables.{is_variable_over}
use Rattle.candidate_assembly.proofs.Finding.{made-then, region-made}
use Rattle.candidate_assembly.proofs.decided.clause_is_over.Goals as goal

pub returns-then-ty_is_over : goal.returns-then-ty_is_over
returns-then-ty_is_over c =
    let es = c.args.cx.now.entries in
    let good = is_variable_over c.args.kinds.now in
    let t = trees_at es c.in-TypeOutlives.ty.0 in
    let r = c.in-TypeOutlives.region in
    c.region_is_over-then-ty_is_over.ensures ∙ sym (region-made good r.kind)
    ∙ sym (ap (λ b. b && is_made good terms (region_trees r)) (sym c.ty_is_over.ensures ∙ c.if-ty_is_over.true))
    ∙ sym (made-then good t (region_trees r)) ∙ sym (ap (λ k. is_made good terms (clause_terms es k)) c.in-TypeOutlives.is)

pub returns-else-ty_is_over : goal.returns-else-ty_is_over
returns-else-ty_is_over c =
    let es = c.args.cx.now.entries in
    let good = is_variable_over c.args.kinds.now in
    let t = trees_at es c.in-TypeOutlives.ty.0 in
    let r = c.in-TypeOutlives.region in
    c.if-ty_is_over.false ∙ sym (ap (λ b. b && is_made good terms (region_trees r)) (sym c.ty_is_over.ensures ∙ c.if-ty_is_over.false))
    ∙ sym (made-then good t (region_trees r)) ∙ sym (ap (λ k. is_made good terms (clause_terms es k)) c.in-TypeOutlives.is)
