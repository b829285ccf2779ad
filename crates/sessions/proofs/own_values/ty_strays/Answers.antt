use Rattle.std.proofs.Common.{ap, ◌∙◌, sym, is_some}
use Rattle.std.specs.ControlFlow.{break_value}
use Rattle.type_terms.specs.Promised.Handles.{trees_at}
use Rattle.candidate_assembly.specs.Finding.{at_root}
use Rattle.candidate_assembly.proofs.FindingOnce.{once-finds}
use Rattle.sessions.specs.Foreign.{question_in, strays}
use Rattle.sessions.specs.declared.own_values.FindsStray.{FindsStray}
use Rattle.sessions.proofs.own_values.ty_strays.Goals as goal
use Rattle.candidate_assembly.proofs.Finding.{some-at-root as found-at-root}

pub returns-in-Break : goal.returns-in-Break
returns-in-Break c =
    let es = c.args.cx.now.entries in
    ap (λ z. is_some (break_value z)) (sym c.in-Break.is)
    ∙ once-finds (λ (v : FindsStray) x. at_root (strays (question_in es v.asked.reference v.asked.clauses.now)) x) es c.visit_ty.ensures.visited c.new-finds.ensures.visitor (c.new-finds.ensures.entered es)
    ∙ found-at-root (strays (question_in es c.args.asked.reference c.args.asked.clauses.now)) (trees_at es c.args.ty.0)

pub returns : goal.returns
returns c =
    let es = c.args.cx.now.entries in
    ap (λ z. is_some (break_value z)) (sym c.in-Continue.is)
    ∙ once-finds (λ (v : FindsStray) x. at_root (strays (question_in es v.asked.reference v.asked.clauses.now)) x) es c.visit_ty.ensures.visited c.new-finds.ensures.visitor (c.new-finds.ensures.entered es)
    ∙ found-at-root (strays (question_in es c.args.asked.reference c.args.asked.clauses.now)) (trees_at es c.args.ty.0)
