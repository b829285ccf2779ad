use Rattle.std.proofs.Common.{ap, ◌∙◌, sym, is_some}
use Rattle.std.specs.ControlFlow.{break_value}
use Rattle.type_terms.specs.Promised.Handles.{trees_at}
use Rattle.candidate_assembly.specs.Finding.{at_root}
use Rattle.candidate_assembly.proofs.FindingOnce.{once-finds}
use Rattle.sessions.specs.Foreign.{label_of}
use Rattle.sessions.specs.Promised.OwnValues.{is_same_param}
use Rattle.sessions.specs.declared.own_values.FindsParam.{FindsParam}
use Rattle.sessions.proofs.own_values.args_hold.Goals as goal
use Rattle.candidate_assembly.proofs.Finding.{some-at-root as found-at-root}

pub returns-in-Break : goal.returns-in-Break
returns-in-Break c =
    let es = c.args.cx.now.entries in
    ap (λ z. is_some (break_value z)) (sym c.in-Break.is)
    ∙ once-finds (λ (v : FindsParam) x. at_root (λ l. is_same_param l (label_of v.param)) x) es c.visit_args.ensures.visited c.new-finds.ensures.visitor (c.new-finds.ensures.entered es)
    ∙ found-at-root (λ l. is_same_param l (label_of c.args.param)) (trees_at es c.args.args.0)

pub returns : goal.returns
returns c =
    let es = c.args.cx.now.entries in
    ap (λ z. is_some (break_value z)) (sym c.in-Continue.is)
    ∙ once-finds (λ (v : FindsParam) x. at_root (λ l. is_same_param l (label_of v.param)) x) es c.visit_args.ensures.visited c.new-finds.ensures.visitor (c.new-finds.ensures.entered es)
    ∙ found-at-root (λ l. is_same_param l (label_of c.args.param)) (trees_at es c.args.args.0)
