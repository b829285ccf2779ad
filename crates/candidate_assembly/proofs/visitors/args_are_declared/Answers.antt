use Rattle.std.proofs.Common.{ap, ◌∙◌, sym, is_some, not}
use Rattle.std.specs.ControlFlow.{break_value}
use Rattle.type_terms.specs.Promised.Handles.{trees_at}
use Rattle.declarations.specs.Items.{written}
use Rattle.candidate_assembly.specs.Finding.{names_undeclared}
use Rattle.candidate_assembly.specs.declared.visitors.FindsUndeclared.{FindsUndeclared}
use Rattle.candidate_assembly.proofs.Finding.{own-names, args-made}
use Rattle.candidate_assembly.proofs.FindingOnce.{once-finds}
use Rattle.candidate_assembly.proofs.visitors.args_are_declared.Goals as goal

pub returns-in-Break : goal.returns-in-Break
returns-in-Break c =
    let es = c.args.cx.now.entries in
    ap (λ z. not (is_some (break_value z))) (sym c.in-Break.is)
    ∙ ap not (once-finds (λ (v : FindsUndeclared) t. names_undeclared (written es v.declarations.now) t) es c.visit_args.ensures.visited c.new-finds.ensures.visitor (c.new-finds.ensures.entered es))
    ∙ sym (own-names (written es c.args.declarations.now) (trees_at es c.args.args.0) (args-made es c.lawful.ensures c.args.args.0 c.requires))

pub returns : goal.returns
returns c =
    let es = c.args.cx.now.entries in
    ap (λ z. not (is_some (break_value z))) (sym c.in-Continue.is)
    ∙ ap not (once-finds (λ (v : FindsUndeclared) t. names_undeclared (written es v.declarations.now) t) es c.visit_args.ensures.visited c.new-finds.ensures.visitor (c.new-finds.ensures.entered es))
    ∙ sym (own-names (written es c.args.declarations.now) (trees_at es c.args.args.0) (args-made es c.lawful.ensures c.args.args.0 c.requires))
