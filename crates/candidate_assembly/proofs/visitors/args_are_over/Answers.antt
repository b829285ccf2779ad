use Rattle.std.proofs.Common.{ap, ◌∙◌, sym, is_some, not}
use Rattle.std.specs.ControlFlow.{break_value}
use Rattle.type_terms.specs.Promised.Handles.{trees_at}
use Rattle.candidate_assembly.specs.Finding.{is_foreign_tree}
use Rattle.candidate_assembly.specs.declared.visitors.FindsForeign.{FindsForeign}
use Rattle.candidate_assembly.proofs.Finding.{own-terms, args-made}
use Rattle.candidate_assembly.proofs.FindingOnce.{once-finds}
use Rattle.candidate_assembly.proofs.OpenPlaces.{closed-over}
use Rattle.candidate_assembly.proofs.visitors.args_are_over.Goals as goal

pub returns-then-not-has_open_places : goal.returns-then-not-has_open_places
returns-then-not-has_open_places c =
    let es = c.args.cx.now.entries in
    sym (closed-over c.args.kinds.now (trees_at es c.args.args.0) (args-made es c.lawful.ensures c.args.args.0 c.requires) (sym c.has_open_places.ensures ∙ c.if-not-has_open_places.true))

pub returns-in-Break : goal.returns-in-Break
returns-in-Break c =
    let es = c.args.cx.now.entries in
    ap (λ z. not (is_some (break_value z))) (sym c.in-Break.is)
    ∙ ap not (once-finds (λ (v : FindsForeign) t. is_foreign_tree v.kinds.now t) es c.visit_args.ensures.visited c.new-finds.ensures.visitor (c.new-finds.ensures.entered es))
    ∙ sym (own-terms c.args.kinds.now (trees_at es c.args.args.0) (args-made es c.lawful.ensures c.args.args.0 c.requires))

pub returns : goal.returns
returns c =
    let es = c.args.cx.now.entries in
    ap (λ z. not (is_some (break_value z))) (sym c.in-Continue.is)
    ∙ ap not (once-finds (λ (v : FindsForeign) t. is_foreign_tree v.kinds.now t) es c.visit_args.ensures.visited c.new-finds.ensures.visitor (c.new-finds.ensures.entered es))
    ∙ sym (own-terms c.args.kinds.now (trees_at es c.args.args.0) (args-made es c.lawful.ensures c.args.args.0 c.requires))
