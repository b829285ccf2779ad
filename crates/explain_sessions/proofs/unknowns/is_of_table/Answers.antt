use Rattle.std.proofs.Common.{ap, ◌∙◌, sym, is_some, not}
use Rattle.std.specs.ControlFlow.{break_value}
use Rattle.sessions.specs.TypeTerms.Promised.Handles.{trees_at}
use Rattle.sessions.specs.CandidateAssembly.Finding.{at_root}
use Rattle.sessions.proofs.CandidateAssembly.FindingOnce.{once-finds}
use Rattle.explain_sessions.specs.Unknowns.{is_other_place, known_to, speaks_of_known}
use Rattle.explain_sessions.specs.declared.unknowns.FindsOther.{FindsOther}
use Rattle.explain_sessions.proofs.OwnTerms.{visitor_at, same-counts}
use Rattle.explain_sessions.proofs.unknowns.is_of_table.Goals as goal
use Rattle.sessions.proofs.CandidateAssembly.Finding.{some-at-root}

pub returns-in-Break : goal.returns-in-Break
returns-in-Break c =
    let es = c.args.cx.now.entries in
    let t = trees_at es c.args.args.0 in
    ap (λ z. not (is_some (break_value z))) (sym c.in-Break.is)
    ∙ ap not (once-finds (λ (v : FindsOther) x. at_root (is_other_place (known_to v)) x) es c.visit_args.ensures.visited c.new-finds.ensures.visitor (c.new-finds.ensures.entered es))
    ∙ ap not (some-at-root (is_other_place (known_to (visitor_at c.snapshot-known.result))) t)
    ∙ ap (λ counts. speaks_of_known counts t) (same-counts c.args.table.now c.snapshot-known.result c.snapshot-known.ensures)

pub returns : goal.returns
returns c =
    let es = c.args.cx.now.entries in
    let t = trees_at es c.args.args.0 in
    ap (λ z. not (is_some (break_value z))) (sym c.in-Continue.is)
    ∙ ap not (once-finds (λ (v : FindsOther) x. at_root (is_other_place (known_to v)) x) es c.visit_args.ensures.visited c.new-finds.ensures.visitor (c.new-finds.ensures.entered es))
    ∙ ap not (some-at-root (is_other_place (known_to (visitor_at c.snapshot-known.result))) t)
    ∙ ap (λ counts. speaks_of_known counts t) (same-counts c.args.table.now c.snapshot-known.result c.snapshot-known.ensures)
