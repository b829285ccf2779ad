use Rattle.std.proofs.Common.{◌≡◌, IfOk, subst}
use Rattle.sessions.specs.TextLanguage.Output.{Answer, output_text}
use Rattle.coherence.proofs.Answered.{pair-answer}
use Rattle.coherence.proofs.lines.verdict_line.Goals as goal

pub returns-in-Overlap : goal.returns-in-Overlap
returns-in-Overlap c =
    let d = c.args.workspace.now in
    let same =
    pair-answer d c.args.crate_id.index c.in-Overlap.later.index c.in-Overlap.earlier.index c.number_in_crate.result c.number_in_crate-in-Overlap.result c.crate_name-name.result.now c.owner_name.result.now
    c.crate_name-name.ensures c.number_in_crate.ensures c.owner_name.ensures c.number_in_crate-in-Overlap.ensures
    in
    rw c.in-Overlap.is (subst (λ (x : Answer). IfOk c.print_line-in-Overlap.result (λ text. text.items ≡ output_text x)) same c.print_line-in-Overlap.ensures)
