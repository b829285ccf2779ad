use Rattle.std.proofs.Common.{◌∙◌}
use Rattle.sessions.specs.TextLanguage.Promised.Declarations.{of_supers}
use Rattle.coherence.specs.KeptLines.{HasCheckLine}
use Rattle.coherence.proofs.KeptLines.{supers-there, supers-of-line, taken-line}
use Rattle.coherence.proofs.kept.check_line_once.Goals as goal
use Rattle.coherence.proofs.kept.check_line_once.Goals.{in-Some, in-None+in_ok-text-in-None}

pub returns-clause-supers : goal.returns-clause-supers
returns-clause-supers c =
    let d = c.args.workspace.now in
    let s = c.args.session.now in
    let at = supers-there d c.checks.result.now s.of_crate c.args.place c.in-Supers.field-0 c.requires.checked c.checks.ensures _ c.in-Supers.is in
    elim c.match-take.branch [
      | in-Some w ↦ rw w.line-is (taken-line (λ l. HasCheckLine s.depth d (of_supers s.of_crate) l.text.items) _ _ _ c.take.ensures.value w.in-Some.is c.requires.supers)
      | in-None+in_ok-text-in-None w ↦ rw w.line-is (supers-of-line s.depth d s.of_crate c.args.place _ w.in_ok-text-in-None.ensures.line at)
    ]

pub returns-clause-line : goal.returns-clause-line
returns-clause-line c =
    let d = c.args.workspace.now in
    let s = c.args.session.now in
    let at = supers-there d c.checks.result.now s.of_crate c.args.place c.in-Supers.field-0 c.requires.checked c.checks.ensures _ c.in-Supers.is in
    let line = returns-clause-supers c in
    (of_supers s.of_crate, at, (line.0, line.1, c.in_ok-text.ensures ∙ line.2))
