use Rattle.sessions.specs.Promised.Given.{later_of}
use Rattle.sessions.specs.declared.answers.LaterAnswer.TheVariants.{Compatible, Breaking}
use Rattle.sessions.specs.TextLanguage.Output.{compatible, breaking}
use Rattle.coherence.specs.Lines.{of_version}
use Rattle.coherence.proofs.Answered.{section-of, later-of, named-line, section-line}
use Rattle.coherence.proofs.Named.{names-added}
use Rattle.coherence.proofs.lines.later_line.Goals as goal
use Rattle.coherence.proofs.lines.later_line.Goals.{in-Compatible+in_ok-line-in-Compatible, in-Breaking+in_ok-line-in-Breaking}
use Rattle.std.proofs.Common.{ap}
use Rattle.std.specs.Prelude.{Err}
use Rattle.sessions.specs.Promised.Shortages.{terms}
use Rattle.coherence.proofs.FullTables.{handed-on}

pub check_later-requires : goal.check_later-requires
check_later-requires c = rw c.begin_count.ensures (section-of c.args.session.now c.args.workspace.now c.args.changed.index c.args.section c.requires.on c.requires.of_crate c.requires.section)

pub number_in_section-number-requires : goal.number_in_section-number-requires
number_in_section-number-requires c =
    let s = c.args.session.now in
    let d = c.args.workspace.now in
    let right = later-of s d c.args.changed.index c.args.section (later_of c.in_ok-answer.answer) c.requires.on c.requires.of_crate (rw c.begin_count.ensures at c.in_ok-answer.ensures.answer) in
    names-added d c.args.changed.index c.args.section c.in-Breaking.place (rw c.in-Breaking.is at right)

pub returns-clause-line : goal.returns-clause-line
returns-clause-line c =
    let s = c.args.session.now in
    let d = c.args.workspace.now in
    let crate = c.args.changed.index in
    let right = later-of s d crate c.args.section (later_of c.in_ok-answer.answer) c.requires.on c.requires.of_crate (rw c.begin_count.ensures at c.in_ok-answer.ensures.answer) in
    let name = c.crate_name-name.ensures in
    elim c.match-answer.branch [
      | in-Compatible+in_ok-line-in-Compatible w ↦
          (_, of_version c.args.section crate (later_of Compatible) (rw w.in-Compatible.is at right), rw w.line-is (named-line (λ n. compatible n) d crate _ _ name w.in_ok-line-in-Compatible.ensures))
      | in-Breaking+in_ok-line-in-Breaking w ↦
          (_, of_version c.args.section crate (later_of (Breaking w.in-Breaking.place)) (rw w.in-Breaking.is at right), rw w.line-is (section-line (λ n m. breaking n m) d crate c.args.section w.in-Breaking.place _ _ _ name w.number_in_section-number.ensures w.in_ok-line-in-Breaking.ensures))
    ]

pub returns-in_err-answer-clause-full : goal.returns-in_err-answer-clause-full
returns-in_err-answer-clause-full c =
    handed-on c.check_later.new.self c.from_residual.result c.in_err-answer.field-0.0 c.from_residual.ensures.1 (λ p. terms (c.in_err-answer.ensures.full (ap Err p)))
