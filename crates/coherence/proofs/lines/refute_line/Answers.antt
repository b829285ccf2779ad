use Rattle.sessions.specs.TextLanguage.Promised.Declarations.{Question}
use Rattle.sessions.specs.Promised.Given.{refutation_of}
use Rattle.sessions.specs.Promised.Promises.{IsRefutation}
use Rattle.sessions.specs.Promised.Subjects.{AsksRefutation}
use Rattle.sessions.specs.declared.answers.RefuteAnswer.TheVariants.{No, Open}
use Rattle.coherence.specs.Lines.{of_refute}
use Rattle.coherence.proofs.Answered.{refuted-of}
use Rattle.coherence.proofs.lines.refute_line.Goals as goal
use Rattle.coherence.proofs.lines.refute_line.Goals.{in-No+in_ok-line-in-No, in-Open+in_ok-line-in-Open}
use Rattle.coherence.proofs.FullTables.{handed-on}
use Rattle.coherence.proofs.KeptLines.{stays-on, still}

pub returns-clause-line : goal.returns-clause-line
returns-clause-line g c q asks =
    let s = c.args.session.now in
    let d = c.args.workspace.now in
    let refuted = refuted-of s d c.args.number (refutation_of c.in_ok-answer.answer) c.requires.on (rw c.begin_count.ensures at c.in_ok-answer.ensures.answer) q asks in
    elim c.match-answer.branch [
      | in-No+in_ok-line-in-No w ↦ (_, of_refute (refutation_of No) asks.refutes (rw w.in-No.is at refuted), rw w.line-is w.in_ok-line-in-No.ensures)
      | in-Open+in_ok-line-in-Open w ↦ (_, of_refute (refutation_of Open) asks.refutes (rw w.in-Open.is at refuted), rw w.line-is w.in_ok-line-in-Open.ensures)
    ]

pub refuted-requires-clause-answer : goal.refuted-requires-clause-answer
refuted-requires-clause-answer g c =
    still (λ d k limit. (q : Question) → AsksRefutation d k c.args.number q → IsRefutation limit d q (refutation_of c.in_ok-answer.answer)) c.args.session.now c.refute.new.self (rw c.begin_count.ensures at c.in_ok-answer.ensures.stays) (rw c.begin_count.ensures at c.in_ok-answer.ensures.answer)

pub returns-in_err-answer-clause-full : goal.returns-in_err-answer-clause-full
returns-in_err-answer-clause-full g c = handed-on c.refute.new.self c.from_residual.result c.in_err-answer.field-0.0 c.from_residual.ensures.1 c.in_err-answer.ensures.full

pub returns-clause-stays : goal.returns-clause-stays
returns-clause-stays g c = stays-on _ _ _ (rw c.begin_count.ensures at c.in_ok-answer.ensures.stays) c.refuted.ensures
