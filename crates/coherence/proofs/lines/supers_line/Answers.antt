use Rattle.sessions.specs.Promised.Given.{supers_answer_of}
use Rattle.sessions.specs.declared.answers.SupersAnswer.TheVariants.{Held, Missing, Undecided}
use Rattle.sessions.specs.TextLanguage.Output.{held, missing, undecided}
use Rattle.coherence.specs.Lines.{of_headers}
use Rattle.coherence.proofs.Answered.{supers-of, named-line, numbered-line}
use Rattle.coherence.proofs.Named.{names-stopped}
use Rattle.coherence.proofs.lines.supers_line.Goals as goal
use Rattle.coherence.proofs.lines.supers_line.Goals.{in-Held+in_ok-line-in-Held, in-Missing+in_ok-line-in-Missing, in-Undecided+in_ok-line-in-Undecided}
use Rattle.coherence.proofs.FullTables.{handed-on}

pub number_in_crate-number-requires : goal.number_in_crate-number-requires
number_in_crate-number-requires c =
    let s = c.args.session.now in
    let d = c.args.workspace.now in
    let right = supers-of s d c.args.asked.index (supers_answer_of c.in_ok-answer.answer) c.requires.on c.requires.of_crate (rw c.begin_count.ensures at c.in_ok-answer.ensures.answer) in
    names-stopped s.depth d c.args.asked.index c.in-Missing.id.index c.in-Missing.clause c.requires.numbered (rw c.in-Missing.is at right)

pub number_in_crate-number-requires-in-Undecided : goal.number_in_crate-number-requires-in-Undecided
number_in_crate-number-requires-in-Undecided c =
    let s = c.args.session.now in
    let d = c.args.workspace.now in
    let right = supers-of s d c.args.asked.index (supers_answer_of c.in_ok-answer.answer) c.requires.on c.requires.of_crate (rw c.begin_count.ensures at c.in_ok-answer.ensures.answer) in
    names-stopped s.depth d c.args.asked.index c.in-Undecided.id.index c.in-Undecided.clause c.requires.numbered (rw c.in-Undecided.is at right)

pub returns-clause-line : goal.returns-clause-line
returns-clause-line c =
    let s = c.args.session.now in
    let d = c.args.workspace.now in
    let crate = c.args.asked.index in
    let right = supers-of s d crate (supers_answer_of c.in_ok-answer.answer) c.requires.on c.requires.of_crate (rw c.begin_count.ensures at c.in_ok-answer.ensures.answer) in
    let name = c.crate_name-name.ensures in
    elim c.match-answer.branch [
      | in-Held+in_ok-line-in-Held w ↦ (_, of_headers crate (supers_answer_of Held) (rw w.in-Held.is at right), rw w.line-is (named-line (λ n. held n) d crate _ _ name w.in_ok-line-in-Held.ensures))
      | in-Missing+in_ok-line-in-Missing w ↦
          (_, of_headers crate (supers_answer_of (Missing w.in-Missing.id w.in-Missing.clause)) (rw w.in-Missing.is at right), rw w.line-is (numbered-line (λ n m. missing n m w.in-Missing.clause) d crate w.in-Missing.id.index _ _ _ name w.number_in_crate-number.ensures w.in_ok-line-in-Missing.ensures))
      | in-Undecided+in_ok-line-in-Undecided w ↦
          (_, of_headers crate (supers_answer_of (Undecided w.in-Undecided.id w.in-Undecided.clause)) (rw w.in-Undecided.is at right), rw w.line-is (numbered-line (λ n m. undecided n m w.in-Undecided.clause) d crate w.in-Undecided.id.index _ _ _ name w.number_in_crate-number-in-Undecided.ensures w.in_ok-line-in-Undecided.ensures))
    ]

pub returns-in_err-answer-clause-full : goal.returns-in_err-answer-clause-full
returns-in_err-answer-clause-full c = handed-on c.check_supertraits.new.self c.from_residual.result c.in_err-answer.field-0.0 c.from_residual.ensures.1 c.in_err-answer.ensures.full
