use Rattle.std.proofs.Common.{◌∙◌, ◌<◌, ap, arith, length, subst, sym}
use Rattle.sessions.specs.TextLanguage.Promised.Declarations.{Declarations}
use Rattle.sessions.specs.TextTables.Numbered.{IsFew}
use Rattle.sessions.specs.TextTables.Tables.{with_question}
use Rattle.sessions.specs.TextTables.Unasked.{without_last_question}
use Rattle.sessions.specs.TextTables.Views.{question_of}
use Rattle.sessions.specs.Promised.Subjects.{IsOfText}
use Rattle.coherence.specs.Groups.{IsAskedIn}
use Rattle.coherence.specs.KeptLines.{IsLineOf}
use Rattle.coherence.specs.KeptSessions.{AreLeftSessions}
use Rattle.coherence.specs.declared.ask_fault.AskFault.TheVariants.{Memory}
use Rattle.coherence.proofs.Asking.{as-many, asked-last, fault-is-shortage, few-questions, handed-shortage, line-of-last, taken-out}
use Rattle.coherence.proofs.KeptSessions.{left-asked, left-unasked}
use Rattle.sessions.proofs.GivenTexts.{text-given}
use Rattle.coherence.proofs.asker.answer_behind.Goals as goal

pub overflow_cast-place : goal.overflow_cast-place
overflow_cast-place c =
    let d = c.args.workspace.now in
    let q = question_of c.args.entry in
    let few = c.texts_are_few.ensures c.requires.parsed.0 (with_question d q) (text-given (with_question d q) c.requires.parsed) in
    omega (arith, few-questions d q 67108928 few, as-many d c.questions.result.now c.questions.ensures)

pub add_question-requires-clause-room : goal.add_question-requires-clause-room
add_question-requires-clause-room c =
    let d = c.args.workspace.now in
    let q = question_of c.args.entry in
    few-questions d q 67108928 (c.texts_are_few.ensures c.requires.parsed.0 (with_question d q) (text-given (with_question d q) c.requires.parsed))

pub returns-in_err-add_question-clause-fault : goal.returns-in_err-add_question-clause-fault
returns-in_err-add_question-clause-fault c = handed-shortage c.from_residual.result Memory c.from_residual.ensures.1 tt

pub question_answer_anew-answer-requires-clause-parsed : goal.question_answer_anew-answer-requires-clause-parsed
question_answer_anew-answer-requires-clause-parsed c = subst IsOfText (sym c.in_ok-add_question.ensures.added) c.requires.parsed

pub question_answer_anew-answer-requires-clause-few : goal.question_answer_anew-answer-requires-clause-few
question_answer_anew-answer-requires-clause-few c =
    let e = with_question c.args.workspace.now (question_of c.args.entry) in
    subst (λ (d : Declarations). IsFew d 67108928) (sym c.in_ok-add_question.ensures.added) (c.texts_are_few.ensures c.requires.parsed.0 e (text-given e c.requires.parsed))

pub question_answer_anew-answer-requires-clause-declared : goal.question_answer_anew-answer-requires-clause-declared
question_answer_anew-answer-requires-clause-declared c =
    subst (λ (d : Declarations). c.asker_of-id.result.index < length d.crates) (sym c.in_ok-add_question.ensures.added)
    (subst (λ k. k < length c.args.workspace.now.crates) (sym c.asker_of-id.ensures) c.requires.fits.asker)

pub question_answer_anew-answer-requires-clause-asked : goal.question_answer_anew-answer-requires-clause-asked
question_answer_anew-answer-requires-clause-asked c =
    let d = c.args.workspace.now in
    let place = as-many d c.questions.result.now c.questions.ensures in
    subst (λ (x : Declarations). IsAskedIn x c.asker_of-id.result.index (length c.questions.result.now)) (sym c.in_ok-add_question.ensures.added)
    (asked-last d c.args.entry c.asker_of-id.result.index (length c.questions.result.now) place c.asker_of-id.ensures)

pub question_answer_anew-answer-requires-clause-left : goal.question_answer_anew-answer-requires-clause-left
question_answer_anew-answer-requires-clause-left c =
    let kept = c.args.kept.now in
    subst (λ (x : Declarations). AreLeftSessions x kept.limits kept.left.items) (sym c.in_ok-add_question.ensures.added)
    (left-asked c.args.workspace.now (question_of c.args.entry) kept.limits kept.left.items c.requires.left)

pub returns-in_err-line-clause-fault : goal.returns-in_err-line-clause-fault
returns-in_err-line-clause-fault c = handed-shortage c.from_residual-in_err-line.result _ c.from_residual-in_err-line.ensures.1 (fault-is-shortage _)

pub returns-in_err-line-clause-stays : goal.returns-in_err-line-clause-stays
returns-in_err-line-clause-stays c =
    c.remove_question.ensures ∙ ap without_last_question c.in_ok-add_question.ensures.added ∙ taken-out c.args.workspace.now (question_of c.args.entry)

pub returns-in_err-line-clause-left : goal.returns-in_err-line-clause-left
returns-in_err-line-clause-left c =
    let limits = c.args.kept.now.limits in
    let left = c.question_answer_anew-answer.new.kept.left.items in
    left-unasked c.args.workspace.now (question_of c.args.entry) limits left
    (subst (λ (x : Declarations). AreLeftSessions x limits left) c.in_ok-add_question.ensures.added c.question_answer_anew-answer.ensures.left)

pub returns-clause-line : goal.returns-clause-line
returns-clause-line c =
    let d = c.args.workspace.now in
    let q = question_of c.args.entry in
    let k = length c.questions.result.now in
    let line = rw c.in_ok-line.was at c.question_answer_anew-answer.ensures.line in
    line-of-last c.args.kept.now.limits.depth d q k c.in_ok-line.line.items (as-many d c.questions.result.now c.questions.ensures)
    (subst (λ (x : Declarations). IsLineOf c.args.kept.now.limits.depth x k c.in_ok-line.line.items) c.in_ok-add_question.ensures.added line)

pub returns-clause-stays : goal.returns-clause-stays
returns-clause-stays c =
    c.remove_question.ensures ∙ ap without_last_question c.in_ok-add_question.ensures.added ∙ taken-out c.args.workspace.now (question_of c.args.entry)

pub returns-clause-left : goal.returns-clause-left
returns-clause-left c =
    let limits = c.args.kept.now.limits in
    let left = c.question_answer_anew-answer.new.kept.left.items in
    left-unasked c.args.workspace.now (question_of c.args.entry) limits left
    (subst (λ (x : Declarations). AreLeftSessions x limits left) c.in_ok-add_question.ensures.added c.question_answer_anew-answer.ensures.left)
