use Rattle.coherence.specs.Lines.{of_prove}
use Rattle.coherence.proofs.lines.prove_line.Goals as goal
use Rattle.coherence.proofs.FullTables.{handed-on}

pub returns-clause-line : goal.returns-clause-line
returns-clause-line g c q asks =
    let named = c.in_ok-answer.ensures.answer q asks in
    (_, of_prove named.answer asks.proves named.right, rw named.named at c.in_ok-line.ensures)

pub returns-in_err-answer-clause-full : goal.returns-in_err-answer-clause-full
returns-in_err-answer-clause-full g c = handed-on c.named_answer.new.session c.from_residual.result c.in_err-answer.field-0.0 c.from_residual.ensures.1 c.in_err-answer.ensures.full
