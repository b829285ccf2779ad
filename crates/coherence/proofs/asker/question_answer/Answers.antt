use Rattle.std.proofs.Common.{◌∙◌, ap, subst, sym}
use Rattle.std.specs.Prelude.{IfOk}
use Rattle.coherence.specs.Groups.{IsAskedIn}
use Rattle.coherence.specs.KeptLines.{IsLineOf}
use Rattle.sessions.specs.declared.limits.Limits.{Limits}
use Rattle.coherence.proofs.KeptSessions.{left-still, still-left}
use Rattle.coherence.proofs.asker.question_answer.Goals as goal

pub question_line-answer-requires-clause-asked : goal.question_line-answer-requires-clause-asked
question_line-answer-requires-clause-asked c = subst (λ k. IsAskedIn c.args.workspace.now k c.args.place) (sym c.in_ok-session.ensures.of_crate) c.requires.asked

pub returns-clause-line : goal.returns-clause-line
returns-clause-line c = subst (λ n. IfOk c.question_line-answer.result (λ text. IsLineOf n c.args.workspace.now c.args.place text.items)) c.in_ok-session.ensures.depth c.question_line-answer.ensures.line

pub keep-requires-clause-depth : goal.keep-requires-clause-depth
keep-requires-clause-depth c = c.question_line-answer.ensures.stays.depth ∙ c.in_ok-session.ensures.depth ∙ sym (ap (λ (l : Limits). l.depth) c.resume.ensures.limits)

pub keep-requires-clause-handles : goal.keep-requires-clause-handles
keep-requires-clause-handles c = c.question_line-answer.ensures.stays.handles ∙ c.in_ok-session.ensures.handles ∙ sym (ap (λ (l : Limits). l.handles) c.resume.ensures.limits)

pub keep-requires-clause-left : goal.keep-requires-clause-left
keep-requires-clause-left c =
    still-left _ _ _ _ c.resume.new.self.left.items (c.question_line-answer.ensures.stays.declarations ∙ c.in_ok-session.ensures.declarations) c.resume.ensures.limits c.resume.ensures.left

pub returns-clause-limits : goal.returns-clause-limits
returns-clause-limits c = c.keep.ensures.limits ∙ c.resume.ensures.limits

pub returns-clause-left : goal.returns-clause-left
returns-clause-left c =
    left-still _ _ _ _ c.keep.new.self.left.items (c.question_line-answer.ensures.stays.declarations ∙ c.in_ok-session.ensures.declarations) c.resume.ensures.limits c.keep.ensures.left
