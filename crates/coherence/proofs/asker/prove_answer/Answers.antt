use Rattle.std.proofs.Common.{◌∙◌, ap, subst, sym}
use Rattle.std.specs.Prelude.{IfOk}
use Rattle.sessions.specs.Promised.Subjects.{AsksProof}
use Rattle.coherence.specs.Queries.{IsNamedAnswer}
use Rattle.sessions.specs.declared.limits.Limits.{Limits}
use Rattle.coherence.proofs.KeptSessions.{left-still, still-left}
use Rattle.coherence.proofs.asker.prove_answer.Goals as goal

pub named_answer-answer-requires-clause-asked : goal.named_answer-answer-requires-clause-asked
named_answer-answer-requires-clause-asked c =
    let a = c.requires.query.asks in
    (a.0, subst (λ k. AsksProof c.args.workspace.now k c.args.query.number a.0) (sym c.in_ok-session.ensures.of_crate) a.1)

pub returns-clause-answer : goal.returns-clause-answer
returns-clause-answer c q asks =
    let on = c.in_ok-session.ensures in
    let n = c.args.query.number in
    subst (λ k. IfOk c.named_answer-answer.result (IsNamedAnswer k c.args.workspace.now n q)) on.depth
    (c.named_answer-answer.ensures.answer q (subst (λ k. AsksProof c.args.workspace.now k n q) (sym on.of_crate) asks))

pub keep-requires-clause-depth : goal.keep-requires-clause-depth
keep-requires-clause-depth c = c.named_answer-answer.ensures.stays.depth ∙ c.in_ok-session.ensures.depth ∙ sym (ap (λ (l : Limits). l.depth) c.resume.ensures.limits)

pub keep-requires-clause-handles : goal.keep-requires-clause-handles
keep-requires-clause-handles c = c.named_answer-answer.ensures.stays.handles ∙ c.in_ok-session.ensures.handles ∙ sym (ap (λ (l : Limits). l.handles) c.resume.ensures.limits)

pub keep-requires-clause-left : goal.keep-requires-clause-left
keep-requires-clause-left c =
    still-left _ _ _ _ c.resume.new.self.left.items (c.named_answer-answer.ensures.stays.declarations ∙ c.in_ok-session.ensures.declarations) c.resume.ensures.limits c.resume.ensures.left

pub returns-clause-limits : goal.returns-clause-limits
returns-clause-limits c = c.keep.ensures.limits ∙ c.resume.ensures.limits

pub returns-clause-left : goal.returns-clause-left
returns-clause-left c =
    left-still _ _ _ _ c.keep.new.self.left.items (c.named_answer-answer.ensures.stays.declarations ∙ c.in_ok-session.ensures.declarations) c.resume.ensures.limits c.keep.ensures.left
