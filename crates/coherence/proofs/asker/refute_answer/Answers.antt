use Rattle.std.proofs.Common.{◌∙◌, ap, subst, sym}
use Rattle.std.specs.Prelude.{IfOk}
use Rattle.sessions.specs.TextLanguage.Promised.Declarations.{Declarations}
use Rattle.sessions.specs.Promised.Given.{refutation_of}
use Rattle.sessions.specs.Promised.Promises.{IsRefutation}
use Rattle.sessions.specs.Promised.Subjects.{AsksRefutation}
use Rattle.sessions.specs.declared.limits.Limits.{Limits}
use Rattle.coherence.proofs.KeptSessions.{left-still, still-left}
use Rattle.coherence.proofs.asker.refute_answer.Goals as goal

pub refute-answer-requires : goal.refute-answer-requires
refute-answer-requires c =
    let a = c.requires.query.asks in
    let on = c.in_ok-session.ensures in
    let n = c.args.query.number in
    (a.0, subst (λ k. AsksRefutation c.in_ok-session.session.declarations k n a.0) (sym on.of_crate) (subst (λ (d : Declarations). AsksRefutation d c.args.query.crate_id.index n a.0) (sym on.declarations) a.1))

pub returns-clause-answer : goal.returns-clause-answer
returns-clause-answer c q asks =
    let on = c.in_ok-session.ensures in
    let n = c.args.query.number in
    let at = subst (λ k. AsksRefutation c.in_ok-session.session.declarations k n q) (sym on.of_crate) (subst (λ (d : Declarations). AsksRefutation d c.args.query.crate_id.index n q) (sym on.declarations) asks) in
    subst (λ k. IfOk c.refute-answer.result (λ a. IsRefutation k c.args.workspace.now q (refutation_of a))) on.depth
    (subst (λ (d : Declarations). IfOk c.refute-answer.result (λ a. IsRefutation c.in_ok-session.session.depth d q (refutation_of a))) on.declarations (c.refute-answer.ensures.answer q at))

pub keep-requires-clause-depth : goal.keep-requires-clause-depth
keep-requires-clause-depth c = c.refute-answer.ensures.stays.depth ∙ c.in_ok-session.ensures.depth ∙ sym (ap (λ (l : Limits). l.depth) c.resume.ensures.limits)

pub keep-requires-clause-handles : goal.keep-requires-clause-handles
keep-requires-clause-handles c = c.refute-answer.ensures.stays.handles ∙ c.in_ok-session.ensures.handles ∙ sym (ap (λ (l : Limits). l.handles) c.resume.ensures.limits)

pub keep-requires-clause-left : goal.keep-requires-clause-left
keep-requires-clause-left c =
    still-left _ _ _ _ c.resume.new.self.left.items (c.refute-answer.ensures.stays.declarations ∙ c.in_ok-session.ensures.declarations) c.resume.ensures.limits c.resume.ensures.left

pub returns-clause-limits : goal.returns-clause-limits
returns-clause-limits c = c.keep.ensures.limits ∙ c.resume.ensures.limits

pub returns-clause-left : goal.returns-clause-left
returns-clause-left c =
    left-still _ _ _ _ c.keep.new.self.left.items (c.refute-answer.ensures.stays.declarations ∙ c.in_ok-session.ensures.declarations) c.resume.ensures.limits c.keep.ensures.left
