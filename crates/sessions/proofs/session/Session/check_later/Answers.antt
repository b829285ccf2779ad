use Rattle.std.proofs.Common.{refl, sym, subst, length}
use Rattle.goal_frames.specs.Stores.{kept_inputs, kept_responses}
use Rattle.std.specs.Prelude.{IfOk}
use Rattle.type_terms.specs.Promised.Handles.{SomeKindIsFull}
use Rattle.type_terms.specs.Growth.{FullAtLimit}
use Rattle.sessions.specs.Promised.Given.{later_of}
use Rattle.sessions.specs.Promised.Releases.{IsSectionOf, IsLaterAnswer}
use Rattle.sessions.specs.Promised.Subjects.{Subject, StaysOn}
use Rattle.sessions.proofs.Keeping.{session-kept, session-rests, limits-stay}
use Rattle.sessions.proofs.LaterChecks.{answered-here}
use Rattle.sessions.proofs.ShortCalls.{at-err}
use Rattle.sessions.proofs.session.Session.check_later.Goals as goal

pub later_answer-requires-clause-ready : goal.later_answer-requires-clause-ready
later_answer-requires-clause-ready c = c.self.invariant.session.rest.ready

pub later_answer-requires-clause-text : goal.later_answer-requires-clause-text
later_answer-requires-clause-text c = c.self.invariant.session.text

pub invariant_of-self : goal.invariant_of-self
invariant_of-self c =
    let i = c.self.inside in
    let next = c.later_answer.new.cx in
    record {
      session = session-kept i.workspace.now i.crate_id.index i.limits.depth i.search.cx i.search.graph i.search.cache c.self.invariant.session next i.search.graph i.search.cache
          (c.rest_laws.ensures.meaning i.search.cx next c.self.invariant.session.rest.ready c.later_answer.ensures.advances)
          (c.rest_laws.ensures.rest i.search.graph.root_depth i.search.cx next i.search.graph i.search.cache (session-rests i.workspace.now i.crate_id.index i.limits.depth i.search.cx i.search.graph i.search.cache c.self.invariant.session) c.later_answer.ensures.advances);
      limits = limits-stay i.limits.handles i.search.cx c.later_answer.new.cx c.self.invariant.limits c.later_answer.ensures.advances.limits;
    }

pub returns-clause-users : goal.returns-clause-users
returns-clause-users c = c.added_impls_break_no_user.ensures

pub returns-clause-answer : goal.returns-clause-answer
returns-clause-answer c =
    let i = c.self.inside in
    let section : IsSectionOf i.workspace.now i.crate_id.index c.args.section = subst (λ (s : Subject). IsSectionOf s.declarations s.of_crate c.args.section) (sym c.self.view_is) c.requires in
    subst (λ (s : Subject). IfOk c.later_answer.result (λ a. IsLaterAnswer s.declarations s.of_crate c.args.section (later_of a))) c.self.view_is
    (answered-here i.workspace.now c.self.invariant.session.text i.crate_id.index c.args.section section _ _ c.self.invariant.session.view.rules c.self.invariant.session.view.local c.later_answer.result c.later_answer.ensures.answer)

pub returns-clause-full : goal.returns-clause-full
returns-clause-full c = λ q.
    let i = c.self.inside in
    let next = c.later_answer.new.cx in
    subst (SomeKindIsFull next.interner.entries) (limits-stay i.limits.handles i.search.cx next c.self.invariant.limits c.later_answer.ensures.advances.limits).terms
    (at-err (FullAtLimit next.interner) c.later_answer.result c.later_answer.ensures.full q refl)

pub returns-clause-stays : goal.returns-clause-stays
returns-clause-stays c =
    let i = c.self.inside in
    subst (λ (s : Subject). StaysOn s (record { declarations = i.workspace.now; of_crate = i.crate_id.index; depth = i.limits.depth; handles = i.limits.handles; terms = c.later_answer.new.cx.interner.entries; goals = length (kept_inputs c.later_answer.new.cx.store); answers = length (kept_responses c.later_answer.new.cx.store); frames = i.search.graph.frames })) c.self.view_is
    (record { declarations = refl; of_crate = refl; depth = refl; handles = refl; terms = c.later_answer.ensures.advances.entries })

pub returns-clause-lost : goal.returns-clause-lost
returns-clause-lost c = c.old_answers_stay.ensures.yes
