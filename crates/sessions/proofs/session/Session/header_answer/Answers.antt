use Rattle.std.proofs.Common.{refl, subst, length}
use Rattle.goal_frames.specs.Stores.{kept_inputs, kept_responses}
use Rattle.std.specs.Prelude.{IfOk}
use Rattle.sessions.specs.Promised.Subjects.{Subject, StaysOn}
use Rattle.sessions.specs.Supertraits.{IsCheckedAt}
use Rattle.sessions.proofs.Keeping.{session-kept, session-rests, limits-stay}
use Rattle.sessions.proofs.ShortCalls.{at-limit}
use Rattle.sessions.proofs.session.Session.header_answer.Goals as goal

pub header_answer_at-requires-clause-rest : goal.header_answer_at-requires-clause-rest
header_answer_at-requires-clause-rest c =
    let i = c.self.inside in
    session-rests i.workspace.now i.crate_id.index i.limits.depth i.search.cx i.search.graph i.search.cache c.self.invariant.session

pub header_answer_at-requires-clause-applied : goal.header_answer_at-requires-clause-applied
header_answer_at-requires-clause-applied c =
    let i = c.self.inside in
    c.impls_apply.ensures i.workspace.now c.self.invariant.session.text i.crate_id.index i.search.cx.interner.entries i.search.cx.handler.declarations c.self.invariant.session.solving

pub invariant_of-self : goal.invariant_of-self
invariant_of-self c =
    let i = c.self.inside in
    let x = c.header_answer_at.new in
    record {
      session = session-kept i.workspace.now i.crate_id.index i.limits.depth i.search.cx i.search.graph i.search.cache c.self.invariant.session x.search.cx x.search.graph x.search.cache c.header_answer_at.ensures.solving c.header_answer_at.ensures.rest;
      limits = limits-stay i.limits.handles i.search.cx c.header_answer_at.new.search.cx c.self.invariant.limits c.header_answer_at.ensures.limits;
    }

pub returns-clause-checked : goal.returns-clause-checked
returns-clause-checked c =
    let i = c.self.inside in
    subst (λ (s : Subject). IfOk c.header_answer_at.result (IsCheckedAt s.depth s.declarations s.of_crate c.args.id.index)) c.self.view_is
    (c.header_answer_at.ensures.checked i.workspace.now i.crate_id.index i.limits.depth c.self.invariant.session)

pub returns-clause-stays : goal.returns-clause-stays
returns-clause-stays c =
    let i = c.self.inside in
    subst (λ (s : Subject). StaysOn s (record { declarations = i.workspace.now; of_crate = i.crate_id.index; depth = i.limits.depth; handles = i.limits.handles; terms = c.header_answer_at.new.search.cx.interner.entries; goals = length (kept_inputs c.header_answer_at.new.search.cx.store); answers = length (kept_responses c.header_answer_at.new.search.cx.store); frames = c.header_answer_at.new.search.graph.frames })) c.self.view_is
    (record { declarations = refl; of_crate = refl; depth = refl; handles = refl; terms = c.header_answer_at.ensures.keeps })

pub returns-clause-full : goal.returns-clause-full
returns-clause-full c =
    let i = c.self.inside in
    let x = c.header_answer_at.new.search.cx in
    let new : Subject = record { declarations = i.workspace.now; of_crate = i.crate_id.index; depth = i.limits.depth; handles = i.limits.handles; terms = x.interner.entries; goals = length (kept_inputs x.store); answers = length (kept_responses x.store); frames = c.header_answer_at.new.search.graph.frames } in
    at-limit new x (record { terms = refl; goals = refl; answers = refl; limits = limits-stay i.limits.handles i.search.cx c.header_answer_at.new.search.cx c.self.invariant.limits c.header_answer_at.ensures.limits }) c.header_answer_at.result c.header_answer_at.ensures.full
