use Rattle.std.proofs.Common.{◌≡◌, refl, sym, subst, length}
use Rattle.goal_frames.specs.Stores.{kept_inputs, kept_responses}
use Rattle.std.specs.Prelude.{IfOk}
use Rattle.declarations.specs.Items.{IsAbove}
use Rattle.sessions.specs.Checking.{HasOrphan}
use Rattle.sessions.specs.Promised.Subjects.{Subject, StaysOn}
use Rattle.text_tables.specs.Numbered.{IsNumbered}
use Rattle.sessions.proofs.CratesAside.{orphan-ok}
use Rattle.sessions.proofs.ImplNumbers.{numbers-below}
use Rattle.sessions.proofs.Keeping.{session-kept, session-rests, limits-stay}
use Rattle.sessions.proofs.ShortCalls.{terms-at-limit}
use Rattle.sessions.proofs.session.Session.first_orphan.Goals as goal

pub first_broken_header-requires-clause-ready : goal.first_broken_header-requires-clause-ready
first_broken_header-requires-clause-ready c = c.self.invariant.session.rest.ready

pub first_broken_header-requires-clause-numbered : goal.first_broken_header-requires-clause-numbered
first_broken_header-requires-clause-numbered c =
    let i = c.self.inside in
    let own : IsNumbered i.workspace.now = subst (λ (s : Subject). IsNumbered s.declarations) (sym c.self.view_is) c.requires.numbered in
    let end : c.args.end ≡ length i.workspace.now.impls = subst (λ (s : Subject). c.args.end ≡ length s.declarations.impls) (sym c.self.view_is) c.requires.end in
    subst (λ n. IsAbove n i.search.cx.handler.declarations) (sym end) (numbers-below i.workspace.now i.crate_id.index own i.search.cx.interner.entries i.search.cx.handler.declarations c.self.invariant.session.view.rules)

pub invariant_of-self : goal.invariant_of-self
invariant_of-self c =
    let i = c.self.inside in
    let next = c.first_broken_header.new.cx in
    record {
      session = session-kept i.workspace.now i.crate_id.index i.limits.depth i.search.cx i.search.graph i.search.cache c.self.invariant.session next i.search.graph i.search.cache
          (c.rest_laws.ensures.meaning i.search.cx next c.self.invariant.session.rest.ready c.first_broken_header.ensures.advances)
          (c.rest_laws.ensures.rest i.search.graph.root_depth i.search.cx next i.search.graph i.search.cache (session-rests i.workspace.now i.crate_id.index i.limits.depth i.search.cx i.search.graph i.search.cache c.self.invariant.session) c.first_broken_header.ensures.advances);
      limits = limits-stay i.limits.handles i.search.cx c.first_broken_header.new.cx c.self.invariant.limits c.first_broken_header.ensures.advances.limits;
    }

pub returns-clause-first : goal.returns-clause-first
returns-clause-first c =
    let i = c.self.inside in
    subst (λ (s : Subject). IfOk c.first_broken_header.result (HasOrphan s c.first_broken_header.new.cx.interner.entries)) c.self.view_is
    (orphan-ok i.workspace.now i.crate_id.index _ _ c.self.invariant.session.view.rules c.self.invariant.session.view.local c.first_broken_header.new.cx.interner.entries c.first_broken_header.result c.first_broken_header.ensures.first)

pub returns-clause-held : goal.returns-clause-held
returns-clause-held c = c.first_broken_header.ensures.held

pub returns-clause-stays : goal.returns-clause-stays
returns-clause-stays c =
    let i = c.self.inside in
    subst (λ (s : Subject). StaysOn s (record { declarations = i.workspace.now; of_crate = i.crate_id.index; depth = i.limits.depth; handles = i.limits.handles; terms = c.first_broken_header.new.cx.interner.entries; goals = length (kept_inputs c.first_broken_header.new.cx.store); answers = length (kept_responses c.first_broken_header.new.cx.store); frames = i.search.graph.frames })) c.self.view_is
    (record { declarations = refl; of_crate = refl; depth = refl; handles = refl; terms = c.first_broken_header.ensures.advances.entries })

pub returns-clause-full : goal.returns-clause-full
returns-clause-full c =
    let i = c.self.inside in
    let x = c.first_broken_header.new.cx in
    let new : Subject = record { declarations = i.workspace.now; of_crate = i.crate_id.index; depth = i.limits.depth; handles = i.limits.handles; terms = x.interner.entries; goals = length (kept_inputs x.store); answers = length (kept_responses x.store); frames = i.search.graph.frames } in
    terms-at-limit new x (record { terms = refl; goals = refl; answers = refl; limits = limits-stay i.limits.handles i.search.cx c.first_broken_header.new.cx c.self.invariant.limits c.first_broken_header.ensures.advances.limits }) c.first_broken_header.result c.first_broken_header.ensures.full
