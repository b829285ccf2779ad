use Rattle.std.proofs.Common.{refl, sym, subst, length}
use Rattle.goal_frames.specs.Stores.{kept_inputs, kept_responses}
use Rattle.std.specs.Prelude.{IfOk}
use Rattle.sessions.specs.Checking.{HasJudged, HaveOwnNumbers}
use Rattle.sessions.specs.FixedGoals.{AreRefutedInSession}
use Rattle.sessions.specs.Promised.Subjects.{Subject, StaysOn}
use Rattle.text_tables.specs.Numbered.{IsNumbered}
use Rattle.sessions.proofs.ImplNumbers.{own-numbers}
use Rattle.sessions.proofs.Keeping.{session-kept, session-rests, limits-stay}
use Rattle.sessions.proofs.ShortCalls.{at-limit}
use Rattle.sessions.proofs.session.Session.overlaps.Goals as goal

pub overlaps_by_goals-requires-clause-rest : goal.overlaps_by_goals-requires-clause-rest
overlaps_by_goals-requires-clause-rest c =
    let i = c.self.inside in
    session-rests i.workspace.now i.crate_id.index i.limits.depth i.search.cx i.search.graph i.search.cache c.self.invariant.session

pub overlaps_by_goals-requires-clause-numbers : goal.overlaps_by_goals-requires-clause-numbers
overlaps_by_goals-requires-clause-numbers c =
    let i = c.self.inside in
    subst HaveOwnNumbers (sym c.self.invariant.session.view.rules)
    (own-numbers i.workspace.now i.crate_id.index (subst (λ (s : Subject). IsNumbered s.declarations) (sym c.self.view_is) c.requires.numbered))

pub returns-clause-judged : goal.returns-clause-judged
returns-clause-judged c =
    let i = c.self.inside in
    subst (λ (s : Subject). IfOk c.overlaps_by_goals.result (HasJudged s c.args.later.index c.args.earlier.index)) c.self.view_is
    (c.overlaps_by_goals.ensures.judged i.workspace.now i.crate_id.index i.limits.depth c.self.invariant.session
    (subst (λ (s : Subject). AreRefutedInSession s c.args.answers.now) (sym c.self.view_is) c.requires.noted))

pub returns-clause-noted : goal.returns-clause-noted
returns-clause-noted c =
    let i = c.self.inside in
    c.overlaps_by_goals.ensures.noted i.workspace.now i.crate_id.index i.limits.depth c.self.invariant.session
    (subst (λ (s : Subject). AreRefutedInSession s c.args.answers.now) (sym c.self.view_is) c.requires.noted)

pub invariant_of-self : goal.invariant_of-self
invariant_of-self c =
    let i = c.self.inside in
    let x = c.overlaps_by_goals.new in
    record {
      session = session-kept i.workspace.now i.crate_id.index i.limits.depth i.search.cx i.search.graph i.search.cache c.self.invariant.session x.search.cx x.search.graph x.search.cache c.overlaps_by_goals.ensures.rests.solving
          c.overlaps_by_goals.ensures.rests.rest;
      limits = limits-stay i.limits.handles i.search.cx x.search.cx c.self.invariant.limits c.overlaps_by_goals.ensures.rests.limits;
    }

pub returns-clause-stays : goal.returns-clause-stays
returns-clause-stays c =
    let i = c.self.inside in
    subst (λ (s : Subject). StaysOn s (record { declarations = i.workspace.now; of_crate = i.crate_id.index; depth = i.limits.depth; handles = i.limits.handles; terms = c.overlaps_by_goals.new.search.cx.interner.entries; goals = length (kept_inputs c.overlaps_by_goals.new.search.cx.store); answers = length (kept_responses c.overlaps_by_goals.new.search.cx.store); frames = c.overlaps_by_goals.new.search.graph.frames })) c.self.view_is
    (record { declarations = refl; of_crate = refl; depth = refl; handles = refl; terms = c.overlaps_by_goals.ensures.rests.entries })

pub returns-clause-full : goal.returns-clause-full
returns-clause-full c =
    let i = c.self.inside in
    let x = c.overlaps_by_goals.new.search.cx in
    let new : Subject = record { declarations = i.workspace.now; of_crate = i.crate_id.index; depth = i.limits.depth; handles = i.limits.handles; terms = x.interner.entries; goals = length (kept_inputs x.store); answers = length (kept_responses x.store); frames = c.overlaps_by_goals.new.search.graph.frames } in
    at-limit new x (record { terms = refl; goals = refl; answers = refl; limits = limits-stay i.limits.handles i.search.cx c.overlaps_by_goals.new.search.cx c.self.invariant.limits c.overlaps_by_goals.ensures.rests.limits }) c.overlaps_by_goals.result c.overlaps_by_goals.ensures.full
