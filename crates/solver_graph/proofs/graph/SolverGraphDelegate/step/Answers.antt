use Rattle.std.proofs.Common.{◌≡◌, ◌<◌, ◌∙◌, ◌∷◌, refl, sym, subst}
use Rattle.search_graph.specs.Meaning as Search
use Rattle.solver_graph.specs.declared.context.SolverCx.{SolverCx}
use Rattle.solver_graph.specs.Answers.{request_read}
use Rattle.solver_graph.specs.Searching.{FrameHasHeard, solver_meaning, steps_left}
use Rattle.solver_graph.proofs.Growing.{later, further, keeps, same-world}
use Rattle.solver_graph.proofs.Silences.{always-ok}
use Rattle.solver_graph.specs.Shortages.{interner}
use Rattle.solver_graph.proofs.Stepping.{is-due, hears-more, requests, has-fewer, told-kept}
use Rattle.solver_graph.proofs.graph.SolverGraphDelegate.step.Goals as goal
use Rattle.type_terms.proofs.TypeBasics.{handed-on, both-ok}

pub step-asked-requires-clause-due : goal.step-asked-requires-clause-due
step-asked-requires-clause-due g c =
    let h = g.H.GoalHandler in
    let m = g.met.H.GoalHandler in
    let cx = c.args.cx.now in
    let due = c.requires.due in
    let meaning = solver_meaning h.meaning in
    is-due h.meaning m.lawful.world_kept cx c.args.frame.now c.in_ok-reply.reply due.0 due.1 due.2
    (subst (λ y. Search.IsDueAfter meaning (h.meaning.world cx.handler cx.interner.entries) due.0 due.1 y) (sym c.in_ok-reply.ensures.is) due.3)

pub step-asked-requires-clause-notes : goal.step-asked-requires-clause-notes
step-asked-requires-clause-notes g c = c.requires.due.2.notes

pub returns-in_err-asked-clause-keeps : goal.returns-in_err-asked-clause-keeps
returns-in_err-asked-clause-keeps g c =
    let h = g.H.GoalHandler in
    let m = g.met.H.GoalHandler in
    let cx = c.args.cx.now in
    let mid : SolverCx g.row.H.Denot = record cx { interner = c.step-asked.new.cx } in
    let now = c.requires.due.2.ready in
    keeps h.meaning m.lawful.world_kept cx mid now (later h.meaning.IsReady m.lawful.ready_kept cx mid now refl refl c.step-asked.ensures.terms.grew.keeps c.lawful.ensures c.step-asked.ensures.terms.grew.limit)

pub keep_request-requires-clause-ready : goal.keep_request-requires-clause-ready
keep_request-requires-clause-ready g c =
    let h = g.H.GoalHandler in
    let cx = c.args.cx.now in
    let mid : SolverCx g.row.H.Denot = record cx { interner = c.step-asked.new.cx } in
    (later h.meaning.IsReady g.met.H.GoalHandler.lawful.ready_kept cx mid c.requires.due.2.ready refl refl c.step-asked.ensures.terms.grew.keeps c.lawful.ensures c.step-asked.ensures.terms.grew.limit).ready

pub returns-clause-keeps : goal.returns-clause-keeps
returns-clause-keeps g c =
    let h = g.H.GoalHandler in
    let m = g.met.H.GoalHandler in
    let cx = c.args.cx.now in
    let mid : SolverCx g.row.H.Denot = record cx { interner = c.step-asked.new.cx } in
    let now = c.requires.due.2.ready in
    let first = later h.meaning.IsReady m.lawful.ready_kept cx mid now refl refl c.step-asked.ensures.terms.grew.keeps c.lawful.ensures c.step-asked.ensures.terms.grew.limit in
    keeps h.meaning m.lawful.world_kept cx c.keep_request.new.cx now (further h.meaning.IsReady cx mid c.keep_request.new.cx first c.keep_request.ensures.advances)

pub returns-clause-steps : goal.returns-clause-steps
returns-clause-steps g c =
    let h = g.H.GoalHandler in
    let m = g.met.H.GoalHandler in
    let cx = c.args.cx.now in
    let mid : SolverCx g.row.H.Denot = record cx { interner = c.step-asked.new.cx } in
    let new = c.keep_request.new.cx in
    let before = c.args.frame.now in
    let after = c.step-asked.new.self in
    let reply = c.in_ok-reply.reply in
    let asked = c.in_ok-asked.field-0 in
    let meaning = solver_meaning h.meaning in
    let world = h.meaning.world cx.handler cx.interner.entries in
    let same = c.in_ok-reply.ensures.is in
    let told = told-kept h.meaning cx reply c.args.reply same c.requires.reply in
    let first = later h.meaning.IsReady m.lawful.ready_kept cx mid c.requires.due.2.ready refl refl c.step-asked.ensures.terms.grew.keeps c.lawful.ensures c.step-asked.ensures.terms.grew.limit in
    both-ok (Search.IsRequest meaning new) (λ q. Search.request_of meaning new q ≡ request_read c.step-asked.new.cx.entries asked) (Search.Steps meaning cx before c.args.reply new after) c.keep_request.result
    (λ q known is. (
      known,
      λ goal heard has due.
          let here = subst (λ y. Search.IsDueAfter meaning world goal heard y) (sym same) due in
          let there =
          hears-more h.meaning m.lawful.world_kept cx before reply goal heard has mid first after asked c.in_ok-reply.ensures.held told c.in_ok-asked.ensures.fewer c.step-asked.ensures.goal c.in_ok-asked.ensures.steps here c.in_ok-asked.ensures.notes
          in
          let on = (keeps h.meaning m.lawful.world_kept mid new first.ready c.keep_request.ensures.advances).frames goal _ after there in (
            subst (λ y. FrameHasHeard h.meaning new goal (y ∷ heard) after) same on,
            is
                ∙ subst (λ y. request_read c.step-asked.new.cx.entries asked ≡ meaning.asks world goal (y ∷ heard)) same
                (requests h.meaning m.lawful.world_kept cx before reply goal heard has mid first after asked c.in_ok-reply.ensures.held told c.in_ok-asked.ensures.fewer c.step-asked.ensures.goal c.in_ok-asked.ensures.steps here),
          ),
    )) c.keep_request.ensures.known c.keep_request.ensures.is

pub returns-clause-falls : goal.returns-clause-falls
returns-clause-falls g c =
    let h = g.H.GoalHandler in
    let m = g.met.H.GoalHandler in
    let cx = c.args.cx.now in
    let mid : SolverCx g.row.H.Denot = record cx { interner = c.step-asked.new.cx } in
    let new = c.keep_request.new.cx in
    let before = c.args.frame.now in
    let after = c.step-asked.new.self in
    let reply = c.in_ok-reply.reply in
    let asked = c.in_ok-asked.field-0 in
    let meaning = solver_meaning h.meaning in
    let due = c.requires.due in
    let told = told-kept h.meaning cx reply c.args.reply c.in_ok-reply.ensures.is c.requires.reply in
    let now = due.2.ready in
    let first = later h.meaning.IsReady m.lawful.ready_kept cx mid now refl refl c.step-asked.ensures.terms.grew.keeps c.lawful.ensures c.step-asked.ensures.terms.grew.limit in
    let here = subst (λ y. Search.IsDueAfter meaning (h.meaning.world cx.handler cx.interner.entries) due.0 due.1 y) (sym c.in_ok-reply.ensures.is) due.3 in
    let there =
    hears-more h.meaning m.lawful.world_kept cx before reply due.0 due.1 due.2 mid first after asked c.in_ok-reply.ensures.held told c.in_ok-asked.ensures.fewer c.step-asked.ensures.goal c.in_ok-asked.ensures.steps here c.in_ok-asked.ensures.notes
    in
    let on = (keeps h.meaning m.lawful.world_kept mid new first.ready c.keep_request.ensures.advances).frames due.0 _ after there in
    let whole = further h.meaning.IsReady cx mid new first c.keep_request.ensures.advances in
    always-ok
    (λ q. steps_left h.meaning new after < steps_left h.meaning cx before) c.keep_request.result
    (λ q.
    has-fewer h.meaning m.lawful.world_kept cx before reply due.0 due.1 due.2 mid first after asked c.in_ok-reply.ensures.held told c.in_ok-asked.ensures.fewer c.step-asked.ensures.goal c.in_ok-asked.ensures.steps m.lawful.goals.handlers here new
    (same-world h.meaning m.lawful.world_kept cx new now whole) on)

pub returns-in_err-asked-clause-full : goal.returns-in_err-asked-clause-full
returns-in_err-asked-clause-full g c = λ q.
    let again = c.from_residual-in_err-asked in
    interner (handed-on again.result again.ensures.1 c.in_err-asked.ensures.terms.full q)
