use Rattle.std.proofs.Common.{◌+◌, ◌≤◌, subst, length, refl}
use Rattle.goal_frames.specs.Stores.{kept_inputs, kept_responses}
use Rattle.std.specs.Prelude.{IfOk}
use Rattle.candidate_assembly.specs.SolverMeaning.{solver_by_view}
use Rattle.candidate_assembly.specs.Fitting.{solving_of}
use Rattle.text_lowering.specs.Promised.SeenWorlds.{unbound_reference}
use Rattle.sessions.specs.Asking.{asked_alone}
use Rattle.solver_graph.specs.Askings.{frames_for}
use Rattle.sessions.specs.Promised.FrameBounds.{RefutesInFrames}
use Rattle.sessions.proofs.FrameBounds.{seen-erased-world, refutation-within}
use Rattle.sessions.specs.Promised.Given.{refutation_of}
use Rattle.sessions.specs.Promised.Promises.{IsRefutation, view_in}
use Rattle.sessions.specs.Promised.Subjects.{Subject, AsksRefutation}
use Rattle.text_language.specs.Promised.Declarations.{Question}
use Rattle.sessions.proofs.Alone.{on-map}
use Rattle.sessions.proofs.Keeping.{answered-exactly, limits-stay}
use Rattle.sessions.proofs.ShortCalls.{at-limit}
use Rattle.sessions.proofs.session.Session.refute.Goals as goal

pub returns-clause-answer : goal.returns-clause-answer
returns-clause-answer c =
    let i = c.self.inside in
    subst (λ (s : Subject). (q : Question) → AsksRefutation s.declarations s.of_crate c.args.number q → IfOk c.refute_question.result (λ a. IsRefutation s.depth s.declarations q (refutation_of a))) c.self.view_is
    (λ q asks.
    answered-exactly i.workspace.now i.crate_id.index i.limits.depth i.search.cx i.search.graph i.search.cache c.self.invariant.session c.refutations_have_variables_alone.ensures c.args.number q asks c.refute_question.result
    (record {
      made = on-map c.refute_question.result _ _ (λ f. f q asks.asks.question) c.refute_question.ensures.made;
      no = λ r e own. c.refute_question.ensures.no r q asks.asks.question e own;
      refused = λ r e. c.refute_question.ensures.refused r q asks.asks.question e;
      left = λ r e. c.refute_question.ensures.open r q asks.asks.question e;
      together = λ r more. c.refute_question.ensures.together r q asks.asks.question more;
    }))

pub returns-clause-frames : goal.returns-clause-frames
returns-clause-frames c =
    let i = c.self.inside in
    let new : Subject = record { declarations = i.workspace.now; of_crate = i.crate_id.index; depth = i.limits.depth; handles = i.limits.handles; terms = c.refute_question.new.search.cx.interner.entries; goals = length (kept_inputs c.refute_question.new.search.cx.store); answers = length (kept_responses c.refute_question.new.search.cx.store); frames = c.refute_question.new.search.graph.frames } in
    let s = solving_of i.search.cx.interner.entries i.search.cx.handler.declarations in
    subst (λ (old : Subject). (q : Question) → AsksRefutation old.declarations old.of_crate c.args.number q → RefutesInFrames old q new) c.self.view_is
    (λ q asks e.
    refutation-within s (view_in i.workspace.now i.crate_id.index) (seen-erased-world i.search.cx.interner.entries i.search.cx.handler.declarations i.workspace.now i.crate_id.index c.self.invariant.session.view.written) i.limits.depth q i.search.graph.frames new.frames
    (subst (λ n. new.frames ≤ i.search.graph.frames + frames_for solver_by_view s n (asked_alone (unbound_reference q.asked))) c.self.invariant.session.rest.depth
    (c.refute_question.ensures.frames q asks.asks.question e)))

pub returns-clause-full : goal.returns-clause-full
returns-clause-full c =
    let i = c.self.inside in
    let x = c.refute_question.new in
    let new : Subject = record { declarations = i.workspace.now; of_crate = i.crate_id.index; depth = i.limits.depth; handles = i.limits.handles; terms = x.search.cx.interner.entries; goals = length (kept_inputs x.search.cx.store); answers = length (kept_responses x.search.cx.store); frames = x.search.graph.frames } in
    at-limit new x.search.cx (record { terms = refl; goals = refl; answers = refl; limits = limits-stay i.limits.handles i.search.cx c.refute_question.new.search.cx c.self.invariant.limits c.refute_question.ensures.limits }) c.refute_question.result c.refute_question.ensures.full
