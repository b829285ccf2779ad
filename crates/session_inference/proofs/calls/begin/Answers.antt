use Rattle.std.proofs.Common.{[], subst}
use Rattle.sessions.specs.Promised.Subjects.{Subject}
use Rattle.inference.specs.Inferring.{no_variables}
use Rattle.session_inference.specs.Contexts.{CanInferIn, IsFaithfulIn}
use Rattle.session_inference.proofs.Contexts.{faithful-in, over-by}
use Rattle.session_inference.proofs.calls.begin.Goals as goal

pub new-requires-clause-empty : goal.new-requires-clause-empty
new-requires-clause-empty c = c.session.invariant.session.rest.empty

pub new-requires-clause-cache : goal.new-requires-clause-cache
new-requires-clause-cache c = c.session.invariant.session.rest.cached

pub new-requires-clause-ready : goal.new-requires-clause-ready
new-requires-clause-ready c = c.session.invariant.session.rest.ready

pub returns-clause-can : goal.returns-clause-can
returns-clause-can c =
    let i = c.session.inside in
    let made = c.new in
    subst (λ (s : Subject). CanInferIn s made.result) c.session.view_is
    (record {
      over = over-by i.workspace.now i.crate_id.index i.limits.depth i.limits.handles i.search.cx i.search.graph i.search.cache c.session.invariant made.result made.ensures.again;
      mode = made.ensures.mode;
      faithful =
          (no_variables, [], faithful-in i.workspace.now i.crate_id.index i.limits.depth i.limits.handles i.search.cx i.search.graph i.search.cache c.session.invariant no_variables [] made.result made.ensures.faithful);
    })

pub returns-clause-faithful : goal.returns-clause-faithful
returns-clause-faithful c =
    let i = c.session.inside in
    let made = c.new in
    subst (λ (s : Subject). IsFaithfulIn no_variables [] s made.result) c.session.view_is
    (faithful-in i.workspace.now i.crate_id.index i.limits.depth i.limits.handles i.search.cx i.search.graph i.search.cache c.session.invariant no_variables [] made.result made.ensures.faithful)
