use Rattle.std.proofs.Common.{subst}
use Rattle.sessions.specs.Promised.Subjects.{Subject, StaysOn}
use Rattle.sessions.proofs.ShortCalls.{terms-at-limit}
use Rattle.session_inference.specs.Contexts.{LetsRest}
use Rattle.session_inference.proofs.Contexts.{grown, holds-as, lets-rest, rests-here, stays-on, subject, within}
use Rattle.session_inference.proofs.OwnTerms.{type-is, fault-made}
use Rattle.type_terms.specs.Promised.Label.{of_type, placeholder}
use Rattle.type_terms.specs.Promised.Trees.{leaf}
use Rattle.session_inference.proofs.making.placeholder_type.Goals as goal

pub ty_in-requires-clause-ready : goal.ty_in-requires-clause-ready
ty_in-requires-clause-ready c = c.session.invariant.session.rest.ready

pub invariant_of-session : goal.invariant_of-session
invariant_of-session c =
    let i = c.session.inside in
    let is = c.session.invariant in
    let y = c.ty_in.new.cx in
    let on = grown i.search.graph.root_depth i.search.cx y i.search.graph i.search.cache (rests-here i.workspace.now i.crate_id.index i.limits.depth i.limits.handles i.search.cx i.search.graph i.search.cache is) c.ty_in.ensures.advances in
    within i.workspace.now i.crate_id.index i.limits.depth i.limits.handles i.search.cx y i.search.graph i.search.graph i.search.cache i.search.cache is on

pub returns-clause-stays : goal.returns-clause-stays
returns-clause-stays c =
    let i = c.session.inside in
    let is = c.session.invariant in
    let y = c.ty_in.new.cx in
    let on = grown i.search.graph.root_depth i.search.cx y i.search.graph i.search.cache (rests-here i.workspace.now i.crate_id.index i.limits.depth i.limits.handles i.search.cx i.search.graph i.search.cache is) c.ty_in.ensures.advances in
    subst (λ (s : Subject). StaysOn s (subject i.workspace.now i.crate_id.index i.limits.depth i.limits.handles y i.search.graph)) c.session.view_is (stays-on i.workspace.now i.crate_id.index i.limits.depth i.limits.handles i.search.cx y i.search.graph i.search.graph i.search.cache i.search.cache is on)

pub returns-clause-rests : goal.returns-clause-rests
returns-clause-rests c =
    let i = c.session.inside in
    let is = c.session.invariant in
    let y = c.ty_in.new.cx in
    let on = grown i.search.graph.root_depth i.search.cx y i.search.graph i.search.cache (rests-here i.workspace.now i.crate_id.index i.limits.depth i.limits.handles i.search.cx i.search.graph i.search.cache is) c.ty_in.ensures.advances in
    subst (λ (s : Subject). LetsRest s (subject i.workspace.now i.crate_id.index i.limits.depth i.limits.handles y i.search.graph)) c.session.view_is (lets-rest i.workspace.now i.crate_id.index i.limits.depth i.limits.handles i.search.cx y i.search.graph i.search.graph i.search.cache i.search.cache is on)

pub returns-clause-is : goal.returns-clause-is
returns-clause-is c =
    let i = c.session.inside in
    let fs = c.ty_in.new.cx.interner.entries in
    type-is fs (leaf (placeholder of_type c.args.number)) c.type_made.result c.ty_in.result c.type_made.ensures.ok c.type_made.ensures.both
    c.ty_in.ensures.is

pub returns-clause-full : goal.returns-clause-full
returns-clause-full c =
    let i = c.session.inside in
    let is = c.session.invariant in
    let y = c.ty_in.new.cx in
    let on = grown i.search.graph.root_depth i.search.cx y i.search.graph i.search.cache (rests-here i.workspace.now i.crate_id.index i.limits.depth i.limits.handles i.search.cx i.search.graph i.search.cache is) c.ty_in.ensures.advances in
    terms-at-limit (subject i.workspace.now i.crate_id.index i.limits.depth i.limits.handles y i.search.graph) y (holds-as i.workspace.now i.crate_id.index i.limits.depth i.limits.handles i.search.cx y i.search.graph i.search.graph i.search.cache i.search.cache is on) c.type_made.result (fault-made c.type_made.result c.ty_in.result _ c.type_made.ensures.fault c.ty_in.ensures.full)
