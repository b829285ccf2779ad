use Rattle.std.proofs.Common.{subst}
use Rattle.sessions.specs.Promised.Subjects.{Subject, StaysOn}
use Rattle.sessions.proofs.ShortCalls.{terms-at-limit}
use Rattle.session_inference.specs.Contexts.{LetsRest}
use Rattle.session_inference.proofs.Contexts.{grown, holds-as, lets-rest, rests-here, stays-on, subject, within}
use Rattle.session_inference.proofs.OwnTerms.{const-is, fault-made}
use Rattle.type_terms.specs.Promised.Label.{of_const, placeholder}
use Rattle.type_terms.specs.Promised.Trees.{leaf}
use Rattle.session_inference.proofs.making.placeholder_constant.Goals as goal

pub const_in-requires-clause-ready : goal.const_in-requires-clause-ready
const_in-requires-clause-ready c = c.session.invariant.session.rest.ready

pub invariant_of-session : goal.invariant_of-session
invariant_of-session c =
    let i = c.session.inside in
    let is = c.session.invariant in
    let y = c.const_in.new.cx in
    let on = grown i.search.graph.root_depth i.search.cx y i.search.graph i.search.cache (rests-here i.workspace.now i.crate_id.index i.limits.depth i.limits.handles i.search.cx i.search.graph i.search.cache is) c.const_in.ensures.advances in
    within i.workspace.now i.crate_id.index i.limits.depth i.limits.handles i.search.cx y i.search.graph i.search.graph i.search.cache i.search.cache is on

pub returns-clause-stays : goal.returns-clause-stays
returns-clause-stays c =
    let i = c.session.inside in
    let is = c.session.invariant in
    let y = c.const_in.new.cx in
    let on = grown i.search.graph.root_depth i.search.cx y i.search.graph i.search.cache (rests-here i.workspace.now i.crate_id.index i.limits.depth i.limits.handles i.search.cx i.search.graph i.search.cache is) c.const_in.ensures.advances in
    subst (λ (s : Subject). StaysOn s (subject i.workspace.now i.crate_id.index i.limits.depth i.limits.handles y i.search.graph)) c.session.view_is (stays-on i.workspace.now i.crate_id.index i.limits.depth i.limits.handles i.search.cx y i.search.graph i.search.graph i.search.cache i.search.cache is on)

pub returns-clause-rests : goal.returns-clause-rests
returns-clause-rests c =
    let i = c.session.inside in
    let is = c.session.invariant in
    let y = c.const_in.new.cx in
    let on = grown i.search.graph.root_depth i.search.cx y i.search.graph i.search.cache (rests-here i.workspace.now i.crate_id.index i.limits.depth i.limits.handles i.search.cx i.search.graph i.search.cache is) c.const_in.ensures.advances in
    subst (λ (s : Subject). LetsRest s (subject i.workspace.now i.crate_id.index i.limits.depth i.limits.handles y i.search.graph)) c.session.view_is (lets-rest i.workspace.now i.crate_id.index i.limits.depth i.limits.handles i.search.cx y i.search.graph i.search.graph i.search.cache i.search.cache is on)

pub returns-clause-is : goal.returns-clause-is
returns-clause-is c =
    let i = c.session.inside in
    let fs = c.const_in.new.cx.interner.entries in
    const-is fs (leaf (placeholder of_const c.args.number)) c.const_made.result c.const_in.result c.const_made.ensures.ok c.const_made.ensures.both c.const_in.ensures.is

pub returns-clause-full : goal.returns-clause-full
returns-clause-full c =
    let i = c.session.inside in
    let is = c.session.invariant in
    let y = c.const_in.new.cx in
    let on = grown i.search.graph.root_depth i.search.cx y i.search.graph i.search.cache (rests-here i.workspace.now i.crate_id.index i.limits.depth i.limits.handles i.search.cx i.search.graph i.search.cache is) c.const_in.ensures.advances in
    terms-at-limit (subject i.workspace.now i.crate_id.index i.limits.depth i.limits.handles y i.search.graph) y (holds-as i.workspace.now i.crate_id.index i.limits.depth i.limits.handles i.search.cx y i.search.graph i.search.graph i.search.cache i.search.cache is on) c.const_made.result (fault-made c.const_made.result c.const_in.result _ c.const_made.ensures.fault c.const_in.ensures.full)
