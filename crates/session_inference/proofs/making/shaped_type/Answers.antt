use Rattle.std.proofs.Common.{◌≡◌, subst, sym}
use Rattle.sessions.specs.Promised.Subjects.{Subject, StaysOn}
use Rattle.sessions.proofs.ShortCalls.{terms-at-limit}
use Rattle.session_inference.specs.Contexts.{LetsRest}
use Rattle.session_inference.proofs.Contexts.{grown, holds-as, lets-rest, rests-here, stays-on, subject, within}
use Rattle.session_inference.proofs.OwnTerms.{fault-made, shaped-is, shaped-takes}
use Rattle.std.specs.Prelude.{IfOk, IfSome}
use Rattle.type_terms.specs.Promised.Handles.{ArgHeld, ArgsHeld, arg_trees}
use Rattle.type_terms.specs.Kinds.{args_trees}
use Rattle.session_inference.specs.Shapes.{shaped_trees, takes}
use Rattle.session_inference.proofs.making.shaped_type.Goals as goal

pub shaped_in-requires-clause-held : goal.shaped_in-requires-clause-held
shaped_in-requires-clause-held c = subst (λ (s : Subject). ArgsHeld s.terms c.args.parts.items) (sym c.session.view_is) c.requires

pub shaped_in-requires-clause-ready : goal.shaped_in-requires-clause-ready
shaped_in-requires-clause-ready c = c.session.invariant.session.rest.ready

pub invariant_of-session : goal.invariant_of-session
invariant_of-session c =
    let i = c.session.inside in
    let is = c.session.invariant in
    let y = c.shaped_in.new.cx in
    let on = grown i.search.graph.root_depth i.search.cx y i.search.graph i.search.cache (rests-here i.workspace.now i.crate_id.index i.limits.depth i.limits.handles i.search.cx i.search.graph i.search.cache is) c.shaped_in.ensures.advances in
    within i.workspace.now i.crate_id.index i.limits.depth i.limits.handles i.search.cx y i.search.graph i.search.graph i.search.cache i.search.cache is on

pub returns-clause-stays : goal.returns-clause-stays
returns-clause-stays c =
    let i = c.session.inside in
    let is = c.session.invariant in
    let y = c.shaped_in.new.cx in
    let on = grown i.search.graph.root_depth i.search.cx y i.search.graph i.search.cache (rests-here i.workspace.now i.crate_id.index i.limits.depth i.limits.handles i.search.cx i.search.graph i.search.cache is) c.shaped_in.ensures.advances in
    subst (λ (s : Subject). StaysOn s (subject i.workspace.now i.crate_id.index i.limits.depth i.limits.handles y i.search.graph)) c.session.view_is (stays-on i.workspace.now i.crate_id.index i.limits.depth i.limits.handles i.search.cx y i.search.graph i.search.graph i.search.cache i.search.cache is on)

pub returns-clause-rests : goal.returns-clause-rests
returns-clause-rests c =
    let i = c.session.inside in
    let is = c.session.invariant in
    let y = c.shaped_in.new.cx in
    let on = grown i.search.graph.root_depth i.search.cx y i.search.graph i.search.cache (rests-here i.workspace.now i.crate_id.index i.limits.depth i.limits.handles i.search.cx i.search.graph i.search.cache is) c.shaped_in.ensures.advances in
    subst (λ (s : Subject). LetsRest s (subject i.workspace.now i.crate_id.index i.limits.depth i.limits.handles y i.search.graph)) c.session.view_is (lets-rest i.workspace.now i.crate_id.index i.limits.depth i.limits.handles i.search.cx y i.search.graph i.search.graph i.search.cache i.search.cache is on)

pub returns-clause-is : goal.returns-clause-is
returns-clause-is c =
    let i = c.session.inside in
    let fs = c.shaped_in.new.cx.interner.entries in
    let h = c.args.shape in
    subst (λ (s : Subject). IfOk c.shaped_made.result (λ o. IfSome o (λ a. (arg_trees fs a ≡ shaped_trees h (args_trees s.terms c.args.parts.items)) × ArgHeld fs a))) c.session.view_is
    (shaped-is fs (shaped_trees h (args_trees i.search.cx.interner.entries c.args.parts.items)) c.shaped_made.result c.shaped_in.result c.shaped_made.ensures.ok c.shaped_made.ensures.both c.shaped_in.ensures.is)

pub returns-clause-takes : goal.returns-clause-takes
returns-clause-takes c = shaped-takes (takes c.args.shape c.args.parts.items) c.shaped_made.result c.shaped_in.result c.shaped_made.ensures.ok c.shaped_made.ensures.both c.shaped_in.ensures.takes

pub returns-clause-full : goal.returns-clause-full
returns-clause-full c =
    let i = c.session.inside in
    let is = c.session.invariant in
    let y = c.shaped_in.new.cx in
    let on = grown i.search.graph.root_depth i.search.cx y i.search.graph i.search.cache (rests-here i.workspace.now i.crate_id.index i.limits.depth i.limits.handles i.search.cx i.search.graph i.search.cache is) c.shaped_in.ensures.advances in
    terms-at-limit (subject i.workspace.now i.crate_id.index i.limits.depth i.limits.handles y i.search.graph) y (holds-as i.workspace.now i.crate_id.index i.limits.depth i.limits.handles i.search.cx y i.search.graph i.search.graph i.search.cache i.search.cache is on) c.shaped_made.result (fault-made c.shaped_made.result c.shaped_in.result _ c.shaped_made.ensures.fault c.shaped_in.ensures.full)
