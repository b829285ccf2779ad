use Rattle.std.proofs.Common.{◌≡◌, ◌∙◌, ◌≤◌, ◌+◌, ap, [], None, Some, Ok, subst, sym}
use Rattle.fulfillment.specs.declared.obligation.ObligationId.{ObligationId}
use Rattle.fulfillment.specs.declared.selecting.Selected.TheVariants as outcome
use Rattle.sessions.specs.Promised.Subjects.{Subject}
use Rattle.sessions.proofs.ShortCalls.{at-limit}
use Rattle.session_inference.specs.Contexts.{CanInferIn, HaveNoSolutionIn, IsAskedFurtherIn, HasSpent, LeavesInferring, SomeIsUnsettledIn}
use Rattle.session_inference.proofs.Contexts.{done-proved, further-in, holds-as, infers, leaves-asked, never-in, rests-here, selected, subject, unsettled-in, within}
use Rattle.session_inference.proofs.calls.select_where_possible.Goals as goal

pub select_where_possible-requires : goal.select_where_possible-requires
select_where_possible-requires c =
    let i = c.session.inside in
    let can = subst (λ (s : Subject). CanInferIn s c.args.context.now) (sym c.session.view_is) c.requires in
    infers i.workspace.now i.crate_id.index i.limits.depth i.limits.handles i.search.cx i.search.graph i.search.cache c.session.invariant c.args.context.now can

pub invariant_of-session : goal.invariant_of-session
invariant_of-session c =
    let i = c.session.inside in
    let is = c.session.invariant in
    let call = c.select_where_possible in
    let y = call.new.search.cx in
    let k = call.new.search.graph in
    let ls = call.new.search.cache in
    let on =
    selected i.search.graph.root_depth i.search.cx y i.search.graph k i.search.cache ls c.args.context.now call.new.self (rests-here i.workspace.now i.crate_id.index i.limits.depth i.limits.handles i.search.cx i.search.graph i.search.cache is) call.ensures.again call.ensures.selected
    in
    within i.workspace.now i.crate_id.index i.limits.depth i.limits.handles i.search.cx y i.search.graph k i.search.cache ls is on

pub returns-clause-leaves : goal.returns-clause-leaves
returns-clause-leaves c =
    let i = c.session.inside in
    let is = c.session.invariant in
    let call = c.select_where_possible in
    let y = call.new.search.cx in
    let k = call.new.search.graph in
    let ls = call.new.search.cache in
    let on =
    selected i.search.graph.root_depth i.search.cx y i.search.graph k i.search.cache ls c.args.context.now call.new.self (rests-here i.workspace.now i.crate_id.index i.limits.depth i.limits.handles i.search.cx i.search.graph i.search.cache is) call.ensures.again call.ensures.selected
    in
    let can = subst (λ (s : Subject). CanInferIn s c.args.context.now) (sym c.session.view_is) c.requires in
    subst (λ (s : Subject). LeavesInferring s c.args.context.now (subject i.workspace.now i.crate_id.index i.limits.depth i.limits.handles y k) call.new.self) c.session.view_is
    (leaves-asked i.workspace.now i.crate_id.index i.limits.depth i.limits.handles i.search.cx y i.search.graph k i.search.cache ls is on c.args.context.now call.new.self can call.ensures.again call.ensures.grows [] call.ensures.faithful)

pub returns-clause-faithful : goal.returns-clause-faithful
returns-clause-faithful c =
    let i = c.session.inside in
    let is = c.session.invariant in
    let call = c.select_where_possible in
    let y = call.new.search.cx in
    let k = call.new.search.graph in
    let ls = call.new.search.cache in
    let on =
    selected i.search.graph.root_depth i.search.cx y i.search.graph k i.search.cache ls c.args.context.now call.new.self (rests-here i.workspace.now i.crate_id.index i.limits.depth i.limits.handles i.search.cx i.search.graph i.search.cache is) call.ensures.again call.ensures.selected
    in
    subst (λ (s : Subject). IsAskedFurtherIn [] s c.args.context.now (subject i.workspace.now i.crate_id.index i.limits.depth i.limits.handles y k) call.new.self) c.session.view_is (further-in i.workspace.now i.crate_id.index i.limits.depth i.limits.handles i.search.cx y i.search.graph k i.search.cache ls is on [] c.args.context.now call.new.self call.ensures.faithful)

pub returns-clause-done : goal.returns-clause-done
returns-clause-done c =
    let i = c.session.inside in
    let is = c.session.invariant in
    let call = c.select_where_possible in
    let y = call.new.search.cx in
    let k = call.new.search.graph in
    let ls = call.new.search.cache in
    let on =
    selected i.search.graph.root_depth i.search.cx y i.search.graph k i.search.cache ls c.args.context.now call.new.self
    (rests-here i.workspace.now i.crate_id.index i.limits.depth i.limits.handles i.search.cx i.search.graph i.search.cache is) call.ensures.again call.ensures.selected
    in
    let can = subst (λ (s : Subject). CanInferIn s c.args.context.now) (sym c.session.view_is) c.requires in
    let f = can.faithful in
    done-proved i.workspace.now i.crate_id.index i.limits.depth i.limits.handles i.search.cx y i.search.graph k i.search.cache ls is on c.args.context.now call.new.self can call.ensures.again call.ensures.grows
    (f.0, f.1, further-in i.workspace.now i.crate_id.index i.limits.depth i.limits.handles i.search.cx y i.search.graph k i.search.cache ls is on [] c.args.context.now call.new.self call.ensures.faithful f.0 f.1 f.2)

pub returns-clause-unsettled : goal.returns-clause-unsettled
returns-clause-unsettled c =
    let i = c.session.inside in
    subst (λ (s : Subject). c.select_where_possible.result ≡ Ok (Some outcome.Pending) → SomeIsUnsettledIn s c.args.context.now) c.session.view_is
    (λ e. unsettled-in i.workspace.now i.crate_id.index i.limits.depth i.limits.handles i.search.cx i.search.graph i.search.cache c.session.invariant c.args.context.now (c.select_where_possible.ensures.unsettled e))

pub returns-clause-refused : goal.returns-clause-refused
returns-clause-refused c =
    let i = c.session.inside in
    subst (λ (s : Subject). (id : ObligationId) → c.select_where_possible.result ≡ Ok (Some (outcome.Refused id)) → HaveNoSolutionIn [] s c.args.context.now) c.session.view_is
    (λ id e. never-in i.workspace.now i.crate_id.index i.limits.depth i.limits.handles i.search.cx i.search.graph i.search.cache c.session.invariant [] c.args.context.now (c.select_where_possible.ensures.refused id e))

pub returns-clause-full : goal.returns-clause-full
returns-clause-full c =
    let i = c.session.inside in
    let is = c.session.invariant in
    let call = c.select_where_possible in
    let y = call.new.search.cx in
    let k = call.new.search.graph in
    let ls = call.new.search.cache in
    let on =
    selected i.search.graph.root_depth i.search.cx y i.search.graph k i.search.cache ls c.args.context.now call.new.self (rests-here i.workspace.now i.crate_id.index i.limits.depth i.limits.handles i.search.cx i.search.graph i.search.cache is) call.ensures.again call.ensures.selected
    in
    at-limit (subject i.workspace.now i.crate_id.index i.limits.depth i.limits.handles y k) y (holds-as i.workspace.now i.crate_id.index i.limits.depth i.limits.handles i.search.cx y i.search.graph k i.search.cache ls is on) call.result call.ensures.full

pub returns-clause-stopped : goal.returns-clause-stopped
returns-clause-stopped c =
    let i = c.session.inside in
    let call = c.select_where_possible in
    subst (λ (s : Subject). call.result ≡ Ok None → HasSpent c.args.budget s (subject i.workspace.now i.crate_id.index i.limits.depth i.limits.handles call.new.search.cx call.new.search.graph)) c.session.view_is
    (λ e.
    let x = call.ensures.stopped e in
    let y = c.frames_behind-until.ensures x.0 x.1 in
    (y.0, y.1, subst (λ n. n ≤ call.new.search.graph.frames) (y.2 ∙ ap (λ n. n + y.0) c.frames.ensures) x.2))
