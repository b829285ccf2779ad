use Rattle.std.proofs.Common.{◌≡◌, ℕ, true, subst, sym}
use Rattle.std.specs.Prelude.{IfOk}
use Rattle.type_terms.specs.Promised.Handles.{ArgsHeld}
use Rattle.type_terms.specs.Promised.Label.{Sort}
use Rattle.type_terms.specs.Promised.Worlds.{World}
use Rattle.infer_table.specs.Goals.{goal_trees}
use Rattle.candidate_model.specs.DeclaredWell.{is_declared_well}
use Rattle.text_lowering.specs.Promised.SeenWorlds.{plainly_seen_from}
use Rattle.sessions.specs.Promised.Subjects.{Subject, StaysOn}
use Rattle.inference.specs.Inferring.{GoalIsOver}
use Rattle.session_inference.specs.Assuming.{goal_by, goal_over}
use Rattle.session_inference.specs.Contexts.{AreTermsOver, LetsRest}
use Rattle.session_inference.proofs.Assumed.{goal-at-limit, goal-over, view-declared}
use Rattle.session_inference.proofs.Contexts.{grown, holds-as, lets-rest, rests-here, stays-on, subject, within}
use Rattle.session_inference.proofs.calls.trait_goal.Goals as goal

pub goal_in-requires-clause-ready : goal.goal_in-requires-clause-ready
goal_in-requires-clause-ready c = c.session.invariant.session.rest.ready

pub goal_in-requires-clause-terms : goal.goal_in-requires-clause-terms
goal_in-requires-clause-terms c = subst (λ (s : Subject). ArgsHeld s.terms c.args.stated.terms.now) (sym c.session.view_is) c.requires

pub invariant_of-session : goal.invariant_of-session
invariant_of-session c =
    let i = c.session.inside in
    let is = c.session.invariant in
    let y = c.goal_in.new.cx in
    let on = grown i.search.graph.root_depth i.search.cx y i.search.graph i.search.cache (rests-here i.workspace.now i.crate_id.index i.limits.depth i.limits.handles i.search.cx i.search.graph i.search.cache is) c.goal_in.ensures.advances in
    within i.workspace.now i.crate_id.index i.limits.depth i.limits.handles i.search.cx y i.search.graph i.search.graph i.search.cache i.search.cache is on

pub returns-clause-stays : goal.returns-clause-stays
returns-clause-stays c =
    let i = c.session.inside in
    let is = c.session.invariant in
    let y = c.goal_in.new.cx in
    let on = grown i.search.graph.root_depth i.search.cx y i.search.graph i.search.cache (rests-here i.workspace.now i.crate_id.index i.limits.depth i.limits.handles i.search.cx i.search.graph i.search.cache is) c.goal_in.ensures.advances in
    subst (λ (s : Subject). StaysOn s (subject i.workspace.now i.crate_id.index i.limits.depth i.limits.handles y i.search.graph)) c.session.view_is (stays-on i.workspace.now i.crate_id.index i.limits.depth i.limits.handles i.search.cx y i.search.graph i.search.graph i.search.cache i.search.cache is on)

pub returns-clause-rests : goal.returns-clause-rests
returns-clause-rests c =
    let i = c.session.inside in
    let is = c.session.invariant in
    let y = c.goal_in.new.cx in
    let on = grown i.search.graph.root_depth i.search.cx y i.search.graph i.search.cache (rests-here i.workspace.now i.crate_id.index i.limits.depth i.limits.handles i.search.cx i.search.graph i.search.cache is) c.goal_in.ensures.advances in
    subst (λ (s : Subject). LetsRest s (subject i.workspace.now i.crate_id.index i.limits.depth i.limits.handles y i.search.graph)) c.session.view_is (lets-rest i.workspace.now i.crate_id.index i.limits.depth i.limits.handles i.search.cx y i.search.graph i.search.graph i.search.cache i.search.cache is on)

pub returns-clause-is : goal.returns-clause-is
returns-clause-is c =
    let i = c.session.inside in
    let fs = c.goal_in.new.cx.interner.entries in
    let ts = c.args.stated.terms.now in
    let qs = c.args.stated.assumptions.now in
    subst (λ (s : Subject). IfOk c.goal_in.result (λ g. goal_trees fs g ≡ goal_over s ts qs c.args.trait_id.index c.args.ids.now)) c.session.view_is
    (subst (λ (V : World). IfOk c.goal_in.result (λ g. goal_trees fs g ≡ goal_by V i.search.cx.interner.entries ts qs c.args.trait_id.index c.args.ids.now)) c.session.invariant.session.view.written c.goal_in.ensures.is)

pub returns-clause-over : goal.returns-clause-over
returns-clause-over c =
    let i = c.session.inside in
    let is = c.session.invariant in
    let ts = c.args.stated.terms.now in
    let qs = c.args.stated.assumptions.now in
    let declared = view-declared (plainly_seen_from i.workspace.now i.crate_id.index) (subst (λ (V : World). is_declared_well V ≡ true) is.session.view.written is.session.rest.ready.handler.well) in
    subst (λ (s : Subject). (n : Sort → ℕ) → AreTermsOver s.terms n ts → GoalIsOver n (goal_over s ts qs c.args.trait_id.index c.args.ids.now)) c.session.view_is
    (λ n all. goal-over n (plainly_seen_from i.workspace.now i.crate_id.index) declared i.search.cx.interner.entries ts all qs c.args.trait_id.index c.args.ids.now)

pub returns-clause-full : goal.returns-clause-full
returns-clause-full c =
    let i = c.session.inside in
    let is = c.session.invariant in
    let y = c.goal_in.new.cx in
    let on = grown i.search.graph.root_depth i.search.cx y i.search.graph i.search.cache (rests-here i.workspace.now i.crate_id.index i.limits.depth i.limits.handles i.search.cx i.search.graph i.search.cache is) c.goal_in.ensures.advances in
    goal-at-limit (subject i.workspace.now i.crate_id.index i.limits.depth i.limits.handles y i.search.graph) y (holds-as i.workspace.now i.crate_id.index i.limits.depth i.limits.handles i.search.cx y i.search.graph i.search.graph i.search.cache i.search.cache is on) c.goal_in.result c.goal_in.ensures.fault
