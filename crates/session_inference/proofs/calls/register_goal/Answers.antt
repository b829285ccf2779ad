use Rattle.std.proofs.Common.{◌∷◌, [], subst, sym}
use Rattle.std.specs.Prelude.{OnErr, OnOk}
use Rattle.infer_table.specs.Content.{variables_of}
use Rattle.infer_table.specs.Goals.{GoalHeld, goal_trees}
use Rattle.sessions.specs.Promised.Subjects.{Subject}
use Rattle.inference.specs.Inference.{proved}
use Rattle.inference.specs.Inferring.{GoalIsOver}
use Rattle.inference.proofs.Results.{on-err, on-ok}
use Rattle.session_inference.specs.Contexts.{CanInferIn, IsAskedFurtherIn, LeavesInferring}
use Rattle.session_inference.proofs.Contexts.{further-in, infers, leaves-registered, rests-further, rests-here, stayed}
use Rattle.session_inference.proofs.Restored.{still-as}
use Rattle.session_inference.proofs.calls.register_goal.Goals as goal

pub register-requires-clause-can : goal.register-requires-clause-can
register-requires-clause-can c =
    let i = c.session.inside in
    let can = subst (λ (s : Subject). CanInferIn s c.args.context.now) (sym c.session.view_is) c.requires.can in
    infers i.workspace.now i.crate_id.index i.limits.depth i.limits.handles i.search.cx i.search.graph i.search.cache c.session.invariant c.args.context.now can

pub register-requires-clause-held : goal.register-requires-clause-held
register-requires-clause-held c = subst (λ (s : Subject). GoalHeld s.terms c.args.goal) (sym c.session.view_is) c.requires.held

pub register-requires-clause-over : goal.register-requires-clause-over
register-requires-clause-over c = subst (λ (s : Subject). GoalIsOver (variables_of c.args.context.now.table) (goal_trees s.terms c.args.goal)) (sym c.session.view_is) c.requires.over

pub returns-clause-leaves : goal.returns-clause-leaves
returns-clause-leaves c =
    let i = c.session.inside in
    let is = c.session.invariant in
    let call = c.register in
    let on = stayed i.search.graph.root_depth i.search.cx i.search.graph i.search.cache (rests-here i.workspace.now i.crate_id.index i.limits.depth i.limits.handles i.search.cx i.search.graph i.search.cache is) in
    let es = i.search.cx.interner.entries in
    let d = proved (goal_trees es c.args.goal) ∷ [] in
    let can = subst (λ (s : Subject). CanInferIn s c.args.context.now) (sym c.session.view_is) c.requires.can in
    subst (λ (s : Subject). LeavesInferring s c.args.context.now s call.new.self) c.session.view_is
    (leaves-registered i.workspace.now i.crate_id.index i.limits.depth i.limits.handles i.search.cx i.search.cx i.search.graph i.search.graph i.search.cache i.search.cache is on c.args.context.now call.new.self can call.ensures.again call.ensures.grows call.result d call.ensures.faithful
    (on-err call.result _ _ (λ e. record { table = call.ensures.table; goals = e; mode = call.ensures.mode; limit = call.ensures.limit }) call.ensures.as_it_was))

pub returns-clause-faithful : goal.returns-clause-faithful
returns-clause-faithful c =
    let i = c.session.inside in
    let is = c.session.invariant in
    let call = c.register in
    let on = stayed i.search.graph.root_depth i.search.cx i.search.graph i.search.cache (rests-here i.workspace.now i.crate_id.index i.limits.depth i.limits.handles i.search.cx i.search.graph i.search.cache is) in
    let es = i.search.cx.interner.entries in
    let d = proved (goal_trees es c.args.goal) ∷ [] in
    subst (λ (s : Subject). OnOk call.result (IsAskedFurtherIn (proved (goal_trees s.terms c.args.goal) ∷ []) s c.args.context.now s call.new.self)) c.session.view_is
    (on-ok call.result _ _ (further-in i.workspace.now i.crate_id.index i.limits.depth i.limits.handles i.search.cx i.search.cx i.search.graph i.search.graph i.search.cache i.search.cache is on d c.args.context.now call.new.self) call.ensures.faithful)

pub returns-clause-still : goal.returns-clause-still
returns-clause-still c =
    let i = c.session.inside in
    let is = c.session.invariant in
    let call = c.register in
    let on = stayed i.search.graph.root_depth i.search.cx i.search.graph i.search.cache (rests-here i.workspace.now i.crate_id.index i.limits.depth i.limits.handles i.search.cx i.search.graph i.search.cache is) in
    let can = subst (λ (s : Subject). CanInferIn s c.args.context.now) (sym c.session.view_is) c.requires.can in
    subst (λ (s : Subject). OnErr call.result (IsAskedFurtherIn [] s c.args.context.now s call.new.self)) c.session.view_is
    (on-err call.result _ _ (λ e. still-as c.args.context.now call.new.self (record { table = call.ensures.table; goals = e; mode = call.ensures.mode; limit = call.ensures.limit }) _ _
    (rests-further i.workspace.now i.crate_id.index i.limits.depth i.limits.handles i.search.cx i.search.cx i.search.graph i.search.graph i.search.cache i.search.cache is on c.args.context.now can)) call.ensures.as_it_was)
