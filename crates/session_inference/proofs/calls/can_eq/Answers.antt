use Rattle.std.proofs.Common.{◌≡◌, ◌∙◌, ◌∷◌, [], Ok, true, false, ap, subst, sym}
use Rattle.type_terms.specs.Promised.Handles.{arg_trees}
use Rattle.infer_table.specs.Content.{content, variables_of}
use Rattle.search_graph.specs.SearchState.{SearchState}
use Rattle.sessions.specs.Promised.Subjects.{Subject}
use Rattle.sessions.proofs.ShortCalls.{terms-at-limit}
use Rattle.inference.specs.Inference.{equal}
use Rattle.inference.specs.Inferring.{HasSolution}
use Rattle.session_inference.specs.Contexts.{CanInferIn, HaveNoSolutionIn, IsAskedFurtherIn, IsTermOver, LeavesInferring}
use Rattle.session_inference.proofs.Contexts.{advanced, further-in, holds-as, infers, leaves-asked, never-in, over-graph, rests-here, subject, within}
use Rattle.session_inference.proofs.Restored.{grown-same-context}
use Rattle.session_inference.proofs.calls.can_eq.Goals as goal

pub can_eq-made-requires-clause-can : goal.can_eq-made-requires-clause-can
can_eq-made-requires-clause-can c =
    let i = c.session.inside in
    let can = subst (λ (s : Subject). CanInferIn s c.args.context.now) (sym c.session.view_is) c.requires.can in
    over-graph c.replace-graph.new.dest i.search.graph i.search.cache i.search.cx c.args.context.now (ap (λ (g : SearchState). g.current_depth) (c.replace-graph.ensures.after ∙ c.new-begun.ensures))
    (infers i.workspace.now i.crate_id.index i.limits.depth i.limits.handles i.search.cx i.search.graph i.search.cache c.session.invariant c.args.context.now can)

pub can_eq-made-requires-clause-left : goal.can_eq-made-requires-clause-left
can_eq-made-requires-clause-left c = (subst (λ (s : Subject). IsTermOver s.terms (variables_of c.args.context.now.table) c.args.left) (sym c.session.view_is) c.requires.left).0

pub can_eq-made-requires-clause-left_over : goal.can_eq-made-requires-clause-left_over
can_eq-made-requires-clause-left_over c = (subst (λ (s : Subject). IsTermOver s.terms (variables_of c.args.context.now.table) c.args.left) (sym c.session.view_is) c.requires.left).1

pub can_eq-made-requires-clause-right : goal.can_eq-made-requires-clause-right
can_eq-made-requires-clause-right c = (subst (λ (s : Subject). IsTermOver s.terms (variables_of c.args.context.now.table) c.args.right) (sym c.session.view_is) c.requires.right).0

pub can_eq-made-requires-clause-right_over : goal.can_eq-made-requires-clause-right_over
can_eq-made-requires-clause-right_over c = (subst (λ (s : Subject). IsTermOver s.terms (variables_of c.args.context.now.table) c.args.right) (sym c.session.view_is) c.requires.right).1

pub invariant_of-session : goal.invariant_of-session
invariant_of-session c =
    let i = c.session.inside in
    let is = c.session.invariant in
    let call = c.can_eq-made in
    let y = call.new.search.cx in
    let k = c.replace.new.dest in
    let ls = call.new.search.cache in
    let same = c.replace.ensures.after ∙ c.replace-graph.ensures.value in
    let on = advanced i.search.graph.root_depth i.search.cx y i.search.graph k i.search.cache ls (rests-here i.workspace.now i.crate_id.index i.limits.depth i.limits.handles i.search.cx i.search.graph i.search.cache is) same call.ensures.advances call.ensures.again.select.cache in
    within i.workspace.now i.crate_id.index i.limits.depth i.limits.handles i.search.cx y i.search.graph k i.search.cache ls is on

pub returns-clause-leaves : goal.returns-clause-leaves
returns-clause-leaves c =
    let i = c.session.inside in
    let is = c.session.invariant in
    let call = c.can_eq-made in
    let y = call.new.search.cx in
    let k = c.replace.new.dest in
    let ls = call.new.search.cache in
    let same = c.replace.ensures.after ∙ c.replace-graph.ensures.value in
    let on = advanced i.search.graph.root_depth i.search.cx y i.search.graph k i.search.cache ls (rests-here i.workspace.now i.crate_id.index i.limits.depth i.limits.handles i.search.cx i.search.graph i.search.cache is) same call.ensures.advances call.ensures.again.select.cache in
    let can = subst (λ (s : Subject). CanInferIn s c.args.context.now) (sym c.session.view_is) c.requires.can in
    let next = over-graph k call.new.search.graph ls y call.new.self on.rest.empty call.ensures.again in
    let before = call.ensures.as_before in
    subst (λ (s : Subject). LeavesInferring s c.args.context.now (subject i.workspace.now i.crate_id.index i.limits.depth i.limits.handles y k) call.new.self) c.session.view_is
    (leaves-asked i.workspace.now i.crate_id.index i.limits.depth i.limits.handles i.search.cx y i.search.graph k i.search.cache ls is on c.args.context.now call.new.self can next (grown-same-context c.args.context.now call.new.self before) [] call.ensures.faithful)

pub returns-clause-faithful : goal.returns-clause-faithful
returns-clause-faithful c =
    let i = c.session.inside in
    let is = c.session.invariant in
    let call = c.can_eq-made in
    let y = call.new.search.cx in
    let k = c.replace.new.dest in
    let ls = call.new.search.cache in
    let same = c.replace.ensures.after ∙ c.replace-graph.ensures.value in
    let on = advanced i.search.graph.root_depth i.search.cx y i.search.graph k i.search.cache ls (rests-here i.workspace.now i.crate_id.index i.limits.depth i.limits.handles i.search.cx i.search.graph i.search.cache is) same call.ensures.advances call.ensures.again.select.cache in
    subst (λ (s : Subject). IsAskedFurtherIn [] s c.args.context.now (subject i.workspace.now i.crate_id.index i.limits.depth i.limits.handles y k) call.new.self) c.session.view_is (further-in i.workspace.now i.crate_id.index i.limits.depth i.limits.handles i.search.cx y i.search.graph k i.search.cache ls is on [] c.args.context.now call.new.self call.ensures.faithful)

pub returns-clause-possible : goal.returns-clause-possible
returns-clause-possible c =
    subst (λ (s : Subject). c.can_eq-made.result ≡ Ok true → HasSolution (content s.terms c.args.context.now.table.values) (arg_trees s.terms c.args.left) (arg_trees s.terms c.args.right)) c.session.view_is
    c.can_eq-made.ensures.possible

pub returns-clause-impossible : goal.returns-clause-impossible
returns-clause-impossible c =
    let i = c.session.inside in
    let es = i.search.cx.interner.entries in
    subst (λ (s : Subject). c.can_eq-made.result ≡ Ok false → HaveNoSolutionIn (equal (arg_trees s.terms c.args.left) (arg_trees s.terms c.args.right) ∷ []) s c.args.context.now) c.session.view_is
    (λ e. never-in i.workspace.now i.crate_id.index i.limits.depth i.limits.handles i.search.cx i.search.graph i.search.cache c.session.invariant (equal (arg_trees es c.args.left) (arg_trees es c.args.right) ∷ []) c.args.context.now (c.can_eq-made.ensures.impossible e))

pub returns-clause-full : goal.returns-clause-full
returns-clause-full c =
    let i = c.session.inside in
    let is = c.session.invariant in
    let call = c.can_eq-made in
    let y = call.new.search.cx in
    let k = c.replace.new.dest in
    let ls = call.new.search.cache in
    let same = c.replace.ensures.after ∙ c.replace-graph.ensures.value in
    let on = advanced i.search.graph.root_depth i.search.cx y i.search.graph k i.search.cache ls (rests-here i.workspace.now i.crate_id.index i.limits.depth i.limits.handles i.search.cx i.search.graph i.search.cache is) same call.ensures.advances call.ensures.again.select.cache in
    terms-at-limit (subject i.workspace.now i.crate_id.index i.limits.depth i.limits.handles y k) y (holds-as i.workspace.now i.crate_id.index i.limits.depth i.limits.handles i.search.cx y i.search.graph k i.search.cache ls is on) call.result call.ensures.full
