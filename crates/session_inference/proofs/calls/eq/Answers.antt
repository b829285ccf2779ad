use Rattle.std.proofs.Common.{◌≡◌, ◌∙◌, ◌∷◌, [], Err, ap, subst, sym}
use Rattle.std.specs.Prelude.{OnOk}
use Rattle.type_terms.specs.Promised.Handles.{arg_trees}
use Rattle.infer_table.specs.Content.{variables_of}
use Rattle.infer_table.specs.declared.certainty.EqError.TheVariants as error
use Rattle.search_graph.specs.SearchState.{SearchState}
use Rattle.sessions.specs.Promised.Subjects.{Subject}
use Rattle.inference.specs.Inference.{equal}
use Rattle.inference.proofs.Results.{on-ok}
use Rattle.session_inference.specs.Contexts.{CanInferIn, HaveNoSolutionIn, IsAskedFurtherIn, IsTermOver, LeavesInferring}
use Rattle.session_inference.proofs.Contexts.{advanced, equation-at-limit, further-in, holds-as, infers, leaves-either, never-in, over-graph, rests-here, subject, within}
use Rattle.session_inference.proofs.calls.eq.Goals as goal

pub eq-made-requires-clause-can : goal.eq-made-requires-clause-can
eq-made-requires-clause-can c =
    let i = c.session.inside in
    let can = subst (λ (s : Subject). CanInferIn s c.args.context.now) (sym c.session.view_is) c.requires.can in
    over-graph c.replace-graph.new.dest i.search.graph i.search.cache i.search.cx c.args.context.now (ap (λ (g : SearchState). g.current_depth) (c.replace-graph.ensures.after ∙ c.new-begun.ensures))
    (infers i.workspace.now i.crate_id.index i.limits.depth i.limits.handles i.search.cx i.search.graph i.search.cache c.session.invariant c.args.context.now can)

pub eq-made-requires-clause-left : goal.eq-made-requires-clause-left
eq-made-requires-clause-left c = (subst (λ (s : Subject). IsTermOver s.terms (variables_of c.args.context.now.table) c.args.left) (sym c.session.view_is) c.requires.left).0

pub eq-made-requires-clause-left_over : goal.eq-made-requires-clause-left_over
eq-made-requires-clause-left_over c = (subst (λ (s : Subject). IsTermOver s.terms (variables_of c.args.context.now.table) c.args.left) (sym c.session.view_is) c.requires.left).1

pub eq-made-requires-clause-right : goal.eq-made-requires-clause-right
eq-made-requires-clause-right c = (subst (λ (s : Subject). IsTermOver s.terms (variables_of c.args.context.now.table) c.args.right) (sym c.session.view_is) c.requires.right).0

pub eq-made-requires-clause-right_over : goal.eq-made-requires-clause-right_over
eq-made-requires-clause-right_over c = (subst (λ (s : Subject). IsTermOver s.terms (variables_of c.args.context.now.table) c.args.right) (sym c.session.view_is) c.requires.right).1

pub invariant_of-session : goal.invariant_of-session
invariant_of-session c =
    let i = c.session.inside in
    let is = c.session.invariant in
    let call = c.eq-made in
    let y = call.new.search.cx in
    let k = c.replace.new.dest in
    let ls = call.new.search.cache in
    let same = c.replace.ensures.after ∙ c.replace-graph.ensures.value in
    let on = advanced i.search.graph.root_depth i.search.cx y i.search.graph k i.search.cache ls (rests-here i.workspace.now i.crate_id.index i.limits.depth i.limits.handles i.search.cx i.search.graph i.search.cache is) same call.ensures.advances call.ensures.again.select.cache in
    within i.workspace.now i.crate_id.index i.limits.depth i.limits.handles i.search.cx y i.search.graph k i.search.cache ls is on

pub returns-clause-leaves : goal.returns-clause-leaves
returns-clause-leaves c =
    let i = c.session.inside in
    let is = c.session.invariant in
    let call = c.eq-made in
    let y = call.new.search.cx in
    let k = c.replace.new.dest in
    let ls = call.new.search.cache in
    let same = c.replace.ensures.after ∙ c.replace-graph.ensures.value in
    let on = advanced i.search.graph.root_depth i.search.cx y i.search.graph k i.search.cache ls (rests-here i.workspace.now i.crate_id.index i.limits.depth i.limits.handles i.search.cx i.search.graph i.search.cache is) same call.ensures.advances call.ensures.again.select.cache in
    let can = subst (λ (s : Subject). CanInferIn s c.args.context.now) (sym c.session.view_is) c.requires.can in
    let next = over-graph k call.new.search.graph ls y call.new.self on.rest.empty call.ensures.again in
    let es = i.search.cx.interner.entries in
    subst (λ (s : Subject). LeavesInferring s c.args.context.now (subject i.workspace.now i.crate_id.index i.limits.depth i.limits.handles y k) call.new.self) c.session.view_is
    (leaves-either i.workspace.now i.crate_id.index i.limits.depth i.limits.handles i.search.cx y i.search.graph k i.search.cache ls is on c.args.context.now call.new.self can next call.ensures.grows call.result (equal (arg_trees es c.args.left) (arg_trees es c.args.right) ∷ []) call.ensures.faithful call.ensures.as_it_was)

pub returns-clause-faithful : goal.returns-clause-faithful
returns-clause-faithful c =
    let i = c.session.inside in
    let is = c.session.invariant in
    let call = c.eq-made in
    let y = call.new.search.cx in
    let k = c.replace.new.dest in
    let ls = call.new.search.cache in
    let same = c.replace.ensures.after ∙ c.replace-graph.ensures.value in
    let on = advanced i.search.graph.root_depth i.search.cx y i.search.graph k i.search.cache ls (rests-here i.workspace.now i.crate_id.index i.limits.depth i.limits.handles i.search.cx i.search.graph i.search.cache is) same call.ensures.advances call.ensures.again.select.cache in
    let es = i.search.cx.interner.entries in
    subst (λ (s : Subject). OnOk call.result (IsAskedFurtherIn (equal (arg_trees s.terms c.args.left) (arg_trees s.terms c.args.right) ∷ []) s c.args.context.now (subject i.workspace.now i.crate_id.index i.limits.depth i.limits.handles y k) call.new.self)) c.session.view_is
    (on-ok call.result _ _ (further-in i.workspace.now i.crate_id.index i.limits.depth i.limits.handles i.search.cx y i.search.graph k i.search.cache ls is on (equal (arg_trees es c.args.left) (arg_trees es c.args.right) ∷ []) c.args.context.now call.new.self) call.ensures.faithful)

pub returns-clause-no_solution : goal.returns-clause-no_solution
returns-clause-no_solution c =
    let i = c.session.inside in
    let es = i.search.cx.interner.entries in
    subst (λ (s : Subject). c.eq-made.result ≡ Err error.NoSolution → HaveNoSolutionIn (equal (arg_trees s.terms c.args.left) (arg_trees s.terms c.args.right) ∷ []) s c.args.context.now) c.session.view_is
    (λ e. never-in i.workspace.now i.crate_id.index i.limits.depth i.limits.handles i.search.cx i.search.graph i.search.cache c.session.invariant (equal (arg_trees es c.args.left) (arg_trees es c.args.right) ∷ []) c.args.context.now (c.eq-made.ensures.no_solution e))

pub returns-clause-full : goal.returns-clause-full
returns-clause-full c =
    let i = c.session.inside in
    let is = c.session.invariant in
    let call = c.eq-made in
    let y = call.new.search.cx in
    let k = c.replace.new.dest in
    let ls = call.new.search.cache in
    let same = c.replace.ensures.after ∙ c.replace-graph.ensures.value in
    let on = advanced i.search.graph.root_depth i.search.cx y i.search.graph k i.search.cache ls (rests-here i.workspace.now i.crate_id.index i.limits.depth i.limits.handles i.search.cx i.search.graph i.search.cache is) same call.ensures.advances call.ensures.again.select.cache in
    equation-at-limit (subject i.workspace.now i.crate_id.index i.limits.depth i.limits.handles y k) y (holds-as i.workspace.now i.crate_id.index i.limits.depth i.limits.handles i.search.cx y i.search.graph k i.search.cache ls is on) call.result call.ensures.full
