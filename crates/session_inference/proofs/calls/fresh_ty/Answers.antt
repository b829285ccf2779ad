use Rattle.std.proofs.Common.{◌∙◌, ap, subst, sym}
use Rattle.std.specs.Prelude.{OnOk}
use Rattle.type_terms.specs.Promised.Label.{of_type, infer}
use Rattle.type_terms.specs.Promised.Trees.{leaf}
use Rattle.infer_table.specs.Content.{variables_of}
use Rattle.search_graph.specs.SearchState.{SearchState}
use Rattle.sessions.specs.Promised.Subjects.{Subject}
use Rattle.sessions.proofs.ShortCalls.{terms-at-limit}
use Rattle.inference.proofs.Results.{on-ok}
use Rattle.session_inference.specs.Contexts.{CanInferIn, HasOneMoreIn, LeavesInferring}
use Rattle.session_inference.proofs.Contexts.{advanced, holds-as, infers, is-known, leaves-more, more-in, over-graph, rests-here, subject, within}
use Rattle.session_inference.proofs.OwnTerms.{type-is, err-made, fault-made, on-made, trees-made, variable-over}
use Rattle.session_inference.proofs.calls.fresh_ty.Goals as goal

pub fresh_ty-made-requires : goal.fresh_ty-made-requires
fresh_ty-made-requires c =
    let i = c.session.inside in
    let can = subst (λ (s : Subject). CanInferIn s c.args.context.now) (sym c.session.view_is) c.requires in
    over-graph c.replace-graph.new.dest i.search.graph i.search.cache i.search.cx c.args.context.now (ap (λ (g : SearchState). g.current_depth) (c.replace-graph.ensures.after ∙ c.new-begun.ensures))
    (infers i.workspace.now i.crate_id.index i.limits.depth i.limits.handles i.search.cx i.search.graph i.search.cache c.session.invariant c.args.context.now can)

pub invariant_of-session : goal.invariant_of-session
invariant_of-session c =
    let i = c.session.inside in
    let is = c.session.invariant in
    let call = c.fresh_ty-made in
    let y = call.new.search.cx in
    let k = c.replace.new.dest in
    let ls = call.new.search.cache in
    let same = c.replace.ensures.after ∙ c.replace-graph.ensures.value in
    let on = advanced i.search.graph.root_depth i.search.cx y i.search.graph k i.search.cache ls (rests-here i.workspace.now i.crate_id.index i.limits.depth i.limits.handles i.search.cx i.search.graph i.search.cache is) same call.ensures.advances call.ensures.again.select.cache in
    within i.workspace.now i.crate_id.index i.limits.depth i.limits.handles i.search.cx y i.search.graph k i.search.cache ls is on

pub returns-clause-leaves : goal.returns-clause-leaves
returns-clause-leaves c =
    let i = c.session.inside in
    let is = c.session.invariant in
    let call = c.fresh_ty-made in
    let y = call.new.search.cx in
    let k = c.replace.new.dest in
    let ls = call.new.search.cache in
    let same = c.replace.ensures.after ∙ c.replace-graph.ensures.value in
    let on = advanced i.search.graph.root_depth i.search.cx y i.search.graph k i.search.cache ls (rests-here i.workspace.now i.crate_id.index i.limits.depth i.limits.handles i.search.cx i.search.graph i.search.cache is) same call.ensures.advances call.ensures.again.select.cache in
    let can = subst (λ (s : Subject). CanInferIn s c.args.context.now) (sym c.session.view_is) c.requires in
    let next = over-graph k call.new.search.graph ls y call.new.self on.rest.empty call.ensures.again in
    subst (λ (s : Subject). LeavesInferring s c.args.context.now (subject i.workspace.now i.crate_id.index i.limits.depth i.limits.handles y k) call.new.self) c.session.view_is
    (leaves-more i.workspace.now i.crate_id.index i.limits.depth i.limits.handles i.search.cx y i.search.graph k i.search.cache ls is on c.args.context.now call.new.self can next call.ensures.grows call.result of_type c.args.context.now.table.ty_vars call.ensures.faithful call.ensures.as_it_was)

pub returns-clause-is : goal.returns-clause-is
returns-clause-is c =
    let i = c.session.inside in
    let is = c.session.invariant in
    let call = c.fresh_ty-made in
    let y = call.new.search.cx in
    let k = c.replace.new.dest in
    let ls = call.new.search.cache in
    let same = c.replace.ensures.after ∙ c.replace-graph.ensures.value in
    let on = advanced i.search.graph.root_depth i.search.cx y i.search.graph k i.search.cache ls (rests-here i.workspace.now i.crate_id.index i.limits.depth i.limits.handles i.search.cx i.search.graph i.search.cache is) same call.ensures.advances call.ensures.again.select.cache in
    trees-made y.interner.entries (leaf (infer of_type c.args.context.now.table.ty_vars)) c.type_made.result (type-is y.interner.entries (leaf (infer of_type c.args.context.now.table.ty_vars)) c.type_made.result call.result c.type_made.ensures.ok c.type_made.ensures.both call.ensures.is)

pub returns-clause-over : goal.returns-clause-over
returns-clause-over c =
    let i = c.session.inside in
    let is = c.session.invariant in
    let call = c.fresh_ty-made in
    let y = call.new.search.cx in
    let k = c.replace.new.dest in
    let ls = call.new.search.cache in
    let same = c.replace.ensures.after ∙ c.replace-graph.ensures.value in
    let on = advanced i.search.graph.root_depth i.search.cx y i.search.graph k i.search.cache ls (rests-here i.workspace.now i.crate_id.index i.limits.depth i.limits.handles i.search.cx i.search.graph i.search.cache is) same call.ensures.advances call.ensures.again.select.cache in
    let can = subst (λ (s : Subject). CanInferIn s c.args.context.now) (sym c.session.view_is) c.requires in
    let next = over-graph k call.new.search.graph ls y call.new.self on.rest.empty call.ensures.again in
    variable-over y.interner.entries (variables_of call.new.self.table) of_type c.args.context.now.table.ty_vars c.type_made.result call.result c.type_made.ensures.both
    (on-ok call.result _ _ (is-known i.workspace.now i.crate_id.index i.limits.depth i.limits.handles i.search.cx y i.search.graph k i.search.cache ls is on c.args.context.now call.new.self can next call.ensures.grows of_type c.args.context.now.table.ty_vars) call.ensures.faithful)
    (type-is y.interner.entries (leaf (infer of_type c.args.context.now.table.ty_vars)) c.type_made.result call.result c.type_made.ensures.ok c.type_made.ensures.both call.ensures.is)

pub returns-clause-faithful : goal.returns-clause-faithful
returns-clause-faithful c =
    let i = c.session.inside in
    let is = c.session.invariant in
    let call = c.fresh_ty-made in
    let y = call.new.search.cx in
    let k = c.replace.new.dest in
    let ls = call.new.search.cache in
    let same = c.replace.ensures.after ∙ c.replace-graph.ensures.value in
    let on = advanced i.search.graph.root_depth i.search.cx y i.search.graph k i.search.cache ls (rests-here i.workspace.now i.crate_id.index i.limits.depth i.limits.handles i.search.cx i.search.graph i.search.cache is) same call.ensures.advances call.ensures.again.select.cache in
    subst (λ (s : Subject). OnOk c.type_made.result (HasOneMoreIn of_type c.args.context.now.table.ty_vars s c.args.context.now (subject i.workspace.now i.crate_id.index i.limits.depth i.limits.handles y k) call.new.self)) c.session.view_is
    (on-made c.type_made.result call.result _ c.type_made.ensures.both (on-ok call.result _ _ (more-in i.workspace.now i.crate_id.index i.limits.depth i.limits.handles i.search.cx y i.search.graph k i.search.cache ls is on of_type c.args.context.now.table.ty_vars c.args.context.now call.new.self) call.ensures.faithful))

pub returns-clause-as_it_was : goal.returns-clause-as_it_was
returns-clause-as_it_was c = err-made c.type_made.result c.fresh_ty-made.result _ c.type_made.ensures.fault c.fresh_ty-made.ensures.as_it_was

pub returns-clause-full : goal.returns-clause-full
returns-clause-full c =
    let i = c.session.inside in
    let is = c.session.invariant in
    let call = c.fresh_ty-made in
    let y = call.new.search.cx in
    let k = c.replace.new.dest in
    let ls = call.new.search.cache in
    let same = c.replace.ensures.after ∙ c.replace-graph.ensures.value in
    let on = advanced i.search.graph.root_depth i.search.cx y i.search.graph k i.search.cache ls (rests-here i.workspace.now i.crate_id.index i.limits.depth i.limits.handles i.search.cx i.search.graph i.search.cache is) same call.ensures.advances call.ensures.again.select.cache in
    terms-at-limit (subject i.workspace.now i.crate_id.index i.limits.depth i.limits.handles y k) y (holds-as i.workspace.now i.crate_id.index i.limits.depth i.limits.handles i.search.cx y i.search.graph k i.search.cache ls is on) c.type_made.result (fault-made c.type_made.result call.result _ c.type_made.ensures.fault call.ensures.full)
