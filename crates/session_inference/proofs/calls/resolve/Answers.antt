use Rattle.std.proofs.Common.{◌≡◌, ◌∙◌, [], ap, subst, sym}
use Rattle.std.specs.Prelude.{IfOk}
use Rattle.type_terms.specs.Promised.Handles.{arg_trees}
use Rattle.infer_table.specs.Content.{content, variables_of}
use Rattle.infer_table.specs.Solutions.{resolved}
use Rattle.search_graph.specs.SearchState.{SearchState}
use Rattle.sessions.specs.Promised.Subjects.{Subject}
use Rattle.sessions.proofs.ShortCalls.{terms-at-limit}
use Rattle.inference.proofs.Growing.{itself}
use Rattle.session_inference.specs.Contexts.{CanInferIn, IsAskedFurtherIn, IsTermOver, LeavesInferring, ShowsSolutionsIn}
use Rattle.session_inference.proofs.Contexts.{advanced, further-in, holds-as, infers, leaves-asked, over-graph, rests-here, shows-in, subject, within}
use Rattle.session_inference.proofs.OwnTerms.{all-shown, shown-over}
use Rattle.session_inference.proofs.calls.resolve.Goals as goal

pub resolve-made-requires-clause-can : goal.resolve-made-requires-clause-can
resolve-made-requires-clause-can c =
    let i = c.session.inside in
    let can = subst (λ (s : Subject). CanInferIn s c.args.context.now) (sym c.session.view_is) c.requires.can in
    over-graph c.replace-graph.new.dest i.search.graph i.search.cache i.search.cx c.args.context.now (ap (λ (g : SearchState). g.current_depth) (c.replace-graph.ensures.after ∙ c.new-begun.ensures))
    (infers i.workspace.now i.crate_id.index i.limits.depth i.limits.handles i.search.cx i.search.graph i.search.cache c.session.invariant c.args.context.now can)

pub resolve-made-requires-clause-held : goal.resolve-made-requires-clause-held
resolve-made-requires-clause-held c = (subst (λ (s : Subject). IsTermOver s.terms (variables_of c.args.context.now.table) c.args.term) (sym c.session.view_is) c.requires.term).0

pub invariant_of-session : goal.invariant_of-session
invariant_of-session c =
    let i = c.session.inside in
    let is = c.session.invariant in
    let call = c.resolve-made in
    let y = call.new.search.cx in
    let k = c.replace.new.dest in
    let ls = call.new.search.cache in
    let same = c.replace.ensures.after ∙ c.replace-graph.ensures.value in
    let on = advanced i.search.graph.root_depth i.search.cx y i.search.graph k i.search.cache ls (rests-here i.workspace.now i.crate_id.index i.limits.depth i.limits.handles i.search.cx i.search.graph i.search.cache is) same call.ensures.advances call.ensures.again.select.cache in
    within i.workspace.now i.crate_id.index i.limits.depth i.limits.handles i.search.cx y i.search.graph k i.search.cache ls is on

pub returns-clause-leaves : goal.returns-clause-leaves
returns-clause-leaves c =
    let i = c.session.inside in
    let is = c.session.invariant in
    let call = c.resolve-made in
    let y = call.new.search.cx in
    let k = c.replace.new.dest in
    let ls = call.new.search.cache in
    let same = c.replace.ensures.after ∙ c.replace-graph.ensures.value in
    let on = advanced i.search.graph.root_depth i.search.cx y i.search.graph k i.search.cache ls (rests-here i.workspace.now i.crate_id.index i.limits.depth i.limits.handles i.search.cx i.search.graph i.search.cache is) same call.ensures.advances call.ensures.again.select.cache in
    let can = subst (λ (s : Subject). CanInferIn s c.args.context.now) (sym c.session.view_is) c.requires.can in
    let next = over-graph k call.new.search.graph ls y c.args.context.now on.rest.empty call.ensures.again in
    subst (λ (s : Subject). LeavesInferring s c.args.context.now (subject i.workspace.now i.crate_id.index i.limits.depth i.limits.handles y k) c.args.context.now) c.session.view_is
    (leaves-asked i.workspace.now i.crate_id.index i.limits.depth i.limits.handles i.search.cx y i.search.graph k i.search.cache ls is on c.args.context.now c.args.context.now can next (itself c.args.context.now) [] call.ensures.faithful)

pub returns-clause-faithful : goal.returns-clause-faithful
returns-clause-faithful c =
    let i = c.session.inside in
    let is = c.session.invariant in
    let call = c.resolve-made in
    let y = call.new.search.cx in
    let k = c.replace.new.dest in
    let ls = call.new.search.cache in
    let same = c.replace.ensures.after ∙ c.replace-graph.ensures.value in
    let on = advanced i.search.graph.root_depth i.search.cx y i.search.graph k i.search.cache ls (rests-here i.workspace.now i.crate_id.index i.limits.depth i.limits.handles i.search.cx i.search.graph i.search.cache is) same call.ensures.advances call.ensures.again.select.cache in
    subst (λ (s : Subject). IsAskedFurtherIn [] s c.args.context.now (subject i.workspace.now i.crate_id.index i.limits.depth i.limits.handles y k) c.args.context.now) c.session.view_is
    (further-in i.workspace.now i.crate_id.index i.limits.depth i.limits.handles i.search.cx y i.search.graph k i.search.cache ls is on [] c.args.context.now c.args.context.now call.ensures.faithful)

pub returns-clause-over : goal.returns-clause-over
returns-clause-over c =
    let i = c.session.inside in
    let is = c.session.invariant in
    let call = c.resolve-made in
    let y = call.new.search.cx in
    let k = c.replace.new.dest in
    let ls = call.new.search.cache in
    let same = c.replace.ensures.after ∙ c.replace-graph.ensures.value in
    let on = advanced i.search.graph.root_depth i.search.cx y i.search.graph k i.search.cache ls (rests-here i.workspace.now i.crate_id.index i.limits.depth i.limits.handles i.search.cx i.search.graph i.search.cache is) same call.ensures.advances call.ensures.again.select.cache in
    let can = subst (λ (s : Subject). CanInferIn s c.args.context.now) (sym c.session.view_is) c.requires.can in
    let es = i.search.cx.interner.entries in
    shown-over y.interner.entries (variables_of c.args.context.now.table) (content es c.args.context.now.table.values) (arg_trees es c.args.term) call.result can.over.values (subst (λ (s : Subject). IsTermOver s.terms (variables_of c.args.context.now.table) c.args.term) (sym c.session.view_is) c.requires.term).1
    call.ensures.held call.ensures.resolved

pub returns-clause-resolved : goal.returns-clause-resolved
returns-clause-resolved c =
    subst (λ (s : Subject). IfOk c.resolve-made.result (λ a. arg_trees c.resolve-made.new.search.cx.interner.entries a ≡ resolved (content s.terms c.args.context.now.table.values) (arg_trees s.terms c.args.term)))
    c.session.view_is c.resolve-made.ensures.resolved

pub returns-clause-shows : goal.returns-clause-shows
returns-clause-shows c =
    let i = c.session.inside in
    let es = i.search.cx.interner.entries in
    let fs = c.resolve-made.new.search.cx.interner.entries in
    subst (λ (s : Subject). IfOk c.resolve-made.result (λ a. ShowsSolutionsIn s c.args.context.now (arg_trees s.terms c.args.term) (arg_trees fs a))) c.session.view_is
    (all-shown c.resolve-made.result _ _ (λ a. shows-in i.workspace.now i.crate_id.index i.limits.depth i.limits.handles i.search.cx i.search.graph i.search.cache c.session.invariant c.args.context.now (arg_trees es c.args.term) (arg_trees fs a)) c.resolve-made.ensures.shows)

pub returns-clause-full : goal.returns-clause-full
returns-clause-full c =
    let i = c.session.inside in
    let is = c.session.invariant in
    let call = c.resolve-made in
    let y = call.new.search.cx in
    let k = c.replace.new.dest in
    let ls = call.new.search.cache in
    let same = c.replace.ensures.after ∙ c.replace-graph.ensures.value in
    let on = advanced i.search.graph.root_depth i.search.cx y i.search.graph k i.search.cache ls (rests-here i.workspace.now i.crate_id.index i.limits.depth i.limits.handles i.search.cx i.search.graph i.search.cache is) same call.ensures.advances call.ensures.again.select.cache in
    terms-at-limit (subject i.workspace.now i.crate_id.index i.limits.depth i.limits.handles y k) y (holds-as i.workspace.now i.crate_id.index i.limits.depth i.limits.handles i.search.cx y i.search.graph k i.search.cache ls is on) call.result call.ensures.full
