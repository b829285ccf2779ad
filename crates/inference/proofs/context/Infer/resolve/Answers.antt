use Rattle.std.proofs.Common.{refl}
use Rattle.type_terms.specs.Promised.Handles.{arg_trees}
use Rattle.infer_table.specs.Content.{content}
use Rattle.infer_table.specs.Growth.{grows-refl}
use Rattle.infer_table.proofs.Resolutions.{only-piece}
use Rattle.term_folds.proofs.FoldFacts.{ok-map}
use Rattle.solver_graph.specs.declared.context.SolverCx.{SolverCx}
use Rattle.inference.proofs.Calls.{can-same, faithful-same, shows}
use Rattle.inference.proofs.context.Infer.resolve.Goals as goal

pub returns-clause-advances : goal.returns-clause-advances
returns-clause-advances g c =
    let x = c.args.search.now.cx in
    let call = c.eager_resolve_vars-resolved in
    c.context_laws.ensures.interner x (record { alloc = x.alloc; interner = call.new.cx; handler = x.handler; store = x.store }) c.requires.can.select.ready
    (record { handler = refl; store = refl; entries = call.ensures.terms.grew.keeps; lawful = c.lawful.ensures; limit = call.ensures.terms.grew.limit })

pub returns-clause-again : goal.returns-clause-again
returns-clause-again g c =
    let x = c.args.search.now.cx in
    let i = c.args.self.now in
    let call = c.eager_resolve_vars-resolved in
    let y : SolverCx g.row.H.Denot = record x { interner = call.new.cx } in
    let advances = returns-clause-advances g c in
    let keeps = c.context_laws.ensures.keeps x y c.requires.can.select.ready advances in
    can-same g.H.GoalHandler.meaning c.args.search.now.graph c.args.search.now.cache x i c.requires.can y advances.entries i.table (grows-refl i.table) call.ensures.ready refl
    c.args.search.now.graph c.args.search.now.cache c.requires.can.select.empty (c.context_laws.ensures.justified x y c.args.search.now.cache keeps c.requires.can.select.cache) advances.ready

pub returns-clause-faithful : goal.returns-clause-faithful
returns-clause-faithful g c =
    let x = c.args.search.now.cx in
    let i = c.args.self.now in
    let call = c.eager_resolve_vars-resolved in
    let y : SolverCx g.row.H.Denot = record x { interner = call.new.cx } in
    let advances = returns-clause-advances g c in
    let keeps = c.context_laws.ensures.keeps x y c.requires.can.select.ready advances in
    faithful-same g.H.GoalHandler.meaning c.args.search.now.graph c.args.search.now.cache x i c.requires.can y advances.entries i.table (grows-refl i.table) call.ensures.ready refl keeps.world

pub returns-clause-resolved : goal.returns-clause-resolved
returns-clause-resolved g c =
    let call = c.eager_resolve_vars-resolved in
    let es = c.args.search.now.cx.interner.entries in
    ok-map call.result call.ensures.resolved (λ a h. only-piece (content es c.args.self.now.table.values) (arg_trees es c.args.term) (arg_trees call.new.cx.entries a) h)

pub returns-clause-shows : goal.returns-clause-shows
returns-clause-shows g c =
    let call = c.eager_resolve_vars-resolved in
    let es = c.args.search.now.cx.interner.entries in
    ok-map call.result (returns-clause-resolved g c) (λ a h. shows g.H.GoalHandler.meaning c.args.search.now.cx c.args.self.now (arg_trees es c.args.term) (arg_trees call.new.cx.entries a) h)

pub returns-clause-full : goal.returns-clause-full
returns-clause-full g c = c.eager_resolve_vars-resolved.ensures.terms.full
