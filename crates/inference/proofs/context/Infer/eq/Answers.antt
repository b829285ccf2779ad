use Rattle.std.proofs.Common.{refl, ap}
use Rattle.type_terms.specs.Promised.Handles.{arg_trees}
use Rattle.infer_table.specs.Content.{Table}
use Rattle.solver_graph.specs.declared.context.SolverCx.{SolverCx}
use Rattle.inference.proofs.Calls.{can-equal, can-same, faithful-equal}
use Rattle.inference.proofs.Faithful.{never-equal}
use Rattle.inference.proofs.Growing.{grown-itself}
use Rattle.inference.proofs.Results.{either, on-err, on-ok}
use Rattle.inference.proofs.context.Infer.eq.Goals as goal

pub returns-clause-advances : goal.returns-clause-advances
returns-clause-advances g c =
    let x = c.args.search.now.cx in
    let made = c.eq-made in
    c.context_laws.ensures.interner x (record { alloc = x.alloc; interner = made.new.cx; handler = x.handler; store = x.store }) c.requires.can.select.ready
    (record { handler = refl; store = refl; entries = made.ensures.terms.grew.keeps; lawful = c.lawful.ensures; limit = made.ensures.terms.grew.limit })

pub returns-clause-again : goal.returns-clause-again
returns-clause-again g c =
    let x = c.args.search.now.cx in
    let i = c.args.self.now in
    let made = c.eq-made in
    let h = g.H.GoalHandler.meaning in
    let y : SolverCx g.row.H.Denot = record x { interner = made.new.cx } in
    let advances = returns-clause-advances g c in
    let keeps = c.context_laws.ensures.keeps x y c.requires.can.select.ready advances in
    let justified = c.context_laws.ensures.justified x y c.args.search.now.cache keeps c.requires.can.select.cache in
    either made.result _
    (on-ok made.result _ _
    (λ e.
    can-equal h c.args.search.now.graph c.args.search.now.cache x i c.requires.can y advances.entries made.new.self made.ensures.grows made.ensures.ready
    c.args.left c.args.right c.requires.left c.requires.right c.requires.left_over c.requires.right_over e
    c.args.search.now.graph c.args.search.now.cache c.requires.can.select.empty justified advances.ready)
    made.ensures.exact)
    (on-err made.result _ _
    (λ e.
    can-same h c.args.search.now.graph c.args.search.now.cache x i c.requires.can y advances.entries made.new.self made.ensures.grows made.ensures.ready (ap (λ (t : Table). t.values) e)
    c.args.search.now.graph c.args.search.now.cache c.requires.can.select.empty justified advances.ready)
    made.ensures.refused)

pub returns-clause-faithful : goal.returns-clause-faithful
returns-clause-faithful g c =
    let x = c.args.search.now.cx in
    let i = c.args.self.now in
    let made = c.eq-made in
    let y : SolverCx g.row.H.Denot = record x { interner = made.new.cx } in
    let advances = returns-clause-advances g c in
    let keeps = c.context_laws.ensures.keeps x y c.requires.can.select.ready advances in
    on-ok made.result _ _
    (λ e.
    faithful-equal g.H.GoalHandler.meaning c.args.search.now.graph c.args.search.now.cache x i c.requires.can y advances.entries made.new.self made.ensures.grows made.ensures.ready
    c.args.left c.args.right c.requires.left c.requires.right c.requires.left_over c.requires.right_over keeps.world e)
    made.ensures.equates

pub returns-clause-no_solution : goal.returns-clause-no_solution
returns-clause-no_solution g c = λ e.
    let es = c.args.search.now.cx.interner.entries in
    never-equal g.H.GoalHandler.meaning c.args.search.now.cx c.args.self.now (arg_trees es c.args.left) (arg_trees es c.args.right) (c.eq-made.ensures.never e)

pub returns-clause-grows : goal.returns-clause-grows
returns-clause-grows g c = record { table = c.eq-made.ensures.grows; goals = grown-itself c.args.self.now.goals.obligations.items; mode = refl; limit = refl }
