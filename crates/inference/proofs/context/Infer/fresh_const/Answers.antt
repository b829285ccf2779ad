use Rattle.std.proofs.Common.{◌≡◌, ◌+◌, arith, refl, ap}
use Rattle.type_terms.specs.Promised.Handles.{consts}
use Rattle.type_terms.specs.Promised.Label.{of_const}
use Rattle.infer_table.specs.Content.{Table}
use Rattle.solver_graph.specs.declared.context.SolverCx.{SolverCx}
use Rattle.inference.specs.Inferring.{HasOneMore}
use Rattle.inference.proofs.Calls.{can-same, faithful-fresh}
use Rattle.inference.proofs.Growing.{grown-itself}
use Rattle.inference.proofs.Results.{either, full-at-limit, on-err, on-ok}
use Rattle.inference.proofs.context.Infer.fresh_const.Goals as goal

pub returns-clause-advances : goal.returns-clause-advances
returns-clause-advances g c =
    let x = c.args.search.now.cx in
    let made = c.next_const_var-made in
    c.context_laws.ensures.interner x (record { alloc = x.alloc; interner = made.new.cx; handler = x.handler; store = x.store }) c.requires.select.ready
    (record { handler = refl; store = refl; entries = made.ensures.grew.keeps; lawful = c.lawful.ensures; limit = made.ensures.grew.limit })

pub returns-clause-again : goal.returns-clause-again
returns-clause-again g c =
    let x = c.args.search.now.cx in
    let i = c.args.self.now in
    let made = c.next_const_var-made in
    let y : SolverCx g.row.H.Denot = record x { interner = made.new.cx } in
    let advances = returns-clause-advances g c in
    let keeps = c.context_laws.ensures.keeps x y c.requires.select.ready advances in
    let same : made.new.self.values ≡ i.table.values =
    either made.result _ (on-ok made.result _ _ (λ e. ap (λ (t : Table). t.values) e) made.ensures.made) (on-err made.result _ _ (λ e. ap (λ (t : Table). t.values) e) made.ensures.refused) in
    can-same g.H.GoalHandler.meaning c.args.search.now.graph c.args.search.now.cache x i c.requires y advances.entries made.new.self made.ensures.grows made.ensures.ready same
    c.args.search.now.graph c.args.search.now.cache c.requires.select.empty (c.context_laws.ensures.justified x y c.args.search.now.cache keeps c.requires.select.cache) advances.ready

pub returns-clause-faithful : goal.returns-clause-faithful
returns-clause-faithful g c =
    let x = c.args.search.now.cx in
    let i = c.args.self.now in
    let made = c.next_const_var-made in
    let y : SolverCx g.row.H.Denot = record x { interner = made.new.cx } in
    let advances = returns-clause-advances g c in
    let keeps = c.context_laws.ensures.keeps x y c.requires.select.ready advances in
    on-ok made.result (made.new.self ≡ record i.table { const_vars = i.table.const_vars + 1 })
    (HasOneMore g.H.GoalHandler.meaning of_const i.table.const_vars x i y (record i { table = made.new.self }))
    (λ e.
    let at : made.new.self.const_vars ≡ i.table.const_vars + 1 = ap (λ (t : Table). t.const_vars) e in
    faithful-fresh g.H.GoalHandler.meaning c.args.search.now.graph c.args.search.now.cache x i c.requires y advances.entries made.new.self made.ensures.grows made.ensures.ready
    (ap (λ (t : Table). t.values) e) keeps.world of_const i.table.const_vars refl (omega (arith, at)))
    made.ensures.made

pub returns-clause-full : goal.returns-clause-full
returns-clause-full g c =
    let made = c.next_const_var-made in
    full-at-limit made.result c.args.search.now.cx.interner made.new.cx consts (omega arith) made.ensures.full made.ensures.nothing_made made.ensures.grew.limit

pub returns-clause-grows : goal.returns-clause-grows
returns-clause-grows g c = record { table = c.next_const_var-made.ensures.grows; goals = grown-itself c.args.self.now.goals.obligations.items; mode = refl; limit = refl }
