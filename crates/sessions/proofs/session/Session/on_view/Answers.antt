use Rattle.std.proofs.Common.{◌∙◌, ap}
use Rattle.type_terms.specs.Terms.{Terms}
use Rattle.candidate_assembly.specs.declared.solver.Solver.{Solver}
use Rattle.sessions.proofs.SeenViews.{ready-by, session-on}
use Rattle.sessions.proofs.session.Session.on_view.Goals as goal

pub invariant_of-result : goal.invariant_of-result
invariant_of-result c =
    let view = c.args.view in
    let parts = c.into_parts-interner in
    let interner = ap (λ p. p.0) parts.ensures in
    let declarations = c.new-solver.ensures ∙ ap (λ p. p.1) parts.ensures in
    session-on c.args.workspace.now c.args.limits.depth c.args.limits.handles view c.requires.parsed c.requires.view c.new-cx.result
    (c.new-cx.ensures.interner ∙ interner)
    (ap (λ (h : Solver). h.declarations) c.new-cx.ensures.handler ∙ declarations)
    (c.new-cx.ensures.ready (ready-by view.interner.entries parts.result.0.entries view.declarations c.new-solver.result.declarations (ap (λ (t : Terms). t.entries) interner) declarations c.requires.view.ready))
    c.new-cx.ensures.limit c.new-graph.result c.new-cache.result c.new-graph.ensures c.new-cache.ensures
