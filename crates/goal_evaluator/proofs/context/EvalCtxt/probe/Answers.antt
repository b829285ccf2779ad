use Rattle.std.proofs.Common.{ap, sym, subst, refl, ◌∙◌}
use Rattle.goal_evaluator.specs.Context.{Context}
use Rattle.goal_evaluator.specs.ContextView.{context_of}
use Rattle.goal_evaluator.specs.Probes.{Returns, ContextContinues}
use Rattle.goal_evaluator.proofs.Undone.{clone-same, clones-same, put-back}
use Rattle.goal_evaluator.proofs.context.EvalCtxt.probe.Goals as goal

pub returns-clause-returned : goal.returns-clause-returned
returns-clause-returned g c =
    let gave : Returns g.F.FnOnce c.args.f c.args.self.now c.args.cx.now c.f-outcome.result c.f-outcome.new.arg2 c.f-outcome.new.arg3 = record { context = _; interner = _; shows = (refl, refl); left = _; met = c.f-outcome.ensures; leaves = (refl, refl) } in
    let before = context_of c.self.inside in
    let after = context_of c.self-2.inside in
    let continues : ContextContinues before after = subst (λ (x : Context). ContextContinues x after) (sym c.self.view_is) (subst (λ (x : Context). ContextContinues c.args.self.now x) (sym c.self-2.view_is) (c.requires.undoable _ _ _ gave)) in
    let rolled = c.roll_back.ensures before.table c.snapshot-place.ensures continues.table in
    let cloned = clones-same _ (λ n m r. clone-same n m r.0 r.1.0 r.1.1) c.self.inside.nested_goals.items c.in_ok-nested_goals.nested_goals.items c.in_ok-nested_goals.ensures.cases.0 in
    let restored = put-back before after _ _ continues rolled cloned ∙ ap (λ (x : Context). record x { capacity = after.capacity }) c.self.view_is
    ∙ ap (λ (x : Context). record c.args.self.now { capacity = x.capacity }) c.self-2.view_is in
    (c.f-outcome.new.arg2, gave, restored)
