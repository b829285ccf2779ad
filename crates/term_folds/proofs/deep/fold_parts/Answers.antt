use Rattle.std.proofs.Common.{refl, subst, ◌∙◌}
use Rattle.term_folds.specs.Deep.{StepsHeld}
use Rattle.term_folds.proofs.DeepFacts.{steps-split}
use Rattle.term_folds.proofs.deep.fold_parts.Goals as goal

pub loop-init : goal.loop-init
loop-init g c = (λ i e h. h, c.requires.ready, c.requires.known, c.requires.todo, refl)

pub take_step-requires-clause-held : goal.take_step-requires-clause-held
take_step-requires-clause-held g c = (steps-split c.loop.cx.entries _ _ (subst (StepsHeld c.loop.cx.entries) c.in-Some.ensures.items c.loop.invariant.3)).1

pub take_step-requires-clause-todo : goal.take_step-requires-clause-todo
take_step-requires-clause-todo g c = (steps-split c.loop.cx.entries _ _ (subst (StepsHeld c.loop.cx.entries) c.in-Some.ensures.items c.loop.invariant.3)).0

pub loop-preserved : goal.loop-preserved
loop-preserved g c =
    let inv = c.loop.invariant in (
      λ i e h. c.take_step.ensures.grew.keeps i e (inv.0 i e h),
      g.met.F.FallibleTypeFolder.ready_kept c.args.folder.now c.loop.cx.entries c.take_step.new.cx.entries c.take_step.ensures.grew.keeps inv.1,
      c.in_ok-take_step.ensures.known,
      c.in_ok-take_step.ensures.todo,
      c.take_step.ensures.grew.limit ∙ inv.4,
    )
