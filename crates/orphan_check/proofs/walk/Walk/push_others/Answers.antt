use Rattle.std.proofs.Common.{refl, ◌∙◌, ap, subst, ◌≡◌, ◌++◌, ◌∷◌, []}
use Rattle.type_terms.specs.Promised.Handles.{ArgsHeld}
use Rattle.type_terms.specs.declared.kinds.GenericArgKind.TheVariants.{Ty}
use Rattle.orphan_check.specs.Walks.{pending_steps, reads}
use Rattle.orphan_check.proofs.Stepping.{on-top-none, on-top-push, pending-push, push-last, skip-last, args-held-append}
use Rattle.orphan_check.proofs.walk.Walk.push_others.Goals as goal

pub others-init : goal.others-init
others-init g c = (c.requires.held, c.requires.pending_held, refl, on-top-none c.args.limit c.args.pending.now.items)

pub others-preserved-in_ok-push : goal.others-preserved-in_ok-push
others-preserved-in_ok-push g c =
    let es = c.args.self.now.context.cx.now.entries in
    let r = reads g.N.Normalize.answers c.args.self.now in
    let is : c.others.left.now ≡ c.in-Some.others.now ++ Ty c.in-Ty.ty ∷ [] = c.in-Some.ensures.cases.0 ∙ ap (λ z. c.in-Some.others.now ++ z ∷ []) c.in-Ty.is in
    let held = args-held-append es c.in-Some.others.now (Ty c.in-Ty.ty) (subst (ArgsHeld es) is c.others.invariant.0) in (
      held.0,
      pending-push es c.others.pending.items c.push.new.self.items _ c.in_ok-push.ensures.items c.others.invariant.1 held.1,
      push-last es c.lawful.ensures r c.args.limit c.args.args.now c.others.left.now c.in-Some.others.now c.in-Ty.ty c.args.pending.now.items c.others.pending.items c.push.new.self.items _ is c.others.invariant.0
          c.in_ok-push.ensures.items refl refl refl c.others.invariant.2,
      on-top-push c.args.limit c.args.pending.now.items c.others.pending.items c.push.new.self.items _ c.others.invariant.3 c.in_ok-push.ensures.items refl,
    )

pub others-preserved : goal.others-preserved
others-preserved g c =
    let es = c.args.self.now.context.cx.now.entries in
    let r = reads g.N.Normalize.answers c.args.self.now in
    let is = c.in-Some.ensures.cases.0 in (
      (args-held-append es c.in-Some.others.now c.in-Some.last.now (subst (ArgsHeld es) is c.others.invariant.0)).0,
      c.others.invariant.1,
      c.others.invariant.2
          ∙ ap (λ z. z ++ pending_steps es r c.others.pending.items)
          (skip-last es c.lawful.ensures r c.args.limit c.others.left.now c.in-Some.others.now c.in-Some.last.now is c.others.invariant.0 (λ t e. c.in_default-last.not-Ty _ e)),
      c.others.invariant.3,
    )
