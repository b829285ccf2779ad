use Rattle.std.proofs.Common.{refl, ◌∙◌, ap, sym, subst, ◌≡◌, ◌++◌, ◌∷◌, append_assoc, false}
use Rattle.type_terms.specs.Promised.Handles.{trees_at}
use Rattle.type_terms.specs.Kinds.{args_trees}
use Rattle.type_terms.specs.Promised.Handles.{ArgsHeld}
use Rattle.type_terms.specs.declared.kinds.GenericArgKind.TheVariants.{Ty}
use Rattle.orphan_check.specs.Promised.Errors.{is_first}
use Rattle.orphan_check.specs.Steps.{steps_in, steps_to}
use Rattle.orphan_check.specs.Walks.{ArePending, AreOnTop, pending_steps, reads}
use Rattle.orphan_check.proofs.Stepping.{on-top-none, on-top-push, push-steps, first-type, skip-first, no-arguments}
use Rattle.orphan_check.proofs.walk.Walk.push_types.Goals as goal

pub push_others-requires-clause-pending_held : goal.push_others-requires-clause-pending_held
push_others-requires-clause-pending_held g c = subst (ArePending c.args.self.now.context.cx.now.entries) (sym c.types.invariant.1) c.requires.pending_held

pub returns-in-Ty-clause-pushed : goal.returns-in-Ty-clause-pushed
returns-in-Ty-clause-pushed g c =
    let es = c.args.self.now.context.cx.now.entries in
    let r = reads g.N.Normalize.answers c.args.self.now in
    let n = c.args.limit in
    let first = is_first c.args.first in
    let is : c.types.left.now ≡ Ty c.in-Ty.ty ∷ c.in-Some.others.now = c.in-Some.ensures.cases.0 ∙ ap (λ z. z ∷ c.in-Some.others.now) c.in-Ty.is in
    push-steps es r c.push_others.new.pending.items c.push.new.self.items _ c.in_ok-push.ensures.items
    ∙ ap (λ z. steps_to r n first (trees_at es c.in-Ty.ty.0) ++ z)
    (c.in_ok-push_others.ensures.pushed ∙ ap (λ z. steps_in (λ f u. steps_to r n f u) false (args_trees es c.in-Some.others.now) ++ pending_steps es r z) c.types.invariant.1)
    ∙ sym (append_assoc (steps_to r n first (trees_at es c.in-Ty.ty.0)) (steps_in (λ f u. steps_to r n f u) false (args_trees es c.in-Some.others.now)) (pending_steps es r c.args.pending.now.items))
    ∙ ap (λ z. z ++ pending_steps es r c.args.pending.now.items)
    (sym (c.types.invariant.2 ∙ first-type es c.lawful.ensures (λ f u. steps_to r n f u) first c.types.left.now c.in-Some.others.now c.in-Ty.ty is c.types.invariant.0))

pub returns-in-Ty-clause-on_top : goal.returns-in-Ty-clause-on_top
returns-in-Ty-clause-on_top g c =
    on-top-push c.args.limit c.args.pending.now.items c.push_others.new.pending.items c.push.new.self.items _ (subst (λ z. AreOnTop c.args.limit z c.push_others.new.pending.items) c.types.invariant.1 c.in_ok-push_others.ensures.on_top)
    c.in_ok-push.ensures.items refl

pub types-preserved : goal.types-preserved
types-preserved g c =
    let es = c.args.self.now.context.cx.now.entries in
    let r = reads g.N.Normalize.answers c.args.self.now in
    let is = c.in-Some.ensures.cases.0 in (
      (subst (ArgsHeld es) is c.types.invariant.0).1,
      c.types.invariant.1,
      c.types.invariant.2
          ∙ skip-first es c.lawful.ensures (λ f u. steps_to r c.args.limit f u) (is_first c.args.first) c.types.left.now c.in-Some.others.now c.in-Some.arg.now is c.types.invariant.0 (λ t e. c.in_default-arg.not-Ty _ e),
    )

pub returns-clause-held : goal.returns-clause-held
returns-clause-held g c = subst (ArePending c.args.self.now.context.cx.now.entries) (sym c.types.invariant.1) c.requires.pending_held

pub returns-clause-pushed : goal.returns-clause-pushed
returns-clause-pushed g c =
    let es = c.args.self.now.context.cx.now.entries in
    let r = reads g.N.Normalize.answers c.args.self.now in
    ap (pending_steps es r) c.types.invariant.1
    ∙ ap (λ z. z ++ pending_steps es r c.args.pending.now.items)
    (sym (c.types.invariant.2 ∙ no-arguments es (λ f u. steps_to r c.args.limit f u) (is_first c.args.first) c.types.left.now c.in_default.ensures.cases))

pub returns-clause-on_top : goal.returns-clause-on_top
returns-clause-on_top g c = subst (AreOnTop c.args.limit c.args.pending.now.items) (sym c.types.invariant.1) (on-top-none c.args.limit c.args.pending.now.items)
