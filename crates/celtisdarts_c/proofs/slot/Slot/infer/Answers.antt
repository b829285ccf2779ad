use Rattle.std.proofs.Common.{◌≡◌, ◌∙◌, IfOk, Some, ap, refl, sym, subst}
use Rattle.session_inference.specs.Inferences.{Inference}
use Rattle.celtisdarts_c.specs.Calls.{Performs}
use Rattle.celtisdarts_c.specs.Inferred.{inference_in, inference_on}
use Rattle.celtisdarts_c.specs.Slots.{SlotState}
use Rattle.celtisdarts_c.proofs.Slots.{err-on, inferring-now, left-on, nothing-on, stays-as-it-was, stays-itself}
use Rattle.celtisdarts_c.proofs.slot.Slot.infer.Goals as goal

pub returns-clause-done : goal.returns-clause-done
returns-clause-done c =
    let v = c.inferring-session.result in
    let w = c.make-outcome.new.session in
    let l = c.leave.result in
    let d = c.in-Some.asker.declarations in
    let on = subst (λ (s : SlotState). inference_in s ≡ Some v) c.self.view_is
    (inferring-now c.self.inside.asker c.self.inside.left c.in-Some.asker c.in-Some-take.left v c.in-Some.is (sym c.take.ensures.value ∙ c.in-Some-take.is) (sym c.inferring-session.ensures)) in
    let same = left-on d l v w (ap (λ (x : Inference). x.subject.declarations) c.inferring-session.ensures) c.make-outcome.ensures.stays.declarations c.leave.ensures.is in
    λ e. (v, w, on, inferring-now c.self.inside.asker (Some l) c.in-Some.asker l w c.in-Some.is refl same, subst (λ r. IfOk r (Performs c.args.call.now v w)) (c.told.ensures.given e) c.make-outcome.ensures.done)

pub returns-clause-no_solution : goal.returns-clause-no_solution
returns-clause-no_solution c =
    let v = c.inferring-session.result in
    let on = subst (λ (s : SlotState). inference_in s ≡ Some v) c.self.view_is
    (inferring-now c.self.inside.asker c.self.inside.left c.in-Some.asker c.in-Some-take.left v c.in-Some.is (sym c.take.ensures.value ∙ c.in-Some-take.is) (sym c.inferring-session.ensures)) in
    λ e. (v, on, c.make-outcome.ensures.no_solution (c.told.ensures.no_solution e))

pub returns-clause-no_term : goal.returns-clause-no_term
returns-clause-no_term c =
    let v = c.inferring-session.result in
    let on = subst (λ (s : SlotState). inference_in s ≡ Some v) c.self.view_is
    (inferring-now c.self.inside.asker c.self.inside.left c.in-Some.asker c.in-Some-take.left v c.in-Some.is (sym c.take.ensures.value ∙ c.in-Some-take.is) (sym c.inferring-session.ensures)) in
    λ e. (v, on, c.make-outcome.ensures.no_term (c.told.ensures.no_term e))

pub returns-clause-refused : goal.returns-clause-refused
returns-clause-refused c =
    let v = c.inferring-session.result in
    let w = c.make-outcome.new.session in
    let l = c.leave.result in
    let d = c.in-Some.asker.declarations in
    let on = subst (λ (s : SlotState). inference_in s ≡ Some v) c.self.view_is
    (inferring-now c.self.inside.asker c.self.inside.left c.in-Some.asker c.in-Some-take.left v c.in-Some.is (sym c.take.ensures.value ∙ c.in-Some-take.is) (sym c.inferring-session.ensures)) in
    let same = left-on d l v w (ap (λ (x : Inference). x.subject.declarations) c.inferring-session.ensures) c.make-outcome.ensures.stays.declarations c.leave.ensures.is in
    λ e f.
    stays-as-it-was (inference_in c.args.self.now) (inference_on c.self.inside.asker (Some l)) v w on (inferring-now c.self.inside.asker (Some l) c.in-Some.asker l w c.in-Some.is refl same)
    (err-on c.make-outcome.result _ (c.told.ensures.refused e f) c.make-outcome.ensures.refused)

pub returns-in_default-clause-refused : goal.returns-in_default-clause-refused
returns-in_default-clause-refused c = λ e f v is. (v, is, stays-itself v)

pub returns-in_default-take-clause-refused : goal.returns-in_default-take-clause-refused
returns-in_default-take-clause-refused c = λ e f v is.
    nothing-on c.self.inside.asker c.self.inside.left v _ (sym c.take.ensures.value ∙ c.in_default-take.is) (subst (λ (s : SlotState). inference_in s ≡ Some v) (sym c.self.view_is) is)
