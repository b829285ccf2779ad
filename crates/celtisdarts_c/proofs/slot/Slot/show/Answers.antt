use Rattle.std.proofs.Common.{◌≡◌, ◌∙◌, IfOk, Some, sym, subst}
use Rattle.coherence.specs.TextLanguage.Output.{type_text}
use Rattle.session_inference.specs.Inferences.{term_numbered}
use Rattle.session_inference.specs.TermTexts.{inference_names}
use Rattle.celtisdarts_c.specs.Inferred.{inference_in}
use Rattle.celtisdarts_c.specs.Slots.{SlotState}
use Rattle.celtisdarts_c.proofs.Slots.{inferring-now}
use Rattle.celtisdarts_c.proofs.slot.Slot.show.Goals as goal

pub returns-clause-told : goal.returns-clause-told
returns-clause-told c =
    let v = c.inferring-session.result in
    let on = subst (λ (s : SlotState). inference_in s ≡ Some v) c.self.view_is
    (inferring-now c.self.inside.asker c.self.inside.left c.in-Some.asker c.in-Some-take.left v c.in-Some.is (sym c.take.ensures.value ∙ c.in-Some-take.is) (sym c.inferring-session.ensures)) in
    λ e.
    let t = c.shown.ensures.told e in
    let text = subst (λ r. IfOk r (λ x. x.items ≡ type_text (inference_names v.subject.declarations) (term_numbered v (record { index = c.args.term })))) t.1 c.display-text.ensures.text in
    (t.0.items, (v, on, text), t.2)

pub returns-clause-short : goal.returns-clause-short
returns-clause-short c =
    let v = c.inferring-session.result in
    let on = subst (λ (s : SlotState). inference_in s ≡ Some v) c.self.view_is
    (inferring-now c.self.inside.asker c.self.inside.left c.in-Some.asker c.in-Some-take.left v c.in-Some.is (sym c.take.ensures.value ∙ c.in-Some-take.is) (sym c.inferring-session.ensures)) in
    λ e.
    let t = c.shown.ensures.short e in
    let text = subst (λ r. IfOk r (λ x. x.items ≡ type_text (inference_names v.subject.declarations) (term_numbered v (record { index = c.args.term })))) t.1 c.display-text.ensures.text in
    (t.0.items, (v, on, text), t.2)
