use Rattle.std.proofs.Common.{◌≡◌, ◌∙◌, ◌∷◌, ◌++◌, [], true, ap, sym, subst, take}
use Rattle.std.specs.Prelude.{option_to_list}
use Rattle.inference.specs.Inferring.{HasGrownFrom, IsAsBefore, IsSnapshotOf}
use Rattle.inference.specs.declared.context.Infer.{Infer}
use Rattle.session_inference.specs.Inferences.{Inference, IsInferring}
use Rattle.session_inference.specs.declared.open_snapshot.OpenSnapshot.{OpenSnapshot}
use Rattle.session_inference.proofs.Inferences.{inferring-before}
use Rattle.session_inference.proofs.inferring.InferenceSession.roll_back.Goals as goal

pub invariant_of-self-in-Some : goal.invariant_of-self-in-Some
invariant_of-self-in-Some c =
    let i = c.self.inside in
    let m = c.in-Some.taken in
    let ms = c.pop.new.self.items in
    let popped : i.snapshots.items ≡ ms ++ m ∷ [] = c.pop.ensures.items ∙ ap (λ o. ms ++ option_to_list o) c.in-Some.is in
    subst (λ ts. IsInferring i.session c.rollback_to.new.self ts ms) (sym c.truncate.ensures.items)
    (inferring-before i.session i.infer c.rollback_to.new.self i.terms.items ms m (subst (IsInferring i.session i.infer i.terms.items) popped c.self.invariant) c.rollback_to.ensures)

pub returns-in-Some-clause-restored : goal.returns-in-Some-clause-restored
returns-in-Some-clause-restored c =
    let i = c.self.inside in
    let m = c.in-Some.taken in
    let ms = c.pop.new.self.items in
    let popped : i.snapshots.items ≡ ms ++ m ∷ [] = c.pop.ensures.items ∙ ap (λ o. ms ++ option_to_list o) c.in-Some.is in
    subst
    (λ (v : Inference). true ≡ true → (o : OpenSnapshot) × (v.snapshots ≡ ms ++ o ∷ []) × (c.truncate.new.self.items ≡ take o.terms v.terms) × (c.truncate-in-Some.new.self.items ≡ take o.assumptions v.assumptions)
    × ((before : Infer) → IsSnapshotOf before o.context → HasGrownFrom before v.context → IsAsBefore before c.rollback_to.new.self))
    c.self.view_is (λ e. (m, popped, c.truncate.ensures.items, c.truncate-in-Some.ensures.items, c.rollback_to.ensures))
