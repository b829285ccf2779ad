use Rattle.std.proofs.Common.{◌≡◌, ◌∙◌, ◌∷◌, ◌++◌, [], true, sym, subst}
use Rattle.session_inference.specs.Inferences.{Inference}
use Rattle.session_inference.specs.declared.open_snapshot.OpenSnapshot.{OpenSnapshot}
use Rattle.session_inference.proofs.Inferences.{inferring-popped, popped-some}
use Rattle.session_inference.proofs.inferring.InferenceSession.commit.Goals as goal

pub invariant_of-self : goal.invariant_of-self
invariant_of-self c =
    let i = c.self.inside in
    inferring-popped i.session i.infer i.terms.items i.snapshots.items c.pop.new.self.items c.pop.result c.pop.ensures.items c.self.invariant

pub returns-clause-ended : goal.returns-clause-ended
returns-clause-ended c =
    let i = c.self.inside in
    subst (λ (v : Inference). c.is_some.result ≡ true → (m : OpenSnapshot) × (v.snapshots ≡ c.pop.new.self.items ++ m ∷ [])) c.self.view_is
    (λ e. popped-some i.snapshots.items c.pop.new.self.items c.pop.result c.pop.ensures.items (sym c.is_some.ensures ∙ e))
