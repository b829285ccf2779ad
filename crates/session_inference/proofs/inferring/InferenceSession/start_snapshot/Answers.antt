use Rattle.std.proofs.Common.{◌≡◌, ◌∙◌, ◌∷◌, ◌++◌, [], length, subst}
use Rattle.std.specs.Prelude.{IfOk, OnErr}
use Rattle.inference.specs.Inferring.{IsSnapshotOf}
use Rattle.session_inference.specs.Inferences.{Inference}
use Rattle.session_inference.specs.declared.open_snapshot.OpenSnapshot.{OpenSnapshot}
use Rattle.session_inference.proofs.Inferences.{inferring-taken, taken-there}
use Rattle.session_inference.proofs.inferring.InferenceSession.start_snapshot.Goals as goal

pub invariant_of-self : goal.invariant_of-self
invariant_of-self c =
    let i = c.self.inside in
    let m : OpenSnapshot = record { context = c.in_ok-context.context; terms = c.len.result; assumptions = c.len-2.result } in
    inferring-taken i.session i.infer i.terms.items i.snapshots.items c.opened.new.snapshots.items m c.opened.result c.self.invariant c.in_ok-context.ensures (c.len.ensures ∙ i.terms.ok.0) c.opened.ensures.added c.opened.ensures.refused

pub returns-clause-taken : goal.returns-clause-taken
returns-clause-taken c =
    let i = c.self.inside in
    let m : OpenSnapshot = record { context = c.in_ok-context.context; terms = c.len.result; assumptions = c.len-2.result } in
    subst
    (λ (v : Inference). IfOk c.opened.result (λ _. (o : OpenSnapshot) × (c.opened.new.snapshots.items ≡ v.snapshots ++ o ∷ []) × IsSnapshotOf v.context o.context × (o.terms ≡ length v.terms) × (o.assumptions ≡ length v.assumptions)))
    c.self.view_is (taken-there i.infer i.terms.items i.snapshots.items c.opened.new.snapshots.items i.assumptions.items m c.opened.result c.in_ok-context.ensures (c.len.ensures ∙ i.terms.ok.0) (c.len-2.ensures ∙ i.assumptions.ok.0) c.opened.ensures.added)

pub returns-clause-refused : goal.returns-clause-refused
returns-clause-refused c = subst (λ (v : Inference). OnErr c.opened.result (c.opened.new.snapshots.items ≡ v.snapshots)) c.self.view_is c.opened.ensures.refused
