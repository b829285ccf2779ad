use Rattle.std.proofs.Common.{◌≡◌, subst}
use Rattle.std.specs.Prelude.{IfOk, OnErr}
use Rattle.session_inference.specs.Inferences.{HasAssumed, Inference}
use Rattle.session_inference.proofs.Operations.{has-assumed}
use Rattle.session_inference.proofs.inferring.InferenceSession.assume.Goals as goal

pub returns-clause-assumed : goal.returns-clause-assumed
returns-clause-assumed c =
    let i = c.self.inside in
    let new : Inference = record { subject = i.session; context = i.infer; terms = i.terms.items; snapshots = i.snapshots.items; assumptions = c.assumed.new.assumptions.items } in
    subst (λ (v : Inference). IfOk c.assumed.result (λ _. HasAssumed v new c.args.trait_id c.args.args.now)) c.self.view_is
    (has-assumed (record { subject = i.session; context = i.infer; terms = i.terms.items; snapshots = i.snapshots.items; assumptions = i.assumptions.items }) new c.args.trait_id c.args.args.now c.assumed.result c.assumed.ensures.added)

pub returns-clause-refused : goal.returns-clause-refused
returns-clause-refused c = subst (λ (v : Inference). OnErr c.assumed.result (c.assumed.new.assumptions.items ≡ v.assumptions)) c.self.view_is c.assumed.ensures.refused
