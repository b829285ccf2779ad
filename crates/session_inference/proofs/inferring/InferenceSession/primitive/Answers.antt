use Rattle.std.proofs.Common.{◌≡◌, [], refl, subst}
use Rattle.std.specs.Prelude.{IfOk, OnErr}
use Rattle.session_inference.specs.Primitives.{primitive_trees}
use Rattle.inference.proofs.Growing.{itself}
use Rattle.session_inference.specs.Inferences.{AsksFurther, InfersOn, HasNewTerm, Inference}
use Rattle.session_inference.proofs.Contexts.{rests-leaves}
use Rattle.session_inference.proofs.Inferences.{inferring-numbered, new-term, number-full}
use Rattle.session_inference.proofs.MadeTerms.{closed-over, primitive-closed}
use Rattle.session_inference.proofs.OwnTerms.{trees-made}
use Rattle.session_inference.proofs.inferring.InferenceSession.primitive.Goals as goal

pub invariant_of-self : goal.invariant_of-self
invariant_of-self c =
    let i = c.self.inside in
    let call = c.primitive_type-made in
    inferring-numbered i.session call.new.session i.infer i.infer i.terms.items c.numbered.new.terms.items i.snapshots.items call.result c.numbered.result c.self.invariant
    (rests-leaves i.session call.new.session i.infer c.self.invariant.can call.ensures.stays call.ensures.rests) (closed-over call.new.session.terms _ (primitive_trees c.args.primitive) call.result (primitive-closed c.args.primitive) call.ensures.is)
    c.numbered.ensures.added c.numbered.ensures.refused

pub returns-clause-goes_on : goal.returns-clause-goes_on
returns-clause-goes_on c =
    let i = c.self.inside in
    let new : Inference = record { subject = c.primitive_type-made.new.session; context = i.infer; terms = c.numbered.new.terms.items; snapshots = i.snapshots.items; assumptions = i.assumptions.items } in
    subst (λ (v : Inference). InfersOn v new) c.self.view_is (record { stays = c.primitive_type-made.ensures.stays; grows = itself i.infer; snapshots = refl; assumptions = refl })

pub returns-clause-faithful : goal.returns-clause-faithful
returns-clause-faithful c =
    let i = c.self.inside in
    let new : Inference = record { subject = c.primitive_type-made.new.session; context = i.infer; terms = c.numbered.new.terms.items; snapshots = i.snapshots.items; assumptions = i.assumptions.items } in
    subst (λ (v : Inference). AsksFurther [] v new) c.self.view_is (c.primitive_type-made.ensures.rests.faithful i.infer c.self.invariant.can)

pub returns-clause-is : goal.returns-clause-is
returns-clause-is c =
    let i = c.self.inside in
    let call = c.primitive_type-made in
    let new : Inference = record { subject = c.primitive_type-made.new.session; context = i.infer; terms = c.numbered.new.terms.items; snapshots = i.snapshots.items; assumptions = i.assumptions.items } in
    subst (λ (v : Inference). IfOk c.numbered.result (HasNewTerm v new (primitive_trees c.args.primitive))) c.self.view_is
    (new-term i.session i.infer i.terms.items i.snapshots.items i.assumptions.items new (primitive_trees c.args.primitive) call.result c.numbered.result c.numbered.ensures.number c.numbered.ensures.added (trees-made call.new.session.terms (primitive_trees c.args.primitive) call.result call.ensures.is))

pub returns-clause-terms : goal.returns-clause-terms
returns-clause-terms c = subst (λ (v : Inference). OnErr c.numbered.result (c.numbered.new.terms.items ≡ v.terms)) c.self.view_is c.numbered.ensures.refused

pub returns-clause-full : goal.returns-clause-full
returns-clause-full c = number-full c.primitive_type-made.new.session c.primitive_type-made.result c.numbered.result c.numbered.ensures.fault c.primitive_type-made.ensures.full
