use Rattle.std.proofs.Common.{◌≡◌, [], refl, subst}
use Rattle.std.specs.Prelude.{IfOk, OnErr}
use Rattle.type_terms.specs.Promised.Label.{of_const, placeholder}
use Rattle.type_terms.specs.Promised.Trees.{leaf}
use Rattle.inference.proofs.Growing.{itself}
use Rattle.session_inference.specs.Inferences.{AsksFurther, InfersOn, HasNewTerm, Inference}
use Rattle.session_inference.proofs.Contexts.{rests-leaves}
use Rattle.session_inference.proofs.Inferences.{inferring-numbered, new-term, number-full}
use Rattle.session_inference.proofs.MadeTerms.{closed-over}
use Rattle.session_inference.proofs.OwnTerms.{trees-made}
use Rattle.session_inference.proofs.inferring.InferenceSession.const_param.Goals as goal

pub invariant_of-self : goal.invariant_of-self
invariant_of-self c =
    let i = c.self.inside in
    let call = c.placeholder_constant-made in
    inferring-numbered i.session call.new.session i.infer i.infer i.terms.items c.numbered.new.terms.items i.snapshots.items call.result c.numbered.result c.self.invariant
    (rests-leaves i.session call.new.session i.infer c.self.invariant.can call.ensures.stays call.ensures.rests) (closed-over call.new.session.terms _ (leaf (placeholder of_const c.args.number)) call.result (λ counts. ((tt, tt), (tt, tt))) call.ensures.is)
    c.numbered.ensures.added c.numbered.ensures.refused

pub returns-clause-goes_on : goal.returns-clause-goes_on
returns-clause-goes_on c =
    let i = c.self.inside in
    let new : Inference = record { subject = c.placeholder_constant-made.new.session; context = i.infer; terms = c.numbered.new.terms.items; snapshots = i.snapshots.items; assumptions = i.assumptions.items } in
    subst (λ (v : Inference). InfersOn v new) c.self.view_is (record { stays = c.placeholder_constant-made.ensures.stays; grows = itself i.infer; snapshots = refl; assumptions = refl })

pub returns-clause-faithful : goal.returns-clause-faithful
returns-clause-faithful c =
    let i = c.self.inside in
    let new : Inference = record { subject = c.placeholder_constant-made.new.session; context = i.infer; terms = c.numbered.new.terms.items; snapshots = i.snapshots.items; assumptions = i.assumptions.items } in
    subst (λ (v : Inference). AsksFurther [] v new) c.self.view_is (c.placeholder_constant-made.ensures.rests.faithful i.infer c.self.invariant.can)

pub returns-clause-is : goal.returns-clause-is
returns-clause-is c =
    let i = c.self.inside in
    let call = c.placeholder_constant-made in
    let new : Inference = record { subject = c.placeholder_constant-made.new.session; context = i.infer; terms = c.numbered.new.terms.items; snapshots = i.snapshots.items; assumptions = i.assumptions.items } in
    subst (λ (v : Inference). IfOk c.numbered.result (HasNewTerm v new (leaf (placeholder of_const c.args.number)))) c.self.view_is
    (new-term i.session i.infer i.terms.items i.snapshots.items i.assumptions.items new (leaf (placeholder of_const c.args.number)) call.result c.numbered.result c.numbered.ensures.number c.numbered.ensures.added (trees-made call.new.session.terms (leaf (placeholder of_const c.args.number)) call.result call.ensures.is))

pub returns-clause-terms : goal.returns-clause-terms
returns-clause-terms c = subst (λ (v : Inference). OnErr c.numbered.result (c.numbered.new.terms.items ≡ v.terms)) c.self.view_is c.numbered.ensures.refused

pub returns-clause-full : goal.returns-clause-full
returns-clause-full c = number-full c.placeholder_constant-made.new.session c.placeholder_constant-made.result c.numbered.result c.numbered.ensures.fault c.placeholder_constant-made.ensures.full
