use Rattle.std.proofs.Common.{◌≡◌, [], refl, subst}
use Rattle.std.specs.Prelude.{IfOk, OnErr, OnOk}
use Rattle.type_terms.specs.Promised.Label.{of_type, infer}
use Rattle.type_terms.specs.Promised.Trees.{leaf}
use Rattle.session_inference.specs.Contexts.{HasOneMoreIn}
use Rattle.session_inference.specs.Inferences.{AsksFurther, InfersOn, HasNewTerm, Inference}
use Rattle.session_inference.proofs.Inferences.{inferring-numbered, new-term, number-full, on-numbered, still-with}
use Rattle.session_inference.proofs.inferring.InferenceSession.fresh_ty.Goals as goal

pub fresh_ty-made-requires : goal.fresh_ty-made-requires
fresh_ty-made-requires c = c.self.invariant.can

pub invariant_of-self : goal.invariant_of-self
invariant_of-self c =
    let i = c.self.inside in
    let call = c.fresh_ty-made in
    inferring-numbered i.session call.new.session i.infer call.new.context i.terms.items c.numbered.new.terms.items i.snapshots.items call.result c.numbered.result c.self.invariant call.ensures.leaves call.ensures.over
    c.numbered.ensures.added c.numbered.ensures.refused

pub returns-clause-goes_on : goal.returns-clause-goes_on
returns-clause-goes_on c =
    let i = c.self.inside in
    let call = c.fresh_ty-made in
    let new : Inference = record { subject = c.fresh_ty-made.new.session; context = c.fresh_ty-made.new.context; terms = c.numbered.new.terms.items; snapshots = i.snapshots.items; assumptions = i.assumptions.items } in
    subst (λ (v : Inference). InfersOn v new) c.self.view_is (record { stays = call.ensures.leaves.stays; grows = call.ensures.leaves.grows; snapshots = refl; assumptions = refl })

pub returns-clause-is : goal.returns-clause-is
returns-clause-is c =
    let i = c.self.inside in
    let call = c.fresh_ty-made in
    let new : Inference = record { subject = c.fresh_ty-made.new.session; context = c.fresh_ty-made.new.context; terms = c.numbered.new.terms.items; snapshots = i.snapshots.items; assumptions = i.assumptions.items } in
    subst (λ (v : Inference). IfOk c.numbered.result (HasNewTerm v new (leaf (infer of_type v.context.table.ty_vars)))) c.self.view_is
    (new-term i.session i.infer i.terms.items i.snapshots.items i.assumptions.items new (leaf (infer of_type i.infer.table.ty_vars)) call.result c.numbered.result c.numbered.ensures.number c.numbered.ensures.added call.ensures.is)

pub returns-clause-faithful : goal.returns-clause-faithful
returns-clause-faithful c =
    let i = c.self.inside in
    let call = c.fresh_ty-made in
    subst (λ (v : Inference). OnOk c.numbered.result (HasOneMoreIn of_type v.context.table.ty_vars v.subject v.context call.new.session call.new.context)) c.self.view_is
    (on-numbered call.result c.numbered.result i.terms.items c.numbered.new.terms.items _ c.numbered.ensures.added call.ensures.faithful)

pub returns-clause-terms : goal.returns-clause-terms
returns-clause-terms c = subst (λ (v : Inference). OnErr c.numbered.result (c.numbered.new.terms.items ≡ v.terms)) c.self.view_is c.numbered.ensures.refused

pub returns-clause-full : goal.returns-clause-full
returns-clause-full c = number-full c.fresh_ty-made.new.session c.fresh_ty-made.result c.numbered.result c.numbered.ensures.fault c.fresh_ty-made.ensures.full

pub returns-clause-still : goal.returns-clause-still
returns-clause-still c =
    let i = c.self.inside in
    let call = c.fresh_ty-made in
    let new : Inference = record { subject = call.new.session; context = call.new.context; terms = c.numbered.new.terms.items; snapshots = i.snapshots.items; assumptions = i.assumptions.items } in
    subst (λ (v : Inference). AsksFurther [] v new) c.self.view_is
    (still-with call.result of_type i.infer.table.ty_vars i.session call.new.session i.infer call.new.context c.self.invariant.can call.ensures.leaves.rests call.ensures.faithful call.ensures.as_it_was)
