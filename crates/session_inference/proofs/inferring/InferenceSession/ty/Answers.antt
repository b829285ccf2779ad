use Rattle.std.proofs.Common.{◌≡◌, [], Some, Err, is_some, map, slice_get, refl, sym, subst}
use Rattle.std.specs.Prelude.{IfOk, OnErr}
use Rattle.type_terms.specs.Kinds.{args_trees}
use Rattle.infer_table.specs.Content.{variables_of}
use Rattle.inference.proofs.Growing.{itself}
use Rattle.session_inference.specs.Inferences.{AsksFurther, InfersOn, HasNewTerm, Inference, TakesOthers, terms_numbered}
use Rattle.session_inference.specs.Shapes.{shaped_trees, takes}
use Rattle.session_inference.specs.declared.error.InferenceError.TheVariants.{WrongParts}
use Rattle.session_inference.specs.declared.term_id.TermId.{TermId}
use Rattle.session_inference.proofs.Contexts.{rests-leaves}
use Rattle.session_inference.proofs.Inferences.{all-there, full-there, goes-on-itself, inferring-there, new-term-there, terms-are}
use Rattle.session_inference.proofs.MadeTerms.{shaped-over}
use Rattle.session_inference.proofs.OwnTerms.{args-over, terms-held, trees-there}
use Rattle.session_inference.proofs.inferring.InferenceSession.ty.Goals as goal

pub shaped_type-made-requires : goal.shaped_type-made-requires
shaped_type-made-requires c =
    let i = c.self.inside in
    let n = variables_of i.infer.table in
    terms-held i.session.terms n c.in_ok-list.list.items (all-there i.session.terms n i.terms.items c.args.parts.now c.in_ok-list.list.items c.self.invariant.terms
    (subst (λ ts. map (λ (id : TermId). slice_get ts id.index) c.args.parts.now ≡ map Some c.in_ok-list.list.items) c.deref.ensures.value c.in_ok-list.ensures.there))

pub invariant_of-self : goal.invariant_of-self
invariant_of-self c =
    let i = c.self.inside in
    let n = variables_of i.infer.table in
    let call = c.shaped_type-made in
    let over = all-there i.session.terms n i.terms.items c.args.parts.now c.in_ok-list.list.items c.self.invariant.terms
    (subst (λ ts. map (λ (id : TermId). slice_get ts id.index) c.args.parts.now ≡ map Some c.in_ok-list.list.items) c.deref.ensures.value c.in_ok-list.ensures.there) in
    inferring-there i.session call.new.session i.infer i.infer i.terms.items c.numbered_there.new.terms.items i.snapshots.items call.result c.numbered_there.result c.self.invariant
    (rests-leaves i.session call.new.session i.infer c.self.invariant.can call.ensures.stays call.ensures.rests)
    (shaped-over call.new.session.terms n c.args.shape (args_trees i.session.terms c.in_ok-list.list.items) call.result (args-over i.session.terms n c.in_ok-list.list.items over) call.ensures.is)
    c.numbered_there.ensures.added c.numbered_there.ensures.refused

pub returns-clause-goes_on : goal.returns-clause-goes_on
returns-clause-goes_on c =
    let i = c.self.inside in
    let new : Inference = record { subject = c.shaped_type-made.new.session; context = i.infer; terms = c.numbered_there.new.terms.items; snapshots = i.snapshots.items; assumptions = i.assumptions.items } in
    subst (λ (v : Inference). InfersOn v new) c.self.view_is (record { stays = c.shaped_type-made.ensures.stays; grows = itself i.infer; snapshots = refl; assumptions = refl })

pub returns-clause-faithful : goal.returns-clause-faithful
returns-clause-faithful c =
    let i = c.self.inside in
    let new : Inference = record { subject = c.shaped_type-made.new.session; context = i.infer; terms = c.numbered_there.new.terms.items; snapshots = i.snapshots.items; assumptions = i.assumptions.items } in
    subst (λ (v : Inference). AsksFurther [] v new) c.self.view_is (c.shaped_type-made.ensures.rests.faithful i.infer c.self.invariant.can)

pub returns-clause-is : goal.returns-clause-is
returns-clause-is c =
    let i = c.self.inside in
    let call = c.shaped_type-made in
    let h = c.args.shape in
    let xs = c.in_ok-list.list.items in
    let new : Inference = record { subject = call.new.session; context = i.infer; terms = c.numbered_there.new.terms.items; snapshots = i.snapshots.items; assumptions = i.assumptions.items } in
    let old : Inference = record { subject = i.session; context = i.infer; terms = i.terms.items; snapshots = i.snapshots.items; assumptions = i.assumptions.items } in
    let there = subst (λ ts. map (λ (id : TermId). slice_get ts id.index) c.args.parts.now ≡ map Some xs) c.deref.ensures.value c.in_ok-list.ensures.there in
    subst (λ (v : Inference). IfOk c.numbered_there.result (HasNewTerm v new (shaped_trees h (terms_numbered v c.args.parts.now)))) c.self.view_is
    (subst (λ t. IfOk c.numbered_there.result (HasNewTerm old new (shaped_trees h t))) (sym (terms-are old c.args.parts.now xs there))
    (new-term-there i.session i.infer i.terms.items i.snapshots.items i.assumptions.items new (shaped_trees h (args_trees i.session.terms xs)) call.result c.numbered_there.result c.numbered_there.ensures.number
    c.numbered_there.ensures.added (trees-there call.new.session.terms (shaped_trees h (args_trees i.session.terms xs)) call.result call.ensures.is)))

pub returns-clause-no_term : goal.returns-clause-no_term
returns-clause-no_term c = λ e. absurd (c.numbered_there.ensures.terms e)

pub returns-clause-others : goal.returns-clause-others
returns-clause-others c =
    let i = c.self.inside in
    let xs = c.in_ok-list.list.items in
    let there = subst (λ ts. map (λ (id : TermId). slice_get ts id.index) c.args.parts.now ≡ map Some xs) c.deref.ensures.value c.in_ok-list.ensures.there in
    subst (λ (v : Inference). c.numbered_there.result ≡ Err WrongParts → TakesOthers v c.args.shape c.args.parts.now) c.self.view_is
    (λ e. record {
      parts = xs;
      there = there;
      others = sym (subst (λ z. IfOk z (λ o. is_some o ≡ takes c.args.shape xs)) (c.numbered_there.ensures.none e) c.shaped_type-made.ensures.takes);
    })

pub returns-clause-terms : goal.returns-clause-terms
returns-clause-terms c = subst (λ (v : Inference). OnErr c.numbered_there.result (c.numbered_there.new.terms.items ≡ v.terms)) c.self.view_is c.numbered_there.ensures.refused

pub returns-clause-full : goal.returns-clause-full
returns-clause-full c = full-there c.shaped_type-made.new.session c.shaped_type-made.result c.numbered_there.result c.numbered_there.ensures.fault c.shaped_type-made.ensures.full

pub returns-in_err-list-clause-goes_on : goal.returns-in_err-list-clause-goes_on
returns-in_err-list-clause-goes_on c = goes-on-itself _
