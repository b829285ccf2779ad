use Rattle.std.proofs.Common.{◌≡◌, ◌∷◌, [], Err, refl, subst, sym}
use Rattle.std.specs.Prelude.{IfOk, OnErr, OnOk}
use Rattle.inference.specs.Inference.{proved}
use Rattle.infer_table.specs.Content.{variables_of}
use Rattle.session_inference.specs.Assuming.{LacksTerm, goal_over}
use Rattle.session_inference.specs.Contexts.{AreTermsOver, HasRegistered, IsAskedFurtherIn}
use Rattle.session_inference.specs.Inferences.{AsksFurther, InfersOn, Inference, goal_numbered}
use Rattle.session_inference.specs.declared.error.InferenceError.TheVariants as error
use Rattle.session_inference.proofs.Inferences.{inferring-same}
use Rattle.session_inference.proofs.inferring.InferenceSession.register.Goals as goal

pub register-requires-clause-can : goal.register-requires-clause-can
register-requires-clause-can c = c.self.invariant.can

pub register-requires-clause-terms : goal.register-requires-clause-terms
register-requires-clause-terms c =
    let i = c.self.inside in
    subst (λ ts. AreTermsOver i.session.terms (variables_of i.infer.table) ts) (sym c.deref.ensures.value) c.self.invariant.terms

pub invariant_of-self : goal.invariant_of-self
invariant_of-self c =
    let i = c.self.inside in
    inferring-same i.session c.register.new.session i.infer c.register.new.context i.terms.items i.snapshots.items c.self.invariant c.register.ensures.leaves

pub returns-clause-goes_on : goal.returns-clause-goes_on
returns-clause-goes_on c =
    let i = c.self.inside in
    let new : Inference = record { subject = c.register.new.session; context = c.register.new.context; terms = i.terms.items; snapshots = i.snapshots.items; assumptions = i.assumptions.items } in
    subst (λ (v : Inference). InfersOn v new) c.self.view_is (record { stays = c.register.ensures.leaves.stays; grows = c.register.ensures.leaves.grows; snapshots = refl; assumptions = refl })

pub returns-clause-registered : goal.returns-clause-registered
returns-clause-registered c =
    let i = c.self.inside in
    let call = c.register in
    let t = c.args.trait_id.index in
    subst (λ (v : Inference). IfOk call.result (HasRegistered call.new.session.terms v.context call.new.context (goal_numbered v t c.args.args.now))) c.self.view_is
    (subst (λ qs. IfOk call.result (HasRegistered call.new.session.terms i.infer call.new.context (goal_over i.session i.terms.items qs t c.args.args.now))) c.deref-2.ensures.value
    (subst (λ ts. IfOk call.result (HasRegistered call.new.session.terms i.infer call.new.context (goal_over i.session ts c.deref-2.result.now t c.args.args.now))) c.deref.ensures.value call.ensures.registered))

pub returns-clause-faithful : goal.returns-clause-faithful
returns-clause-faithful c =
    let i = c.self.inside in
    let call = c.register in
    let t = c.args.trait_id.index in
    let new : Inference = record { subject = call.new.session; context = call.new.context; terms = i.terms.items; snapshots = i.snapshots.items; assumptions = i.assumptions.items } in
    subst (λ (v : Inference). OnOk call.result (AsksFurther (proved (goal_numbered v t c.args.args.now) ∷ []) v new)) c.self.view_is
    (subst (λ qs. OnOk call.result (IsAskedFurtherIn (proved (goal_over i.session i.terms.items qs t c.args.args.now) ∷ []) i.session i.infer call.new.session call.new.context)) c.deref-2.ensures.value
    (subst (λ ts. OnOk call.result (IsAskedFurtherIn (proved (goal_over i.session ts c.deref-2.result.now t c.args.args.now) ∷ []) i.session i.infer call.new.session call.new.context)) c.deref.ensures.value call.ensures.faithful))

pub returns-clause-still : goal.returns-clause-still
returns-clause-still c =
    let i = c.self.inside in
    let new : Inference = record { subject = c.register.new.session; context = c.register.new.context; terms = i.terms.items; snapshots = i.snapshots.items; assumptions = i.assumptions.items } in
    subst (λ (v : Inference). OnErr c.register.result (AsksFurther [] v new)) c.self.view_is c.register.ensures.still

pub returns-clause-no_term : goal.returns-clause-no_term
returns-clause-no_term c =
    let i = c.self.inside in
    subst (λ (v : Inference). c.register.result ≡ Err error.NoSuchTerm → LacksTerm v.terms v.assumptions c.args.args.now) c.self.view_is
    (subst (λ qs. c.register.result ≡ Err error.NoSuchTerm → LacksTerm i.terms.items qs c.args.args.now) c.deref-2.ensures.value
    (subst (λ ts. c.register.result ≡ Err error.NoSuchTerm → LacksTerm ts c.deref-2.result.now c.args.args.now) c.deref.ensures.value c.register.ensures.none))
