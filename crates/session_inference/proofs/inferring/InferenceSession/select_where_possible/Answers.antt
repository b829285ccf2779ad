use Rattle.std.proofs.Common.{◌≡◌, [], None, Some, Ok, refl, subst}
use Rattle.fulfillment.specs.declared.obligation.ObligationId.{ObligationId}
use Rattle.fulfillment.specs.declared.selecting.Selected.TheVariants as outcome
use Rattle.session_inference.specs.Contexts.{HasSpent, SomeIsUnsettledIn}
use Rattle.session_inference.specs.Inferences.{AsksFurther, InfersOn, HasNoSolutionWith, Inference}
use Rattle.session_inference.proofs.Inferences.{inferring-same}
use Rattle.session_inference.proofs.inferring.InferenceSession.select_where_possible.Goals as goal

pub select_where_possible-requires : goal.select_where_possible-requires
select_where_possible-requires c = c.self.invariant.can

pub invariant_of-self : goal.invariant_of-self
invariant_of-self c =
    let i = c.self.inside in
    inferring-same i.session c.select_where_possible.new.session i.infer c.select_where_possible.new.context i.terms.items i.snapshots.items c.self.invariant c.select_where_possible.ensures.leaves

pub returns-clause-goes_on : goal.returns-clause-goes_on
returns-clause-goes_on c =
    let i = c.self.inside in
    let new : Inference = record { subject = c.select_where_possible.new.session; context = c.select_where_possible.new.context; terms = i.terms.items; snapshots = i.snapshots.items; assumptions = i.assumptions.items } in
    subst (λ (v : Inference). InfersOn v new) c.self.view_is (record { stays = c.select_where_possible.ensures.leaves.stays; grows = c.select_where_possible.ensures.leaves.grows; snapshots = refl; assumptions = refl })

pub returns-clause-faithful : goal.returns-clause-faithful
returns-clause-faithful c =
    let i = c.self.inside in
    let new : Inference = record { subject = c.select_where_possible.new.session; context = c.select_where_possible.new.context; terms = i.terms.items; snapshots = i.snapshots.items; assumptions = i.assumptions.items } in
    subst (λ (v : Inference). AsksFurther [] v new) c.self.view_is c.select_where_possible.ensures.faithful

pub returns-clause-unsettled : goal.returns-clause-unsettled
returns-clause-unsettled c =
    subst (λ (v : Inference). c.select_where_possible.result ≡ Ok (Some outcome.Pending) → SomeIsUnsettledIn v.subject v.context) c.self.view_is c.select_where_possible.ensures.unsettled

pub returns-clause-refused : goal.returns-clause-refused
returns-clause-refused c =
    subst (λ (v : Inference). (id : ObligationId) → c.select_where_possible.result ≡ Ok (Some (outcome.Refused id)) → HasNoSolutionWith [] v) c.self.view_is c.select_where_possible.ensures.refused

pub returns-clause-stopped : goal.returns-clause-stopped
returns-clause-stopped c =
    subst (λ (v : Inference). c.select_where_possible.result ≡ Ok None → HasSpent c.args.budget v.subject c.select_where_possible.new.session) c.self.view_is c.select_where_possible.ensures.stopped
