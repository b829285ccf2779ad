use Rattle.std.proofs.Common.{◌≡◌, ◌∷◌, [], Some, slice_get, Ok, false, refl, sym, ap, subst}
use Rattle.type_terms.specs.Promised.Handles.{arg_trees}
use Rattle.infer_table.specs.Content.{variables_of}
use Rattle.inference.specs.Inference.{equal}
use Rattle.inference.specs.Inferring.{IsAsBefore}
use Rattle.session_inference.specs.Contexts.{HaveNoSolutionIn}
use Rattle.session_inference.specs.Assuming.{trees_of_term}
use Rattle.session_inference.specs.Inferences.{AsksFurther, InfersOn, HasNoSolutionWith, Inference, term_numbered}
use Rattle.session_inference.proofs.Inferences.{goes-on-itself, inferring-same, term-there}
use Rattle.session_inference.proofs.OwnTerms.{given-full, given-ok}
use Rattle.session_inference.proofs.inferring.InferenceSession.can_eq.Goals as goal

pub can_eq-made-requires-clause-can : goal.can_eq-made-requires-clause-can
can_eq-made-requires-clause-can c = c.self.invariant.can

pub can_eq-made-requires-clause-left : goal.can_eq-made-requires-clause-left
can_eq-made-requires-clause-left c =
    let i = c.self.inside in
    term-there i.session.terms (variables_of i.infer.table) i.terms.items c.args.left.index c.in_ok-left.left c.self.invariant.terms
    (subst (λ ts. slice_get ts c.args.left.index ≡ Some c.in_ok-left.left) c.deref.ensures.value c.in_ok-left.ensures.there)

pub can_eq-made-requires-clause-right : goal.can_eq-made-requires-clause-right
can_eq-made-requires-clause-right c =
    let i = c.self.inside in
    term-there i.session.terms (variables_of i.infer.table) i.terms.items c.args.right.index c.in_ok-right.right c.self.invariant.terms
    (subst (λ ts. slice_get ts c.args.right.index ≡ Some c.in_ok-right.right) c.deref-2.ensures.value c.in_ok-right.ensures.there)

pub invariant_of-self : goal.invariant_of-self
invariant_of-self c =
    let i = c.self.inside in
    inferring-same i.session c.can_eq-made.new.session i.infer c.can_eq-made.new.context i.terms.items i.snapshots.items c.self.invariant c.can_eq-made.ensures.leaves

pub returns-clause-goes_on : goal.returns-clause-goes_on
returns-clause-goes_on c =
    let i = c.self.inside in
    let new : Inference = record { subject = c.can_eq-made.new.session; context = c.can_eq-made.new.context; terms = i.terms.items; snapshots = i.snapshots.items; assumptions = i.assumptions.items } in
    subst (λ (v : Inference). InfersOn v new) c.self.view_is (record { stays = c.can_eq-made.ensures.leaves.stays; grows = c.can_eq-made.ensures.leaves.grows; snapshots = refl; assumptions = refl })

pub returns-clause-faithful : goal.returns-clause-faithful
returns-clause-faithful c =
    let new : Inference = record { subject = c.can_eq-made.new.session; context = c.can_eq-made.new.context; terms = c.self.inside.terms.items; snapshots = c.self.inside.snapshots.items; assumptions = c.self.inside.assumptions.items } in
    subst (λ (v : Inference). AsksFurther [] v new) c.self.view_is c.can_eq-made.ensures.faithful

pub returns-clause-as_before : goal.returns-clause-as_before
returns-clause-as_before c = subst (λ (v : Inference). IsAsBefore v.context c.can_eq-made.new.context) c.self.view_is c.can_eq-made.ensures.as_before

pub returns-clause-impossible : goal.returns-clause-impossible
returns-clause-impossible c =
    let i = c.self.inside in
    subst (λ (v : Inference). c.given.result ≡ Ok false → HasNoSolutionWith (equal (term_numbered v c.args.left) (term_numbered v c.args.right) ∷ []) v) c.self.view_is
    (λ e. subst (λ t. HaveNoSolutionIn (equal t (term_numbered (record { subject = i.session; context = i.infer; terms = i.terms.items; snapshots = i.snapshots.items; assumptions = i.assumptions.items }) c.args.right) ∷ []) i.session i.infer) (sym (ap (trees_of_term i.session.terms) (subst (λ ts. slice_get ts c.args.left.index ≡ Some c.in_ok-left.left) c.deref.ensures.value c.in_ok-left.ensures.there)))
    (subst (λ t. HaveNoSolutionIn (equal (arg_trees i.session.terms c.in_ok-left.left) t ∷ []) i.session i.infer) (sym (ap (trees_of_term i.session.terms) (subst (λ ts. slice_get ts c.args.right.index ≡ Some c.in_ok-right.right) c.deref-2.ensures.value c.in_ok-right.ensures.there))) (c.can_eq-made.ensures.impossible (given-ok c.can_eq-made.result c.given.result false c.given.ensures.ok e))))

pub returns-clause-full : goal.returns-clause-full
returns-clause-full c = given-full c.can_eq-made.new.session c.can_eq-made.result c.given.result c.given.ensures.fault c.can_eq-made.ensures.full

pub returns-in_err-left-clause-goes_on : goal.returns-in_err-left-clause-goes_on
returns-in_err-left-clause-goes_on c = goes-on-itself _

pub returns-in_err-right-clause-goes_on : goal.returns-in_err-right-clause-goes_on
returns-in_err-right-clause-goes_on c = goes-on-itself _
