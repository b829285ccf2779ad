use Rattle.std.proofs.Common.{◌≡◌, ◌∷◌, [], Some, slice_get, Err, refl, sym, ap, subst}
use Rattle.std.specs.Prelude.{OnErr, OnOk}
use Rattle.type_terms.specs.Promised.Handles.{arg_trees}
use Rattle.infer_table.specs.Content.{variables_of}
use Rattle.inference.specs.Inference.{equal}
use Rattle.session_inference.specs.Contexts.{HaveNoSolutionIn, IsAskedFurtherIn}
use Rattle.session_inference.specs.Assuming.{trees_of_term}
use Rattle.session_inference.specs.Inferences.{AsksFurther, InfersOn, HasNoSolutionWith, Inference, term_numbered}
use Rattle.session_inference.specs.declared.error.InferenceError.TheVariants as error
use Rattle.session_inference.proofs.Inferences.{goes-on-itself, inferring-same, still-after, still-itself, term-there}
use Rattle.session_inference.proofs.Faults.{refused-so}
use Rattle.session_inference.proofs.OwnTerms.{equation-full, err-both, on-made}
use Rattle.session_inference.proofs.inferring.InferenceSession.eq.Goals as goal

pub eq-made-requires-clause-can : goal.eq-made-requires-clause-can
eq-made-requires-clause-can c = c.self.invariant.can

pub eq-made-requires-clause-left : goal.eq-made-requires-clause-left
eq-made-requires-clause-left c =
    let i = c.self.inside in
    term-there i.session.terms (variables_of i.infer.table) i.terms.items c.args.left.index c.in_ok-left.left c.self.invariant.terms
    (subst (λ ts. slice_get ts c.args.left.index ≡ Some c.in_ok-left.left) c.deref.ensures.value c.in_ok-left.ensures.there)

pub eq-made-requires-clause-right : goal.eq-made-requires-clause-right
eq-made-requires-clause-right c =
    let i = c.self.inside in
    term-there i.session.terms (variables_of i.infer.table) i.terms.items c.args.right.index c.in_ok-right.right c.self.invariant.terms
    (subst (λ ts. slice_get ts c.args.right.index ≡ Some c.in_ok-right.right) c.deref-2.ensures.value c.in_ok-right.ensures.there)

pub invariant_of-self : goal.invariant_of-self
invariant_of-self c =
    let i = c.self.inside in
    inferring-same i.session c.eq-made.new.session i.infer c.eq-made.new.context i.terms.items i.snapshots.items c.self.invariant c.eq-made.ensures.leaves

pub returns-clause-goes_on : goal.returns-clause-goes_on
returns-clause-goes_on c =
    let i = c.self.inside in
    let new : Inference = record { subject = c.eq-made.new.session; context = c.eq-made.new.context; terms = i.terms.items; snapshots = i.snapshots.items; assumptions = i.assumptions.items } in
    subst (λ (v : Inference). InfersOn v new) c.self.view_is (record { stays = c.eq-made.ensures.leaves.stays; grows = c.eq-made.ensures.leaves.grows; snapshots = refl; assumptions = refl })

pub returns-clause-faithful : goal.returns-clause-faithful
returns-clause-faithful c =
    let i = c.self.inside in
    let new : Inference = record { subject = c.eq-made.new.session; context = c.eq-made.new.context; terms = i.terms.items; snapshots = i.snapshots.items; assumptions = i.assumptions.items } in
    subst (λ (v : Inference). OnOk c.equated.result (AsksFurther (equal (term_numbered v c.args.left) (term_numbered v c.args.right) ∷ []) v new)) c.self.view_is
    (on-made c.equated.result c.eq-made.result _ c.equated.ensures.ok
    (subst (λ t. OnOk c.eq-made.result (IsAskedFurtherIn (equal t (term_numbered (record { subject = i.session; context = i.infer; terms = i.terms.items; snapshots = i.snapshots.items; assumptions = i.assumptions.items }) c.args.right) ∷ []) i.session i.infer c.eq-made.new.session c.eq-made.new.context)) (sym (ap (trees_of_term i.session.terms) (subst (λ ts. slice_get ts c.args.left.index ≡ Some c.in_ok-left.left) c.deref.ensures.value c.in_ok-left.ensures.there)))
    (subst (λ t. OnOk c.eq-made.result (IsAskedFurtherIn (equal (arg_trees i.session.terms c.in_ok-left.left) t ∷ []) i.session i.infer c.eq-made.new.session c.eq-made.new.context)) (sym (ap (trees_of_term i.session.terms) (subst (λ ts. slice_get ts c.args.right.index ≡ Some c.in_ok-right.right) c.deref-2.ensures.value c.in_ok-right.ensures.there))) c.eq-made.ensures.faithful)))

pub returns-clause-no_solution : goal.returns-clause-no_solution
returns-clause-no_solution c =
    let i = c.self.inside in
    subst (λ (v : Inference). c.equated.result ≡ Err error.NoSolution → HasNoSolutionWith (equal (term_numbered v c.args.left) (term_numbered v c.args.right) ∷ []) v) c.self.view_is
    (λ e. subst (λ t. HaveNoSolutionIn (equal t (term_numbered (record { subject = i.session; context = i.infer; terms = i.terms.items; snapshots = i.snapshots.items; assumptions = i.assumptions.items }) c.args.right) ∷ []) i.session i.infer) (sym (ap (trees_of_term i.session.terms) (subst (λ ts. slice_get ts c.args.left.index ≡ Some c.in_ok-left.left) c.deref.ensures.value c.in_ok-left.ensures.there)))
    (subst (λ t. HaveNoSolutionIn (equal (arg_trees i.session.terms c.in_ok-left.left) t ∷ []) i.session i.infer) (sym (ap (trees_of_term i.session.terms) (subst (λ ts. slice_get ts c.args.right.index ≡ Some c.in_ok-right.right) c.deref-2.ensures.value c.in_ok-right.ensures.there))) (c.eq-made.ensures.no_solution (c.equated.ensures.none e))))

pub returns-clause-full : goal.returns-clause-full
returns-clause-full c = equation-full c.eq-made.new.session c.eq-made.result c.equated.result c.equated.ensures.fault c.eq-made.ensures.full

pub returns-in_err-left-clause-goes_on : goal.returns-in_err-left-clause-goes_on
returns-in_err-left-clause-goes_on c = goes-on-itself _

pub returns-in_err-right-clause-goes_on : goal.returns-in_err-right-clause-goes_on
returns-in_err-right-clause-goes_on c = goes-on-itself _

pub returns-clause-still : goal.returns-clause-still
returns-clause-still c =
    let i = c.self.inside in
    let call = c.eq-made in
    let new : Inference = record { subject = call.new.session; context = call.new.context; terms = i.terms.items; snapshots = i.snapshots.items; assumptions = i.assumptions.items } in
    subst (λ (v : Inference). OnErr c.equated.result (AsksFurther [] v new)) c.self.view_is
    (err-both c.equated.result call.result _ c.equated.ensures.err (still-after call.result i.session call.new.session i.infer call.new.context c.self.invariant.can call.ensures.leaves.rests call.ensures.as_it_was))

pub returns-in_err-left-clause-still : goal.returns-in_err-left-clause-still
returns-in_err-left-clause-still c = refused-so c.from_residual.result _ (still-itself c.args.self.now)

pub returns-in_err-right-clause-still : goal.returns-in_err-right-clause-still
returns-in_err-right-clause-still c = refused-so c.from_residual-in_err-right.result _ (still-itself c.args.self.now)
