use Rattle.std.proofs.Common.{◌≡◌, [], Some, slice_get, refl, sym, ap, subst}
use Rattle.std.specs.Prelude.{IfOk, OnErr, OnOk}
use Rattle.type_terms.specs.Promised.Handles.{arg_trees}
use Rattle.infer_table.specs.Content.{content, variables_of}
use Rattle.infer_table.specs.Solutions.{resolved}
use Rattle.session_inference.specs.Contexts.{ShowsSolutionsIn}
use Rattle.session_inference.specs.Assuming.{trees_of_term}
use Rattle.session_inference.specs.Inferences.{AsksFurther, InfersOn, HasNewTerm, Inference, term_numbered}
use Rattle.session_inference.proofs.Inferences.{given-new, goes-on-itself, inferring-numbered, new-term, number-full, on-numbered, term-there}
use Rattle.session_inference.proofs.OwnTerms.{err-given, given-full, given-on, shown-ok}
use Rattle.session_inference.proofs.inferring.InferenceSession.resolve.Goals as goal

pub resolve-shown-requires-clause-can : goal.resolve-shown-requires-clause-can
resolve-shown-requires-clause-can c = c.self.invariant.can

pub resolve-shown-requires-clause-term : goal.resolve-shown-requires-clause-term
resolve-shown-requires-clause-term c =
    let i = c.self.inside in
    term-there i.session.terms (variables_of i.infer.table) i.terms.items c.args.term.index c.in_ok-term.term c.self.invariant.terms
    (subst (λ ts. slice_get ts c.args.term.index ≡ Some c.in_ok-term.term) c.deref.ensures.value c.in_ok-term.ensures.there)

pub invariant_of-self : goal.invariant_of-self
invariant_of-self c =
    let i = c.self.inside in
    let call = c.resolve-shown in
    inferring-numbered i.session call.new.session i.infer i.infer i.terms.items c.numbered-made.new.terms.items i.snapshots.items call.result c.numbered-made.result c.self.invariant call.ensures.leaves call.ensures.over
    c.numbered-made.ensures.added c.numbered-made.ensures.refused

pub returns-clause-goes_on : goal.returns-clause-goes_on
returns-clause-goes_on c =
    let i = c.self.inside in
    let new : Inference = record { subject = c.resolve-shown.new.session; context = i.infer; terms = c.numbered-made.new.terms.items; snapshots = i.snapshots.items; assumptions = i.assumptions.items } in
    subst (λ (v : Inference). InfersOn v new) c.self.view_is (record { stays = c.resolve-shown.ensures.leaves.stays; grows = c.resolve-shown.ensures.leaves.grows; snapshots = refl; assumptions = refl })

pub returns-clause-faithful : goal.returns-clause-faithful
returns-clause-faithful c =
    let i = c.self.inside in
    let new : Inference = record { subject = c.resolve-shown.new.session; context = i.infer; terms = c.numbered-made.new.terms.items; snapshots = i.snapshots.items; assumptions = i.assumptions.items } in
    subst (λ (v : Inference). AsksFurther [] v new) c.self.view_is c.resolve-shown.ensures.faithful

pub returns-clause-is : goal.returns-clause-is
returns-clause-is c =
    let i = c.self.inside in
    let call = c.resolve-shown in
    let new : Inference = record { subject = c.resolve-shown.new.session; context = i.infer; terms = c.numbered-made.new.terms.items; snapshots = i.snapshots.items; assumptions = i.assumptions.items } in
    let old : Inference = record { subject = i.session; context = i.infer; terms = i.terms.items; snapshots = i.snapshots.items; assumptions = i.assumptions.items } in
    subst (λ (v : Inference). IfOk c.given.result (HasNewTerm v new (resolved (content v.subject.terms v.context.table.values) (term_numbered v c.args.term)))) c.self.view_is
    (given-new old new (resolved (content i.session.terms i.infer.table.values) (term_numbered old c.args.term)) c.numbered-made.result c.given.result c.given.ensures.ok
    (subst (λ t. IfOk c.numbered-made.result (HasNewTerm old new (resolved (content i.session.terms i.infer.table.values) t))) (sym (ap (trees_of_term i.session.terms) (subst (λ ts. slice_get ts c.args.term.index ≡ Some c.in_ok-term.term) c.deref.ensures.value c.in_ok-term.ensures.there)))
    (new-term i.session i.infer i.terms.items i.snapshots.items i.assumptions.items new (resolved (content i.session.terms i.infer.table.values) (arg_trees i.session.terms c.in_ok-term.term)) call.result c.numbered-made.result c.numbered-made.ensures.number c.numbered-made.ensures.added call.ensures.resolved)))

pub returns-clause-shows : goal.returns-clause-shows
returns-clause-shows c =
    let i = c.self.inside in
    let call = c.resolve-shown in
    subst (λ (v : Inference). OnOk c.given.result (ShowsSolutionsIn v.subject v.context (term_numbered v c.args.term) (resolved (content v.subject.terms v.context.table.values) (term_numbered v c.args.term)))) c.self.view_is
    (given-on c.numbered-made.result c.given.result _ c.given.ensures.ok
    (on-numbered call.result c.numbered-made.result i.terms.items c.numbered-made.new.terms.items _ c.numbered-made.ensures.added
    (subst (λ t. OnOk call.result (ShowsSolutionsIn i.session i.infer t (resolved (content i.session.terms i.infer.table.values) t))) (sym (ap (trees_of_term i.session.terms) (subst (λ ts. slice_get ts c.args.term.index ≡ Some c.in_ok-term.term) c.deref.ensures.value c.in_ok-term.ensures.there)))
    (shown-ok call.new.session.terms (resolved (content i.session.terms i.infer.table.values) (arg_trees i.session.terms c.in_ok-term.term)) call.result (ShowsSolutionsIn i.session i.infer (arg_trees i.session.terms c.in_ok-term.term)) call.ensures.resolved call.ensures.shows))))

pub returns-clause-terms : goal.returns-clause-terms
returns-clause-terms c = subst (λ (v : Inference). OnErr c.given.result (c.numbered-made.new.terms.items ≡ v.terms)) c.self.view_is (err-given c.numbered-made.result c.given.result _ c.given.ensures.fault c.numbered-made.ensures.refused)

pub returns-clause-full : goal.returns-clause-full
returns-clause-full c =
    given-full c.resolve-shown.new.session c.numbered-made.result c.given.result c.given.ensures.fault (number-full c.resolve-shown.new.session c.resolve-shown.result c.numbered-made.result c.numbered-made.ensures.fault c.resolve-shown.ensures.full)

pub returns-in_err-term-clause-goes_on : goal.returns-in_err-term-clause-goes_on
returns-in_err-term-clause-goes_on c = goes-on-itself _
