use Rattle.std.proofs.Common.{◌≡◌, ◌∙◌, ◌≤◌, Any, Err, ap, length, subst, sym}
use Rattle.type_terms.specs.Kept.{args-held-later}
use Rattle.declarations.specs.Applied.{TraitRefsHeld}
use Rattle.declarations.specs.Items.{reference_in}
use Rattle.sessions.proofs.HandedOn.{references-later}
use Rattle.session_inference.specs.Assuming.{bound_over}
use Rattle.session_inference.specs.declared.assumption.Assumption.{Assumption}
use Rattle.session_inference.specs.declared.error.InferenceError.TheVariants.{NoSuchTerm}
use Rattle.session_inference.specs.declared.term_id.TermId.{TermId}
use Rattle.session_inference.proofs.Assumed.{assumed-more, refs-added}
use Rattle.session_inference.proofs.Faults.{handed-error}
use Rattle.session_inference.proofs.assuming.assumed_in.Goals as goal

pub reference_at-requires-clause-terms : goal.reference_at-requires-clause-terms
reference_at-requires-clause-terms c =
    args-held-later c.args.cx.now.interner.entries c.assumptions.cx.interner.entries c.assumptions.invariant.advances.entries c.args.stated.terms.now c.requires.terms

pub returns-in_err-reference-clause-none : goal.returns-in_err-reference-clause-none
returns-in_err-reference-clause-none c = λ q. (
  c.assumptions.assumption-index,
  c.assumption-item.result,
  c.assumptions-test.true,
  sym c.assumption-item.is,
  subst (λ ids. Any (λ (id : TermId). length c.args.stated.terms.now ≤ id.index) ids) c.deref.ensures.value
      (c.reference_at.ensures.none (c.in_err-reference.was ∙ ap Err (handed-error c.from_residual.result _ NoSuchTerm c.from_residual.ensures.1 q))),
)

pub assumptions-preserved : goal.assumptions-preserved
assumptions-preserved c =
    let es = c.args.cx.now.interner.entries in
    let ns = c.assumptions.cx.interner.entries in
    let fs = c.reference_at.new.cx.interner.entries in
    let ts = c.args.stated.terms.now in
    let rs = c.assumptions.references.items in
    let r = c.in_ok-reference.reference in
    let inv = c.assumptions.invariant in
    let keeps = c.reference_at.ensures.advances.entries in
    record {
      advances = c.context_laws.ensures.further c.args.cx.now c.assumptions.cx c.reference_at.new.cx inv.advances c.reference_at.ensures.advances;
      held = subst (λ l. TraitRefsHeld fs l) (sym c.in_ok-push.ensures.items) (refs-added fs rs r (references-later ns fs keeps rs inv.held) c.in_ok-reference.ensures.held);
      are = rw c.in_ok-push.ensures.items
          (assumed-more es ns fs inv.advances.entries keeps ts c.requires.terms rs inv.held r c.args.stated.assumptions.now c.assumptions.assumption-index c.assumption-item.result c.assumptions-test.true inv.are
          (subst (λ (a : Assumption). reference_in fs r ≡ bound_over ns ts a.trait_id.index a.args.items) c.assumption-item.is
          (c.in_ok-reference.ensures.is ∙ ap (bound_over ns ts c.assumption-item.result.trait_id.index) c.deref.ensures.value)));
    }
