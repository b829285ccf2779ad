use Rattle.std.proofs.Common.{◌≡◌, ap, sym, ◌∙◌, subst, map}
use Rattle.std.specs.Prelude.{IfSome}
use Rattle.type_terms.specs.Kinds.{TysHeld}
use Rattle.type_terms.specs.Promised.Erased.{erased_reference}
use Rattle.type_terms.specs.Promised.Rules.{asked}
use Rattle.type_terms.specs.Promised.Handles.{trees_at}
use Rattle.type_terms.specs.Promised.Trees.{erase}
use Rattle.type_terms.proofs.TreeLaws.{append-none}
use Rattle.type_terms.proofs.Grown.{grew-on}
use Rattle.type_terms.proofs.FailFacts.{at-limit}
use Rattle.declarations.specs.Items.{declared}
use Rattle.structural_traits.specs.Constituents.{types_asked, each_asked_of}
use Rattle.structural_traits.proofs.Trees.{asked-erased}
use Rattle.proof_checker.specs.Checked.{IsBuiltInRule}
use Rattle.proof_checker.specs.Rows.{HasRow}
use Rattle.proof_checker.specs.Steps.{terms_of}
use Rattle.proof_checker.proofs.Impls.{terms-map}
use Rattle.proof_checker.proofs.Results.{not-ok}
use Rattle.proof_checker.proofs.TypeRows.{built-in-rule}
use Rattle.proof_checker.proofs.rows.by_built_in.Goals as goal

pub types_asked-requires : goal.types_asked-requires
types_asked-requires c =
    let mid = c.constituents.new.cx.entries in
    subst (TysHeld mid) (sym c.deref.ensures.value) (subst (λ o. IfSome o (λ v. TysHeld mid v.items)) c.in-Some-2.is c.in_ok-tys.ensures.held)

pub returns-in_ok-premises-in-Some-2-clause-rule : goal.returns-in_ok-premises-in-Some-2-clause-rule
returns-in_ok-premises-in-Some-2-clause-rule c = λ E.
    let es = c.args.cx.now.entries in
    let mid = c.constituents.new.cx.entries in
    let new = c.types_asked.new.cx.entries in
    let V = declared es c.args.declarations.now in
    let t = c.args.reference.def_id.index in
    let s = trees_at es c.in-Some.self_ty.0 in
    let tys = c.in-Some-2.tys.items in
    let self = c.in-Some.ensures.1 ∙ append-none s in
    let row = subst (λ o. IfSome o (λ v. HasRow V t (erase s) (each_asked_of mid t v.items))) c.in-Some-2.is c.in_ok-tys.ensures.row in
    let premises : terms_of new c.in_ok-premises-in-Some-2.premises.items ≡ each_asked_of mid t tys =
    terms-map new c.in_ok-premises-in-Some-2.premises.items
    ∙ ap (map erased_reference) (c.in_ok-premises-in-Some-2.ensures.are ∙ ap (types_asked mid t) c.deref.ensures.value) ∙ asked-erased mid t tys in
    subst (IsBuiltInRule V E (asked t (erase (trees_at es c.args.reference.args.0)))) (sym premises)
    (subst (λ z. IsBuiltInRule V E (asked t (erase z)) (each_asked_of mid t tys)) (sym self) (built-in-rule V E t (erase s) (each_asked_of mid t tys) row))

pub returns-in_err-tys-clause-terms : goal.returns-in_err-tys-clause-terms
returns-in_err-tys-clause-terms c = record {
  grew = c.constituents.ensures.terms.grew;
  full = at-limit c.from_residual.result c.from_residual.ensures.1 c.in_err-tys.ensures.terms.full;
}

pub returns-in_err-tys-clause-held : goal.returns-in_err-tys-clause-held
returns-in_err-tys-clause-held c = not-ok _ _ c.from_residual.result c.from_residual.ensures.1

pub returns-in_err-tys-clause-rule : goal.returns-in_err-tys-clause-rule
returns-in_err-tys-clause-rule c = not-ok _ _ c.from_residual.result c.from_residual.ensures.1

pub returns-in_err-premises-in-Some-2-clause-terms : goal.returns-in_err-premises-in-Some-2-clause-terms
returns-in_err-premises-in-Some-2-clause-terms c = record {
  grew = grew-on c.constituents.ensures.terms.grew c.types_asked.ensures.terms.grew;
  full = at-limit c.from_residual-in_err-premises-in-Some-2.result c.from_residual-in_err-premises-in-Some-2.ensures.1 c.in_err-premises-in-Some-2.ensures.terms.full;
}

pub returns-in_err-premises-in-Some-2-clause-held : goal.returns-in_err-premises-in-Some-2-clause-held
returns-in_err-premises-in-Some-2-clause-held c = not-ok _ _ c.from_residual-in_err-premises-in-Some-2.result c.from_residual-in_err-premises-in-Some-2.ensures.1

pub returns-in_err-premises-in-Some-2-clause-rule : goal.returns-in_err-premises-in-Some-2-clause-rule
returns-in_err-premises-in-Some-2-clause-rule c = not-ok _ _ c.from_residual-in_err-premises-in-Some-2.result c.from_residual-in_err-premises-in-Some-2.ensures.1

pub returns-in_ok-premises-in-Some-2-clause-terms : goal.returns-in_ok-premises-in-Some-2-clause-terms
returns-in_ok-premises-in-Some-2-clause-terms c = record {
  grew = grew-on c.constituents.ensures.terms.grew c.types_asked.ensures.terms.grew;
  full = tt;
}
