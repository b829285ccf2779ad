use Rattle.std.proofs.Common.{◌≡◌, ap, sym, ◌∙◌, subst, map, ◌++◌}
use Rattle.std.specs.Prelude.{IfSome}
use Rattle.type_terms.specs.Promised.Rules as rule
use Rattle.type_terms.specs.Promised.Erased.{erased_reference}
use Rattle.declarations.specs.Items.{declared}
use Rattle.declarations.specs.Held.{ReferenceHeld}
use Rattle.declarations.proofs.Growth.{each-kept, reference-kept}
use Rattle.declarations.proofs.Bounded.{all-same}
use Rattle.proof_checker.specs.Checked.{IsRuleByWay}
use Rattle.proof_checker.specs.Steps.{term_of, terms_of}
use Rattle.proof_checker.proofs.Impls.{terms-map}
use Rattle.proof_checker.proofs.Results.{mapped}
use Rattle.proof_checker.proofs.links.follows_by_impl.Goals as goal

pub are_first-requires-clause-premises : goal.are_first-requires-clause-premises
are_first-requires-clause-premises c =
    let es = c.args.cx.now.entries in
    let now = c.by_impl.new.cx.entries in
    each-kept (ReferenceHeld es) (ReferenceHeld now) (λ r h. reference-kept es now c.by_impl.ensures.terms.grew.keeps r h) c.args.premises.now c.requires.premises

pub returns-in-Some-clause-follows : goal.returns-in-Some-clause-follows
returns-in-Some-clause-follows c =
    let es = c.args.cx.now.entries in
    let now = c.by_impl.new.cx.entries in
    let ps = c.args.premises.now in
    let V = declared es c.args.declarations.now in
    let r = term_of es c.args.reference in
    let way = rule.by_impl c.args.source.impl_def_id.index in
    let by = subst (λ o. IfSome o (λ v. (F : _) → IsRuleByWay V F r way (terms_of now v.items))) c.in-Some.is c.in_ok-asked.ensures.rule in
    let same : terms_of now ps ≡ terms_of es ps =
    terms-map now ps ∙ ap (map erased_reference) (all-same es now c.by_impl.ensures.terms.grew.keeps ps c.requires.premises) ∙ sym (terms-map es ps) in
    mapped _ _ c.are_first.result
    (λ b f q E.
    let h = f q in
    (h.0, subst (IsRuleByWay V E r way) (ap (terms_of now) (sym c.deref.ensures.value) ∙ h.1 ∙ ap (λ l. l ++ h.0) same) (by E)))
    c.are_first.ensures.first
