use Rattle.std.proofs.Common.{◌≡◌, ℕ, List, sym, subst, Some}
use Rattle.std.specs.Prelude.{IfSome}
use Rattle.std.specs.List.{AllZip, slice_get}
use Rattle.sessions.specs.TermFolds.declared.predicate.TraitRef.{TraitRef}
use Rattle.sessions.specs.Declarations.Applied.{TraitRefsHeld}
use Rattle.sessions.specs.Declarations.Items.{declared}
use Rattle.sessions.proofs.ProofChecker.Results.{mapped}
use Rattle.explain_sessions.specs.Rules.{Concludes}
use Rattle.explain_sessions.proofs.RuleCandidates.{there-held, all-held}
use Rattle.explain_sessions.proofs.rules.is_rule.Goals as goal

pub concludes-requires-clause-reference : goal.concludes-requires-clause-reference
concludes-requires-clause-reference c =
    let r = c.in-Some.reference in
    there-held c.args.cx.now.entries c.args.walk.now.references.items c.args.place r c.requires.walked (subst (λ l. slice_get l c.args.place ≡ Some r) c.deref.ensures.value c.in-Some.ensures)

pub concludes-requires-clause-premises : goal.concludes-requires-clause-premises
concludes-requires-clause-premises c =
    let es = c.args.cx.now.entries in
    let rs = c.args.walk.now.references.items in
    let ps = c.args.candidate.now.premises.items in
    let vs = c.in-Some-2.premises.items in
    let found = subst (λ o. IfSome o (λ v. AllZip (λ (k : ℕ) (r : TraitRef). slice_get c.deref-2.result.now k ≡ Some r) c.deref-3.result.now v.items)) c.in-Some-2.is c.in_ok-premises.ensures in
    let asked = subst (λ (l : List TraitRef). AllZip (λ (k : ℕ) (r : TraitRef). slice_get l k ≡ Some r) ps vs) c.deref-2.ensures.value
    (subst (λ (l : List ℕ). AllZip (λ (k : ℕ) (r : TraitRef). slice_get c.deref-2.result.now k ≡ Some r) l vs) c.deref-3.ensures.value found) in
    subst (TraitRefsHeld es) (sym c.deref-4.ensures.value) (all-held es rs ps vs c.requires.walked asked)

pub returns-clause-rule : goal.returns-clause-rule
returns-clause-rule c =
    let es = c.args.cx.now.entries in
    let W = declared es c.args.declarations.now in
    let r = c.in-Some.reference in
    let ps = c.args.candidate.now.premises.items in
    let vs = c.in-Some-2.premises.items in
    let found = subst (λ o. IfSome o (λ v. AllZip (λ (k : ℕ) (r : TraitRef). slice_get c.deref-2.result.now k ≡ Some r) c.deref-3.result.now v.items)) c.in-Some-2.is c.in_ok-premises.ensures in
    let asked = subst (λ (l : List TraitRef). AllZip (λ (k : ℕ) (r : TraitRef). slice_get l k ≡ Some r) ps vs) c.deref-2.ensures.value
    (subst (λ (l : List ℕ). AllZip (λ (k : ℕ) (r : TraitRef). slice_get c.deref-2.result.now k ≡ Some r) l vs) c.deref-3.ensures.value found) in
    mapped _ _ c.concludes.result
    (λ b f q. record {
      reference = r;
      goal = subst (λ l. slice_get l c.args.place ≡ Some r) c.deref.ensures.value c.in-Some.ensures;
      premises = vs;
      asked = asked;
      concludes = subst (Concludes es W c.args.candidate.now.source r) c.deref-4.ensures.value (f q);
    })
    c.concludes.ensures.concludes
