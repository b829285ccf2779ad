use Rattle.std.proofs.Common.{◌≡◌, refl, ap, sym, ◌∙◌, subst, ◌∷◌, ◌++◌, List}
use Rattle.type_terms.specs.Promised.Worlds.{Reference}
use Rattle.type_terms.proofs.Grown.{grew-on}
use Rattle.declarations.specs.Applied.{TraitRefsHeld}
use Rattle.declarations.proofs.Growth.{reference-same}
use Rattle.type_terms.specs.Promised.Erased.{erased_reference}
use Rattle.proof_checker.specs.Checked.{AreFirstOf}
use Rattle.proof_checker.specs.Steps.{term_of, terms_of}
use Rattle.proof_checker.proofs.links.are_first.Goals as goal
use Rattle.type_terms.proofs.ListBasics.{empty as none-left}

begins-more : (x y : Reference) (xs ys : List Reference) → x ≡ y → AreFirstOf xs ys → AreFirstOf (x ∷ xs) (y ∷ ys)
begins-more x y xs ys e h = (h.0, ap (λ l. x ∷ l) h.1 ∙ ap (λ z. z ∷ (ys ++ h.0)) e)

pub premises-preserved : goal.premises-preserved
premises-preserved c =
    let es = c.args.cx.now.entries in
    let now = c.premises.cx.entries in
    let inv = c.premises.invariant in
    let back = c.in-Some.ensures.cases.0 in
    let back2 = c.in-Some-split_first.ensures.cases.0 in
    let held = subst (TraitRefsHeld es) back inv.left_held in
    let held2 = subst (TraitRefsHeld es) back2 inv.asked_held in
    let x = c.in-Some.premise.now in
    let y = c.in-Some-split_first.first.now in
    let same = c.in_ok-are_one-in-Some-split_first.ensures.one c.if-not-branch.false in
    let eq : term_of es y ≡ term_of es x = ap erased_reference (sym (reference-same es now inv.grew.keeps y held2.0)) ∙ same ∙ ap erased_reference (reference-same es now inv.grew.keeps x held.0) in
    record {
      grew = grew-on inv.grew c.are_one.ensures.terms.grew;
      left_held = held.1;
      asked_held = held2.1;
      first = λ h. inv.first (subst (λ l. AreFirstOf (terms_of es c.premises.left_asked.now) (terms_of es l)) (sym back)
          (subst (λ l. AreFirstOf (terms_of es l) (terms_of es (x ∷ c.in-Some.others.now))) (sym back2)
          (begins-more (term_of es y) (term_of es x) (terms_of es c.in-Some-split_first.other_asked.now) (terms_of es c.in-Some.others.now) eq h)));
    }

pub returns-clause-first : goal.returns-clause-first
returns-clause-first c = λ q.
    let es = c.args.cx.now.entries in
    let left = none-left c.premises.left.now c.in_default.ensures.cases in
    c.premises.invariant.first (subst (λ l. AreFirstOf (terms_of es c.premises.left_asked.now) (terms_of es l)) (sym left) (terms_of es c.premises.left_asked.now, refl))
